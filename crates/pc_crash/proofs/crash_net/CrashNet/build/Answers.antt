use Rattle.pc_crash.proofs.crash_net.CrashNet.build.Goals as goal

pub build-requires : goal.build-requires
build-requires c = c.requires.activities.once
