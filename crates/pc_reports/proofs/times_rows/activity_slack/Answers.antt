use Rattle.std.proofs.Common.{ap, arith}
use Rattle.pc_model.specs.Network.{Network}
use Rattle.pc_reports.proofs.times_rows.activity_slack.Goals as goal

pub late-requires : goal.late-requires
late-requires g c = omega (arith, c.to.ensures.known, c.requires.view.late_each, ap (λ (n : Network). n.events) c.net-net.ensures.network)

pub early-requires : goal.early-requires
early-requires g c = omega (arith, c.from.ensures.known, c.requires.view.early_each, ap (λ (n : Network). n.events) c.net-net.ensures.network)
