use Rattle.std.proofs.Common.{◌+◌, sym, subst}
use Rattle.pc_cert.specs.inside.Known.{IsFrontOf}
use Rattle.pc_check.proofs.lemmas.fast.FrontsLaws.{AreFirst, first_more}
use Rattle.pc_check.proofs.fast.fronts.fronts_of.Goals as goal

pub loop-e-preserved : goal.loop-e-preserved
loop-e-preserved c =
    subst (λ fronts. AreFirst c.args.net.now fronts (c.loop-e.e + 1)) (sym c.in_ok-push.ensures.items)
    (first_more c.of.result c.loop-e.invariant (subst (λ code. IsFrontOf code c.of.result) c.event_code.ensures c.of.ensures))
