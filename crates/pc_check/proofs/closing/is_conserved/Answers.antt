use Rattle.std.proofs.Common.{◌≡◌, ◌<◌, sym, ap, ◌∙◌, arith}
use Rattle.pc_check.proofs.BelowLaws.{each_below-fails, each_below-more}
use Rattle.pc_check.proofs.closing.is_conserved.Goals as goal

pub returns-then-not-is_conserved_at : goal.returns-then-not-is_conserved_at
returns-then-not-is_conserved_at c =
    let all : c.events-e-end.result ≡ c.args.net.now.network.events = c.events-e-end.ensures.events ∙ ap (λ n. n.events) c.net.ensures.network in
    let lt : c.loop-e.e < c.args.net.now.network.events = omega (arith, all) in
    sym (each_below-fails _ _ c.loop-e.e lt (sym c.is_conserved_at.ensures ∙ c.if-not-is_conserved_at.true))

pub loop-e-preserved : goal.loop-e-preserved
loop-e-preserved c = each_below-more c.loop-e.e _ c.loop-e.invariant (sym c.is_conserved_at.ensures ∙ c.if-not-is_conserved_at.false)
