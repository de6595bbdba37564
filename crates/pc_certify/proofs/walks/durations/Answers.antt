use Rattle.std.proofs.Common.{length, ap, arith}
use Rattle.pc_model.specs.Network.{Network}
use Rattle.pc_certify.proofs.WalkLaws.{durations-more, durations-whole}
use Rattle.pc_certify.proofs.walks.durations.Goals as goal

pub loop-a-preserved : goal.loop-a-preserved
loop-a-preserved c =
    durations-more c.args.is_crash c.args.net.now c.loop-a.a c.length_in.result c.loop-a.durations.items c.push.new.self.items c.loop-a.invariant c.in_ok-push.ensures.items
    (omega (arith, c.loop-a-test.true, c.activities-activities.ensures.activities, ap (λ (n : Network). length n.arcs) c.net.ensures.network, c.facts.ensures.priced.terms_fit.one_each))
    c.length_in.ensures.length

pub returns : goal.returns
returns c =
    durations-whole c.args.is_crash c.args.net.now.terms c.loop-a.durations.items c.loop-a.a c.loop-a.invariant
    (omega (arith, c.loop-a-test.false, c.activities-activities.ensures.activities, ap (λ (n : Network). length n.arcs) c.net.ensures.network, c.facts.ensures.priced.terms_fit.one_each))
