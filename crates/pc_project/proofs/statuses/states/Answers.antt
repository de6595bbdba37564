use Rattle.std.proofs.Common.{◌≡◌, ◌+◌, length, sym, ap, subst, arith}
use Rattle.pc_project.specs.Figures.{AreStatesOf}
use Rattle.pc_project.proofs.StateLaws.{AreStatesOf-none, AreStatesOf-push}
use Rattle.pc_project.proofs.statuses.states.Goals as goal

pub loop-a-init : goal.loop-a-init
loop-a-init c = AreStatesOf-none c.args.cards.now.project.start_day c.args.log.now.statuses c.in_ok-states.states.items c.in_ok-states.ensures.items

pub loop-a-preserved : goal.loop-a-preserved
loop-a-preserved c =
    let start = c.args.cards.now.project.start_day in
    let statuses = c.args.log.now.statuses in
    let state = rw c.project.ensures.card at c.state.ensures.state in
    subst (AreStatesOf start statuses (c.loop-a.a + 1)) (sym c.in_ok-push.ensures.items)
    (AreStatesOf-push start statuses c.loop-a.a c.loop-a.states.items c.state.result c.loop-a.invariant state c.state.ensures.small)

pub returns : goal.returns
returns c =
    let all : c.loop-a.a ≡ length c.args.cards.now.acts = omega (arith, c.loop-a-test.false, c.loop-a.auto.a-end, ap length c.acts-activities.ensures.cards) in
    subst (λ n. AreStatesOf c.args.cards.now.project.start_day c.args.log.now.statuses n c.loop-a.states.items) all c.loop-a.invariant
