use Rattle.std.proofs.Common.{◌≡◌, ◌≤◌, suc, ap, sym, ◌∙◌, subst, arith}
use Rattle.pc_flow.specs.board.Sheets.{Sheet, rank_of}
use Rattle.pc_flow.specs.inside.board.Sheets.{step_of, near_of}
use Rattle.pc_flow.specs.inside.board.Labelling.{HasStep, IsFor}
use Rattle.pc_flow.specs.inside.search.Lengths.{RenewsAt}
use Rattle.pc_flow.proofs.lemmas.search.LengthLaws.{
  IsRenewing,
  renewing-begins,
  renewing-goes_on,
  renewing-ends,
  renewing-event,
  renewing-has,
  renewing-step,
  renewing-small,
  renewing-level,
}
use Rattle.pc_flow.proofs.board.board.Board.renew_back.Goals as goal

pub loop-self-init : goal.loop-self-init
loop-self-init c = (0, renewing-begins c.args.net.now c.args.self.now c.args.end c.requires.known c.requires.level)

pub rank-requires : goal.rank-requires
rank-requires c =
    renewing-event c.args.net.now c.args.self.now c.loop-self.self c.args.end c.loop-self.invariant.0 c.loop-self.e
    c.loop-self.invariant.1

pub renew_step-requires-clause-event : goal.renew_step-requires-clause-event
renew_step-requires-clause-event c =
    renewing-event c.args.net.now c.args.self.now c.loop-self.self c.args.end c.loop-self.invariant.0 c.loop-self.e
    c.loop-self.invariant.1

pub renew_step-requires-clause-known : goal.renew_step-requires-clause-known
renew_step-requires-clause-known c =
    renewing-step c.args.net.now c.args.self.now c.loop-self.self c.args.end c.loop-self.invariant.0 c.loop-self.e c.loop-self.invariant.1
    (omega (arith, c.loop-self-test.true, c.rank.ensures)) c.requires.fits c.requires.steps

pub renew_step-requires-clause-fits : goal.renew_step-requires-clause-fits
renew_step-requires-clause-fits c =
    let on = c.loop-self.invariant in
    subst (λ s. IsFor c.args.net.now.network s) (sym on.1.rest)
    (record { events = c.requires.fits.events; activities = c.requires.fits.activities })

pub renew_step-requires-clause-reach : goal.renew_step-requires-clause-reach
renew_step-requires-clause-reach c =
    c.requires.stairs.reach _
    (renewing-step c.args.net.now c.args.self.now c.loop-self.self c.args.end c.loop-self.invariant.0 c.loop-self.e c.loop-self.invariant.1
    (omega (arith, c.loop-self-test.true, c.rank.ensures)) c.requires.fits c.requires.steps)

pub renew_step-requires-clause-small : goal.renew_step-requires-clause-small
renew_step-requires-clause-small c =
    renewing-small c.args.net.now c.args.self.now c.loop-self.self c.args.end c.loop-self.invariant.0 c.loop-self.e c.loop-self.invariant.1
    (omega (arith, c.loop-self-test.true, c.rank.ensures)) c.requires.fits c.requires.steps c.requires.stairs

pub renew_step-requires-clause-level : goal.renew_step-requires-clause-level
renew_step-requires-clause-level c =
    renewing-level c.args.net.now c.args.self.now c.loop-self.self c.args.end c.loop-self.invariant.0 c.loop-self.e c.loop-self.invariant.1
    (omega (arith, c.loop-self-test.true, c.rank.ensures))

pub loop-self-preserved : goal.loop-self-preserved
loop-self-preserved c =
    let on = c.loop-self.invariant in
    let net = c.args.net.now in
    let s = c.args.self.now in
    let t = c.loop-self.self in
    let u = c.renew_step.new.board in
    let has : HasStep s c.loop-self.e = renewing-has net s t c.args.end on.0 c.loop-self.e on.1 (omega (arith, c.loop-self-test.true, c.rank.ensures)) in
    let step : step_of t c.loop-self.e ≡ step_of s c.loop-self.e = ap (λ (u : Sheet). step_of u c.loop-self.e) on.1.rest in
    let moved : RenewsAt net t u (step_of s c.loop-self.e) =
    subst (λ a. RenewsAt net t u a) step (c.renew_step.ensures) in
    let next : IsRenewing net s u c.args.end (suc on.0) (near_of s c.loop-self.e) =
    renewing-goes_on net s t u c.args.end on.0 c.loop-self.e c.requires.back has on.1 moved in
    let near : near_of s c.loop-self.e ≡ c.near-e.result = sym (c.near-e.ensures ∙ ap (λ (u : Sheet). near_of u c.loop-self.e) next.rest) in
    (suc on.0, subst (λ x. IsRenewing net s u c.args.end (suc on.0) x) near next)

pub returns : goal.returns
returns c =
    let on = c.loop-self.invariant in
    let last : rank_of c.args.self.now c.loop-self.e ≤ 1 =
    omega (arith, c.loop-self-test.false, c.rank.ensures, ap (λ (u : Sheet). rank_of u c.loop-self.e) on.1.rest) in
    renewing-ends c.args.net.now c.args.self.now c.loop-self.self c.args.end on.0 c.loop-self.e last on.1
