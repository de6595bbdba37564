use Rattle.std.proofs.Common.{◌≡◌, ◌≤◌, suc, refl, ap, sym, ◌∙◌, subst, arith}
use Rattle.pc_flow.specs.board.Sheets.{Sheet, rank_of}
use Rattle.pc_flow.specs.inside.board.Sheets.{near_of}
use Rattle.pc_flow.specs.inside.board.Labelling.{HasStep}
use Rattle.pc_flow.specs.inside.board.Raising.{IsRaisedBack, IsRaisedBy}
use Rattle.pc_flow.proofs.lemmas.board.RaisingLaws.{raising-begins, raising-room, raising-along, raising-against, raising-goes_on, raising-ends}
use Rattle.pc_flow.proofs.lemmas.board.AfterRaising.{raised-stand}
use Rattle.pc_flow.proofs.board.board.Board.raise.Goals as goal

pub loop-self-init : goal.loop-self-init
loop-self-init c = (0, raising-begins c.args.self.now c.args.end c.least_room-least.result.by c.requires.known, refl)

pub step_back-requires-clause-room : goal.step_back-requires-clause-room
step_back-requires-clause-room c =
    let on = c.loop-self.invariant in
    let has : HasStep c.args.self.now c.loop-self.e = omega (arith, c.loop-self-test.true, c.rank.ensures, ap (λ (u : Sheet). rank_of u c.loop-self.e) on.1.rest) in
    raising-room c.args.self.now c.loop-self.self c.args.end c.least_room-least.result.by on.0 c.loop-self.e c.requires.back c.requires.steps has on.1
    c.least_room-least.ensures.0 c.least_room-least.ensures.1.least

pub step_back-requires-clause-along : goal.step_back-requires-clause-along
step_back-requires-clause-along c =
    let on = c.loop-self.invariant in
    let has : HasStep c.args.self.now c.loop-self.e = omega (arith, c.loop-self-test.true, c.rank.ensures, ap (λ (u : Sheet). rank_of u c.loop-self.e) on.1.rest) in
    raising-along c.args.self.now c.loop-self.self c.args.end c.least_room-least.result.by on.0 c.loop-self.e c.requires.back c.requires.steps has on.1
    c.least_room-least.ensures.0 c.least_room-least.ensures.1.least

pub step_back-requires-clause-against : goal.step_back-requires-clause-against
step_back-requires-clause-against c =
    let on = c.loop-self.invariant in
    let has : HasStep c.args.self.now c.loop-self.e = omega (arith, c.loop-self-test.true, c.rank.ensures, ap (λ (u : Sheet). rank_of u c.loop-self.e) on.1.rest) in
    raising-against c.args.self.now c.loop-self.self c.args.end c.least_room-least.result.by on.0 c.loop-self.e c.requires.back c.requires.steps has on.1
    c.least_room-least.ensures.0 c.least_room-least.ensures.1.least

pub loop-self-preserved : goal.loop-self-preserved
loop-self-preserved c =
    let s = c.args.self.now in
    let on = c.loop-self.invariant in
    let has : HasStep s c.loop-self.e = omega (arith, c.loop-self-test.true, c.rank.ensures, ap (λ (u : Sheet). rank_of u c.loop-self.e) on.1.rest) in
    let next : IsRaisedBack s c.step_back.new.self c.args.end c.least_room-least.result.by (suc on.0) (near_of s c.loop-self.e) =
    raising-goes_on s c.loop-self.self c.args.end c.least_room-least.result.by on.0 c.loop-self.e c.requires.back c.requires.steps has on.1 c.step_back.new.self c.step_back.ensures in
    let near : near_of s c.loop-self.e ≡ c.near-e.result =
    sym (c.near-e.ensures ∙ ap (λ (u : Sheet). near_of u c.loop-self.e) (next.rest)) in (
      suc on.0,
      subst (λ x. IsRaisedBack s c.step_back.new.self c.args.end c.least_room-least.result.by (suc on.0) x) near next,
      c.step_back.ensures.rest ∙ ap (λ (u : Sheet). record u { room = c.step_back.new.self.room; flow = c.step_back.new.self.flow }) on.2,
    )

pub returns : goal.returns
returns c =
    let s = c.args.self.now in
    let t = c.loop-self.self in
    let on = c.loop-self.invariant in
    let by = c.least_room-least.result.by in
    let least = c.least_room-least.ensures in
    let last : rank_of s c.loop-self.e ≤ 1 = omega (arith, c.loop-self-test.false, c.rank.ensures, ap (λ (u : Sheet). rank_of u c.loop-self.e) on.1.rest) in
    let raised : IsRaisedBy s t c.args.end by on.0 =
    raising-ends s t c.args.end by on.0 c.loop-self.e least.0 c.requires.ranked c.requires.back c.requires.room c.requires.led last least.1.least on.1 in
    record {
      raised = (on.0, raised);
      lengths = on.2;
      stand = raised-stand s t c.args.end by on.0 c.requires.steps raised c.least_room-least.result.standing least.0 least.1 c.requires.room;
    }
