use Rattle.std.proofs.Common.{ap, sym, subst, arith}
use Rattle.pc_model.specs.declared.Term.{Term}
use Rattle.pc_crash.specs.inside.KneeLists.{AreKneesOf}
use Rattle.pc_crash.specs.Priced.{knees_in}
use Rattle.pc_laws.proofs.Stairs.SameStair.{same-full_reach}
use Rattle.pc_flow.specs.inside.stair.Rows.{stair}
use Rattle.pc_flow.specs.inside.search.Searches.{stair_at}
use Rattle.pc_flow.proofs.lemmas.search.LengthLaws.{kept-stair, renewed-at}
use Rattle.pc_flow.proofs.lengths.renew_lengths.Goals as goal

pub lengths_of-lengths-requires-clause-knees : goal.lengths_of-lengths-requires-clause-knees
lengths_of-lengths-requires-clause-knees c =
    let crash = ap (λ (t : Term). t.crash) c.term-crash.ensures in
    let bends : AreKneesOf (knees_in c.args.net.now) c.args.a c.as_slice.result.now =
    subst (λ knees. AreKneesOf (knees_in c.args.net.now) c.args.a knees) (sym c.as_slice.ensures) c.knees-knees.ensures in
    let same = kept-stair c.args.net.now c.args.a c.term-crash.result.crash c.as_slice.result.now bends crash in
    omega (arith, c.requires.reach, same-full_reach (stair c.as_slice.result.now c.term-crash.result.crash) (stair_at c.args.net.now c.args.a) same)

pub lengths_of-lengths-requires-clause-flow : goal.lengths_of-lengths-requires-clause-flow
lengths_of-lengths-requires-clause-flow c = omega (arith, c.requires.small, c.flow.ensures)

pub returns : goal.returns
returns c =
    let crash = ap (λ (t : Term). t.crash) c.term-crash.ensures in
    let bends : AreKneesOf (knees_in c.args.net.now) c.args.a c.as_slice.result.now =
    subst (λ knees. AreKneesOf (knees_in c.args.net.now) c.args.a knees) (sym c.as_slice.ensures) c.knees-knees.ensures in
    let same = kept-stair c.args.net.now c.args.a c.term-crash.result.crash c.as_slice.result.now bends crash in
    renewed-at c.args.net.now c.args.board.now c.set_lengths.new.self c.args.a c.lengths_of-lengths.result.up c.lengths_of-lengths.result.down c.flow.result
    (stair c.as_slice.result.now c.term-crash.result.crash) same c.flow.ensures c.set_lengths.ensures c.lengths_of-lengths.ensures.up c.lengths_of-lengths.ensures.down
