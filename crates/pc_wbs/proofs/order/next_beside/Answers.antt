use Rattle.std.proofs.Common.{arith, ◌≡◌, Some, None, sym, ◌∙◌, ⊎_elim}
use Rattle.std.proofs.lemmas.Bool.{cases_lt}
use Rattle.pc_wbs.specs.Climb.{parent_of}
use Rattle.pc_wbs.proofs.ClimbLaws.{climb-more}
use Rattle.pc_wbs.proofs.BuildLaws.{HasLevel-deep, no_links_above, same_row}
use Rattle.pc_wbs.proofs.order.next_beside.Goals as goal

pub returns-in-None : goal.returns-in-None
returns-in-None c =
    let rows = c.args.rows.now in
    let steps = c.loop-climbed._climbed in
    let here = c.loop-climbed.invariant in
    let top : parent_of rows c.loop-climbed.at ≡ None = sym c.parent_of.ensures ∙ c.in-None.is in
    no_links_above rows c.args.nexts.now steps c.args.item c.loop-climbed.at here.0 top here.2 c.in_default.is

pub loop-climbed-preserved : goal.loop-climbed-preserved
loop-climbed-preserved c =
    let rows = c.args.rows.now in
    let here = c.loop-climbed.invariant in
    let e : parent_of rows c.loop-climbed.at ≡ Some c.in-Some-parent_of.parent = sym c.parent_of.ensures ∙ c.in-Some-parent_of.is in (
      climb-more rows c.loop-climbed._climbed c.args.item c.loop-climbed.at here.0 ∙ e,
      c.requires.in_range _ _ here.1 e,
      λ j z lt h. ⊎_elim (λ less. here.2 j z less h)
          (λ ge. same_row rows c.args.nexts.now j c.loop-climbed._climbed c.args.item z c.loop-climbed.at (omega arith) h here.0
          c.in_default.is) (cases_lt j c.loop-climbed._climbed),
    )

pub unreachable-requires : goal.unreachable-requires
unreachable-requires c =
    let rows = c.args.rows.now in
    let level = c.requires.tree.levels c.args.item c.requires.item in
    let deep = HasLevel-deep rows c.loop-climbed._climbed c.args.item c.loop-climbed.at level.0 c.loop-climbed.invariant.0 level.1.0 in
    omega (arith, level.1.1)
