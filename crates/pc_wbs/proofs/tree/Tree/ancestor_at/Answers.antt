use Rattle.std.proofs.Common.{arith, ◌≡◌, ◌+◌, ◌-◌, ℕ, Some, sym, ◌∙◌, ⊎_elim}
use Rattle.std.specs.Prelude.{min}
use Rattle.std.proofs.lemmas.Bool.{cases_lt}
use Rattle.pc_wbs.specs.Climb.{parent_of, HasLevel}
use Rattle.pc_wbs.proofs.ClimbLaws.{climb-more, HasLevel-parent, HasLevel-same}
use Rattle.pc_wbs.proofs.tree.Tree.ancestor_at.Goals as goal

pub loop-step-preserved : goal.loop-step-preserved
loop-step-preserved c =
    let rows = c.args.self.now in
    let here = c.loop-step.invariant in
    let e : parent_of rows c.loop-step.at ≡ Some c.in-Some.parent = sym c.parent.ensures.parent ∙ c.in-Some.is in
    let up = HasLevel-parent rows c.loop-step.at c.in-Some.parent _ e here.0 in
    let same : c.level-own.result - (c.loop-step._step - c.args.level) - 1 ≡ c.level-own.result - (c.loop-step._step + 1 - c.args.level) = omega arith in
    (rw same at up.0, (here.1.0 + 1, climb-more rows here.1.0 c.args.i c.loop-step.at here.1.1 ∙ e), c.in-Some.ensures.inside, λ short. absurd (omega arith))

pub returns-clause-at_level : goal.returns-clause-at_level
returns-clause-at_level c = record {
  below = c.loop-step.invariant.1;
  at_level = λ own has. at own (HasLevel-same c.args.self.now c.args.i c.level-own.result own c.level-own.ensures.level has);
}
  where
    at : (own : ℕ) → c.level-own.result ≡ own → HasLevel c.args.self.now c.loop-step.at (min c.args.level own)
    at own same =
        let last : c.level-own.result - (c.loop-step._step - c.args.level)
        ≡ min c.args.level own = ⊎_elim (λ short. let still = c.loop-step.invariant.3 short in omega arith)
        (λ deep. let ends = c.loop-step.auto._step-end deep in omega arith) (cases_lt c.level-own.result c.args.level) in
        rw last at c.loop-step.invariant.0
