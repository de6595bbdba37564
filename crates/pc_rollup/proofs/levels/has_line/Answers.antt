use Rattle.std.proofs.Common.{ℕ, ◌≤◌, nat_lt, IsTrue, inr, ⊎_elim, arith}
use Rattle.std.proofs.lemmas.Bool.Decides.{nat_tests}
use Rattle.pc_wbs.proofs.ClimbLaws.{HasLevel-same}
use Rattle.pc_rollup.proofs.levels.has_line.Goals as goal

no_less : (a b : ℕ) → b ≤ a → IsTrue (nat_lt a b) → ⊥
no_less a b le is = grind (arith, nat_tests)

pub returns-then-own-level-2 : goal.returns-then-own-level-2
returns-then-own-level-2 c = (
  λ is. inr (c.is_leaf.ensures.0 is, (c.level-own.result, (c.level-own.ensures.level, c.if-own-level-2.true))),
  λ line. c.is_leaf.ensures.1 (⊎_elim (λ at. absurd (c.if-own-level.false (HasLevel-same _ _ _ _ c.level-own.ensures.level at))) (λ (leaf, rest). leaf) line),
)

pub returns-else-own-level-2 : goal.returns-else-own-level-2
returns-else-own-level-2 c = (
  λ is. absurd (no_less _ _ c.if-own-level-2.false is),
  λ line. absurd (⊎_elim (λ at. c.if-own-level.false (HasLevel-same _ _ _ _ c.level-own.ensures.level at))
      (λ (leaf, (high, (at, less))). let same = HasLevel-same _ _ _ _ c.level-own.ensures.level at in let low = c.if-own-level-2.false in
      omega arith) line),
)
