-- The plans to which kept edits return.
use Rattle.std.proofs.Common.{◌≡◌, ℕ, zero, suc, ◌-◌, List, [], ◌∷◌, ◌++◌, length, drop, refl, sym, ◌∙◌, ap}
use Rattle.circular_buffer.specs.Buffer.{keep_last}
use Rattle.pc_whatif.specs.declared.edits.KeptEdit.{KeptEdit}
use Rattle.pc_whatif.specs.edits.Plans.{Plan, plan_with}
use Rattle.pc_whatif.specs.inside.edits.Inside.{plan_back, plans_back}

pub length-plans_back : (kept : List KeptEdit) (plan : Plan) → length (plans_back kept plan) ≡ length kept
length-plans_back [] plan = refl
length-plans_back (k ∷ kept) plan = ap suc (length-plans_back kept plan)

drop-plans_back : (n : ℕ) (kept : List KeptEdit) (plan : Plan) → drop n (plans_back kept plan) ≡ plans_back (drop n kept) plan
drop-plans_back zero kept plan = refl
drop-plans_back (suc n) [] plan = refl
drop-plans_back (suc n) (k ∷ kept) plan = drop-plans_back n kept plan

-- the last of the edits go back to the last of the plans
pub plans_back-keep_last : (n : ℕ) (kept : List KeptEdit) (plan : Plan) → plans_back (keep_last n kept) plan ≡ keep_last n (plans_back kept plan)
plans_back-keep_last n kept plan =
    sym (ap (λ k. drop (k - n) (plans_back kept plan)) (length-plans_back kept plan) ∙ drop-plans_back (length kept - n) kept plan)

module _ (k : KeptEdit) (before after : Plan) (back : plan_with k.was k.activity after ≡ before) where
  plan_back-push : (kept : List KeptEdit) → plan_back (kept ++ k ∷ []) after ≡ plan_back kept before
  plan_back-push [] = back
  plan_back-push (j ∷ kept) = ap (plan_with j.was j.activity) (plan_back-push kept)

  -- with one more edit there is one more plan to go back to, that before it
  pub plans_back-push : (kept : List KeptEdit) → plans_back (kept ++ k ∷ []) after ≡ plans_back kept before ++ before ∷ []
  plans_back-push [] = ap (λ p. p ∷ []) back
  plans_back-push (j ∷ kept) = λ i. plan_back-push (j ∷ kept) i ∷ plans_back-push kept i
