-- The first fault of what a loop has counted past.
use Rattle.std.proofs.Common.{◌≡◌, ℕ, ◌+◌, ◌<◌, Option, None, inl, inr, ◌⊎◌, subst, arith}
use Rattle.std.proofs.lemmas.Bool.{cases_lt}
use Rattle.pc_faults.specs.declared.fault.Fault.{Fault}
use Rattle.pc_faults.specs.inside.First.{IsFirstIn, earliest}
use Rattle.pc_faults.proofs.FirstLaws.{earliest-first}

module _ (Has : ℕ → Fault → Type 0) where
  -- some number below n has the fault
  abbrev pub HasBelow : ℕ → Fault → Type 0
  HasBelow n fault = (i : ℕ) × (i < n) × Has i fault

  -- found is the first fault of the numbers below n
  abbrev pub IsFirstBelow : ℕ → Option Fault → Type 0
  IsFirstBelow n found = IsFirstIn (HasBelow n) found

  pub first_of_none : IsFirstBelow 0 None
  first_of_none = λ fault h. omega (arith, h.1)

  -- what has it below n + 1 has it below n, or n has it
  last_or_before : (n : ℕ) (fault : Fault) → HasBelow (n + 1) fault → HasBelow n fault ⊎ Has n fault
  last_or_before n fault (i, below, has) =
      elim (cases_lt i n) [
        | inl before ↦ inl (i, before, has)
        | inr behind ↦ inr (subst (λ j. Has j fault) (let same : i ≡ n = omega (arith, below, behind) in same) has)
      ]

  -- one more number
  pub first_with : (n : ℕ) (found here : Option Fault) → IsFirstBelow n found → IsFirstIn (Has n) here → IsFirstBelow (n + 1) (earliest found here)
  first_with n found here before is =
      earliest-first (HasBelow n) (Has n) (HasBelow (n + 1))
      (λ fault h. (h.0, omega (arith, h.1), h.2))
      (λ fault h. (n, omega arith, h))
      (λ fault h. last_or_before n fault h)
      found here before is

  -- once all numbers are passed
  pub first_of_all : (n m : ℕ) (found : Option Fault) → n ≡ m → IsFirstBelow n found → IsFirstIn (HasBelow m) found
  first_of_all n m found same h = subst (λ k. IsFirstIn (HasBelow k) found) same h
