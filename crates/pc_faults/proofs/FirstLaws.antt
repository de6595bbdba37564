-- The first of the faults of two lists is the earlier of their first faults; and what an error has by its fault.
use Rattle.std.proofs.Common.{◌≡◌, ℕ, ◌<◌, ◌≤◌, Bool, true, false, ◌&&◌, ◌||◌, ◌==◌, nat_lt, nat_le, Option, Some, None, refl, sym, subst, ◌∙◌, inl, inr, ⊎_elim, ◌⊎◌, arith, if◌then◌else◌}
use Rattle.std.proofs.lemmas.Bool.{cases_order}
use Rattle.std.proofs.lemmas.Bool.Decides.{nat_tests}
use Rattle.pc_faults.specs.First.{IsFirstFault, IsNoLater}
use Rattle.pc_faults.specs.declared.fault.Fault.{Fault}
use Rattle.pc_faults.specs.declared.fault.DeckError.{DeckError}
use Rattle.pc_faults.specs.declared.fault.DeckError.TheVariants as errors
use Rattle.pc_faults.specs.inside.First.{IsFirstIn, Refuses, earliest, is_no_later}

-- the test in numbers: record and number of one fault and of another
first_by_test : (r n s m : ℕ) → (nat_lt r s || (r == s && nat_le n m)) ≡ true → (r < s) ⊎ ((r ≡ s) × (n ≤ m))
first_by_test r n s m h =
    elim (cases_order r s) [
      | inl same ↦ inr (same, grind (arith, nat_tests))
      | inr apart ↦ elim apart [ inl before ↦ inl before | inr behind ↦ absurd (grind (arith, nat_tests)) ]
    ]

last_by_test : (r n s m : ℕ) → (nat_lt r s || (r == s && nat_le n m)) ≡ false → (s < r) ⊎ ((s ≡ r) × (m ≤ n))
last_by_test r n s m h =
    elim (cases_order r s) [
      | inl same ↦ inr (sym same, grind (arith, nat_tests))
      | inr apart ↦ elim apart [ inl before ↦ absurd (grind (arith, nat_tests)) | inr behind ↦ inl behind ]
    ]

-- no later than what comes no later
IsNoLater-then : (f g h : Fault) → IsNoLater f g → IsNoLater g h → IsNoLater f h
IsNoLater-then f g h (inl a) (inl b) = inl (omega (arith, a, b))
IsNoLater-then f g h (inl a) (inr b) = inl (omega (arith, a, b.0))
IsNoLater-then f g h (inr a) (inl b) = inl (omega (arith, a.0, b))
IsNoLater-then f g h (inr a) (inr b) = inr (a.0 ∙ b.0, omega (arith, a.1, b.1))

-- the first of one kind comes first of both, where it comes no later than the first of the other
module _ (P Q R : Fault → Type 0) (from_P : (f : Fault) → P f → R f) (from_Q : (f : Fault) → Q f → R f) (into : (f : Fault) → R f → P f ⊎ Q f) where
  first_is_P : (f g : Fault) → IsFirstFault P f → IsFirstFault Q g → IsNoLater f g → IsFirstFault R f
  first_is_P f g p q order = record {
    holds = from_P f p.holds;
    least = λ other h. ⊎_elim (λ is. p.least other is) (λ is. IsNoLater-then f g other order (q.least other is)) (into other h);
  }

  first_is_Q : (f g : Fault) → IsFirstFault P f → IsFirstFault Q g → IsNoLater g f → IsFirstFault R g
  first_is_Q f g p q order = record {
    holds = from_Q g q.holds;
    least = λ other h. ⊎_elim (λ is. IsNoLater-then g f other order (p.least other is)) (λ is. q.least other is) (into other h);
  }

  by_test : (f g : Fault) → IsFirstFault P f → IsFirstFault Q g → (test : Bool) → is_no_later f g ≡ test → IsFirstIn R (if test then Some f else Some g)
  by_test f g p q true h = first_is_P f g p q (first_by_test f.row f.number g.row g.number h)
  by_test f g p q false h = first_is_Q f g p q (last_by_test f.row f.number g.row g.number h)

  -- the earlier of the first faults of two kinds is the first of both
  pub earliest-first : (one other : Option Fault) → IsFirstIn P one → IsFirstIn Q other → IsFirstIn R (earliest one other)
  earliest-first None None p q = λ fault h. ⊎_elim (p fault) (q fault) (into fault h)
  earliest-first None (Some g) p q = record {
    holds = from_Q g q.holds;
    least = λ other h. ⊎_elim (λ is. absurd (p other is)) (λ is. q.least other is) (into other h);
  }
  earliest-first (Some f) None p q = record {
    holds = from_P f p.holds;
    least = λ other h. ⊎_elim (λ is. p.least other is) (λ is. absurd (q other is)) (into other h);
  }
  earliest-first (Some f) (Some g) p q = by_test f g p q (is_no_later f g) refl

-- the first fault of one kind or another
pub first_of_either : (P Q : Fault → Type 0) (one other found : Option Fault) → found ≡ earliest one other → IsFirstIn P one → IsFirstIn Q other → IsFirstIn (λ f. P f ⊎ Q f) found
first_of_either P Q one other found is p q =
    subst (IsFirstIn (λ f. P f ⊎ Q f)) (sym is) (earliest-first P Q (λ f. P f ⊎ Q f) (λ f h. inl h) (λ f h. inr h) (λ f h. h) one other p q)

-- the same of faults that are the same
pub first_of_same : (P Q : Fault → Type 0) → ((f : Fault) → P f → Q f) → ((f : Fault) → Q f → P f) → (found : Option Fault) → IsFirstIn P found → IsFirstIn Q found
first_of_same P Q to from None none = λ f h. none f (from f h)
first_of_same P Q to from (Some fault) first = record { holds = to fault first.holds; least = λ other h. first.least other (from other h) }

-- where the earlier of two is none, both are none
pub earliest-none : (one other : Option Fault) → earliest one other ≡ None → (one ≡ None) × (other ≡ None)
earliest-none None None h = (refl, refl)
earliest-none None (Some g) h = absurd cc
earliest-none (Some f) None h = absurd cc
earliest-none (Some f) (Some g) h = absurd (by (is_no_later f g) h)
  where
    by : (test : Bool) → (if test then Some f else Some g) ≡ None → ⊥
    by true h = cc
    by false h = cc

-- a fault that is found is not none
pub earliest-some : (one : Option Fault) (fault : Fault) → earliest one (Some fault) ≡ None → ⊥
earliest-some one fault h = let never = (earliest-none one (Some fault) h).1 in cc

-- of a fault and none, the fault is the earlier one
pub earliest-alone : (one : Option Fault) → earliest one None ≡ one
earliest-alone None = refl
earliest-alone (Some fault) = refl

-- what follows from what the fault of an error has is what the error has
pub refused_by : (P Q : Fault → Type 0) → ((fault : Fault) → P fault → Q fault) → (error : DeckError) → Refuses P error → Refuses Q error
refused_by P Q follows (errors.Fault fault) has = follows fault has
refused_by P Q follows errors.OutOfMemory has = tt
