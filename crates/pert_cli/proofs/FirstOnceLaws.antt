-- If record and number determine a fault, two first faults are equal.
use Rattle.std.proofs.Common.{◌≡◌, ◌≢◌, ℕ, ◌⊎◌, inl, inr, sym, ap, ◌∙◌, arith, ⊎_elim}
use Rattle.std.proofs.lemmas.Bool.{cases_order}
use Rattle.pc_faults.specs.First.{IsFirstFault, IsNoLater}
use Rattle.pc_faults.specs.declared.fault.Fault.{Fault}
use Rattle.pc_model.specs.Greatest as number

-- record and number determine the fault
abbrev pub AreToldByPlace : (Fault → Type 0) → Type 0
AreToldByPlace Has = (f g : Fault) → Has f → Has g → f.row ≡ g.row → f.number ≡ g.number → f ≡ g

same_place : (f g : Fault) → IsNoLater f g → IsNoLater g f → (f.row ≡ g.row) × (f.number ≡ g.number)
same_place f g (inl a) (inl b) = absurd (omega (arith, a, b))
same_place f g (inl a) (inr b) = absurd (omega (arith, a, b.0))
same_place f g (inr a) (inl b) = absurd (omega (arith, a.0, b))
same_place f g (inr a) (inr b) = (a.0, omega (arith, a.1, b.1))

-- so the first of them is one
pub first_once : (Has : Fault → Type 0) → AreToldByPlace Has → (f g : Fault) → IsFirstFault Has f → IsFirstFault Has g → f ≡ g
first_once Has one f g x y = let at = same_place f g (x.least g y.holds) (y.least f x.holds) in one f g x.holds y.holds at.0 at.1

-- faults that are a function of their numbers
pub by_number : (told : ℕ → Fault) (f g : Fault) → f ≡ told f.number → g ≡ told g.number → f.number ≡ g.number → f ≡ g
by_number told f g x y same = x ∙ (ap told same ∙ sym y)

pub told_so : (told : ℕ → Fault) (f known : Fault) → f ≡ known → known ≡ told known.number → f ≡ told f.number
told_so told f known is at = is ∙ (at ∙ ap (λ (h : Fault). told h.number) (sym is))

-- the first number with a property is one
pub first_number_once : (P : ℕ → Type 0) (x y : ℕ) → number.IsFirst P x → number.IsFirst P y → x ≡ y
first_number_once P x y h g =
    ⊎_elim (λ same. same) (λ apart. ⊎_elim (λ lt. absurd (g.first x lt h.holds)) (λ gt. absurd (h.first y gt g.holds)) apart) (cases_order x y)

-- two faults are equal, except for the list of a cycle that they name
pub record AreAlike (f g : Fault) : Type 0 where
  pub row : f.row ≡ g.row
  pub number : f.number ≡ g.number
  pub all : f.number ≢ 27 → f.number ≢ 38 → f ≡ g

pub alike : (f g : Fault) → f ≡ g → AreAlike f g
alike f g is = record { row = ap (λ (h : Fault). h.row) is; number = ap (λ (h : Fault). h.number) is; all = λ no no_more. is }

-- a phase after which others come, each only if the phase has no fault
pub settled : {N : Type 0} (P R : Fault → Type 0) → ((f g : Fault) → P f → P g → AreAlike f g) → ((f : Fault) → P f → N → ⊥) → ((f g : Fault) → R f → R g → AreAlike f g)
    → (f g : Fault) → P f ⊎ (N × R f) → P g ⊎ (N × R g) → AreAlike f g
settled P R one none rest f g (inl x) (inl y) = one f g x y
settled P R one none rest f g (inl x) (inr y) = absurd (none f x y.0)
settled P R one none rest f g (inr x) (inl y) = absurd (none g y x.0)
settled P R one none rest f g (inr x) (inr y) = rest f g x.1 y.1
