-- What holds of the bytes that a source had left, if it reports them.
use Rattle.std.proofs.Common.{ℕ, List, ◌++◌, Option, Some, None, sym, ◌∙◌, ap, subst, append-nil}
use Rattle.std.specs.Prelude.{IfSome}
use Rattle.std.specs.Io.KnownBytes.{Consumes, IsAtEnd}

-- what follows from what holds of them
pub of_one : (left : Option (List ℕ)) (P Q : List ℕ → Type 0) → ((bytes : List ℕ) → P bytes → Q bytes) → IfSome left P → IfSome left Q
of_one None P Q follows holds = tt
of_one (Some bytes) P Q follows holds = follows bytes holds

-- what holds of all bytes
pub of_any : (left : Option (List ℕ)) (P : List ℕ → Type 0) → ((bytes : List ℕ) → P bytes) → IfSome left P
of_any None P holds = tt
of_any (Some bytes) P holds = holds bytes

-- what follows from two things that don't go together
pub from_both : (left : Option (List ℕ)) (P Q R : List ℕ → Type 0) → ((bytes : List ℕ) → P bytes → Q bytes → ⊥) → IfSome left P
    → IfSome left (λ bytes. Q bytes → R bytes)
from_both left P Q R never = of_one left P (λ bytes. Q bytes → R bytes) (λ bytes holds also. absurd (never bytes holds also))

-- what holds of the bytes that were read to the end holds of all that the source had left
pub of_the_deck : (P : List ℕ → Type 0) (left left_after : Option (List ℕ)) (bytes : List ℕ) → Consumes left left_after bytes → IsAtEnd left_after → P bytes → IfSome left P
of_the_deck P None left_after bytes consumed at_end holds = tt
of_the_deck P (Some deck) None bytes consumed at_end holds = absurd consumed
of_the_deck P (Some deck) (Some rest) bytes consumed at_end holds =
    subst P (sym (consumed ∙ (ap (λ r. bytes ++ r) at_end ∙ append-nil bytes))) holds
