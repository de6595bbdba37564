-- Lines with a first word that gives their kind: what is read from a line is written so.
use Rattle.std.proofs.Common.{◌≡◌, ℕ, Bool, true, false, cond, List, ◌++◌, Option, Some, None, refl, sym, ap, subst, ◌∙◌}
use Rattle.std.proofs.lemmas.Slice.Eq.{bytes_eq-Decides}
use Rattle.std.proofs.lemmas.List.{append-nil}
use Rattle.std.specs.Prelude.{bytes_eq}
use Rattle.pc_text.specs.Fields.{alone}
use Rattle.pc_text.proofs.FieldLemmas.{alone_takes}

-- the word and the fields are the text of the value, which can be written
pub record IsSpelled {A : Type 0} (spelling : A → List ℕ) (Fits : A → Type 0) (word fields : List ℕ) (a : A) : Type 0 where
  pub text : word ++ fields ≡ spelling a
  pub fits : Fits a

by_test : {A : Type 0} (Reads : List ℕ → Type 0) (word name : List ℕ) (found other : Option A) (a : A) (test : Bool) → bytes_eq word name ≡ test
    → (found ≡ Some a → Reads name) → (other ≡ Some a → Reads word)
    → cond test found other ≡ Some a → Reads word
by_test Reads word name found other a true is here later e = subst Reads (sym ((bytes_eq-Decides word name).0 is)) (here e)
by_test Reads word name found other a false is here later e = later e

-- the word is this name and the value is read with it, or with the names that are tried later
pub either : {A : Type 0} (Reads : List ℕ → Type 0) (word name : List ℕ) (found other : Option A) (a : A)
    → (found ≡ Some a → Reads name) → (other ≡ Some a → Reads word)
    → cond (bytes_eq word name) found other ≡ Some a → Reads word
either Reads word name found other a here later e = by_test Reads word name found other a (bytes_eq word name) refl here later e

-- and no name is left
pub no_name : {A : Type 0} (Reads : List ℕ → Type 0) (word : List ℕ) (a : A) → None ≡ Some a → Reads word
no_name Reads word a e = absurd cc

-- a line of one word
pub one_word : {A : Type 0} (spelling : A → List ℕ) (Fits : A → Type 0) (word fields : List ℕ) (known a : A) → word ≡ spelling known →
    Fits known → alone fields known ≡ Some a → IsSpelled spelling Fits word fields a
one_word spelling Fits word fields known a is fits e =
    let end = alone_takes fields known a e in
    subst (λ b. IsSpelled spelling Fits word fields b) (end.1) (record { text = ap (λ x. word ++ x) (end.0) ∙ append-nil word ∙ is; fits = fits })
