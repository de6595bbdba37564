-- Bits of a line, and the bytes after them.
use Rattle.std.proofs.Common.{◌≡◌, ℕ, Bool, true, false, cond, List, ◌⊎◌, inl, inr, Some, None, refl, ap, ◌∙◌, arith}
use Rattle.std.proofs.lemmas.Slice.Eq.{bytes_eq-Decides}
use Rattle.std.specs.Prelude.{codes, bytes_eq}
use Rattle.pc_text.specs.Fields.{spaced}
use Rattle.pc_text.proofs.FieldLemmas.{IsBehind, field_by_takes, field_by_again}
use Rattle.pc_cert.specs.inside.Fields.{bit_text, bit_of, bit_field}

bit_cases : (zero_read one_read bit : Bool) → cond zero_read (Some false) (cond one_read (Some true) None) ≡ Some bit → ((zero_read ≡ true) × (false ≡ bit)) ⊎ ((one_read ≡ true) × (true ≡ bit))
bit_cases true one_read bit e = inl (refl, cc)
bit_cases false true bit e = inr (refl, cc)
bit_cases false false bit e = absurd cc

-- a bit that is read is written after a space
bit_takes : (word : List ℕ) (bit : Bool) → bit_of word ≡ Some bit → word ≡ bit_text bit
bit_takes word bit e =
    elim (bit_cases (bytes_eq word (codes "0")) (bytes_eq word (codes "1")) bit e) [
      | inl found ↦ (bytes_eq-Decides word (codes "0")).0 (found.0) ∙ ap bit_text (found.1)
      | inr found ↦ (bytes_eq-Decides word (codes "1")).0 (found.0) ∙ ap bit_text (found.1)
    ]

pub bit_field_takes : (bytes : List ℕ) (x : Bool × List ℕ) → bit_field bytes ≡ Some x → bytes ≡ spaced (bit_text (x.0)) (x.1)
unfolding bit_field
bit_field_takes bytes x e =
    let taken = field_by_takes bit_of bytes x e in
    taken.text ∙ ap (λ word. spaced word (x.1)) (bit_takes taken.word (x.0) taken.reads)

pub bit_field_again : (bit : Bool) (rest : List ℕ) → IsBehind rest → bit_field (spaced (bit_text bit) rest) ≡ Some (bit, rest)
unfolding bit_field
bit_field_again true rest behind = field_by_again bit_of (bit_text true) rest true (λ e. absurd (omega (arith, e)), tt) behind refl
bit_field_again false rest behind = field_by_again bit_of (bit_text false) rest false (λ e. absurd (omega (arith, e)), tt) behind refl
