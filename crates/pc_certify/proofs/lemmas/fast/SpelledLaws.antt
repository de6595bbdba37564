-- The lines as they were written last.
use Rattle.std.proofs.Common.{◌≡◌, ℕ, ◌+◌, ◌≤◌, Bool, List, [], ◌∷◌, ◌++◌, length, take, decimal, sym, ap, ◌∙◌, arith, append_assoc}
use Rattle.std.specs.Prelude.{codes}
use Rattle.std.proofs.lemmas.List.{length-append}
use Rattle.pc_cert.specs.declared.line.CertLine.TheVariants.{Event}
use Rattle.pc_text.specs.Fields.{spaced}
use Rattle.pc_cert.specs.inside.Fields.{bit_text}
use Rattle.pc_cert.specs.Text.{text_of}
use Rattle.pc_cert.proofs.EventLaws.{front_of}

-- ---- the line of an event, cut after its code

event_split : (code : List ℕ) (time : ℕ) (moves : Bool) → text_of (Event code time moves ∷ []) ≡ (codes "EVENT" ++ 32 ∷ code) ++ spaced (decimal time) (spaced (bit_text moves) (10 ∷ []))
event_split code time moves = simp append_assoc

pub event_cut : (code : List ℕ) (time : ℕ) (moves : Bool) → take (length code + 6) (text_of (Event code time moves ∷ [])) ≡ codes "EVENT" ++ 32 ∷ code
event_cut code time moves = ap (take (length code + 6)) (event_split code time moves) ∙ front_of code (spaced (decimal time) (spaced (bit_text moves) (10 ∷ [])))

pub event_long : (code : List ℕ) (time : ℕ) (moves : Bool) → length code + 6 ≤ length (text_of (Event code time moves ∷ []))
event_long code time moves =
    omega (arith, ap length (event_split code time moves), length-append (codes "EVENT" ++ 32 ∷ code) (spaced (decimal time) (spaced (bit_text moves) (10 ∷ []))))

-- and written again from there on
pub event_rest : (code : List ℕ) (time : ℕ) (moves : Bool) → ((codes "EVENT" ++ 32 ∷ code) ++ spaced (decimal time) []) ++ spaced (bit_text moves) (10 ∷ []) ≡ text_of (Event code time moves ∷ [])
event_rest code time moves =
    append_assoc (codes "EVENT" ++ 32 ∷ code) (spaced (decimal time) []) (spaced (bit_text moves) (10 ∷ []))
    ∙ ap (λ t. (codes "EVENT" ++ 32 ∷ code) ++ 32 ∷ t) (append_assoc (decimal time) [] (spaced (bit_text moves) (10 ∷ [])))
    ∙ sym (event_split code time moves)
