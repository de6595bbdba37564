use Rattle.std.proofs.Common.{◌≡◌, [], ◌∷◌, ◌++◌, ◌∙◌, List, ℕ, Bool, Option, Some, None, is_some, unwrap_or, if◌then◌else◌, refl, ap, subst}
use Rattle.std.specs.Prelude.{decimal}
use Rattle.std.specs.Result.{OnOk}
use Rattle.pc_records.specs.Text.{record_text}
use Rattle.pc_cards.specs.Forms.{number_text}
use Rattle.pc_deck.proofs.kinds.project.ProjectCardCard.put.Goals as goal

number_text-is : (o : Option ℕ) → (if is_some o then decimal (unwrap_or o 0) else []) ≡ number_text o
number_text-is None = refl
number_text-is (Some n) = refl

pub returns-clause-put : goal.returns-clause-put
returns-clause-put g c =
    let card = c.args.self in
    let days : c.bytes-5.result.now ≡ decimal (unwrap_or card.directed 0) = c.bytes-5.ensures ∙ (c.digits-days.ensures.value ∙ ap decimal c.unwrap_or.ensures) in
    let directed : c.where_so.result.now ≡ number_text card.directed =
    c.where_so.ensures ∙ (ap (λ (b : Bool). if b then c.bytes-5.result.now else []) c.is_some.ensures
    ∙ (ap (λ (bytes : List ℕ). if is_some card.directed then bytes else []) days ∙ number_text-is card.directed)) in
    subst (λ (fields : List (List ℕ)). OnOk c.put.result (g.R.Records.text c.put.new.self ≡ g.R.Records.text c.args.text.now ++ record_text fields))
    (λ i. c.word.ensures.word i
    ∷ c.bytes.ensures.value i ∷ c.bytes-2.ensures.value i ∷ c.bytes-3.ensures.value i
    ∷ (c.as_slice.ensures ∙ c.day_text-start_day.ensures.text) i
    ∷ (c.bytes-4.ensures ∙ c.digits.ensures.value) i
    ∷ directed i
    ∷ c.bytes-6.ensures i
    ∷ (c.bytes-7.ensures ∙ c.digits-2.ensures.value) i ∷ [])
    c.put.ensures.put
