use Rattle.std.proofs.Common.{◌≡◌, [], ◌∷◌, ◌++◌, ◌∙◌, List, ℕ, subst}
use Rattle.std.specs.Result.{OnOk}
use Rattle.pc_records.specs.Text.{record_text}
use Rattle.pc_deck.proofs.kinds.status.StatusCardCard.put.Goals as goal

pub returns-clause-put : goal.returns-clause-put
returns-clause-put g c =
    subst (λ (fields : List (List ℕ)). OnOk c.put.result (g.R.Records.text c.put.new.self ≡ g.R.Records.text c.args.text.now ++ record_text fields))
    (λ i. c.word.ensures.word i ∷ c.bytes.ensures.value i ∷ c.letter.ensures i ∷ (c.as_slice.ensures ∙ c.day_text-day.ensures.text) i ∷ []) c.put.ensures.put
