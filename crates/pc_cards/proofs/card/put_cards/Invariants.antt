use Rattle.std.proofs.Common.{◌≡◌, ◌++◌, ◌∷◌, map, take}
use Rattle.pc_records.specs.Text.{records_text}
use Rattle.pc_faults.specs.Kinds.{word_of}
use Rattle.pc_cards.proofs.card.put_cards.Given as goal

-- the records of the cards so far follow the text
abbrev pub invariant-loop-card : goal.invariant-loop-card
invariant-loop-card g l = l.text ≡ l.fn.text ++ records_text (map (λ card. word_of l.kind ∷ g.C.Card.written card) (take l.card-index l.cards))
