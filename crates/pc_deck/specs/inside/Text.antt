-- The text of a deck in its one form: what a deck says is written as cards of version 2, kind by kind.
-- Here is what no clause of a top call and no law reaches.
use Rattle.std.specs.Prelude.{ℕ, List, [], ◌∷◌, flat_map}
use Rattle.pc_records.specs.Text.{records_text}
use Rattle.pc_faults.specs.declared.kind.Kind.{Kind}
use Rattle.pc_faults.specs.declared.kind.Kind.TheVariants.{Project, AsOf, Terms, Wbs, Event, Act, Piece, Acct, Charge, ToGo, Status, Res, Load}
use Rattle.pc_deck.specs.Deck.{Deck}
use Rattle.pc_deck.specs.Kinds.{kinds}
use Rattle.pc_deck.specs.Text.{first_from, settled, records_of}

-- the text of the cards of kinds that occur once, without END, and of the others
abbrev pub lead_text : Deck → List ℕ
lead_text deck = records_text (flat_map (records_of (settled deck)) (Project ∷ AsOf ∷ Terms ∷ []))

abbrev pub lists_text : Deck → List ℕ
lists_text deck = records_text (flat_map (records_of (settled deck)) (Wbs ∷ Event ∷ Act ∷ Piece ∷ Acct ∷ Charge ∷ ToGo ∷ Status ∷ Res ∷ Load ∷ []))

-- the record of the first card of a kind, in the text of the deck
abbrev pub first_record : Deck → Kind → ℕ
first_record deck kind = first_from 1 deck kind kinds
