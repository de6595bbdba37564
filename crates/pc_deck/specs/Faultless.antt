-- When the cards of a deck have no fault, whatever a fault is called. The law `faultless_decks_have_no_fault` says that this is so
-- exactly if the deck has none of the faults of `Refusal`.
use Rattle.std.specs.Prelude.{◌≡◌, ◌≢◌, true, false, List, [], ◌∷◌, ◌++◌, ℕ, Some}
use Rattle.std.specs.Str.{is_utf8}
use Rattle.pc_model.specs.Codes.{text_at}
use Rattle.pc_faults.specs.declared.kind.Kind.{Kind}
use Rattle.pc_faults.specs.declared.kind.Kind.TheVariants.{Project}
use Rattle.pc_cards.specs.Cards.{Numbered, deck_cards}
use Rattle.pc_cards.specs.Forms.{AllFit}
use Rattle.pc_cards.specs.Named.{is_among}
use Rattle.pc_cards.specs.declared.sort.Sort.{Sort}
use Rattle.pc_deck.specs.Judged.{Seen}
use Rattle.pc_deck.specs.Kinds.{limit_of, slots_of, stands_once}
use Rattle.pc_deck.specs.Refusal.{is_whole_as, kind_named, seen_among}

-- a card is of this kind and has no fault after the cards that were seen
pub record IsFaultlessAs (seen : Seen) (card : Numbered) (kind : Kind) : Type 0 where
  pub named : kind_named seen.sort card ≡ Some kind
  -- PROJECT comes first
  pub begins : seen.is_first ≡ true → kind ≡ Project
  -- no other card of a kind that occurs once came before
  pub alone : stands_once kind ≡ true → seen.count kind ≡ 0
  -- it has as many fields as it may have, and each is what it must be
  pub whole : is_whole_as kind card.1 ≡ true
  pub fit : AllFit (slots_of seen.sort kind) card.1
  -- no card of the kind has its code already
  pub differs : is_among (text_at card.1 1) (seen.codes kind) ≡ false
  -- there are not as many cards of the kind already as there may be
  pub has_room : limit_of seen.sort seen.version kind ≢ Some (seen.count kind)
  -- no END card came before
  pub before_end : seen.has_ended ≡ false

-- cards of a deck of a sort have no fault, where others came before them: none of them has one, and an END card comes
abbrev pub AreFaultless : Sort → List Numbered → List Numbered → Type 0
AreFaultless sort before [] = (seen_among sort before).has_ended ≡ true
AreFaultless sort before (card ∷ cards) =
    ((kind : Kind) × IsFaultlessAs (seen_among sort before) card kind) × AreFaultless sort (before ++ card ∷ []) cards

-- the bytes are UTF-8, and the cards of this deck of a sort have no fault
abbrev pub IsFaultless : Sort → List ℕ → Type 0
IsFaultless sort bytes = (is_utf8 bytes ≡ true) × AreFaultless sort [] (deck_cards bytes)
