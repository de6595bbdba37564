-- How the entry of a kind of cards is made, from what varies among the kinds.
use Rattle.std.specs.Prelude.{ℕ, List, [], Option, false, true}
use Rattle.pc_cards.specs.Entry.{Entry, Limit, in_both, no_code, unlimited}
use Rattle.pc_cards.specs.Forms.{Slot}
use Rattle.pc_cards.specs.declared.sort.Sort.{Sort}
use Rattle.pc_deck.specs.declared.kinds.CardLists.{CardLists}

-- a kind with at most one card in a deck: the card of a record, the record of a card, what its fields must be, how many fields it must
-- have and how many it may have, and where the lists have the card; it names nothing and has no fault by itself
abbrev pub single_kind : {C : Type 0} → (ℕ → List (List ℕ) → C) → (C → ℕ) → (Sort → List Slot) → ℕ → ℕ → (CardLists → Option C) → Entry CardLists
single_kind {C} spelled row slots least most held = record {
  Card = C;
  spelled = spelled;
  slots = slots;
  least = least;
  most = most;
  once = true;
  held = held;
  limit = in_both unlimited;
  is_coded = false;
  code = no_code;
  row = row;
  names = λ sort card. [];
  flaws = λ sort card fault. ⊥;
}

-- a kind with a list of cards: the card of a record, the record of a card, what its fields must be, how many it has, where the lists have
-- the cards, and how many there may be; it names nothing and has no fault by itself
abbrev pub listed_kind : {C : Type 0} → (ℕ → List (List ℕ) → C) → (C → ℕ) → (Sort → List Slot) → ℕ → (CardLists → List C) → (Sort → Limit) → Entry CardLists
listed_kind {C} spelled row slots width held limit = record {
  Card = C;
  spelled = spelled;
  slots = slots;
  least = width;
  most = width;
  once = false;
  held = held;
  limit = limit;
  is_coded = false;
  code = no_code;
  row = row;
  names = λ sort card. [];
  flaws = λ sort card fault. ⊥;
}

-- a kind as by `listed_kind` whose cards have codes of their own; the third argument is the code of a card
abbrev pub named_kind : {C : Type 0} → (ℕ → List (List ℕ) → C) → (C → ℕ) → (C → List ℕ) → (Sort → List Slot) → ℕ → (CardLists → List C) → (Sort → Limit) → Entry CardLists
named_kind spelled row code slots width held limit = record (listed_kind spelled row slots width held limit) { is_coded = true; code = code }
