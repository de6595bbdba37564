-- END
use Rattle.std.specs.Prelude.{[], false}
use Rattle.pc_cards.specs.Entry.{Entry, in_both, no_code, unlimited}
use Rattle.pc_deck.specs.declared.kinds.CardLists.{CardLists}

-- the kind: a card that says nothing but that it is there
abbrev pub end_kind : Entry CardLists
end_kind = record {
  Card = Unit {0};
  spelled = λ row fields. tt;
  slots = in_both [];
  least = 1;
  most = 1;
  once = false;
  held = λ lists. [];
  limit = in_both unlimited;
  is_coded = false;
  code = no_code;
  row = λ card. 0;
  names = λ sort card. [];
  flaws = λ sort card fault. ⊥;
}
