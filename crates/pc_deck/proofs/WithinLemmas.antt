-- What was read keeps to the limits.
use Rattle.std.proofs.Common.{◌≡◌, ℕ, ◌+◌, ◌≤◌, Bool, true, false, ◌&&◌, ◌==◌, nat_lt, List, [], ◌∷◌, ◌++◌, length, map}
use Rattle.std.proofs.Common.{Option, Some, None, is_none, if◌then◌else◌, All, Ok, refl, sym, ◌∙◌, subst, arith, length-append}
use Rattle.std.proofs.lemmas.List.{map-append}
use Rattle.std.proofs.lemmas.List.Elements.{All-nil, All-push, All-replicate}
use Rattle.std.proofs.lemmas.Bool.Decides.{nat_tests}
use Rattle.std.specs.Str.{IsUtf8}
use Rattle.std.specs.Prelude.{option_to_list}
use Rattle.pc_model.specs.Codes.{IsNamedOnce}
use Rattle.pc_model.specs.Codes.{text_at}
use Rattle.pc_faults.specs.declared.kind.Kind.{Kind}
use Rattle.pc_faults.specs.declared.kind.Kind.TheVariants.{Project, End}
use Rattle.pc_deck.specs.Deck.{list_of}
use Rattle.pc_deck.specs.Kinds.{CardOf, card_of, entry_of, has_code_of_its_own, is_same, limit_of}
use Rattle.pc_deck.specs.inside.Kinds.{is_project}
use Rattle.pc_cards.specs.Named.{is_among}
use Rattle.pc_cards.specs.declared.sort.Sort.{Sort}
use Rattle.pc_deck.specs.Project.{project_card}
use Rattle.pc_cards.specs.inside.Findings.{one_too_many}
use Rattle.pc_deck.specs.inside.Judged.{judge}
use Rattle.pc_deck.specs.inside.Reading.{no_cards, with_card, deck_with, list_so_far, seen_in, project_version}
use Rattle.pc_deck.specs.Within.{IsUpTo, IsFit, IsListWithin}
use Rattle.pc_deck.specs.inside.Within.{IsDraftWithin}
use Rattle.pc_deck.specs.declared.kinds.project.ProjectCard.{ProjectCard}
use Rattle.pc_deck.specs.declared.draft.Draft.{Draft}
use Rattle.pc_cards.proofs.FitLemmas.{room_as}
use Rattle.pc_deck.proofs.JudgeLemmas.{IsFaultless, faultless, fits}
use Rattle.pc_deck.proofs.KindLemmas.{own_code, same_is, wider}
use Rattle.pc_names.proofs.OnceLaws.{IsNamedOnce-nil, IsNamedOnce-push}
use Rattle.pc_deck.proofs.SoFarLemmas.{codes-are, count-is, list-more, nothing, one_if, still_first, unchanged}

room_left : (n limit : ℕ) → n ≤ limit → (n == limit) ≡ false → n + 1 ≤ limit
room_left n limit few room = grind (arith, nat_tests)

up_to_more : (kind : Kind) (row count : ℕ) (limit : Option ℕ) → IsUpTo limit count → one_too_many kind row count limit ≡ None → IsUpTo limit (count + 1)
up_to_more kind row count None few room = tt
up_to_more kind row count (Some limit) few room = room_left count limit few (room_as kind row count limit (Some limit) refl room)

up_to_none : (limit : Option ℕ) → IsUpTo limit 0
up_to_none None = tt
up_to_none (Some limit) = omega arith

-- no cards are within the limits of any kind
nothing_within : (sort : Sort) (kind : Kind) (version : ℕ) → IsListWithin sort kind version []
nothing_within sort kind version = record {
  few = up_to_none (limit_of sort version kind);
  fit = All-nil (IsFit sort kind);
  differ = λ coded. IsNamedOnce-nil;
}

-- one more card on a list
list_more : (sort : Sort) (kind : Kind) (version : ℕ) (cards : List (CardOf kind)) (card : CardOf kind) →
    IsListWithin sort kind version cards → IsUpTo (limit_of sort version kind) (length cards + 1) →
    (has_code_of_its_own kind ≡ true → is_among ((entry_of kind).code card) (map (entry_of kind).code cards) ≡ false) →
    IsFit sort kind card → IsListWithin sort kind version (cards ++ card ∷ [])
list_more sort kind version cards card old few differs fit = record {
  few = subst (IsUpTo (limit_of sort version kind)) (sym (length-append cards (card ∷ []))) few;
  fit = All-push (IsFit sort kind) cards card old.fit fit;
  differ = λ coded.
      subst IsNamedOnce (sym (map-append (entry_of kind).code cards (card ∷ []))) (IsNamedOnce-push (map (entry_of kind).code cards) ((entry_of kind).code card) (old.differ coded) (differs coded));
}

-- no cards are within the limits
pub no_cards_within : (sort : Sort) → IsDraftWithin (no_cards sort)
no_cards_within sort = record {
  empty = λ none kind. nothing sort kind;
  lists = λ kind. subst (IsListWithin sort kind 1) (sym (nothing sort kind)) (nothing_within sort kind 1);
}

among_codes : (coded : Bool) (code : List ℕ) (codes : List (List ℕ)) → coded ≡ true → is_among code (if coded then codes else []) ≡ false → is_among code codes ≡ false
among_codes true code codes is new = new
among_codes false code codes is new = absurd (let is' = is in cc)

none_yet : (project : Option ProjectCard) → (true && nat_lt 0 (length (option_to_list project))) ≡ false → is_none project ≡ true
none_yet None once = refl
none_yet (Some project) once = absurd (let once' = once in cc)

-- what one more card without a fault does to each list
module _ (draft : Draft) (row : ℕ) (fields : List (List ℕ)) (text : All IsUtf8 fields) (old : IsDraftWithin draft) where
  -- to that of its own kind
  own_list : (kind : Kind) → IsFaultless (seen_in draft) row fields kind → IsListWithin draft.sort kind (project_version draft.project) (list_so_far draft kind ++ card_of kind row fields ∷ [])
  own_list kind known =
      list_more draft.sort kind (project_version draft.project) (list_so_far draft kind) (card_of kind row fields) (old.lists kind)
      (up_to_more kind row (length (list_so_far draft kind)) (limit_of draft.sort (project_version draft.project) kind) (old.lists kind).few
      (subst (λ (count : ℕ). one_too_many kind row count (limit_of draft.sort (project_version draft.project) kind) ≡ None) (count-is draft kind) known.room))
      (λ coded.
      subst (λ (code : List ℕ). is_among code (map (entry_of kind).code (list_so_far draft kind)) ≡ false) (sym (own_code kind coded row fields))
      (among_codes (has_code_of_its_own kind) (text_at fields 1) (map (entry_of kind).code (list_so_far draft kind)) coded
      (subst (λ (codes : List (List ℕ)). is_among (text_at fields 1) codes ≡ false) (codes-are draft kind) known.differs)))
      (row, fields, refl, fits (seen_in draft) row fields kind known, text)

  -- the same if the card may give the version
  own_then : (kind : Kind) → IsFaultless (seen_in draft) row fields kind →
      IsListWithin draft.sort kind (project_version (with_card draft kind row fields).project)
      (list_so_far draft kind ++ card_of kind row fields ∷ [])
  own_then Project known = let own = own_list Project known in record { few = tt; fit = own.fit; differ = own.differ }
  own_then kind known = own_list kind known

  -- and to those of the others
  others_then : (kind other : Kind) → IsFaultless (seen_in draft) row fields kind → IsListWithin draft.sort other (project_version (with_card draft kind row fields).project) (list_so_far draft other)
  others_then Project other known =
      subst (IsListWithin draft.sort other (project_version (with_card draft Project row fields).project))
      (sym (old.empty (none_yet draft.project known.once) other))
      (nothing_within draft.sort other (project_version (with_card draft Project row fields).project))
  others_then kind other known = old.lists other

  list_then : (kind other : Kind) (test : Bool) → IsFaultless (seen_in draft) row fields kind → is_same kind other ≡ test →
      IsListWithin draft.sort other (project_version (with_card draft kind row fields).project)
      (list_so_far draft other ++ one_if test (card_of other row fields))
  list_then kind other false known is =
      subst (IsListWithin draft.sort other (project_version (with_card draft kind row fields).project)) (unchanged (list_so_far draft other)) (others_then kind other known)
  list_then kind other true known is =
      subst (λ (k : Kind). IsListWithin draft.sort k (project_version (with_card draft kind row fields).project)
      (list_so_far draft k ++ card_of k row fields ∷ [])) (same_is kind other is) (own_then kind known)

-- one more card without a fault keeps the cards within the limits
pub next_within : (draft : Draft) (kind : Kind) (row : ℕ) (fields : List (List ℕ)) → All IsUtf8 fields → IsDraftWithin draft →
    judge (seen_in draft) row fields ≡ Ok kind → IsDraftWithin (with_card draft kind row fields)
next_within draft kind row fields text old h =
    let known = faultless (seen_in draft) row fields kind h in
    record {
      empty = λ none. absurd (let some = still_first (is_project kind) draft.project (project_card row fields) known.placed in let apart : true ≡ false = sym none ∙ some in cc);
      lists = λ other.
          subst (IsListWithin draft.sort other (project_version (with_card draft kind row fields).project)) (sym (list-more draft row fields kind known other))
          (list_then draft row fields text old kind other (is_same kind other) known refl);
    }

-- a list within the limit of its version is within that of version 2
list_wider : (sort : Sort) (kind : Kind) (version : ℕ) (cards : List (CardOf kind)) → IsListWithin sort kind version cards → IsListWithin sort kind 2 cards
list_wider sort kind version cards old = record { few = wider sort kind version (length cards) old.few; fit = old.fit; differ = old.differ }

end_within : (sort : Sort) → IsListWithin sort End 2 (tt ∷ [])
end_within sort = record { few = tt; fit = All-replicate (IsFit sort End) 1 tt (0, [], refl, tt, All-nil IsUtf8); differ = λ coded. absurd (let coded' = coded in cc) }

-- a draft within the limits is a deck within the limits
pub deck_within : (draft : Draft) (project : ProjectCard) → draft.project ≡ Some project → IsDraftWithin draft → (kind : Kind) → IsListWithin draft.sort kind 2 (list_of (deck_with draft project) kind)
deck_within draft project is within Project =
    subst (λ (p : Option ProjectCard). IsListWithin draft.sort Project 2 (option_to_list p)) is
    (list_wider draft.sort Project (project_version draft.project) (option_to_list draft.project) (within.lists Project))
deck_within draft project is within End = end_within draft.sort
deck_within draft project is within other = list_wider draft.sort other (project_version draft.project) (list_so_far draft other) (within.lists other)
