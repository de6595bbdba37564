-- A deck that is read card by card says what its cards say.
use Rattle.std.proofs.Common.{◌≡◌, Bool, true, false, List, [], ◌∷◌, ◌++◌, Option, Some, None, if◌then◌else◌, Result, Ok, Err, refl, sym, ap, ◌∙◌, subst, append-nil, append_assoc, ℕ}
use Rattle.std.specs.Prelude.{option_to_list}
use Rattle.pc_faults.specs.Faults as faults
use Rattle.pc_faults.specs.declared.kind.Kind.{Kind}
use Rattle.pc_faults.specs.declared.kind.Kind.TheVariants.{Project, End}
use Rattle.pc_faults.specs.declared.fault.Fault.{Fault}
use Rattle.pc_cards.specs.Cards.{Numbered, deck_cards}
use Rattle.pc_cards.specs.declared.sort.Sort.{Sort}
use Rattle.pc_deck.specs.Deck.{Deck, list_of}
use Rattle.pc_deck.specs.inside.Judged.{judge}
use Rattle.pc_deck.specs.inside.Reading.{no_cards, with_card, list_so_far, seen_in, deck_with, closed, closed_with, and_then, read_from, cards_of}
use Rattle.pc_deck.specs.Says.{Says}
use Rattle.pc_deck.specs.declared.kinds.project.ProjectCard.{ProjectCard}
use Rattle.pc_deck.specs.declared.draft.Draft.{Draft}
use Rattle.pc_deck.proofs.SoFarLemmas.{IsSoFar, so_far-none, so_far-more}

Ok-injective : (x y : Deck) → ◌≡◌ {A = Result Deck Fault} (Ok x) (Ok y) → x ≡ y
Ok-injective x y h = cc

-- the END card, or none
abbrev ends : Bool → List (Unit {0})
ends ended = if ended then tt ∷ [] else []

-- at the end of the cards
says-closed : (cards : List Numbered) (draft : Draft) (end : ℕ) (deck : Deck) → IsSoFar cards draft → closed draft end ≡ Ok deck → Says cards deck
says-closed cards draft end deck says h = by_project draft.project refl h
  where
    list : (project : ProjectCard) → draft.project ≡ Some project → draft.has_ended ≡ true → (kind : Kind) → list_so_far draft kind ≡ list_of (deck_with draft project) kind
    list project is ended Project = ap option_to_list is
    list project is ended End = ap (λ (b : Bool). ends b) ended
    list project is ended other = refl

    by_end : (project : ProjectCard) (ended : Bool) → draft.has_ended ≡ ended → draft.project ≡ Some project →
        (if ended then Ok (deck_with draft project) else Err (faults.no_end end)) ≡ Ok deck → Says cards deck
    by_end project true ended is h = subst (Says cards) (Ok-injective (deck_with draft project) deck h) (λ kind. says.lists kind ∙ list project is ended kind)
    by_end project false ended is h = absurd (let h' = h in cc)

    by_project : (project : Option ProjectCard) → draft.project ≡ project → closed_with draft end project ≡ Ok deck → Says cards deck
    by_project None is h = absurd (let h' = h in cc)
    by_project (Some project) is h = by_end project draft.has_ended refl is h

says-read : (cards : List Numbered) (before : List Numbered) (draft : Draft) (end : ℕ) (deck : Deck) → IsSoFar before draft → read_from draft end cards ≡ Ok deck → Says (before ++ cards) deck
says-read [] before draft end deck says h = subst (λ (all : List Numbered). Says all deck) (sym (append-nil before)) (says-closed before draft end deck says h)
says-read (card ∷ cards) before draft end deck says h =
    by_judgement (judge (seen_in draft) card.0 card.1) refl
    (λ kind judged more. subst (λ (all : List Numbered). Says all deck) (append_assoc before (card ∷ []) cards)
    (says-read cards (before ++ card ∷ []) (with_card draft kind card.0 card.1) end deck (so_far-more before draft kind card says judged) more))
    h
  where
    by_judgement : (judged : Result Kind Fault) → judge (seen_in draft) card.0 card.1 ≡ judged
        → ((kind : Kind) → judge (seen_in draft) card.0 card.1 ≡ Ok kind → read_from (with_card draft kind card.0 card.1) end cards ≡ Ok deck → Says (before ++ card ∷ cards) deck)
        → and_then judged (λ kind. read_from (with_card draft kind card.0 card.1) end cards) ≡ Ok deck → Says (before ++ card ∷ cards) deck
    by_judgement (Ok kind) is go h = go kind is h
    by_judgement (Err fault) is go h = absurd (let h' = h in cc)

-- the cards of a deck that is read say what was read
pub says_of-read : (sort : Sort) (bytes : List ℕ) (deck : Deck) → cards_of sort bytes ≡ Ok deck → Says (deck_cards bytes) deck
says_of-read sort bytes deck h = says-read (deck_cards bytes) [] (no_cards sort) _ deck (so_far-none sort) h
