-- What a deck says, card by card.
use Rattle.std.specs.Prelude.{◌≡◌, ℕ, ◌+◌, false, ◌||◌, List, [], ◌∷◌, length, map, Option, Some, None, is_none, Result, Ok, Err, if◌then◌else◌, option_to_list}
use Rattle.pc_records.specs.Deck.{deck_records}
use Rattle.pc_faults.specs.Faults as fault
use Rattle.pc_faults.specs.declared.kind.Kind.{Kind}
use Rattle.pc_faults.specs.declared.kind.Kind.TheVariants.{Project, End}
use Rattle.pc_faults.specs.declared.fault.Fault.{Fault}
use Rattle.pc_cards.specs.Cards.{Numbered, deck_cards}
use Rattle.pc_deck.specs.Deck.{Deck}
use Rattle.pc_deck.specs.Kinds.{CardOf, entry_of, has_code_of_its_own, cards_in}
use Rattle.pc_deck.specs.inside.Kinds.{is_end, is_project, no_lists, lists_and}
use Rattle.pc_deck.specs.Judged.{Seen}
use Rattle.pc_deck.specs.inside.Judged.{judge}
use Rattle.pc_deck.specs.Project.{project_card}
use Rattle.pc_deck.specs.declared.kinds.project.ProjectCard.{ProjectCard}
use Rattle.pc_deck.specs.declared.draft.Draft.{Draft}
use Rattle.pc_cards.specs.declared.sort.Sort.{Sort}

-- nothing is read yet, of a deck of a sort
abbrev pub no_cards : Sort → Draft
no_cards sort = record { sort = sort; project = None; lists = no_lists; has_ended = false }

-- the cards so far and one more, which has no fault
abbrev pub with_card : Draft → Kind → ℕ → List (List ℕ) → Draft
with_card draft kind row fields = record {
  sort = draft.sort;
  project = if is_project kind then Some (project_card row fields) else draft.project;
  lists = lists_and draft.lists kind row fields;
  has_ended = is_end kind || draft.has_ended;
}

-- the cards of a kind so far
abbrev pub list_so_far : Draft → (kind : Kind) → List (CardOf kind)
list_so_far draft Project = option_to_list draft.project
list_so_far draft End = if draft.has_ended then tt ∷ [] else []
list_so_far draft other = cards_in draft.lists other

-- the codes that cards of a kind have of their own
abbrev pub own_codes_among : (kind : Kind) → List (CardOf kind) → List (List ℕ)
own_codes_among kind cards = if has_code_of_its_own kind then map (entry_of kind).code cards else []

-- how many cards of a kind there are; by cases, so that what is known of the kind can be put in its place
abbrev pub count_in : Draft → Kind → ℕ
count_in draft Project = length (list_so_far draft Project)
count_in draft other = length (list_so_far draft other)

-- the codes that the cards of a kind have of their own, by cases too
abbrev pub codes_in : Draft → Kind → List (List ℕ)
codes_in draft Project = own_codes_among Project (list_so_far draft Project)
codes_in draft other = own_codes_among other (list_so_far draft other)

-- the version of a deck, as its PROJECT card says; 1 where there is none
abbrev pub project_version : Option ProjectCard → ℕ
project_version None = 1
project_version (Some project) = project.version

-- what counts of the cards so far
abbrev pub seen_in : Draft → Seen
seen_in draft = record {
  sort = draft.sort;
  is_first = is_none draft.project;
  version = project_version draft.project;
  count = count_in draft;
  codes = codes_in draft;
  has_ended = draft.has_ended;
}

-- the record is a card of some kind without a fault, and was added to the cards so far
abbrev pub KeepsCard : Draft → ℕ → List (List ℕ) → Draft → Type 0
KeepsCard old row fields new = (kind : Kind) × ((judge (seen_in old) row fields ≡ Ok kind) × (new ≡ with_card old kind row fields))

-- the cards so far with their PROJECT card, as a deck
abbrev pub deck_with : Draft → ProjectCard → Deck
deck_with draft project = record { project = project; lists = draft.lists }

abbrev pub closed_with : Draft → ℕ → Option ProjectCard → Result Deck Fault
closed_with draft end None = Err (fault.no_end end)
closed_with draft end (Some project) = if draft.has_ended then Ok (deck_with draft project) else Err (fault.no_end end)

-- the deck once all its cards are read, or its fault; `end` is one more than the number of the last record
abbrev pub closed : Draft → ℕ → Result Deck Fault
closed draft end = closed_with draft end draft.project

-- continuing with the kind of a card that has no fault
abbrev pub and_then : Result Kind Fault → (Kind → Result Deck Fault) → Result Deck Fault
and_then (Ok kind) go = go kind
and_then (Err fault) go = Err fault

-- the deck after these cards, or its fault
abbrev pub read_from : Draft → ℕ → List Numbered → Result Deck Fault
read_from draft end [] = closed draft end
read_from draft end (card ∷ cards) =
    and_then (judge (seen_in draft) card.0 card.1) (λ kind. read_from (with_card draft kind card.0 card.1) end cards)

-- what the cards of a deck of a sort say, or the fault of one of them
abbrev pub cards_of : Sort → List ℕ → Result Deck Fault
cards_of sort bytes = read_from (no_cards sort) (length (deck_records bytes) + 1) (deck_cards bytes)
