-- The cards of a deck, as lists in card order.
use Rattle.std.specs.Prelude.{ℕ, nat_eq, List, [], ◌∷◌, length, map, position, Option, unwrap_or}
use Rattle.std.specs.Cmp.Lexicographic.{pointwise}
use Rattle.pc_faults.specs.declared.kind.Kind.{Kind}
use Rattle.pc_faults.specs.declared.kind.Kind.TheVariants.{Project, End}
use Rattle.pc_deck.specs.Kinds.{CardOf, cards_in}
use Rattle.pc_deck.specs.declared.kinds.project.ProjectCard.{ProjectCard}
use Rattle.pc_deck.specs.declared.kinds.CardLists.{CardLists}

-- what the cards of a deck of either sort say: `deck.items` are its items, and so on for each of the lists
pub record Deck : Type 0 where
  pub project : ProjectCard
  pub lists : CardLists
  pub open lists use *

-- the cards of a kind, in card order; a deck has one PROJECT card and one END card
abbrev pub list_of : Deck → (kind : Kind) → List (CardOf kind)
list_of deck Project = deck.project ∷ []
list_of deck End = tt ∷ []
list_of deck other = cards_in deck.lists other

-- the codes of the items, in card order
abbrev pub item_codes : Deck → List (List ℕ)
item_codes deck = map (λ item. item.code) deck.items

-- the codes of the events, in card order
abbrev pub event_codes : Deck → List (List ℕ)
event_codes deck = map (λ event. event.code) deck.events

-- the codes of the activities, in card order
abbrev pub act_codes : Deck → List (List ℕ)
act_codes deck = map (λ act. act.code) deck.acts

-- the codes of the tasks, in card order
abbrev pub task_codes : Deck → List (List ℕ)
task_codes deck = map (λ task. task.code) deck.tasks

-- the codes of the accounts, in card order
abbrev pub account_codes : Deck → List (List ℕ)
account_codes deck = map (λ account. account.code) deck.accounts

-- the codes of the resources, in card order
abbrev pub resource_codes : Deck → List (List ℕ)
resource_codes deck = map (λ resource. resource.code) deck.resources

-- the number of what has the code, among those with these codes: the first place of the code, from 0; none if it does not occur
abbrev pub named_among : List (List ℕ) → List ℕ → Option ℕ
named_among codes code = position (pointwise nat_eq code) codes

-- the same number, or the number of codes if the code does not occur
abbrev pub number_among : List (List ℕ) → List ℕ → ℕ
number_among codes code = unwrap_or (named_among codes code) (length codes)
