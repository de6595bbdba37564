-- The kinds of cards in decks of both sorts: the table of them, and what it says of a kind.
use Rattle.std.specs.Prelude.{ℕ, Bool, List, [], ◌∷◌, ◌++◌, Option, find, bytes_eq}
use Rattle.pc_faults.specs.Kinds.{word_of}
use Rattle.pc_faults.specs.declared.kind.Kind.{Kind}
use Rattle.pc_faults.specs.declared.kind.Kind.TheVariants.{Project, AsOf, Terms, Wbs, Event, Act, Task, After, Piece, Acct, Charge, ToGo, Status, Res, Load, End}
use Rattle.pc_cards.specs.declared.sort.Sort.{Sort}
use Rattle.pc_cards.specs.declared.sort.Sort.TheVariants.{Plan, Tasks}
use Rattle.pc_cards.specs.Entry.{Entry, limit_at}
use Rattle.pc_cards.specs.Forms.{Slot}
use Rattle.pc_cards.specs.Named.{HeldBy, listed_by}
use Rattle.pc_deck.specs.declared.kinds.CardLists.{CardLists}
use Rattle.pc_deck.specs.Project.{project_kind}
use Rattle.pc_deck.specs.AsOf.{as_of_kind}
use Rattle.pc_deck.specs.Terms.{terms_kind}
use Rattle.pc_deck.specs.Wbs.{item_kind}
use Rattle.pc_deck.specs.Act.{act_kind}
use Rattle.pc_deck.specs.Task.{task_kind}
use Rattle.pc_deck.specs.After.{after_kind}
use Rattle.pc_deck.specs.Piece.{piece_kind}
use Rattle.pc_deck.specs.Acct.{account_kind}
use Rattle.pc_deck.specs.Money.{charge_kind, togo_kind}
use Rattle.pc_deck.specs.Status.{status_kind}
use Rattle.pc_deck.specs.Titled.{event_kind, resource_kind}
use Rattle.pc_deck.specs.Load.{load_kind}
use Rattle.pc_deck.specs.End.{end_kind}

-- what each kind is
abbrev pub entry_of : Kind → Entry CardLists
entry_of Project = project_kind
entry_of AsOf = as_of_kind
entry_of Terms = terms_kind
entry_of Wbs = item_kind
entry_of Event = event_kind
entry_of Act = act_kind
entry_of Task = task_kind
entry_of After = after_kind
entry_of Piece = piece_kind
entry_of Acct = account_kind
entry_of Charge = charge_kind
entry_of ToGo = togo_kind
entry_of Status = status_kind
entry_of Res = resource_kind
entry_of Load = load_kind
entry_of End = end_kind

-- the kinds that come first, in decks of both sorts
abbrev pub first_kinds : List Kind
first_kinds = Project ∷ AsOf ∷ Terms ∷ Wbs ∷ []

-- the kinds that only decks of a sort have
abbrev pub work_kinds : Sort → List Kind
work_kinds Plan = Event ∷ Act ∷ []
work_kinds Tasks = Task ∷ After ∷ []

-- the kinds that come last, in decks of both sorts
abbrev pub further_kinds : List Kind
further_kinds = Piece ∷ Acct ∷ Charge ∷ ToGo ∷ Status ∷ Res ∷ Load ∷ End ∷ []

-- the kinds of cards that a deck of a sort has
abbrev pub kinds_of : Sort → List Kind
kinds_of sort = first_kinds ++ work_kinds sort ++ further_kinds

-- those that a plan has, in the order in which its text has their cards
abbrev pub kinds : List Kind
kinds = kinds_of Plan

-- a card of a kind as plain data
abbrev pub CardOf : Kind → Type 0
CardOf kind = (entry_of kind).Card

-- whether a second card of the kind is a fault of its own
abbrev pub stands_once : Kind → Bool
stands_once kind = (entry_of kind).once

-- the cards of a kind: one or none of a kind that occurs once, or else a list
abbrev pub Held : Kind → Type 0
Held kind = HeldBy (stands_once kind) (CardOf kind)

-- the lists that have these of each kind
abbrev pub lists_with : ((kind : Kind) → Held kind) → CardLists
lists_with held = record {
  as_of = held AsOf;
  terms = held Terms;
  items = held Wbs;
  events = held Event;
  acts = held Act;
  tasks = held Task;
  afters = held After;
  pieces = held Piece;
  accounts = held Acct;
  charges = held Charge;
  togos = held ToGo;
  statuses = held Status;
  resources = held Res;
  loads = held Load;
}

-- the kind that a field names among some
abbrev pub kind_among : List Kind → List ℕ → Option Kind
kind_among some field = find (λ kind. bytes_eq field (word_of kind)) some

-- the kind that a card's first field names in a deck of a sort
abbrev pub kind_of : Sort → List ℕ → Option Kind
kind_of sort field = kind_among (kinds_of sort) field

-- what the lists have of a kind
abbrev pub held_in : CardLists → (kind : Kind) → Held kind
held_in lists kind = (entry_of kind).held lists

-- the card of a kind that a record spells
abbrev pub card_of : (kind : Kind) → ℕ → List (List ℕ) → CardOf kind
card_of kind = (entry_of kind).spelled

-- what the fields of a kind's cards must be in decks of a sort, after the kind itself
abbrev pub slots_of : Sort → Kind → List Slot
slots_of sort kind = (entry_of kind).slots sort

-- how many fields a kind's cards may have, the kind itself among them
abbrev pub width_of : Kind → ℕ
width_of kind = (entry_of kind).most

-- how many fields a kind's cards must have, the kind itself among them
abbrev pub least_width_of : Kind → ℕ
least_width_of kind = (entry_of kind).least

-- whether the kind's cards have codes of their own, no two of them the same
abbrev pub has_code_of_its_own : Kind → Bool
has_code_of_its_own kind = (entry_of kind).is_coded

-- the version whose limits a deck has: that of a deck of tasks is 2, whatever its PROJECT card says
abbrev pub ruling_version : Sort → ℕ → ℕ
ruling_version Plan version = version
ruling_version Tasks version = 2

-- how many cards of the kind a deck of the sort and version may have, where that is a limit of its own
abbrev pub limit_of : Sort → ℕ → Kind → Option ℕ
limit_of sort version kind = limit_at (ruling_version sort version) ((entry_of kind).limit sort)

-- whether two kinds are one: whether they have one word
abbrev pub is_same : Kind → Kind → Bool
is_same kind other = bytes_eq (word_of kind) (word_of other)

-- the cards of a kind in card order
abbrev pub cards_in : CardLists → (kind : Kind) → List (CardOf kind)
cards_in lists kind = listed_by (stands_once kind) (CardOf kind) (held_in lists kind)
