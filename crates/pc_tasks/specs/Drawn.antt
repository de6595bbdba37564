-- The deck of arrows that is generated from a deck of tasks: an activity for each task, between two events of its own, and links that take
-- no time and cost nothing. All other cards are kept. A card that is kept, or generated from a TASK card, keeps its record number.
use Rattle.std.specs.Prelude.{ℕ, ◌+◌, List, [], ◌∷◌, ◌++◌, length, map, find, is_none, Option, Some, None}
use Rattle.pc_tasks.specs.network.Arrows.{firsts, lasts}
use Rattle.pc_project.specs.declared.placed.AfterRow.{AfterRow}
use Rattle.pc_deck.specs.Deck.{Deck}
use Rattle.pc_deck.specs.Made.{drawn_with}
use Rattle.pc_deck.specs.declared.kinds.act.ActCard.{ActCard}
use Rattle.pc_deck.specs.declared.kinds.titled.TitledCard.{TitledCard}
use Rattle.pc_deck.specs.declared.kinds.wbs.ItemCard.{ItemCard}
use Rattle.pc_deck.specs.declared.kinds.task.TaskCard.{TaskCard}
use Rattle.pc_tasks.specs.Codes.{begin_code, end_code, after_code, first_code, last_code, links_code}
use Rattle.pc_tasks.specs.Lists.{afters_in}

-- an event without a title, which no card gives
abbrev pub drawn_event : List ℕ → TitledCard
drawn_event code = record { row = 0; code = code; title = [] }

-- two events for each task, where it begins and where it ends; the first task has number i
abbrev pub task_events : ℕ → List TaskCard → List TitledCard
task_events i [] = []
task_events i (task ∷ tasks) = drawn_event (begin_code i) ∷ drawn_event (end_code i) ∷ task_events (i + 1) tasks

-- the start, the events of the tasks, and the end
abbrev pub drawn_events : Deck → List TitledCard
drawn_events deck = drawn_event deck.project.start ∷ (task_events 0 deck.tasks ++ drawn_event deck.project.end ∷ [])

-- the activity of a task: it has the task's code, item, numbers and title
abbrev pub task_act : ℕ → TaskCard → ActCard
task_act i task = record {
  row = task.row;
  code = task.code;
  from = begin_code i;
  to = end_code i;
  item = task.item;
  opt = task.opt;
  likely = task.likely;
  pess = task.pess;
  normal = task.normal;
  crash = task.crash;
  cost = task.cost;
  slope = task.slope;
  title = task.title;
}

-- the activities of all tasks; the first task has number i
abbrev pub task_acts : ℕ → List TaskCard → List ActCard
task_acts i [] = []
task_acts i (task ∷ tasks) = task_act i task ∷ task_acts (i + 1) tasks

-- a link from one event to another
abbrev pub link : List ℕ → List ℕ → List ℕ → ActCard
link code from to = record {
  row = 0;
  code = code;
  from = from;
  to = to;
  item = links_code;
  opt = 0;
  likely = 0;
  pess = 0;
  normal = 0;
  crash = 0;
  cost = 0;
  slope = 0;
  title = [];
}

-- for each row that says which task comes after which, a link from where the one task ends to where the other begins; the first row has number j
abbrev pub after_links : ℕ → List AfterRow → List ActCard
after_links j [] = []
after_links j (row ∷ rows) = link (after_code j) (end_code row.before) (begin_code row.task) ∷ after_links (j + 1) rows

-- a link from the start to where a task begins
abbrev pub first_link : Deck → ℕ → ActCard
first_link deck i = link (first_code i) deck.project.start (begin_code i)

-- a link from where a task ends to the end
abbrev pub last_link : Deck → ℕ → ActCard
last_link deck i = link (last_code i) (end_code i) deck.project.end

-- the links: of the AFTER cards, from the start to each task that comes after none, and from each task that none comes after to the end
abbrev pub drawn_links : Deck → List ActCard
drawn_links deck =
    after_links 0 (afters_in deck)
    ++ (map (first_link deck) (firsts (length deck.tasks) (afters_in deck)) ++ map (last_link deck) (lasts (length deck.tasks) (afters_in deck)))

-- the code of the first item without a parent
abbrev pub code_of_top : Option ItemCard → Option (List ℕ)
code_of_top None = None
code_of_top (Some item) = Some item.code

abbrev pub top_code : Deck → Option (List ℕ)
top_code deck = code_of_top (find (λ item. is_none item.parent) deck.items)

-- the item of the links, below the top
abbrev pub links_item : Deck → ItemCard
links_item deck = record { row = 0; code = links_code; parent = top_code deck; title = [] }

-- the deck of arrows
abbrev pub arrows_deck : Deck → Deck
arrows_deck deck = drawn_with deck (deck.items ++ links_item deck ∷ []) (drawn_events deck) (task_acts 0 deck.tasks ++ drawn_links deck)
