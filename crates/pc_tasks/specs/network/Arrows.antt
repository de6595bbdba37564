-- The arrows of tasks: the network whose activities are the tasks, each between two events of its own, and links of no duration.
use Rattle.std.specs.Prelude.{ℕ, ◌+◌, ◌*◌, ◌==◌, Bool, not, nat_lt, List, ◌++◌, length, map, filter, replicate}
use Rattle.std.specs.List.{list_any, range_with_len}
use Rattle.pc_model.specs.declared.Arc.{Arc}
use Rattle.pc_model.specs.declared.Term.{Term}
use Rattle.pc_model.specs.Network.{Network}
use Rattle.pc_project.specs.declared.placed.AfterRow.{AfterRow}

-- the events: 0 is the start; then for each task the one where it begins and the one where it ends; then the end
abbrev pub begin_event : ℕ → ℕ
begin_event i = 2 * i + 1

abbrev pub end_event : ℕ → ℕ
end_event i = 2 * i + 2

abbrev pub last_event : ℕ → ℕ
last_event n = 2 * n + 1

-- the task, from where it begins to where it ends
abbrev pub task_arc : ℕ → Arc
task_arc i = record { from = begin_event i; to = end_event i }

-- a link from where one task ends to where the task that comes after it begins
abbrev pub after_arc : AfterRow → Arc
after_arc after = record { from = end_event after.before; to = begin_event after.task }

-- a link from the start to where a task begins
abbrev pub first_arc : ℕ → Arc
first_arc i = record { from = 0; to = begin_event i }

-- a link from where a task ends to the end
abbrev pub last_arc : ℕ → ℕ → Arc
last_arc n i = record { from = end_event i; to = last_event n }

-- whether the task comes after some other, and whether some other comes after it
abbrev pub comes_after : List AfterRow → ℕ → Bool
comes_after afters i = list_any (λ after. after.task == i) afters

abbrev pub comes_before : List AfterRow → ℕ → Bool
comes_before afters i = list_any (λ after. after.before == i) afters

-- the tasks that come after no task, and those that no task comes after, in their order
abbrev pub firsts : ℕ → List AfterRow → List ℕ
firsts n afters = filter (λ i. not (comes_after afters i)) (range_with_len 0 n)

abbrev pub lasts : ℕ → List AfterRow → List ℕ
lasts n afters = filter (λ i. not (comes_before afters i)) (range_with_len 0 n)

-- the links: one for each row that says which task comes after which, one from the start to each task that comes after no task, and
-- one to the end from each task that no task comes after
abbrev pub links : ℕ → List AfterRow → List Arc
links n afters = map after_arc afters ++ (map first_arc (firsts n afters) ++ map (last_arc n) (lasts n afters))

-- the network of n tasks
abbrev pub arrows : ℕ → List AfterRow → Network
arrows n afters = record {
  events = 2 * n + 2;
  start = 0;
  end = last_event n;
  arcs = map task_arc (range_with_len 0 n) ++ links n afters;
}

-- the same with a link from the start to every task and one from every task to the end: it has the same cycles, and no loose end
abbrev pub wide_links : ℕ → List AfterRow → List Arc
wide_links n afters = map after_arc afters ++ (map first_arc (range_with_len 0 n) ++ map (last_arc n) (range_with_len 0 n))

abbrev pub wide_arrows : ℕ → List AfterRow → Network
wide_arrows n afters = record {
  events = 2 * n + 2;
  start = 0;
  end = last_event n;
  arcs = map task_arc (range_with_len 0 n) ++ wide_links n afters;
}

-- the tasks among the activities of a walk
abbrev pub tasks_of : ℕ → List ℕ → List ℕ
tasks_of n walk = filter (λ a. nat_lt a n) walk

-- what a link may last and costs: nothing
abbrev pub no_term : Term
no_term = record { normal = 0; crash = 0; cost = 0; slope = 0 }

-- what the activities of the arrows may last and cost: the tasks as before, the links nothing
abbrev pub arrow_terms : List Term → List AfterRow → List Term
arrow_terms terms afters = terms ++ replicate (length (links (length terms) afters)) no_term
