-- The network of the deck that is drawn is that of the arrows of the tasks.
use Rattle.std.proofs.Common.{◌≡◌, ℕ, ◌+◌, ◌*◌, ◌<◌, ◌≤◌, List, [], ◌∷◌, ◌++◌, length, get_or, map, refl, ◌∙◌, ap, arith}
use Rattle.std.specs.Prelude.{All, not}
use Rattle.std.specs.List.{range_with_len}
use Rattle.std.proofs.lemmas.List.{length-map, map-append}
use Rattle.std.proofs.lemmas.List.Elements.{All-filter, All-from_get_or, All-head, All-map, All-tail}
use Rattle.std.proofs.lemmas.List.FromFn.{get_or-range_with_len, length-range_with_len}
use Rattle.pc_model.specs.declared.Arc.{Arc}
use Rattle.pc_model.specs.Network.{Network}
use Rattle.pc_project.specs.declared.placed.AfterRow.{AfterRow}
use Rattle.pc_tasks.specs.network.Arrows.{after_arc, arrows, begin_event, comes_after, comes_before, end_event, first_arc, firsts, last_arc, last_event, lasts, links, task_arc}
use Rattle.pc_project.specs.Project.{arc_of, network_of}
use Rattle.pc_deck.specs.declared.kinds.after.AfterCard.{AfterCard}
use Rattle.pc_deck.specs.declared.kinds.task.TaskCard.{TaskCard}
use Rattle.pc_deck.specs.Deck.{Deck, event_codes, number_among, task_codes}
use Rattle.pc_tasks.specs.Codes.{begin_code, end_code}
use Rattle.pc_tasks.specs.Drawn.{after_links, arrows_deck, first_link, last_link, drawn_links, task_acts}
use Rattle.pc_tasks.specs.Known.{CanBeDrawn, IsKnownAfter}
use Rattle.pc_project.specs.After.{after_row}
use Rattle.pc_tasks.specs.Lists.{afters_in}
use Rattle.pc_tasks.proofs.EventLemmas as events
use Rattle.pc_project.proofs.NumberLaws.{has_number}

-- an activity from one event to another
abbrev arc : ℕ → ℕ → Arc
arc from to = record { from = from; to = to }

-- the number of a task that is known
pub task_number-within : (deck : Deck) (after : AfterCard) → IsKnownAfter deck after →
    (number_among (task_codes deck) after.task < length deck.tasks) × (number_among (task_codes deck) after.before < length deck.tasks)
task_number-within deck after known = (
  omega (arith, (has_number (task_codes deck) after.task known.task).within, length-map deck.tasks (λ task. task.code)),
  omega (arith, (has_number (task_codes deck) after.before known.before).within, length-map deck.tasks (λ task. task.code)),
)

-- both numbers of a row are those of tasks
abbrev pub IsRow : ℕ → AfterRow → Type 0
IsRow n row = (row.task < n) × (row.before < n)

pub rows-known : (deck : Deck) → All (IsKnownAfter deck) deck.afters → All (IsRow (length deck.tasks)) (afters_in deck)
rows-known deck known =
    All-map (IsRow (length deck.tasks)) (after_row deck) deck.afters (λ k d inside. task_number-within deck (get_or deck.afters k d) (known k d inside))

all_below : (n : ℕ) → All (λ i. i < n) (range_with_len 0 n)
all_below n =
    All-from_get_or (λ i. i < n) (range_with_len 0 n) 0
    (λ i inside. omega (arith, length-range_with_len 0 n, get_or-range_with_len 0 n i 0 (omega (arith, length-range_with_len 0 n))))

pub firsts-below : (n : ℕ) (afters : List AfterRow) → All (λ i. i < n) (firsts n afters)
firsts-below n afters = All-filter (λ i. not (comes_after afters i)) (λ i. i < n) (range_with_len 0 n) (all_below n)

pub lasts-below : (n : ℕ) (afters : List AfterRow) → All (λ i. i < n) (lasts n afters)
lasts-below n afters = All-filter (λ i. not (comes_before afters i)) (λ i. i < n) (range_with_len 0 n) (all_below n)

module _ (deck : Deck) (can : CanBeDrawn deck) where
  abbrev n : ℕ
  n = length deck.tasks

  between : (from to : List ℕ) (e f : ℕ) → number_among (event_codes (arrows_deck deck)) from ≡ e →
      number_among (event_codes (arrows_deck deck)) to ≡ f →
      arc (number_among (event_codes (arrows_deck deck)) from) (number_among (event_codes (arrows_deck deck)) to) ≡ arc e f
  between from to e f from_is to_is = ap (λ x. arc x (number_among (event_codes (arrows_deck deck)) to)) from_is ∙ ap (arc e) to_is

  task-arcs : (i : ℕ) (tasks : List TaskCard) → i + length tasks ≤ n → map (arc_of (arrows_deck deck)) (task_acts i tasks) ≡ map task_arc (range_with_len i (length tasks))
  task-arcs i [] few = refl
  task-arcs i (task ∷ tasks) few =
      let here = between (begin_code i) (end_code i) (begin_event i) (end_event i) (events.number-begin deck can i (omega arith)) (events.number-end deck can i (omega arith)) in
      let rest = task-arcs (i + 1) tasks (omega arith) in
      ap (λ first. first ∷ map (arc_of (arrows_deck deck)) (task_acts (i + 1) tasks)) here ∙ ap (λ more. task_arc i ∷ more) rest

  after-arcs : (j : ℕ) (rows : List AfterRow) → All (IsRow n) rows → map (arc_of (arrows_deck deck)) (after_links j rows) ≡ map after_arc rows
  after-arcs j [] known = refl
  after-arcs j (row ∷ rows) known =
      let (task, before) = All-head (IsRow n) row rows known in
      let here = between (end_code row.before) (begin_code row.task) (end_event row.before) (begin_event row.task)
      (events.number-end deck can row.before before) (events.number-begin deck can row.task task) in
      let rest = after-arcs (j + 1) rows (All-tail (IsRow n) row rows known) in
      ap (λ first. first ∷ map (arc_of (arrows_deck deck)) (after_links (j + 1) rows)) here ∙ ap (λ more. after_arc row ∷ more) rest

  first-arcs : (xs : List ℕ) → All (λ i. i < n) xs → map (arc_of (arrows_deck deck)) (map (first_link deck) xs) ≡ map first_arc xs
  first-arcs [] below = refl
  first-arcs (i ∷ xs) below =
      let here = between deck.project.start (begin_code i) 0 (begin_event i) (events.number-start deck can) (events.number-begin deck can i (All-head (λ i. i < n) i xs below)) in
      let rest = first-arcs xs (All-tail (λ i. i < n) i xs below) in
      ap (λ first. first ∷ map (arc_of (arrows_deck deck)) (map (first_link deck) xs)) here ∙ ap (λ more. first_arc i ∷ more) rest

  last-arcs : (xs : List ℕ) → All (λ i. i < n) xs → map (arc_of (arrows_deck deck)) (map (last_link deck) xs) ≡ map (last_arc n) xs
  last-arcs [] below = refl
  last-arcs (i ∷ xs) below =
      let here = between (end_code i) deck.project.end (end_event i) (last_event n) (events.number-end deck can i (All-head (λ i. i < n) i xs below)) (events.number-last deck can) in
      let rest = last-arcs xs (All-tail (λ i. i < n) i xs below) in
      ap (λ first. first ∷ map (arc_of (arrows_deck deck)) (map (last_link deck) xs)) here ∙ ap (λ more. last_arc n i ∷ more) rest

  abbrev rows : List AfterRow
  rows = afters_in deck

  link-arcs : map (arc_of (arrows_deck deck)) (drawn_links deck) ≡ links n rows
  link-arcs =
      map-append (arc_of (arrows_deck deck)) (after_links 0 rows) (map (first_link deck) (firsts n rows) ++ map (last_link deck) (lasts n rows))
      ∙ (ap (λ front. front ++ map (arc_of (arrows_deck deck)) (map (first_link deck) (firsts n rows) ++ map (last_link deck) (lasts n rows))) (after-arcs 0 rows (rows-known deck can.afters))
      ∙ ap (λ back. map after_arc rows ++ back)
      (map-append (arc_of (arrows_deck deck)) (map (first_link deck) (firsts n rows)) (map (last_link deck) (lasts n rows))
      ∙ (ap (λ front. front ++ map (arc_of (arrows_deck deck)) (map (last_link deck) (lasts n rows))) (first-arcs (firsts n rows) (firsts-below n rows))
      ∙ ap (λ back. map first_arc (firsts n rows) ++ back) (last-arcs (lasts n rows) (lasts-below n rows)))))

  arcs-are : map (arc_of (arrows_deck deck)) (arrows_deck deck).acts ≡ map task_arc (range_with_len 0 n) ++ links n rows
  arcs-are =
      map-append (arc_of (arrows_deck deck)) (task_acts 0 deck.tasks) (drawn_links deck)
      ∙ (ap (λ front. front ++ map (arc_of (arrows_deck deck)) (drawn_links deck)) (task-arcs 0 deck.tasks (omega arith))
      ∙ ap (λ back. map task_arc (range_with_len 0 n) ++ back) link-arcs)

  abbrev net : ℕ → ℕ → ℕ → List Arc → Network
  net events start end arcs = record { events = events; start = start; end = end; arcs = arcs }

  -- the network is that of the arrows
  pub network-is : network_of (arrows_deck deck) ≡ arrows n rows
  network-is =
      ap (λ events. net events (number_among (event_codes (arrows_deck deck)) deck.project.start)
      (number_among (event_codes (arrows_deck deck)) deck.project.end) (map (arc_of (arrows_deck deck)) (arrows_deck deck).acts))
      (events.length-events deck can)
      ∙ (ap (λ start. net (2 * n + 2) start (number_among (event_codes (arrows_deck deck)) deck.project.end) (map (arc_of (arrows_deck deck)) (arrows_deck deck).acts)) (events.number-start deck can)
      ∙ (ap (λ end. net (2 * n + 2) 0 end (map (arc_of (arrows_deck deck)) (arrows_deck deck).acts)) (events.number-last deck can)
      ∙ ap (net (2 * n + 2) 0 (last_event n)) arcs-are))
