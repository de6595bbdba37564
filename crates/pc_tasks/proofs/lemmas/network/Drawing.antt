-- What is where among the arrows and their terms.
use Rattle.std.proofs.Common.{◌≡◌, ℕ, ◌+◌, ◌-◌, ◌<◌, ◌≤◌, List, ◌++◌, length, map, slice_index, slice_index_or, refl, ◌∙◌, ap, arith}
use Rattle.std.specs.Prelude.{replicate}
use Rattle.std.specs.List.{range_with_len}
use Rattle.std.proofs.lemmas.List.{get_or_append_left, get_or-append_right, get_or-map, get_or_past, get_or-replicate, length-append, length-map, length-replicate}
use Rattle.std.proofs.lemmas.List.FromFn.{get_or-map-range_with_len, length-map-range_with_len}
use Rattle.pc_model.specs.declared.Arc.{Arc}
use Rattle.pc_model.specs.declared.Term.{Term}
use Rattle.pc_model.specs.Walk.{arc_at}
use Rattle.pc_model.specs.Schedule.{term_at}
use Rattle.pc_project.specs.declared.placed.AfterRow.{AfterRow}
use Rattle.pc_tasks.specs.network.Tasks.{after_at}
use Rattle.pc_tasks.specs.network.Arrows.{task_arc, after_arc, first_arc, last_arc, firsts, lasts, links, arrows, no_term, arrow_terms}

abbrev no_arc : Arc
no_arc = record { from = 0; to = 0 }

-- the durations of the tasks, and none for the links
abbrev pub drawn : ℕ → (ℕ → ℕ) → ℕ → ℕ
drawn n durations = slice_index (map durations (range_with_len 0 n))

pub drawn-task : (n : ℕ) (durations : ℕ → ℕ) (a : ℕ) → a < n → drawn n durations a ≡ durations a
drawn-task n durations a inside = get_or-map-range_with_len durations 0 n a a 0 inside (omega arith)

pub drawn-link : (n : ℕ) (durations : ℕ → ℕ) (a : ℕ) → n ≤ a → drawn n durations a ≡ 0
drawn-link n durations a past = get_or_past (map durations (range_with_len 0 n)) a 0 (omega (arith, length-map-range_with_len durations 0 n))

pub length-arcs : (n : ℕ) (afters : List AfterRow) → length (arrows n afters).arcs ≡ n + length (links n afters)
length-arcs n afters = omega (arith, length-append (map task_arc (range_with_len 0 n)) (links n afters), length-map-range_with_len task_arc 0 n)

pub length-terms : (terms : List Term) (afters : List AfterRow) → length (arrow_terms terms afters) ≡ length terms + length (links (length terms) afters)
length-terms terms afters =
    omega (arith, length-append terms (replicate (length (links (length terms) afters)) no_term), length-replicate (length (links (length terms) afters)) no_term)

-- the tasks come first
pub arc-task : (n : ℕ) (afters : List AfterRow) (a : ℕ) → a < n → arc_at (arrows n afters).arcs a ≡ task_arc a
arc-task n afters a inside =
    get_or_append_left (map task_arc (range_with_len 0 n)) (links n afters) no_arc a (omega (arith, length-map-range_with_len task_arc 0 n))
    ∙ get_or-map-range_with_len task_arc 0 n a a no_arc inside (omega arith)

-- and then the links
pub arc-link : (n : ℕ) (afters : List AfterRow) (a : ℕ) → n ≤ a → arc_at (arrows n afters).arcs a ≡ slice_index_or (links n afters) (a - n) no_arc
arc-link n afters a past =
    get_or-append_right (map task_arc (range_with_len 0 n)) (links n afters) n a no_arc (length-map-range_with_len task_arc 0 n) past

-- of these, those of the rows first
pub length-links : (n : ℕ) (afters : List AfterRow) → length afters ≤ length (links n afters)
length-links n afters =
    omega (arith, length-append (map after_arc afters) (map first_arc (firsts n afters) ++ map (last_arc n) (lasts n afters)), length-map afters after_arc)

pub arc-after : (n : ℕ) (afters : List AfterRow) (j : ℕ) → j < length afters → arc_at (arrows n afters).arcs (n + j) ≡ after_arc (after_at afters j)
arc-after n afters j inside =
    let at : n + j - n ≡ j = omega arith in
    arc-link n afters (n + j) (omega arith)
    ∙ (ap (λ i. slice_index_or (links n afters) i no_arc) at
    ∙ (get_or_append_left (map after_arc afters) (map first_arc (firsts n afters) ++ map (last_arc n) (lasts n afters)) no_arc j (omega (arith, length-map afters after_arc))
    ∙ get_or-map after_arc afters j (record { task = 0; before = 0 }) no_arc inside))

pub term-task : (terms : List Term) (afters : List AfterRow) (a : ℕ) → a < length terms → term_at (arrow_terms terms afters) a ≡ term_at terms a
term-task terms afters a inside = get_or_append_left terms (replicate (length (links (length terms) afters)) no_term) no_term a inside

pub term-link : (terms : List Term) (afters : List AfterRow) (a : ℕ) → length terms ≤ a → a < length (arrow_terms terms afters) → term_at (arrow_terms terms afters) a ≡ no_term
term-link terms afters a past inside =
    get_or-append_right terms (replicate (length (links (length terms) afters)) no_term) (length terms) a no_term refl past
    ∙ get_or-replicate (length (links (length terms) afters)) (a - length terms) no_term no_term (omega (arith, length-terms terms afters))
