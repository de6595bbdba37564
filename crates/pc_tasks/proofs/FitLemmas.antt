-- The cards that are drawn are fit.
use Rattle.std.proofs.Common.{◌≡◌, ℕ, ◌+◌, ◌<◌, ◌≤◌, true, List, [], ◌∷◌, ◌++◌, length, map, codes, Option, Some, None, All, refl, sym, ap, arith}
use Rattle.std.specs.Prelude.{not}
use Rattle.std.specs.Str.{IsUtf8}
use Rattle.std.proofs.lemmas.Bool.{and_parts, cond-true, or_right}
use Rattle.std.proofs.lemmas.List.Elements.{All-append, All-cons, All-head, All-nil, All-tail}
use Rattle.std.proofs.lemmas.Str.{IsUtf8-nil}
use Rattle.std.proofs.lemmas.List.{length-map}
use Rattle.pc_tasks.specs.network.Arrows.{firsts, lasts}
use Rattle.pc_project.specs.declared.placed.AfterRow.{AfterRow}
use Rattle.pc_cards.specs.Forms.{Fits, is_reserved}
use Rattle.pc_cards.specs.declared.form.FieldForm.TheVariants as form
use Rattle.pc_cards.specs.declared.sort.Sort.TheVariants.{Plan, Tasks}
use Rattle.pc_faults.specs.declared.kind.Kind.TheVariants.{Act, Event, Project, Task, Wbs}
use Rattle.pc_records.specs.Deck.{is_empty}
use Rattle.pc_model.specs.Codes.{text_at}
use Rattle.pc_text.specs.Code.{is_code}
use Rattle.pc_deck.specs.Deck.{Deck}
use Rattle.pc_deck.specs.Within.{IsFit}
use Rattle.pc_deck.specs.declared.kinds.project.ProjectCard.{ProjectCard}
use Rattle.pc_deck.specs.declared.kinds.task.TaskCard.{TaskCard}
use Rattle.pc_deck.specs.declared.kinds.wbs.ItemCard.{ItemCard}
use Rattle.pc_deck.proofs.WrittenLemmas.{field-text}
use Rattle.pc_tasks.specs.Codes.{after_code, begin_code, end_code, first_code, last_code, links_code}
use Rattle.pc_tasks.specs.Drawn.{after_links, drawn_event, first_link, last_link, link, drawn_links, task_act, task_acts, task_events}
use Rattle.pc_tasks.specs.Known.{IsKnownAfter}
use Rattle.pc_project.specs.After.{after_row}
use Rattle.pc_tasks.specs.Lists.{afters_in}
use Rattle.pc_tasks.proofs.NetworkLemmas.{IsRow, firsts-below, lasts-below, rows-known}
use Rattle.pc_tasks.proofs.SpelledLemmas.{code-text, drawn-code}

-- a code that a card of a deck of tasks gives is a code, and does not begin with `_`
abbrev pub Given : List ℕ → Type 0
Given code = Fits form.GivenCode code

pub given-code : (code : List ℕ) → Given code → is_code code ≡ true
given-code code fit = (and_parts (is_code code) (not (is_reserved code)) fit.0).0

-- a code in a field of a code
fits : (code : List ℕ) → is_code code ≡ true → Fits form.Code code
fits code is = (is, refl)

-- each of some fields is text
abbrev AreTexts : List (List ℕ) → Type 0
AreTexts [] = Unit {0}
AreTexts (x ∷ xs) = IsUtf8 x × AreTexts xs

texts : (xs : List (List ℕ)) → AreTexts xs → All IsUtf8 xs
texts [] are = All-nil IsUtf8
texts (x ∷ xs) are = All-cons IsUtf8 x xs are.0 (texts xs are.1)

-- an event
pub event-fit : (code : List ℕ) → is_code code ≡ true → IsFit Plan Event (drawn_event code)
event-fit code is = (0, [] ∷ code ∷ [] ∷ [], refl, (fits code is, ((refl, refl), tt)), texts ([] ∷ code ∷ [] ∷ []) (IsUtf8-nil, (code-text code is, (IsUtf8-nil, tt))))

-- the fields of a link
abbrev nought : List ℕ
nought = codes "0"

abbrev link_fields : List ℕ → List ℕ → List ℕ → List (List ℕ)
link_fields code from to =
    [] ∷ code ∷ from ∷ to ∷ links_code ∷ nought ∷ nought ∷ nought ∷ nought ∷ nought ∷ nought ∷ nought ∷ [] ∷ []

zero-text : IsUtf8 nought
zero-text = code-text nought refl

link-text : (code from to : List ℕ) → is_code code ≡ true → is_code from ≡ true → is_code to ≡ true → All IsUtf8 (link_fields code from to)
link-text code from to is from_is to_is =
    texts (link_fields code from to) (
      IsUtf8-nil,
      (
        code-text code is,
        (
          code-text from from_is,
          (
            code-text to to_is,
            (
              code-text links_code refl,
              (
                zero-text,
                (zero-text, (zero-text, (zero-text, (zero-text, (zero-text, (zero-text, (IsUtf8-nil, tt))))))),
              ),
            ),
          ),
        ),
      ),
    )

pub link-fit : (code from to : List ℕ) → is_code code ≡ true → is_code from ≡ true → is_code to ≡ true → IsFit Plan Act (link code from to)
link-fit code from to is from_is to_is = (
  0,
  link_fields code from to,
  refl,
  (
    fits code is,
    (
      fits from from_is,
      (
        fits to to_is,
        (
          fits links_code refl,
          (
            (refl, refl),
            (
              (refl, refl),
              (
                (refl, refl),
                ((refl, refl), ((refl, refl), ((refl, refl), ((refl, refl), ((refl, refl), tt))))),
              ),
            ),
          ),
        ),
      ),
    ),
  ),
  link-text code from to is from_is to_is,
)

-- the activity of a task
abbrev act_fields : List ℕ → List ℕ → List (List ℕ) → List (List ℕ)
act_fields from to fields =
    [] ∷ text_at fields 1 ∷ from ∷ to ∷ text_at fields 2 ∷ text_at fields 3 ∷ text_at fields 4 ∷ text_at fields 5 ∷ text_at fields 6
    ∷ text_at fields 7 ∷ text_at fields 8 ∷ text_at fields 9 ∷ text_at fields 10 ∷ []

act-text : (from to : List ℕ) (fields : List (List ℕ)) → IsUtf8 from → IsUtf8 to → All IsUtf8 fields → All IsUtf8 (act_fields from to fields)
act-text from to fields from_text to_text all =
    let at = λ (i : ℕ). field-text fields i all in
    texts (act_fields from to fields)
    (IsUtf8-nil, (at 1, (from_text, (to_text, (at 2, (at 3, (at 4, (at 5, (at 6, (at 7, (at 8, (at 9, (at 10, tt)))))))))))))

pub task_act-fit : (i : ℕ) (task : TaskCard) → i < 20000 → IsFit Tasks Task task → IsFit Plan Act (task_act i task)
task_act-fit i task small (row, fields, is, fit, text) =
    let begin = drawn-code 98 i refl small in
    let end = drawn-code 101 i refl small in (
      row,
      act_fields (begin_code i) (end_code i) fields,
      ap (task_act i) is,
      (fits (text_at fields 1) (given-code (text_at fields 1) fit.0), (fits (begin_code i) begin, (fits (end_code i) end, fit.1))),
      act-text (begin_code i) (end_code i) fields (code-text (begin_code i) begin) (code-text (end_code i) end) text,
    )

-- the events of tasks
pub task_events-fit : (i : ℕ) (tasks : List TaskCard) → i + length tasks ≤ 20000 → All (IsFit Plan Event) (task_events i tasks)
task_events-fit i [] few = All-nil (IsFit Plan Event)
task_events-fit i (task ∷ tasks) few =
    All-cons (IsFit Plan Event) (drawn_event (begin_code i)) (drawn_event (end_code i) ∷ task_events (i + 1) tasks) (event-fit (begin_code i) (drawn-code 98 i refl (omega arith)))
    (All-cons (IsFit Plan Event) (drawn_event (end_code i)) (task_events (i + 1) tasks) (event-fit (end_code i) (drawn-code 101 i refl (omega arith)))
    (task_events-fit (i + 1) tasks (omega arith)))

-- their activities
pub task_acts-fit : (i : ℕ) (tasks : List TaskCard) → i + length tasks ≤ 20000 → All (IsFit Tasks Task) tasks → All (IsFit Plan Act) (task_acts i tasks)
task_acts-fit i [] few fit = All-nil (IsFit Plan Act)
task_acts-fit i (task ∷ tasks) few fit =
    All-cons (IsFit Plan Act) (task_act i task) (task_acts (i + 1) tasks) (task_act-fit i task (omega arith) (All-head (IsFit Tasks Task) task tasks fit))
    (task_acts-fit (i + 1) tasks (omega arith) (All-tail (IsFit Tasks Task) task tasks fit))

module _ (deck : Deck) (few : length deck.tasks ≤ 4000) (start : is_code deck.project.start ≡ true) (end : is_code deck.project.end ≡ true) where
  pub after_links-fit : (j : ℕ) (rows : List AfterRow) → j + length rows ≤ 20000 → All (IsRow (length deck.tasks)) rows → All (IsFit Plan Act) (after_links j rows)
  after_links-fit j [] small known = All-nil (IsFit Plan Act)
  after_links-fit j (row ∷ rows) small known =
      let (task, before) = All-head (IsRow (length deck.tasks)) row rows known in
      All-cons (IsFit Plan Act) _ (after_links (j + 1) rows)
      (link-fit (after_code j) (end_code row.before) (begin_code row.task) (drawn-code 97 j refl (omega arith))
      (drawn-code 101 row.before refl (omega (arith, before, few))) (drawn-code 98 row.task refl (omega (arith, task, few))))
      (after_links-fit (j + 1) rows (omega arith) (All-tail (IsRow (length deck.tasks)) row rows known))

  pub first_links-fit : (xs : List ℕ) → All (λ i. i < length deck.tasks) xs → All (IsFit Plan Act) (map (first_link deck) xs)
  first_links-fit [] below = All-nil (IsFit Plan Act)
  first_links-fit (i ∷ xs) below =
      let small : i < 20000 = omega (arith, All-head (λ i. i < length deck.tasks) i xs below, few) in
      All-cons (IsFit Plan Act) (first_link deck i) (map (first_link deck) xs)
      (link-fit (first_code i) deck.project.start (begin_code i) (drawn-code 115 i refl small) start (drawn-code 98 i refl small))
      (first_links-fit xs (All-tail (λ i. i < length deck.tasks) i xs below))

  pub last_links-fit : (xs : List ℕ) → All (λ i. i < length deck.tasks) xs → All (IsFit Plan Act) (map (last_link deck) xs)
  last_links-fit [] below = All-nil (IsFit Plan Act)
  last_links-fit (i ∷ xs) below =
      let small : i < 20000 = omega (arith, All-head (λ i. i < length deck.tasks) i xs below, few) in
      All-cons (IsFit Plan Act) (last_link deck i) (map (last_link deck) xs) (link-fit (last_code i) (end_code i) deck.project.end (drawn-code 116 i refl small) (drawn-code 101 i refl small) end)
      (last_links-fit xs (All-tail (λ i. i < length deck.tasks) i xs below))

  pub links-fit : length deck.afters ≤ 8000 → All (IsKnownAfter deck) deck.afters → All (IsFit Plan Act) (drawn_links deck)
  links-fit few_afters known =
      let n = length deck.tasks in
      let rows = afters_in deck in
      All-append (IsFit Plan Act) (after_links 0 rows) (map (first_link deck) (firsts n rows) ++ map (last_link deck) (lasts n rows))
      (after_links-fit 0 rows (omega (arith, few_afters, length-map deck.afters (after_row deck))) (rows-known deck known))
      (All-append (IsFit Plan Act) (map (first_link deck) (firsts n rows)) (map (last_link deck) (lasts n rows))
      (first_links-fit (firsts n rows) (firsts-below n rows)) (last_links-fit (lasts n rows) (lasts-below n rows)))

-- an item of a deck of tasks is one of a plan
pub item-fit : (item : ItemCard) → IsFit Tasks Wbs item → IsFit Plan Wbs item
item-fit item (row, fields, is, fit, text) = (row, fields, is, (fits (text_at fields 1) (given-code (text_at fields 1) fit.0), fit.1), text)

-- its PROJECT card is one of a plan
pub project-fit : (project : ProjectCard) → IsFit Tasks Project project → IsFit Plan Project project
project-fit project (row, fields, is, fit, text) =
    (row, fields, is, (fit.0, (fits (text_at fields 2) (given-code (text_at fields 2) fit.1.0), (fits (text_at fields 3) (given-code (text_at fields 3) fit.1.1.0), fit.1.1.1))), text)

-- the item of the links, where the code of the top is a code
pub links_item-fit : (parent : Option (List ℕ)) → ((code : List ℕ) → parent ≡ Some code → is_code code ≡ true) → IsFit Plan Wbs (record { row = 0; code = links_code; parent = parent; title = [] })
links_item-fit None known = (
  0,
  [] ∷ links_code ∷ [] ∷ [] ∷ [],
  refl,
  (fits links_code refl, ((refl, refl), ((refl, refl), tt))),
  texts ([] ∷ links_code ∷ [] ∷ [] ∷ []) (IsUtf8-nil, (code-text links_code refl, (IsUtf8-nil, (IsUtf8-nil, tt)))),
)
links_item-fit (Some code) known =
    let is = known code refl in
    let item : Option (List ℕ) → ItemCard = λ parent. record { row = 0; code = links_code; parent = parent; title = [] } in (
      0,
      [] ∷ links_code ∷ code ∷ [] ∷ [],
      ap item (sym (cond-true (is_code code) (Some code) None is)),
      (fits links_code refl, ((or_right (is_empty code) (is_code code) is, refl), ((refl, refl), tt))),
      texts ([] ∷ links_code ∷ code ∷ [] ∷ []) (IsUtf8-nil, (code-text links_code refl, (code-text code is, (IsUtf8-nil, tt)))),
    )
