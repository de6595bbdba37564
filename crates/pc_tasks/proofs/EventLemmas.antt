-- The events of the deck that is drawn, by their numbers and their codes.
use Rattle.std.proofs.Common.{◌≡◌, ℕ, zero, suc, ◌+◌, ◌*◌, ◌^◌, ◌<◌, List, [], ◌∷◌, ◌++◌, length, map, Some, refl, sym, ◌∙◌, ap, arith}
use Rattle.std.specs.Prelude.{unwrap_or}
use Rattle.std.proofs.lemmas.List.{get_or_append_left, get_or_push, length-append, length-map, map-append}
use Rattle.pc_model.specs.Codes.{text_at, IsNamedOnce}
use Rattle.pc_tasks.specs.network.Arrows.{begin_event, end_event, last_event}
use Rattle.pc_tasks.proofs.lemmas.network.Outer.{IsEvent, event_of}
use Rattle.pc_tasks.proofs.lemmas.network.Outer.IsEvent.{at_start, at_begin, at_end, at_last}
use Rattle.pc_deck.specs.Deck.{Deck, event_codes, named_among, number_among}
use Rattle.pc_deck.specs.declared.kinds.titled.TitledCard.{TitledCard}
use Rattle.pc_deck.specs.declared.kinds.task.TaskCard.{TaskCard}
use Rattle.pc_tasks.specs.Codes.{begin_code, end_code}
use Rattle.pc_tasks.specs.Drawn.{arrows_deck, drawn_event, task_events}
use Rattle.pc_tasks.specs.Known.{CanBeDrawn}
use Rattle.pc_tasks.proofs.CodeLemmas.{drawn_code-letter, drawn_code-number, given-not_drawn}
use Rattle.pc_tasks.proofs.PlaceLemmas.{only_place-is}

abbrev code_of : TitledCard → List ℕ
code_of event = event.code

-- the codes of the events of tasks
abbrev pub inner : ℕ → List TaskCard → List (List ℕ)
inner i tasks = map code_of (task_events i tasks)

pub length-task_events : (i : ℕ) (tasks : List TaskCard) → length (task_events i tasks) ≡ 2 * length tasks
length-task_events i [] = refl
length-task_events i (task ∷ tasks) = omega (arith, length-task_events (i + 1) tasks)

length-inner : (i : ℕ) (tasks : List TaskCard) → length (inner i tasks) ≡ 2 * length tasks
length-inner i tasks = length-map (task_events i tasks) code_of ∙ length-task_events i tasks

inner-begin : (i : ℕ) (tasks : List TaskCard) (k e : ℕ) → k < length tasks → e ≡ 2 * k → text_at (inner i tasks) e ≡ begin_code (i + k)
inner-begin i [] k e inside is = absurd (omega arith)
inner-begin i (task ∷ tasks) zero e inside is =
    ap (text_at (inner i (task ∷ tasks))) is ∙ ap begin_code (let n : i ≡ i + 0 = omega arith in n)
inner-begin i (task ∷ tasks) (suc k) e inside is =
    let place : e ≡ suc (suc (2 * k)) = omega arith in
    let number : (i + 1) + k ≡ i + suc k = omega arith in
    ap (text_at (inner i (task ∷ tasks))) place ∙ (inner-begin (i + 1) tasks k (2 * k) (omega arith) refl ∙ ap begin_code number)

inner-end : (i : ℕ) (tasks : List TaskCard) (k e : ℕ) → k < length tasks → e ≡ 2 * k + 1 → text_at (inner i tasks) e ≡ end_code (i + k)
inner-end i [] k e inside is = absurd (omega arith)
inner-end i (task ∷ tasks) zero e inside is =
    let one : e ≡ 1 = omega arith in
    ap (text_at (inner i (task ∷ tasks))) one ∙ ap end_code (let n : i ≡ i + 0 = omega arith in n)
inner-end i (task ∷ tasks) (suc k) e inside is =
    let place : e ≡ suc (suc (2 * k + 1)) = omega arith in
    let number : (i + 1) + k ≡ i + suc k = omega arith in
    ap (text_at (inner i (task ∷ tasks))) place ∙ (inner-end (i + 1) tasks k (2 * k + 1) (omega arith) refl ∙ ap end_code number)

module _ (deck : Deck) (can : CanBeDrawn deck) where
  abbrev n : ℕ
  n = length deck.tasks

  abbrev all : List (List ℕ)
  all = deck.project.start ∷ (inner 0 deck.tasks ++ deck.project.end ∷ [])

  pub events-are : event_codes (arrows_deck deck) ≡ all
  events-are = ap (λ rest. deck.project.start ∷ rest) (map-append code_of (task_events 0 deck.tasks) (drawn_event deck.project.end ∷ []))

  length-all : length all ≡ 2 * n + 2
  length-all = omega (arith, length-append (inner 0 deck.tasks) (deck.project.end ∷ []), length-inner 0 deck.tasks)

  -- the code of each event
  abbrev code_of_event : (e : ℕ) → IsEvent n e → List ℕ
  code_of_event e (at_start is) = deck.project.start
  code_of_event e (at_begin i known is) = begin_code i
  code_of_event e (at_end i known is) = end_code i
  code_of_event e (at_last is) = deck.project.end

  code_is : (e : ℕ) (event : IsEvent n e) → text_at all e ≡ code_of_event e event
  code_is e (at_start is) = ap (text_at all) is
  code_is e (at_begin i known is) =
      let place : e ≡ suc (2 * i) = omega (arith, is) in
      ap (text_at all) place
      ∙ (get_or_append_left (inner 0 deck.tasks) (deck.project.end ∷ []) [] (2 * i) (omega (arith, length-inner 0 deck.tasks, known))
      ∙ (inner-begin 0 deck.tasks i (2 * i) known refl ∙ ap begin_code (let same : 0 + i ≡ i = omega arith in same)))
  code_is e (at_end i known is) =
      let place : e ≡ suc (2 * i + 1) = omega (arith, is) in
      ap (text_at all) place
      ∙ (get_or_append_left (inner 0 deck.tasks) (deck.project.end ∷ []) [] (2 * i + 1) (omega (arith, length-inner 0 deck.tasks, known))
      ∙ (inner-end 0 deck.tasks i (2 * i + 1) known refl ∙ ap end_code (let same : 0 + i ≡ i = omega arith in same)))
  code_is e (at_last is) =
      let place : e ≡ suc (2 * n) = omega (arith, is) in
      ap (text_at all) place ∙ get_or_push (inner 0 deck.tasks) deck.project.end [] (2 * n) (length-inner 0 deck.tasks)

  small : (i : ℕ) → i < n → i < 2 ^ 32
  small i known = omega (arith, can.few, known)

  -- two events with one code are one
  same_event : (j k : ℕ) (a : IsEvent n j) (b : IsEvent n k) → code_of_event j a ≡ code_of_event k b → j ≡ k
  same_event j k (at_start is) (at_start at) same = omega (arith, is, at)
  same_event j k (at_start is) (at_begin i known at) same = absurd (given-not_drawn deck.project.start 98 i can.start same)
  same_event j k (at_start is) (at_end i known at) same = absurd (given-not_drawn deck.project.start 101 i can.start same)
  same_event j k (at_start is) (at_last at) same = absurd (can.apart same)
  same_event j k (at_begin h knew is) (at_start at) same = absurd (given-not_drawn deck.project.start 98 h can.start (sym same))
  same_event j k (at_begin h knew is) (at_begin i known at) same = omega (arith, is, at, drawn_code-number 98 98 h i (small h knew) (small i known) same)
  same_event j k (at_begin h knew is) (at_end i known at) same = absurd (omega (arith, drawn_code-letter 98 101 h i same))
  same_event j k (at_begin h knew is) (at_last at) same = absurd (given-not_drawn deck.project.end 98 h can.end (sym same))
  same_event j k (at_end h knew is) (at_start at) same = absurd (given-not_drawn deck.project.start 101 h can.start (sym same))
  same_event j k (at_end h knew is) (at_begin i known at) same = absurd (omega (arith, drawn_code-letter 101 98 h i same))
  same_event j k (at_end h knew is) (at_end i known at) same = omega (arith, is, at, drawn_code-number 101 101 h i (small h knew) (small i known) same)
  same_event j k (at_end h knew is) (at_last at) same = absurd (given-not_drawn deck.project.end 101 h can.end (sym same))
  same_event j k (at_last is) (at_start at) same = absurd (can.apart (sym same))
  same_event j k (at_last is) (at_begin i known at) same = absurd (given-not_drawn deck.project.end 98 i can.end same)
  same_event j k (at_last is) (at_end i known at) same = absurd (given-not_drawn deck.project.end 101 i can.end same)
  same_event j k (at_last is) (at_last at) same = omega (arith, is, at)

  events-once : IsNamedOnce all
  events-once j k before inside same =
      let below_k : k < 2 * n + 2 = omega (arith, length-all, inside) in
      let below_j : j < 2 * n + 2 = omega (arith, below_k, before) in
      let one = same_event j k (event_of n j below_j) (event_of n k below_k) (sym (code_is j (event_of n j below_j)) ∙ (same ∙ code_is k (event_of n k below_k))) in
      omega (arith, one, before)

  -- no two events have one code
  pub events-differ : IsNamedOnce (event_codes (arrows_deck deck))
  events-differ j k before inside same =
      let within : k < length all = omega (arith, inside, ap length events-are) in
      events-once j k before within (sym (ap (λ codes. text_at codes j) events-are) ∙ (same ∙ ap (λ codes. text_at codes k) events-are))

  -- the place of an event by its code
  place : (e : ℕ) (event : IsEvent n e) → e < 2 * n + 2 → named_among (event_codes (arrows_deck deck)) (code_of_event e event) ≡ Some e
  place e event inside =
      ap (λ codes. named_among codes (code_of_event e event)) events-are
      ∙ only_place-is (code_of_event e event) all e events-once (omega (arith, length-all, inside)) (code_is e event)

  pub named-start : named_among (event_codes (arrows_deck deck)) deck.project.start ≡ Some 0
  named-start = place 0 (at_start refl) (omega arith)

  pub named-begin : (i : ℕ) → i < n → named_among (event_codes (arrows_deck deck)) (begin_code i) ≡ Some (begin_event i)
  named-begin i known = place (begin_event i) (at_begin i known refl) (omega arith)

  pub named-end : (i : ℕ) → i < n → named_among (event_codes (arrows_deck deck)) (end_code i) ≡ Some (end_event i)
  named-end i known = place (end_event i) (at_end i known refl) (omega arith)

  pub named-last : named_among (event_codes (arrows_deck deck)) deck.project.end ≡ Some (last_event n)
  named-last = place (last_event n) (at_last refl) (omega arith)

  -- and its number
  number : (e : ℕ) (event : IsEvent n e) → e < 2 * n + 2 → number_among (event_codes (arrows_deck deck)) (code_of_event e event) ≡ e
  number e event inside = ap (λ found. unwrap_or found (length (event_codes (arrows_deck deck)))) (place e event inside)

  pub number-start : number_among (event_codes (arrows_deck deck)) deck.project.start ≡ 0
  number-start = number 0 (at_start refl) (omega arith)

  pub number-begin : (i : ℕ) → i < n → number_among (event_codes (arrows_deck deck)) (begin_code i) ≡ begin_event i
  number-begin i known = number (begin_event i) (at_begin i known refl) (omega arith)

  pub number-end : (i : ℕ) → i < n → number_among (event_codes (arrows_deck deck)) (end_code i) ≡ end_event i
  number-end i known = number (end_event i) (at_end i known refl) (omega arith)

  pub number-last : number_among (event_codes (arrows_deck deck)) deck.project.end ≡ last_event n
  number-last = number (last_event n) (at_last refl) (omega arith)

  pub length-events : length (arrows_deck deck).events ≡ 2 * n + 2
  length-events = omega (arith, length-append (task_events 0 deck.tasks) (drawn_event deck.project.end ∷ []), length-task_events 0 deck.tasks)
