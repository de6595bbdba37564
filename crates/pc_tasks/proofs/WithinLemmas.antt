-- The deck that is drawn is within the limits of a plan.
use Rattle.std.proofs.Common.{◌≡◌, ℕ, ◌+◌, ◌^◌, ◌<◌, ◌≤◌, Bool, true, false, List, [], ◌∷◌, ◌++◌, length, map, get_or, Some, None, All, refl, sym, ◌∙◌, ap, subst, arith, cond}
use Rattle.std.specs.Prelude.{not, find, is_none, filter}
use Rattle.std.specs.List.{range_with_len}
use Rattle.std.proofs.lemmas.Bool.{and_parts}
use Rattle.std.proofs.lemmas.List.{get_or-map, length-append, length-map, map-append}
use Rattle.std.proofs.lemmas.List.Elements.{All-append, All-cons, All-head, All-nil, All-push, All-replicate, All-tail}
use Rattle.std.proofs.lemmas.List.Filters.{length-filter_both}
use Rattle.std.proofs.lemmas.List.FromFn.{get_or-range_with_len, length-range_with_len}
use Rattle.pc_tasks.specs.network.Arrows.{comes_after, comes_before, firsts, lasts}
use Rattle.pc_project.specs.declared.placed.AfterRow.{AfterRow}
use Rattle.pc_tasks.proofs.lemmas.network.Kept.{AreOnce-filter}
use Rattle.pc_cards.specs.Forms.{is_reserved}
use Rattle.pc_cards.specs.declared.sort.Sort.TheVariants.{Plan, Tasks}
use Rattle.pc_faults.specs.declared.kind.Kind.TheVariants.{Project, AsOf, Terms, Wbs, Event, Act, Task, After, Piece, Acct, Charge, ToGo, Status, Res, Load, End}
use Rattle.pc_model.specs.Codes.{text_at, IsNamedOnce}
use Rattle.pc_text.specs.Code.{is_code}
use Rattle.pc_deck.specs.Deck.{Deck, act_codes, item_codes, task_codes}
use Rattle.pc_deck.specs.Within.{IsFit, IsListWithin, IsWithin, IsWithinLimits}
use Rattle.pc_deck.proofs.SeenLemmas.{twice_mapped}
use Rattle.pc_deck.specs.declared.kinds.act.ActCard.{ActCard}
use Rattle.pc_deck.specs.declared.kinds.project.ProjectCard.{ProjectCard}
use Rattle.pc_deck.specs.declared.kinds.task.TaskCard.{TaskCard}
use Rattle.pc_deck.specs.declared.kinds.wbs.ItemCard.{ItemCard}
use Rattle.pc_tasks.specs.Codes.{after_code, drawn_code, links_code}
use Rattle.pc_tasks.specs.Drawn.{after_links, arrows_deck, drawn_event, first_link, last_link, links_item, drawn_links, task_acts, task_events, top_code, code_of_top}
use Rattle.pc_tasks.specs.Known.{CanBeDrawn, IsGiven}
use Rattle.pc_project.specs.After.{after_row}
use Rattle.pc_tasks.specs.Lists.{afters_in}
use Rattle.pc_tasks.proofs.EventLemmas as events
use Rattle.pc_tasks.proofs.CodeLemmas.{given-not_drawn}
use Rattle.pc_tasks.proofs.FitLemmas.{Given, event-fit, given-code, item-fit, links-fit, links_item-fit, project-fit, task_acts-fit, task_events-fit}
use Rattle.pc_tasks.proofs.NetworkLemmas.{firsts-below, lasts-below}
use Rattle.pc_tasks.proofs.OnceLemmas.{AreApart, apart-append, drawn-once, drawn_at, letters-apart, once-append, range-once}
use Rattle.pc_tasks.proofs.PieceLemmas.{acts-are}

-- a code that a card gives does not begin with `_`
pub given-is : (code : List ℕ) → Given code → IsGiven code
given-is code fit rest same =
    let no : not (is_reserved code) ≡ true = (and_parts (is_code code) (not (is_reserved code)) fit.0).1 in
    let yes : not (is_reserved code) ≡ not (is_reserved (95 ∷ rest)) = ap (λ c. not (is_reserved c)) same in
    cc

-- the codes of tasks and of items are given
task-given : (task : TaskCard) → IsFit Tasks Task task → Given task.code
task-given task (row, fields, is, fit, text) = subst Given (sym (ap (λ (t : TaskCard). t.code) is)) fit.0

item-given : (item : ItemCard) → IsFit Tasks Wbs item → Given item.code
item-given item (row, fields, is, fit, text) = subst Given (sym (ap (λ (i : ItemCard). i.code) is)) fit.0

start-given : (project : ProjectCard) → IsFit Tasks Project project → Given project.start
start-given project (row, fields, is, fit, text) = subst Given (sym (ap (λ (p : ProjectCard). p.start) is)) fit.1.0

end-given : (project : ProjectCard) → IsFit Tasks Project project → Given project.end
end-given project (row, fields, is, fit, text) = subst Given (sym (ap (λ (p : ProjectCard). p.end) is)) fit.1.1.0

-- what is found is one of those
found-code : (items : List ItemCard) → All (IsFit Tasks Wbs) items → (code : List ℕ) → code_of_top (find (λ item. is_none item.parent) items) ≡ Some code → is_code code ≡ true
found-code [] all code is = absurd cc
found-code (item ∷ items) all code is =
    by (is_none item.parent) is (found-code items (All-tail (IsFit Tasks Wbs) item items all) code)
  where
    by : (test : Bool) → code_of_top (cond test (Some item) (find (λ item. is_none item.parent) items)) ≡ Some code →
        (code_of_top (find (λ item. is_none item.parent) items) ≡ Some code → is_code code ≡ true) → is_code code ≡ true
    by true here go = let same : item.code ≡ code = cc in subst (λ c. is_code c ≡ true) same (given-code item.code (item-given item (All-head (IsFit Tasks Wbs) item items all)))
    by false there go = go there

-- the codes of the links
after-codes : (j : ℕ) (rows : List AfterRow) → map (λ (act : ActCard). act.code) (after_links j rows) ≡ map (drawn_code 97) (range_with_len j (length rows))
after-codes j [] = refl
after-codes j (row ∷ rows) = ap (λ rest. after_code j ∷ rest) (after-codes (j + 1) rows)

first-codes : (deck : Deck) (xs : List ℕ) → map (λ (act : ActCard). act.code) (map (first_link deck) xs) ≡ map (drawn_code 115) xs
first-codes deck xs = sym (twice_mapped (first_link deck) (λ (act : ActCard). act.code) (drawn_code 115) xs (λ i. refl))

last-codes : (deck : Deck) (xs : List ℕ) → map (λ (act : ActCard). act.code) (map (last_link deck) xs) ≡ map (drawn_code 116) xs
last-codes deck xs = sym (twice_mapped (last_link deck) (λ (act : ActCard). act.code) (drawn_code 116) xs (λ i. refl))

length-task_acts : (i : ℕ) (tasks : List TaskCard) → length (task_acts i tasks) ≡ length tasks
length-task_acts i [] = refl
length-task_acts i (task ∷ tasks) = omega (arith, length-task_acts (i + 1) tasks)

length-after_links : (j : ℕ) (rows : List AfterRow) → length (after_links j rows) ≡ length rows
length-after_links j [] = refl
length-after_links j (row ∷ rows) = omega (arith, length-after_links (j + 1) rows)

-- no more are kept than there are
kept-few : (p : ℕ → Bool) (n : ℕ) → length (filter p (range_with_len 0 n)) ≤ n
kept-few p n =
    omega (arith, length-filter_both p (λ x. not (p x)) (λ x. refl) (range_with_len 0 n), length-range_with_len 0 n)

module _ (deck : Deck) (within : IsWithin Tasks deck) where
  abbrev n : ℕ
  n = length deck.tasks

  abbrev rows : List AfterRow
  rows = afters_in deck

  abbrev heads : List ℕ
  heads = firsts n rows

  abbrev tails : List ℕ
  tails = lasts n rows

  project : IsFit Tasks Project deck.project
  project = All-head (IsFit Tasks Project) deck.project [] (within Project).fit

  pub few-tasks : n ≤ 4000
  few-tasks = omega (arith, (within Task).few)

  pub few-afters : length deck.afters ≤ 8000
  few-afters = omega (arith, (within After).few)

  few-rows : length rows ≤ 8000
  few-rows = omega (arith, few-afters, length-map deck.afters (after_row deck))

  start-is : Given deck.project.start
  start-is = start-given deck.project project

  end-is : Given deck.project.end
  end-is = end-given deck.project project

  -- the start and the end are given
  pub starts-given : IsGiven deck.project.start
  starts-given = given-is deck.project.start start-is

  pub ends-given : IsGiven deck.project.end
  ends-given = given-is deck.project.end end-is

  -- the code of each task, and of each item
  abbrev no_task : TaskCard
  no_task = record { row = 0; code = []; item = []; opt = 0; likely = 0; pess = 0; normal = 0; crash = 0; cost = 0; slope = 0; title = [] }

  task_code-given : (j : ℕ) → j < length (task_codes deck) → IsGiven (text_at (task_codes deck) j)
  task_code-given j inside =
      let below : j < n = omega (arith, inside, length-map deck.tasks (λ (task : TaskCard). task.code)) in
      let task = get_or deck.tasks j no_task in
      subst IsGiven (sym (get_or-map (λ (task : TaskCard). task.code) deck.tasks j no_task [] below)) (given-is task.code (task-given task ((within Task).fit j no_task below)))

  abbrev no_item : ItemCard
  no_item = record { row = 0; code = []; parent = None; title = [] }

  item_code-given : (j : ℕ) → j < length (item_codes deck) → IsGiven (text_at (item_codes deck) j)
  item_code-given j inside =
      let below : j < length deck.items = omega (arith, inside, length-map deck.items (λ (item : ItemCard). item.code)) in
      let item = get_or deck.items j no_item in
      subst IsGiven (sym (get_or-map (λ (item : ItemCard). item.code) deck.items j no_item [] below)) (given-is item.code (item-given item ((within Wbs).fit j no_item below)))

  -- the items and that of the links
  items-once : IsNamedOnce (map (λ (item : ItemCard). item.code) (deck.items ++ links_item deck ∷ []))
  items-once =
      subst IsNamedOnce (sym (map-append (λ (item : ItemCard). item.code) deck.items (links_item deck ∷ [])))
      (once-append (item_codes deck) (links_code ∷ []) ((within Wbs).differ refl) (λ j k before inside same. omega (arith, before, inside)) (λ j k j_in k_in same.
      let zero : k ≡ 0 = omega (arith, k_in) in
      let there : text_at (links_code ∷ []) k ≡ links_code = ap (text_at (links_code ∷ [])) zero in
      item_code-given j j_in _ (same ∙ there)))

  items-within : IsListWithin Plan Wbs 2 (deck.items ++ links_item deck ∷ [])
  items-within = record {
    few = omega (arith, (within Wbs).few, length-append deck.items (links_item deck ∷ []));
    fit = All-push (IsFit Plan Wbs) deck.items (links_item deck) (λ k d inside. item-fit (get_or deck.items k d) ((within Wbs).fit k d inside))
        (links_item-fit (top_code deck) (found-code deck.items (within Wbs).fit));
    differ = λ coded. items-once;
  }

  module _ (can : CanBeDrawn deck) where
    events-within : IsListWithin Plan Event 2 (arrows_deck deck).events
    events-within = record {
      few = omega (arith, events.length-events deck can, few-tasks);
      fit = All-cons (IsFit Plan Event) (drawn_event deck.project.start) (task_events 0 deck.tasks ++ drawn_event deck.project.end ∷ [])
          (event-fit deck.project.start (given-code deck.project.start start-is))
          (All-push (IsFit Plan Event) (task_events 0 deck.tasks) (drawn_event deck.project.end) (task_events-fit 0 deck.tasks (omega (arith, few-tasks)))
          (event-fit deck.project.end (given-code deck.project.end end-is)));
      differ = λ coded. events.events-differ deck can;
    }

    -- the codes of the links are drawn
    abbrev drawn_codes : List (List ℕ)
    drawn_codes = map (drawn_code 97) (range_with_len 0 (length rows)) ++ (map (drawn_code 115) heads ++ map (drawn_code 116) tails)

    abbrev code_of : ActCard → List ℕ
    code_of act = act.code

    links-codes : map code_of (drawn_links deck) ≡ drawn_codes
    links-codes =
        map-append code_of (after_links 0 rows) (map (first_link deck) heads ++ map (last_link deck) tails)
        ∙ (ap (λ front. front ++ map code_of (map (first_link deck) heads ++ map (last_link deck) tails)) (after-codes 0 rows)
        ∙ ap (λ back. map (drawn_code 97) (range_with_len 0 (length rows)) ++ back)
        (map-append code_of (map (first_link deck) heads) (map (last_link deck) tails)
        ∙ (ap (λ front. front ++ map code_of (map (last_link deck) tails)) (first-codes deck heads) ∙ ap (λ back. map (drawn_code 115) heads ++ back) (last-codes deck tails))))

    small : (xs : List ℕ) → All (λ i. i < n) xs → All (λ i. i < 2 ^ 32) xs
    small xs below k d inside = omega (arith, below k d inside, few-tasks)

    range-small : (m : ℕ) → m ≤ 8000 → All (λ i. i < 2 ^ 32) (range_with_len 0 m)
    range-small m few k d inside = omega (arith, get_or-range_with_len 0 m k d (omega (arith, inside, length-range_with_len 0 m)), inside, length-range_with_len 0 m)

    drawn_codes-once : IsNamedOnce drawn_codes
    drawn_codes-once =
        let a = map (drawn_code 97) (range_with_len 0 (length rows)) in
        let s = map (drawn_code 115) heads in
        let t = map (drawn_code 116) tails in
        once-append a (s ++ t) (drawn-once 97 (range_with_len 0 (length rows)) (range-once (length rows)) (range-small (length rows) few-rows))
        (once-append s t (drawn-once 115 heads (AreOnce-filter (λ i. not (comes_after rows i)) (range_with_len 0 n) (range-once n)) (small heads (firsts-below n rows)))
        (drawn-once 116 tails (AreOnce-filter (λ i. not (comes_before rows i)) (range_with_len 0 n) (range-once n)) (small tails (lasts-below n rows)))
        (letters-apart 115 116 heads tails (λ same. omega (arith, same))))
        (apart-append a s t (letters-apart 97 115 (range_with_len 0 (length rows)) heads (λ same. omega (arith, same)))
        (letters-apart 97 116 (range_with_len 0 (length rows)) tails (λ same. omega (arith, same))))

    -- none of them is that of a task
    task-drawn : (l : ℕ) (xs : List ℕ) → AreApart (task_codes deck) (map (drawn_code l) xs)
    task-drawn l xs j k j_in k_in same =
        let at = drawn_at l xs k (omega (arith, k_in, length-map xs (drawn_code l))) in
        given-not_drawn (text_at (task_codes deck) j) l _ (task_code-given j j_in) (same ∙ at)

    acts-once : IsNamedOnce (act_codes (arrows_deck deck))
    acts-once =
        subst IsNamedOnce (sym (acts-are deck ∙ ap (λ back. task_codes deck ++ back) links-codes))
        (once-append (task_codes deck) drawn_codes ((within Task).differ refl) drawn_codes-once
        (apart-append (task_codes deck) (map (drawn_code 97) (range_with_len 0 (length rows)))
        (map (drawn_code 115) heads ++ map (drawn_code 116) tails) (task-drawn 97 (range_with_len 0 (length rows)))
        (apart-append (task_codes deck) (map (drawn_code 115) heads) (map (drawn_code 116) tails) (task-drawn 115 heads) (task-drawn 116 tails))))

    length-links : length (drawn_links deck) ≡ length rows + (length heads + length tails)
    length-links =
        omega (
          arith,
          length-append (after_links 0 rows) (map (first_link deck) heads ++ map (last_link deck) tails),
          length-after_links 0 rows,
          length-append (map (first_link deck) heads) (map (last_link deck) tails),
          length-map heads (first_link deck),
          length-map tails (last_link deck),
        )

    acts-within : IsListWithin Plan Act 2 (arrows_deck deck).acts
    acts-within = record {
      few = omega (
        arith,
        length-append (task_acts 0 deck.tasks) (drawn_links deck),
        length-task_acts 0 deck.tasks,
        length-links,
        kept-few (λ i. not (comes_after rows i)) n,
        kept-few (λ i. not (comes_before rows i)) n,
        few-tasks,
        few-rows,
      );
      fit = All-append (IsFit Plan Act) (task_acts 0 deck.tasks) (drawn_links deck) (task_acts-fit 0 deck.tasks (omega (arith, few-tasks)) (within Task).fit)
          (links-fit deck few-tasks (given-code deck.project.start start-is) (given-code deck.project.end end-is) few-afters can.afters);
      differ = λ coded. acts-once;
    }

    pub drawn-within : IsWithinLimits (arrows_deck deck)
    drawn-within Project = record { few = tt; fit = All-replicate (IsFit Plan Project) 1 deck.project (project-fit deck.project project); differ = λ coded. absurd (let coded' = coded in cc) }
    drawn-within Wbs = items-within
    drawn-within Event = events-within
    drawn-within Act = acts-within
    drawn-within Task = record { few = omega arith; fit = All-nil (IsFit Plan Task); differ = λ coded j k before inside same. omega (arith, inside) }
    drawn-within After = record { few = omega arith; fit = All-nil (IsFit Plan After); differ = λ coded. absurd (let coded' = coded in cc) }
    drawn-within AsOf = record { few = (within AsOf).few; fit = (within AsOf).fit; differ = (within AsOf).differ }
    drawn-within Terms = record { few = (within Terms).few; fit = (within Terms).fit; differ = (within Terms).differ }
    drawn-within Piece = record { few = (within Piece).few; fit = (within Piece).fit; differ = (within Piece).differ }
    drawn-within Acct = record { few = (within Acct).few; fit = (within Acct).fit; differ = (within Acct).differ }
    drawn-within Charge = record { few = (within Charge).few; fit = (within Charge).fit; differ = (within Charge).differ }
    drawn-within ToGo = record { few = (within ToGo).few; fit = (within ToGo).fit; differ = (within ToGo).differ }
    drawn-within Status = record { few = (within Status).few; fit = (within Status).fit; differ = (within Status).differ }
    drawn-within Res = record { few = (within Res).few; fit = (within Res).fit; differ = (within Res).differ }
    drawn-within Load = record { few = (within Load).few; fit = (within Load).fit; differ = (within Load).differ }
    drawn-within End = record { few = (within End).few; fit = (within End).fit; differ = (within End).differ }
