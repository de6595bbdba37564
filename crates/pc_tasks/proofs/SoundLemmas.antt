-- The plan that is drawn of tasks without faults is sound: no card of it has a fault, its items are a tree, and its network is sound.
use Rattle.std.proofs.Common.{◌≡◌, ◌≢◌, ℕ, zero, suc, ◌+◌, ◌<◌, ◌≤◌, List, [], ◌∷◌, ◌++◌, length, map, get_or, Option, Some, None, inl, inr, refl, sym, ap, ◌∙◌, subst, arith}
use Rattle.std.specs.Prelude.{All, IsSome, find, is_none, option_and_then, unwrap_or}
use Rattle.std.proofs.lemmas.Bool.{cases_lt, false≢true}
use Rattle.std.proofs.lemmas.List.{get_or-map, get_or_push, length-append, length-map, map-append}
use Rattle.std.proofs.lemmas.List.Elements.{All-append, All-cons, All-head, All-nil, All-tail}
use Rattle.pc_tasks.specs.network.Arrows.{arrows, firsts, lasts}
use Rattle.pc_project.specs.declared.placed.AfterRow.{AfterRow}
use Rattle.pc_cards.specs.declared.sort.Sort.TheVariants.{Plan, Tasks}
use Rattle.pc_faults.specs.declared.fault.Fault.{Fault}
use Rattle.pc_faults.specs.declared.kind.Kind.{Kind}
use Rattle.pc_faults.specs.declared.kind.Kind.TheVariants.{Project, AsOf, Terms, Wbs, Event, Act, Task, Piece, Acct, Charge, ToGo, Status, Res, Load, End}
use Rattle.pc_deck.specs.Deck.{Deck, act_codes, event_codes, item_codes, list_of, named_among, number_among, task_codes}
use Rattle.pc_deck.specs.Durations.{crash_above, unordered}
use Rattle.pc_deck.specs.Kinds.{further_kinds, kinds_of}
use Rattle.pc_deck.specs.Misfit.{AreKnownNames, HasCardMisfit, HasNoMisfit}
use Rattle.pc_deck.specs.inside.Misfit.{names_of}
use Rattle.pc_deck.specs.Wbs.{names_parent}
use Rattle.pc_deck.specs.Within.{IsWithin}
use Rattle.pc_deck.specs.declared.kinds.act.ActCard.{ActCard}
use Rattle.pc_deck.specs.declared.kinds.task.TaskCard.{TaskCard}
use Rattle.pc_deck.specs.declared.kinds.wbs.ItemCard.{ItemCard}
use Rattle.pc_deck.proofs.MisfitLaws.{Any-at, all_named, at_accounts, at_charges, at_items, at_loads, at_pieces, at_statuses, at_tasks, at_togos, no_fault_of, there_unless}
use Rattle.pc_model.specs.Codes.{IsNamedOnce, text_at}
use Rattle.pc_model.specs.Network.{IsSound}
use Rattle.pc_project.specs.Makes.{IsSoundAct}
use Rattle.pc_project.specs.Project.{row_of, rows_of}
use Rattle.pc_project.specs.Refusal.{HasSoundPlan}
use Rattle.pc_project.proofs.MakesLaws.{no_misfit}
use Rattle.pc_tasks.specs.Codes.{begin_code, end_code, links_code}
use Rattle.pc_tasks.specs.Drawn.{after_links, code_of_top, arrows_deck, first_link, last_link, link, links_item, drawn_links, task_act, task_acts, top_code}
use Rattle.pc_tasks.specs.Known.{CanBeDrawn}
use Rattle.pc_tasks.specs.Lists.{afters_in}
use Rattle.pc_tasks.proofs.CodeLemmas.{drawn_code-letter, given-not_drawn}
use Rattle.pc_tasks.proofs.EventLemmas as events
use Rattle.pc_tasks.proofs.KnownLemmas.{can_be_drawn, rows-in_range}
use Rattle.pc_tasks.proofs.NetworkLemmas.{IsRow, firsts-below, lasts-below, network-is, rows-known}
use Rattle.pc_tasks.proofs.PieceLemmas.{task-named}
use Rattle.pc_tasks.proofs.PlaceLemmas.{found-before, found-there, only_place-is}
use Rattle.pc_tasks.proofs.TreeLemmas.{below, tree-more}
use Rattle.pc_wbs.specs.Climb.{IsOnlyTop, IsTree, parent_of}
use Rattle.pc_wbs.specs.declared.tree.ItemRow.{ItemRow}

-- ---- lists

found : (o : Option ℕ) (i : ℕ) → o ≡ Some i → IsSome o
found None i is = absurd cc
found (Some j) i is = refl

-- ---- the top

-- the place of the first item without a parent, where there is one
abbrev IsFirstTop : List ItemCard → ItemCard → ℕ → Type 0
IsFirstTop items d j = (j < length items) × (((get_or items j d).parent ≡ None) × (code_of_top (find (λ item. is_none item.parent) items) ≡ Some (get_or items j d).code))

find_top : (items : List ItemCard) (k : ℕ) (d : ItemCard) → k < length items → (get_or items k d).parent ≡ None → (j : ℕ) × IsFirstTop items d j
find_top [] k d inside none = absurd (omega (arith, inside))
find_top (item ∷ items) k d inside none = by item.parent refl k inside none (λ m less at. find_top items m d less at)
  where
    by : (parent : Option (List ℕ)) → item.parent ≡ parent → (k : ℕ) → k < length (item ∷ items) → (get_or (item ∷ items) k d).parent ≡ None
        → ((m : ℕ) → m < length items → (get_or items m d).parent ≡ None → (j : ℕ) × IsFirstTop items d j) → (j : ℕ) × IsFirstTop (item ∷ items) d j
    by None at k inside none later = (0, (omega arith, (at, rw at refl)))
    by (Some code) at zero inside none later = absurd (let both : None ≡ Some code = sym none ∙ at in cc)
    by (Some code) at (suc k) inside none later =
        let (j, (within, (top, is))) = later k (omega (arith, inside)) none in
        (suc j, (omega (arith, within), (top, rw at is)))

abbrev no_item : ItemCard
no_item = record { row = 0; code = []; parent = None; title = [] }

no_parent : (f : List ℕ → ℕ) (parent : Option (List ℕ)) → option_and_then (λ code. Some (f code)) parent ≡ None → parent ≡ None
no_parent f None none = refl
no_parent f (Some code) none = absurd cc

-- ---- the plan

module _ (deck : Deck) (within : IsWithin Tasks deck) (none : HasNoMisfit Tasks deck) where
  abbrev can : CanBeDrawn deck
  can = can_be_drawn deck none within

  abbrev items : List (List ℕ)
  items = item_codes deck

  items-are : item_codes (arrows_deck deck) ≡ items ++ links_code ∷ []
  items-are = map-append (λ (item : ItemCard). item.code) deck.items (links_item deck ∷ [])

  -- an item is found at its own place
  item-named : (code : List ℕ) → IsSome (named_among items code) → named_among (item_codes (arrows_deck deck)) code ≡ named_among items code
  item-named code known = ap (λ codes. named_among codes code) items-are ∙ found-before code items (links_code ∷ []) known

  item-found : (code : List ℕ) → IsSome (named_among items code) → IsSome (named_among (item_codes (arrows_deck deck)) code)
  item-found code known = subst IsSome (sym (item-named code known)) known

  links-found : IsSome (named_among (item_codes (arrows_deck deck)) links_code)
  links-found =
      found-there links_code (item_codes (arrows_deck deck)) (length items) (omega (arith, ap length items-are, length-append items (links_code ∷ [])))
      (ap (λ codes. text_at codes (length items)) items-are ∙ get_or_push items links_code [] (length items) refl)

  -- what an activity that is drawn names is there, and its numbers are in order
  abbrev plan : Deck
  plan = arrows_deck deck

  abbrev IsSoundDrawn : ActCard → Type 0
  IsSoundDrawn act = AreKnownNames plan (names_of Plan Act act) × IsSoundAct act

  abbrev n : ℕ
  n = length deck.tasks

  abbrev HasNoTaskFault : TaskCard → Type 0
  HasNoTaskFault task = (fault : Fault) → HasCardMisfit Tasks deck Task task fault → ⊥

  not_below : (a b : ℕ) → (a < b → ⊥) → b ≤ a
  not_below a b never_below = elim (cases_lt a b) [ inl less ↦ absurd (never_below less) | inr more ↦ more ]

  task-sound : (i : ℕ) (task : TaskCard) → i < n → HasNoTaskFault task → IsSoundDrawn (task_act i task)
  task-sound i task inside faultless = (
    (
      found _ _ (events.named-begin deck can i inside),
      (found _ _ (events.named-end deck can i inside), (item-found task.item (there_unless deck task.row (names_of Tasks Task task) (λ fault h. faultless fault (inl h))).0, tt)),
    ),
    record {
      apart = λ same. omega (arith, drawn_code-letter 98 101 i i same);
      ordered = record {
        optimistic = not_below task.likely task.opt (λ less. faultless _ (inr (unordered (λ o. omega (arith, less, o.optimistic)) refl)));
        pessimistic = not_below task.pess task.likely (λ less. faultless _ (inr (unordered (λ o. omega (arith, less, o.pessimistic)) refl)));
      };
      durations = not_below task.normal task.crash (λ above. faultless _ (inr (crash_above above refl)));
    },
  )

  tasks-sound : (i : ℕ) (tasks : List TaskCard) → i + length tasks ≤ n → All HasNoTaskFault tasks → All IsSoundDrawn (task_acts i tasks)
  tasks-sound i [] few all = All-nil IsSoundDrawn
  tasks-sound i (task ∷ tasks) few all =
      All-cons IsSoundDrawn (task_act i task) (task_acts (i + 1) tasks) (task-sound i task (omega (arith, few)) (All-head HasNoTaskFault task tasks all))
      (tasks-sound (i + 1) tasks (omega (arith, few)) (All-tail HasNoTaskFault task tasks all))

  link-sound : (code from to : List ℕ) → IsSome (named_among (event_codes plan) from) → IsSome (named_among (event_codes plan) to) → from ≢ to
      → IsSoundDrawn (link code from to)
  link-sound code from to begins ends apart = (
    (begins, (ends, (links-found, tt))),
    record { apart = apart; ordered = record { optimistic = omega arith; pessimistic = omega arith }; durations = omega arith },
  )

  afters-sound : (j : ℕ) (rows : List AfterRow) → All (IsRow n) rows → All IsSoundDrawn (after_links j rows)
  afters-sound j [] all = All-nil IsSoundDrawn
  afters-sound j (row ∷ rows) all =
      let (task, before) = All-head (IsRow n) row rows all in
      All-cons IsSoundDrawn _ (after_links (j + 1) rows)
      (link-sound _ (end_code row.before) (begin_code row.task) (found _ _ (events.named-end deck can row.before before)) (found _ _ (events.named-begin deck can row.task task))
      (λ same. omega (arith, drawn_code-letter 101 98 row.before row.task same)))
      (afters-sound (j + 1) rows (All-tail (IsRow n) row rows all))

  firsts-sound : (xs : List ℕ) → All (λ i. i < n) xs → All IsSoundDrawn (map (first_link deck) xs)
  firsts-sound [] all = All-nil IsSoundDrawn
  firsts-sound (i ∷ xs) all =
      All-cons IsSoundDrawn (first_link deck i) (map (first_link deck) xs)
      (link-sound _ deck.project.start (begin_code i) (found _ _ (events.named-start deck can)) (found _ _ (events.named-begin deck can i (All-head (λ i. i < n) i xs all)))
      (given-not_drawn deck.project.start 98 i can.start))
      (firsts-sound xs (All-tail (λ i. i < n) i xs all))

  lasts-sound : (xs : List ℕ) → All (λ i. i < n) xs → All IsSoundDrawn (map (last_link deck) xs)
  lasts-sound [] all = All-nil IsSoundDrawn
  lasts-sound (i ∷ xs) all =
      All-cons IsSoundDrawn (last_link deck i) (map (last_link deck) xs)
      (link-sound _ (end_code i) deck.project.end (found _ _ (events.named-end deck can i (All-head (λ i. i < n) i xs all))) (found _ _ (events.named-last deck can))
      (λ same. given-not_drawn deck.project.end 101 i can.end (sym same)))
      (lasts-sound xs (All-tail (λ i. i < n) i xs all))

  faultless-tasks : All HasNoTaskFault deck.tasks
  faultless-tasks = λ k d inside fault h.
      no_fault_of Tasks deck none at_tasks End (omega arith) fault (Any-at (λ task. HasCardMisfit Tasks deck Task task fault) deck.tasks k d inside h)

  acts-sound : All IsSoundDrawn plan.acts
  acts-sound =
      let rows = afters_in deck in
      All-append IsSoundDrawn (task_acts 0 deck.tasks) (drawn_links deck) (tasks-sound 0 deck.tasks (omega arith) faultless-tasks)
      (All-append IsSoundDrawn (after_links 0 rows) (map (first_link deck) (firsts n rows) ++ map (last_link deck) (lasts n rows))
      (afters-sound 0 rows (rows-known deck can.afters))
      (All-append IsSoundDrawn (map (first_link deck) (firsts n rows)) (map (last_link deck) (lasts n rows))
      (firsts-sound (firsts n rows) (firsts-below n rows)) (lasts-sound (lasts n rows) (lasts-below n rows))))

  -- a task is found among the activities
  act-found : (code : List ℕ) → IsSome (named_among (task_codes deck) code) → IsSome (named_among (act_codes (arrows_deck deck)) code)
  act-found code known = subst IsSome (sym (task-named deck code known)) known

  -- ---- the items

  module _ (tree : IsTree (rows_of deck)) where
    abbrev top : ℕ
    top = tree.top.0

    only : IsOnlyTop (rows_of deck) top
    only = tree.top.1

    count : length (rows_of deck) ≡ length deck.items
    count = length-map deck.items (row_of deck)

    row-at : (x : ℕ) → x < length deck.items → parent_of (rows_of deck) x ≡ (row_of deck (get_or deck.items x no_item)).parent
    row-at x inside = ap (λ (r : ItemRow). r.parent) (get_or-map (row_of deck) deck.items x no_item (record { parent = None }) inside)

    -- the item of the top, which is the first without a parent
    first_top : (j : ℕ) × ((j < length deck.items) × (((get_or deck.items j no_item).parent ≡ None) × (top_code deck ≡ Some (get_or deck.items j no_item).code)))
    first_top =
        let inside : top < length deck.items = omega (arith, only.is_top.0, count) in
        find_top deck.items top no_item inside (no_parent (number_among items) (get_or deck.items top no_item).parent (sym (row-at top inside) ∙ only.is_top.1))

    abbrev top_name : List ℕ
    top_name = (get_or deck.items first_top.0 no_item).code

    first_top-is : first_top.0 ≡ top
    first_top-is =
        only.only first_top.0 (omega (arith, first_top.1.0, count))
        (row-at first_top.0 first_top.1.0 ∙ ap (option_and_then (λ code. Some (number_among items code))) first_top.1.1.0)

    once : IsNamedOnce items
    once = (within Wbs).differ refl

    code-at : text_at items first_top.0 ≡ top_name
    code-at = get_or-map (λ (item : ItemCard). item.code) deck.items first_top.0 no_item [] first_top.1.0

    top-named : named_among items top_name ≡ Some top
    top-named = only_place-is top_name items first_top.0 once (omega (arith, first_top.1.0, length-map deck.items (λ (item : ItemCard). item.code))) code-at ∙ ap Some first_top-is

    -- the parents of items are items
    parent-there : (parent : Option (List ℕ)) → AreKnownNames deck (names_parent parent) → AreKnownNames plan (names_parent parent)
    parent-there None there = tt
    parent-there (Some code) there = (item-found code there.0, tt)

    abbrev HasParentThere : ItemCard → Type 0
    HasParentThere item = AreKnownNames plan (names_parent item.parent)

    items-there : All HasParentThere plan.items
    items-there =
        All-append HasParentThere deck.items (links_item deck ∷ [])
        (λ k d inside. parent-there (get_or deck.items k d).parent (all_named Tasks deck none at_items End (omega arith) k d inside))
        (All-cons HasParentThere (links_item deck) []
        (subst (λ parent. AreKnownNames plan (names_parent parent)) (sym first_top.1.1.1) (item-found top_name (found _ _ top-named), tt)) (All-nil HasParentThere))

    -- what each card of the plan names is there
    abbrev AreNamed : Kind → Type 0
    AreNamed kind = All (λ card. AreKnownNames plan (names_of Plan kind card)) (list_of plan kind)

    -- cards that name nothing
    nothing-named : {C : Type 0} (cards : List C) → All (λ card. Unit {0}) cards
    nothing-named cards = λ k d inside. tt

    named-further : All AreNamed further_kinds
    named-further =
        All-cons AreNamed Piece (Acct ∷ Charge ∷ ToGo ∷ Status ∷ Res ∷ Load ∷ End ∷ [])
        (λ k d inside. (act-found (get_or deck.pieces k d).activity (all_named Tasks deck none at_pieces End (omega arith) k d inside).0, tt))
        (All-cons AreNamed Acct (Charge ∷ ToGo ∷ Status ∷ Res ∷ Load ∷ End ∷ [])
        (λ k d inside. (item-found (get_or deck.accounts k d).item (all_named Tasks deck none at_accounts End (omega arith) k d inside).0, tt))
        (All-cons AreNamed Charge (ToGo ∷ Status ∷ Res ∷ Load ∷ End ∷ []) (λ k d inside. all_named Tasks deck none at_charges End (omega arith) k d inside)
        (All-cons AreNamed ToGo (Status ∷ Res ∷ Load ∷ End ∷ []) (λ k d inside. all_named Tasks deck none at_togos End (omega arith) k d inside)
        (All-cons AreNamed Status (Res ∷ Load ∷ End ∷ []) (λ k d inside. (act-found (get_or deck.statuses k d).activity (all_named Tasks deck none at_statuses End (omega arith) k d inside).0, tt))
        (All-cons AreNamed Res (Load ∷ End ∷ []) (nothing-named plan.resources)
        (All-cons AreNamed Load (End ∷ []) (λ k d inside.
        let there = all_named Tasks deck none at_loads End (omega arith) k d inside in
        (act-found (get_or deck.loads k d).activity there.0, there.1))
        (All-cons AreNamed End [] (nothing-named (list_of plan End)) (All-nil AreNamed))))))))

    all-named : All AreNamed (kinds_of Plan)
    all-named =
        All-cons AreNamed Project (AsOf ∷ Terms ∷ Wbs ∷ Event ∷ Act ∷ further_kinds) (λ k d inside. project-there k d inside)
        (All-cons AreNamed AsOf (Terms ∷ Wbs ∷ Event ∷ Act ∷ further_kinds) (nothing-named (list_of plan AsOf))
        (All-cons AreNamed Terms (Wbs ∷ Event ∷ Act ∷ further_kinds) (nothing-named (list_of plan Terms))
        (All-cons AreNamed Wbs (Event ∷ Act ∷ further_kinds) items-there
        (All-cons AreNamed Event (Act ∷ further_kinds) (nothing-named plan.events)
        (All-cons AreNamed Act further_kinds (λ k d inside. (acts-sound k d inside).0) named-further)))))
      where
        project-there : AreNamed Project
        project-there =
            All-cons (λ card. AreKnownNames plan (names_of Plan Project card)) plan.project []
            (found _ _ (events.named-start deck can), (found _ _ (events.named-last deck can), tt)) (All-nil (λ card. AreKnownNames plan (names_of Plan Project card)))

    -- the rows of the items, and the row of the links below the top
    default : (o : Option ℕ) (a b : ℕ) → IsSome o → unwrap_or o a ≡ unwrap_or o b
    default (Some i) a b known = refl
    default None a b known = absurd (false≢true known)

    same-number : (code : List ℕ) → IsSome (named_among items code) → number_among (item_codes (arrows_deck deck)) code ≡ number_among items code
    same-number code known =
        ap (λ o. unwrap_or o (length (item_codes (arrows_deck deck)))) (item-named code known)
        ∙ default (named_among items code) (length (item_codes (arrows_deck deck))) (length items) known

    same-parent : (parent : Option (List ℕ)) → AreKnownNames deck (names_parent parent)
        → option_and_then (λ code. Some (number_among (item_codes (arrows_deck deck)) code)) parent ≡ option_and_then (λ code. Some (number_among items code)) parent
    same-parent None known = refl
    same-parent (Some code) known = ap Some (same-number code known.0)

    abbrev HasKnownParent : ItemCard → Type 0
    HasKnownParent item = AreKnownNames deck (names_parent item.parent)

    same-rows : (cards : List ItemCard) → All HasKnownParent cards → map (row_of (arrows_deck deck)) cards ≡ map (row_of deck) cards
    same-rows [] all = refl
    same-rows (card ∷ cards) all =
        let row : Option ℕ → ItemRow = λ parent. record { parent = parent } in
        ap (λ p. row p ∷ map (row_of (arrows_deck deck)) cards) (same-parent card.parent (All-head HasKnownParent card cards all))
        ∙ ap (λ rest. row_of deck card ∷ rest) (same-rows cards (All-tail HasKnownParent card cards all))

    links-row : row_of (arrows_deck deck) (links_item deck) ≡ below top
    links-row =
        let row : Option ℕ → ItemRow = λ parent. record { parent = parent } in
        ap row (ap (option_and_then (λ code. Some (number_among (item_codes (arrows_deck deck)) code))) first_top.1.1.1
        ∙ ap Some (same-number top_name (found _ _ top-named) ∙ ap (λ o. unwrap_or o (length items)) top-named))

    rows-are : rows_of (arrows_deck deck) ≡ rows_of deck ++ below top ∷ []
    rows-are =
        map-append (row_of (arrows_deck deck)) deck.items (links_item deck ∷ [])
        ∙ (ap (λ front. front ++ row_of (arrows_deck deck) (links_item deck) ∷ []) (same-rows deck.items (all_named Tasks deck none at_items End (omega arith)))
        ∙ ap (λ r. rows_of deck ++ r ∷ []) links-row)

    drawn-tree : IsTree (rows_of (arrows_deck deck))
    drawn-tree = subst IsTree (sym rows-are) (tree-more (rows_of deck) top (rows-in_range deck none) only tree)

    pub drawn-sound : IsSound (arrows n (afters_in deck)) → HasSoundPlan plan
    drawn-sound sound = record {
      cards = no_misfit plan (record { named = all-named; apart = can.apart; acts = λ k d inside. (acts-sound k d inside).1 });
      tree = drawn-tree;
      sound = subst IsSound (sym (network-is deck can)) sound;
    }
