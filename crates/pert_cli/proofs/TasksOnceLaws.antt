-- A deck of tasks that was read is refused with one fault.
use Rattle.std.proofs.Common.{◌≡◌, ℕ, ◌+◌, ◌<◌, ◌≤◌, Bool, true, false, List, [], ◌∷◌, ◌++◌}
use Rattle.std.proofs.Common.{length, map, Option, Some, None, All, Result, Ok, Err, if◌then◌else◌, ◌⊎◌, inl, inr, refl, sym, ap, ◌∙◌, subst, arith}
use Rattle.std.specs.Prelude.{slice_index}
use Rattle.std.proofs.lemmas.List.Elements.{All-append, All-cons, All-head, All-nil, All-tail, All-weaker}
use Rattle.pc_records.specs.Deck.{deck_records}
use Rattle.pc_cards.specs.Cards.{Numbered, deck_cards}
use Rattle.pc_cards.specs.declared.sort.Sort.{Sort}
use Rattle.pc_cards.specs.declared.sort.Sort.TheVariants.{Plan, Tasks}
use Rattle.pc_deck.specs.Deck.{Deck}
use Rattle.pc_deck.specs.Kinds.{CardOf, card_of}
use Rattle.pc_deck.specs.Read.{IsReadAs}
use Rattle.pc_deck.specs.Says.{Says}
use Rattle.pc_deck.specs.Within.{IsWithin}
use Rattle.pc_deck.specs.declared.draft.Draft.{Draft}
use Rattle.pc_deck.specs.declared.kinds.act.ActCard.{ActCard}
use Rattle.pc_deck.specs.declared.kinds.project.ProjectCard.{ProjectCard}
use Rattle.pc_deck.specs.declared.kinds.task.TaskCard.{TaskCard}
use Rattle.pc_deck.specs.inside.Judged.{judge}
use Rattle.pc_deck.specs.inside.Reading.{and_then, cards_of, closed_with, deck_with, no_cards, read_from, seen_in, with_card}
use Rattle.pc_deck.specs.inside.Within.{IsDraftWithin}
use Rattle.pc_deck.proofs.DeckLaws.{said_once}
use Rattle.pc_deck.proofs.NoFaultLaws.{no_fault}
use Rattle.pc_deck.proofs.ReadLemmas.{IsTextCard, deck_cards-text}
use Rattle.pc_deck.proofs.RefusalLemmas.{first_of-read}
use Rattle.pc_deck.proofs.SaysLemmas.{says_of-read}
use Rattle.pc_deck.proofs.WithinLemmas.{deck_within, next_within, no_cards_within}
use Rattle.pc_deck.specs.Misfit.{HasMisfit, HasNoMisfit}
use Rattle.pc_faults.specs.Faults as fault
use Rattle.pc_faults.specs.First.{IsFirstFault}
use Rattle.pc_faults.specs.declared.fault.Fault.{Fault}
use Rattle.pc_faults.specs.declared.kind.Kind.{Kind}
use Rattle.pc_faults.specs.declared.kind.Kind.TheVariants.{Acct, Task}
use Rattle.pc_project.specs.PackageFaults.{HasLeafFault, StandsOnBranch, of_account, of_act}
use Rattle.pc_project.specs.Project.{rows_of}
use Rattle.pc_project.specs.Refusal.{HasSoundPlan, IsRefusedWith, IsTreeFault}
use Rattle.pc_project.proofs.RefusalLaws.{no_tree}
use Rattle.pc_tasks.specs.Codes.{links_code}
use Rattle.pc_tasks.specs.Drawn.{after_links, arrows_deck, first_link, last_link, drawn_links, task_acts}
use Rattle.pc_tasks.specs.Lists.{afters_in}
use Rattle.pc_tasks.specs.Refusal.{HasLoneTop, HasNoTask, HasSoundItems, HasSoundTasks, IsCycleFault, IsTasksRefusedWith, task_records}
use Rattle.pc_tasks.specs.Refusal.{of_cards, of_cycle, of_none, of_plan, of_top, of_tree}
use Rattle.pc_project.specs.declared.placed.AfterRow.{AfterRow}
use Rattle.pc_tasks.specs.network.Arrows.{firsts, lasts}
use Rattle.pc_tasks.specs.network.Cycles.{IsTaskCycle, LiesOnTaskCycle}
use Rattle.pc_wbs.specs.Climb.{IsTree}
use Rattle.pert_cli.proofs.CardOnceLaws.{Rises}
use Rattle.pert_cli.proofs.FirstOnceLaws.{AreAlike, AreToldByPlace, alike, first_number_once, first_once, settled}
use Rattle.pert_cli.proofs.MisfitOnceLaws.{misfit_once}
use Rattle.pert_cli.proofs.PhaseOnceLaws.{refused_alike, tree_once}
use Rattle.pert_cli.proofs.RowsOnceLaws.{HasOwnRows, IsCardFault, IsNamed, IsSpelled, Stands, card_fault_once, list_spelled, own_rows, some_of_all, stands_behind}

-- ---- a deck that was read is within its limits

one_deck : (x y : Deck) → ◌≡◌ {A = Result Deck Fault} (Ok x) (Ok y) → x ≡ y
one_deck x y h = cc

within_closed : (draft : Draft) (end : ℕ) (deck : Deck) → IsDraftWithin draft → (project : Option ProjectCard) → draft.project ≡ project → closed_with draft end project ≡ Ok deck
    → IsWithin draft.sort deck
within_closed draft end deck within None is h = absurd (let h' = h in cc)
within_closed draft end deck within (Some project) is h = by_end draft.has_ended h
  where
    by_end : (ended : Bool) → (if ended then Ok (deck_with draft project) else Err (fault.no_end end)) ≡ Ok deck → IsWithin draft.sort deck
    by_end true h = subst (IsWithin draft.sort) (one_deck (deck_with draft project) deck h) (deck_within draft project is within)
    by_end false h = absurd (let h' = h in cc)

within_from : (cards : List Numbered) (draft : Draft) (end : ℕ) (deck : Deck) → All IsTextCard cards → IsDraftWithin draft → read_from draft end cards ≡ Ok deck → IsWithin draft.sort deck
within_from [] draft end deck text within h = within_closed draft end deck within draft.project refl h
within_from (card ∷ cards) draft end deck text within h =
    by_judgement (judge (seen_in draft) card.0 card.1) refl
    (λ kind judged more. within_from cards (with_card draft kind card.0 card.1) end deck (All-tail IsTextCard card cards text)
    (next_within draft kind card.0 card.1 (All-head IsTextCard card cards text) within judged) more)
    h
  where
    by_judgement : (judged : Result Kind Fault) → judge (seen_in draft) card.0 card.1 ≡ judged
        → ((kind : Kind) → judge (seen_in draft) card.0 card.1 ≡ Ok kind → read_from (with_card draft kind card.0 card.1) end cards ≡ Ok deck → IsWithin draft.sort deck)
        → and_then judged (λ kind. read_from (with_card draft kind card.0 card.1) end cards) ≡ Ok deck → IsWithin draft.sort deck
    by_judgement (Ok kind) is go h = go kind is h
    by_judgement (Err found) is go h = absurd (let h' = h in cc)

module _ (sort : Sort) (bytes : List ℕ) (deck : Deck) (read : IsReadAs sort bytes deck) where
  by_result : (result : Result Deck Fault) → cards_of sort bytes ≡ result → IsWithin sort deck
  by_result (Err found) is = absurd (no_fault sort bytes read.faultless found (first_of-read sort bytes found read.faultless.0 is).holds)
  by_result (Ok other) is =
      subst (IsWithin sort) (said_once (deck_cards bytes) other deck (says_of-read sort bytes other is) read.says)
      (within_from (deck_cards bytes) (no_cards sort) (length (deck_records bytes) + 1) other (deck_cards-text bytes read.faultless.0) (no_cards_within sort) is)

  pub within_read : IsWithin sort deck
  within_read = by_result (cards_of sort bytes) refl

-- ---- the activities of the generated plan

-- an activity that is generated from a TASK card, and one that is a link
abbrev IsTaskAct : List Numbered → ActCard → Type 0
IsTaskAct cards act = (c : Numbered) × Stands cards c × IsNamed Task c × (act.row ≡ c.0) × (act.item ≡ (card_of Task c.0 c.1).item)

abbrev IsLink : ActCard → Type 0
IsLink act = (act.row ≡ 0) × (act.item ≡ links_code)

abbrev IsDrawnAct : List Numbered → ActCard → Type 0
IsDrawnAct cards act = IsTaskAct cards act ⊎ IsLink act

task_acts-drawn : (cards : List Numbered) (i : ℕ) (tasks : List TaskCard) → All (IsSpelled cards Task) tasks → All (IsTaskAct cards) (task_acts i tasks)
task_acts-drawn cards i [] all = All-nil (IsTaskAct cards)
task_acts-drawn cards i (task ∷ tasks) all =
    let here = All-head (IsSpelled cards Task) task tasks all in
    All-cons (IsTaskAct cards) _ (task_acts (i + 1) tasks)
    (here.0, here.1, here.2, ap (λ (t : TaskCard). t.row) here.3, ap (λ (t : TaskCard). t.item) here.3)
    (task_acts-drawn cards (i + 1) tasks (All-tail (IsSpelled cards Task) task tasks all))

after_links-are : (j : ℕ) (rows : List AfterRow) → All IsLink (after_links j rows)
after_links-are j [] = All-nil IsLink
after_links-are j (row ∷ rows) = All-cons IsLink _ (after_links (j + 1) rows) (refl, refl) (after_links-are (j + 1) rows)

first_links-are : (deck : Deck) (tasks : List ℕ) → All IsLink (map (first_link deck) tasks)
first_links-are deck [] = All-nil IsLink
first_links-are deck (i ∷ tasks) = All-cons IsLink (first_link deck i) (map (first_link deck) tasks) (refl, refl) (first_links-are deck tasks)

last_links-are : (deck : Deck) (tasks : List ℕ) → All IsLink (map (last_link deck) tasks)
last_links-are deck [] = All-nil IsLink
last_links-are deck (i ∷ tasks) = All-cons IsLink (last_link deck i) (map (last_link deck) tasks) (refl, refl) (last_links-are deck tasks)

links-are : (deck : Deck) → All IsLink (drawn_links deck)
links-are deck =
    let first = map (first_link deck) (firsts (length deck.tasks) (afters_in deck)) in
    let last = map (last_link deck) (lasts (length deck.tasks) (afters_in deck)) in
    All-append IsLink (after_links 0 (afters_in deck)) (first ++ last) (after_links-are 0 (afters_in deck))
    (All-append IsLink first last (first_links-are deck (firsts (length deck.tasks) (afters_in deck))) (last_links-are deck (lasts (length deck.tasks) (afters_in deck))))

-- a fault of a card that is on an item, at the record of the card
abbrev OnItem : (kind : Kind) → CardOf kind → Fault → Type 0
OnItem Task card f = f ≡ fault.not_a_leaf card.row card.item
OnItem Acct card f = f ≡ fault.not_a_leaf card.row card.item
OnItem other card f = ⊥

abbrev item_told : Kind → Numbered → ℕ → Fault
item_told Task c n = fault.not_a_leaf c.0 (card_of Task c.0 c.1).item
item_told Acct c n = fault.not_a_leaf c.0 (card_of Acct c.0 c.1).item
item_told other c n = fault.no_top

item_is : (kind : Kind) (c : Numbered) (f : Fault) → OnItem kind (card_of kind c.0 c.1) f → f ≡ item_told kind c f.number
item_is Task c f h = h
item_is Acct c f h = h
item_is other c f h = absurd (let h' = h in h')

item_row : (kind : Kind) (c : Numbered) (f : Fault) → OnItem kind (card_of kind c.0 c.1) f → f.row ≡ c.0
item_row Task c f h = ap (λ (g : Fault). g.row) h
item_row Acct c f h = ap (λ (g : Fault). g.row) h
item_row other c f h = absurd (let h' = h in h')

module _ (cards : List Numbered) (deck : Deck) (rising : Rises 1 cards) (says : Says cards deck) where
  abbrev DrawnLeaf : Fault → Type 0
  DrawnLeaf f = IsCardFault cards deck rising says OnItem item_told item_is item_row f

  acts-drawn : All (IsDrawnAct cards) (arrows_deck deck).acts
  acts-drawn =
      All-append (IsDrawnAct cards) (task_acts 0 deck.tasks) (drawn_links deck)
      (All-weaker (IsTaskAct cards) (IsDrawnAct cards) (λ act h. inl h) (task_acts 0 deck.tasks) (task_acts-drawn cards 0 deck.tasks (list_spelled cards deck rising says Task)))
      (All-weaker IsLink (IsDrawnAct cards) (λ act h. inr h) (drawn_links deck) (links-are deck))

  of_drawn_act : (f : Fault) (act : ActCard) → f ≡ fault.not_a_leaf act.row act.item → IsDrawnAct cards act → DrawnLeaf f ⊎ (f ≡ fault.not_a_leaf 0 links_code)
  of_drawn_act f act is (inl (c, there, named, row, item)) =
      inl (Task, c, there, named, is ∙ (ap (λ (n : ℕ). fault.not_a_leaf n act.item) row ∙ ap (λ (code : List ℕ). fault.not_a_leaf c.0 code) item))
  of_drawn_act f act is (inr (row, item)) = inr (is ∙ (ap (λ (n : ℕ). fault.not_a_leaf n act.item) row ∙ ap (λ (code : List ℕ). fault.not_a_leaf 0 code) item))

  as_drawn_leaf : (f : Fault) → HasLeafFault (arrows_deck deck) f → DrawnLeaf f ⊎ (f ≡ fault.not_a_leaf 0 links_code)
  as_drawn_leaf f (of_act any) =
      let one = some_of_all (λ (act : ActCard). StandsOnBranch (arrows_deck deck) act.row act.item f) (IsDrawnAct cards) (arrows_deck deck).acts any acts-drawn in
      of_drawn_act f one.0 one.1.1 one.2
  as_drawn_leaf f (of_account any) =
      let one = some_of_all (λ (account : CardOf Acct). StandsOnBranch (arrows_deck deck) account.row account.item f) (IsSpelled cards Acct) deck.accounts
      any (list_spelled cards deck rising says Acct) in
      inl (Acct, one.2.0, one.2.1, one.2.2, subst (λ (account : CardOf Acct). OnItem Acct account f) one.2.3 one.1.1)

  behind_links : (f : Fault) → DrawnLeaf f → 1 ≤ f.row
  behind_links f (kind, c, there, named, h) = omega (arith, stands_behind 1 cards c rising there, item_row kind c f h)

  leaves_told : (f g : Fault) → DrawnLeaf f ⊎ (f ≡ fault.not_a_leaf 0 links_code) → DrawnLeaf g ⊎ (g ≡ fault.not_a_leaf 0 links_code) → f.row ≡ g.row → f.number ≡ g.number → f ≡ g
  leaves_told f g (inl x) (inl y) row number = card_fault_once cards deck rising says OnItem item_told item_is item_row f g x y row number
  leaves_told f g (inl x) (inr y) row number = absurd (omega (arith, behind_links f x, row, ap (λ (h : Fault). h.row) y))
  leaves_told f g (inr x) (inl y) row number = absurd (omega (arith, behind_links g y, row, ap (λ (h : Fault). h.row) x))
  leaves_told f g (inr x) (inr y) row number = x ∙ sym y

  drawn_leaf_told : AreToldByPlace (HasLeafFault (arrows_deck deck))
  drawn_leaf_told f g x y row number = leaves_told f g (as_drawn_leaf f x) (as_drawn_leaf g y) row number

  -- the cards with the records in question are the same
  drawn_rows : HasOwnRows (arrows_deck deck)
  drawn_rows = let own = own_rows cards deck rising says in record { statuses = own.statuses; pieces = own.pieces; as_of = own.as_of }

  -- ---- phase by phase

  cycles_alike : (f g : Fault) → IsCycleFault deck f → IsCycleFault deck g → AreAlike f g
  cycles_alike f g (cycle, (first, is)) (other, (also, told)) =
      let same : slice_index cycle 0 ≡ slice_index other 0 = first_number_once (LiesOnTaskCycle (afters_in deck)) (slice_index cycle 0) (slice_index other 0) first.first also.first in
      let number : f.number ≡ 38 = ap (λ (h : Fault). h.number) is in
      record {
        row = ap (λ (h : Fault). h.row) is ∙ (ap (λ (a : ℕ). slice_index (task_records deck) a) same ∙ sym (ap (λ (h : Fault). h.row) told));
        number = number ∙ sym (ap (λ (h : Fault). h.number) told);
        all = λ no_cycle other_number. absurd (other_number number);
      }

  abbrev FromPlan : Fault → Type 0
  FromPlan f = HasSoundTasks deck × IsRefusedWith (arrows_deck deck) f

  abbrev HasNoCycle : Type 0
  HasNoCycle = (tasks : List ℕ) → IsTaskCycle (afters_in deck) tasks → ⊥

  abbrev FromCycle : Fault → Type 0
  FromCycle f = IsCycleFault deck f ⊎ (HasNoCycle × FromPlan f)

  abbrev FromNone : Fault → Type 0
  FromNone f = HasNoTask deck f ⊎ ((0 < length deck.tasks) × FromCycle f)

  abbrev HasBranch : Type 0
  HasBranch = (f : Fault) → HasLoneTop deck f → ⊥

  abbrev FromTop : Fault → Type 0
  FromTop f = HasLoneTop deck f ⊎ (HasBranch × FromNone f)

  abbrev FromTree : Fault → Type 0
  FromTree f = IsTreeFault deck.items (rows_of deck) f ⊎ (IsTree (rows_of deck) × FromTop f)

  abbrev FromCards : Fault → Type 0
  FromCards f = IsFirstFault (HasMisfit Tasks deck) f ⊎ (HasNoMisfit Tasks deck × FromTree f)

  behind_items : (f : Fault) → HasSoundItems deck → FromNone f → FromCards f
  behind_items f items rest = inr (items.cards, inr (items.tree, inr (items.branch, rest)))

  phases : (f : Fault) → IsTasksRefusedWith deck f → FromCards f
  phases f (of_cards first) = inl first
  phases f (of_tree known at) = inr (known, inl at)
  phases f (of_top known items lone) = inr (known, inr (items, inl lone))
  phases f (of_none items none) = behind_items f items (inl none)
  phases f (of_cycle items some cycle) = behind_items f items (inr (some, inl cycle))
  phases f (of_plan sound refused) = behind_items f sound.items (inr (sound.some, inr (sound.no_cycle, (sound, refused))))

  module _ (drawn_sound : HasSoundTasks deck → HasSoundPlan (arrows_deck deck)) where
    from_plan : (f g : Fault) → FromPlan f → FromPlan g → AreAlike f g
    from_plan f g (sound, x) (too, y) =
        let known = (drawn_sound sound).cards in
        let misfits : AreToldByPlace (HasMisfit Plan (arrows_deck deck)) = λ h k has also row number. absurd (known h has) in
        refused_alike (arrows_deck deck) drawn_rows misfits drawn_leaf_told f g x y

    from_cycle : (f g : Fault) → FromCycle f → FromCycle g → AreAlike f g
    from_cycle = settled (IsCycleFault deck) FromPlan cycles_alike (λ f x none. none x.0 x.1.0.cycle) from_plan

    from_none : (f g : Fault) → FromNone f → FromNone g → AreAlike f g
    from_none =
        settled (HasNoTask deck) FromCycle (λ f g x y. alike f g (x.1 ∙ sym y.1)) (λ f x some. omega (arith, some, ap length x.0)) from_cycle

    from_top : (f g : Fault) → FromTop f → FromTop g → AreAlike f g
    from_top = settled (HasLoneTop deck) FromNone (λ f g x y. alike f g (x.1 ∙ sym y.1)) (λ f x none. none f x) from_none

    from_tree : (f g : Fault) → FromTree f → FromTree g → AreAlike f g
    from_tree =
        settled (IsTreeFault deck.items (rows_of deck)) FromTop (λ f g x y. alike f g (tree_once deck.items (rows_of deck) f g x y))
        (λ f x sound. no_tree deck.items (rows_of deck) f sound x) from_top

    from_cards : (f g : Fault) → FromCards f → FromCards g → AreAlike f g
    from_cards =
        settled (IsFirstFault (HasMisfit Tasks deck)) FromTree (λ f g x y. alike f g (first_once (HasMisfit Tasks deck) (misfit_once cards deck rising says Tasks) f g x y))
        (λ f x none. none f x.holds) from_tree

    -- the refusal of the deck is one fault
    pub tasks_alike : (f g : Fault) → IsTasksRefusedWith deck f → IsTasksRefusedWith deck g → AreAlike f g
    tasks_alike f g x y = from_cards f g (phases f x) (phases g y)
