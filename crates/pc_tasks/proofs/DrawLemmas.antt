-- What one more task or row appends to what is generated.
use Rattle.std.proofs.Common.{◌≡◌, ℕ, suc, ◌+◌, ◌<◌, ◌≤◌, List, [], ◌∷◌, ◌++◌, length, map, take, get_or, All, sym, ap, ◌∙◌, subst, arith, append_assoc}
use Rattle.std.proofs.lemmas.List.{length-take-le, take_more}
use Rattle.pc_tasks.specs.network.Arrows.{firsts, lasts}
use Rattle.pc_tasks.specs.network.Tasks.{AreAmong}
use Rattle.pc_project.specs.declared.placed.AfterRow.{AfterRow}
use Rattle.pc_deck.specs.Deck.{Deck}
use Rattle.pc_deck.specs.declared.kinds.act.ActCard.{ActCard}
use Rattle.pc_deck.specs.declared.kinds.titled.TitledCard.{TitledCard}
use Rattle.pc_deck.specs.declared.kinds.task.TaskCard.{TaskCard}
use Rattle.pc_tasks.specs.Codes.{after_code, begin_code, end_code}
use Rattle.pc_tasks.specs.Drawn.{after_links, drawn_event, first_link, last_link, link, drawn_links, task_act, task_acts, task_events}
use Rattle.pc_tasks.specs.Lists.{afters_in}
use Rattle.pc_tasks.proofs.NetworkLemmas.{firsts-below, lasts-below}

task_acts-push : (i : ℕ) (tasks : List TaskCard) (task : TaskCard) → task_acts i (tasks ++ task ∷ []) ≡ task_acts i tasks ++ task_act (i + length tasks) task ∷ []
task_acts-push i [] task = ap (λ k. task_act k task ∷ []) (let n : i ≡ i + 0 = omega arith in n)
task_acts-push i (first ∷ tasks) task =
    ap (λ rest. task_act i first ∷ rest)
    (task_acts-push (i + 1) tasks task
    ∙ ap (λ k. task_acts (i + 1) tasks ++ task_act k task ∷ []) (let n : i + 1 + length tasks ≡ i + suc (length tasks) = omega arith in
    n))

after_links-push : (j : ℕ) (rows : List AfterRow) (row : AfterRow) →
    after_links j (rows ++ row ∷ [])
    ≡ after_links j rows ++ link (after_code (j + length rows)) (end_code row.before) (begin_code row.task) ∷ []
after_links-push j [] row = ap (λ k. link (after_code k) (end_code row.before) (begin_code row.task) ∷ []) (let n : j ≡ j + 0 = omega arith in n)
after_links-push j (first ∷ rows) row =
    ap (λ rest. link (after_code j) (end_code first.before) (begin_code first.task) ∷ rest)
    (after_links-push (j + 1) rows row
    ∙ ap (λ k. after_links (j + 1) rows ++ link (after_code k) (end_code row.before) (begin_code row.task) ∷ [])
    (let n : j + 1 + length rows ≡ j + suc (length rows) = omega arith in n))

task_events-push : (i : ℕ) (tasks : List TaskCard) (task : TaskCard) →
    task_events i (tasks ++ task ∷ [])
    ≡ task_events i tasks ++ drawn_event (begin_code (i + length tasks)) ∷ drawn_event (end_code (i + length tasks)) ∷ []
task_events-push i [] task = ap (λ k. drawn_event (begin_code k) ∷ drawn_event (end_code k) ∷ []) (let n : i ≡ i + 0 = omega arith in n)
task_events-push i (first ∷ tasks) task =
    ap (λ rest. drawn_event (begin_code i) ∷ drawn_event (end_code i) ∷ rest)
    (task_events-push (i + 1) tasks task
    ∙ ap (λ k. task_events (i + 1) tasks ++ drawn_event (begin_code k) ∷ drawn_event (end_code k) ∷ [])
    (let n : i + 1 + length tasks ≡ i + suc (length tasks) = omega arith in n))

-- the activity of the next task
pub put_task : (tasks : List TaskCard) (front now : List ActCard) (i : ℕ) (task : TaskCard) (x : ActCard) → i < length tasks →
    task ≡ get_or tasks i task → now ≡ front ++ task_acts 0 (take i tasks) → x ≡ task_act i task →
    now ++ x ∷ [] ≡ front ++ task_acts 0 (take (i + 1) tasks)
put_task tasks front now i task x inside at is here =
    let n : 0 + length (take i tasks) ≡ i = omega (arith, length-take-le i tasks (omega arith)) in
    ap (λ xs. xs ++ x ∷ []) is
    ∙ (append_assoc front (task_acts 0 (take i tasks)) (x ∷ [])
    ∙ ap (λ back. front ++ back)
    (ap (λ y. task_acts 0 (take i tasks) ++ y ∷ []) (here ∙ (ap (task_act i) at ∙ ap (λ k. task_act k (get_or tasks i task)) (sym n)))
    ∙ (sym (task_acts-push 0 (take i tasks) (get_or tasks i task)) ∙ ap (task_acts 0) (sym (take_more tasks i task inside)))))

-- the link of the next row
pub put_row : (rows : List AfterRow) (front now : List ActCard) (j : ℕ) (d : AfterRow) (x : ActCard) → j < length rows →
    now ≡ front ++ after_links 0 (take j rows) →
    x ≡ link (after_code j) (end_code (get_or rows j d).before) (begin_code (get_or rows j d).task) →
    now ++ x ∷ [] ≡ front ++ after_links 0 (take (j + 1) rows)
put_row rows front now j d x inside is here =
    let n : 0 + length (take j rows) ≡ j = omega (arith, length-take-le j rows (omega arith)) in
    ap (λ xs. xs ++ x ∷ []) is
    ∙ (append_assoc front (after_links 0 (take j rows)) (x ∷ [])
    ∙ ap (λ back. front ++ back)
    (ap (λ y. after_links 0 (take j rows) ++ y ∷ []) (here ∙ ap (λ k. link (after_code k) (end_code (get_or rows j d).before) (begin_code (get_or rows j d).task)) (sym n))
    ∙ (sym (after_links-push 0 (take j rows) (get_or rows j d)) ∙ ap (after_links 0) (sym (take_more rows j d inside)))))

-- rows of fewer tasks are rows of more
pub wider : (n m : ℕ) (rows : List AfterRow) → n ≤ m → AreAmong n rows → AreAmong m rows
wider n m rows more among = record { task = λ j inside. omega (arith, more, among.task j inside); before = λ j inside. omega (arith, more, among.before j inside) }

-- and the tasks at the two ends are few
pub firsts-few : (n : ℕ) (rows : List AfterRow) (xs : List ℕ) → xs ≡ firsts n rows → n ≤ 4000 → All (λ i. i < 20000) xs
firsts-few n rows xs is few = subst (All (λ i. i < 20000)) (sym is) (λ k d inside. omega (arith, firsts-below n rows k d inside, few))

pub lasts-few : (n : ℕ) (rows : List AfterRow) (xs : List ℕ) → xs ≡ lasts n rows → n ≤ 4000 → All (λ i. i < 20000) xs
lasts-few n rows xs is few = subst (All (λ i. i < 20000)) (sym is) (λ k d inside. omega (arith, lasts-below n rows k d inside, few))

abbrev no_task : TaskCard
no_task = record { row = 0; code = []; item = []; opt = 0; likely = 0; pess = 0; normal = 0; crash = 0; cost = 0; slope = 0; title = [] }

-- the two events of the next task
pub put_events : (tasks : List TaskCard) (front now : List TitledCard) (i : ℕ) (begin end : TitledCard) → i < length tasks →
    now ≡ front ++ task_events 0 (take i tasks) → begin ≡ drawn_event (begin_code i) → end ≡ drawn_event (end_code i) →
    (now ++ begin ∷ []) ++ end ∷ [] ≡ front ++ task_events 0 (take (i + 1) tasks)
put_events tasks front now i begin end inside is begins ends =
    let n : 0 + length (take i tasks) ≡ i = omega (arith, length-take-le i tasks (omega arith)) in
    append_assoc now (begin ∷ []) (end ∷ [])
    ∙ (ap (λ xs. xs ++ begin ∷ end ∷ []) is
    ∙ (append_assoc front (task_events 0 (take i tasks)) (begin ∷ end ∷ [])
    ∙ ap (λ back. front ++ back)
    (ap (λ y. task_events 0 (take i tasks) ++ y ∷ end ∷ []) (begins ∙ ap (λ k. drawn_event (begin_code k)) (sym n))
    ∙ (ap (λ y. task_events 0 (take i tasks) ++ drawn_event (begin_code (0 + length (take i tasks))) ∷ y ∷ []) (ends ∙ ap (λ k. drawn_event (end_code k)) (sym n))
    ∙ (sym (task_events-push 0 (take i tasks) (get_or tasks i no_task)) ∙ ap (task_events 0) (sym (take_more tasks i no_task inside)))))))

-- the activities of the tasks and the links are all activities, where those at the two ends are the first and the last tasks
module _ (deck : Deck) (afters : List AfterRow) (n : ℕ) (heads tails : List ℕ) (all : n ≡ length deck.tasks) (rows : afters ≡ afters_in deck) where
  pub acts-put : heads ≡ firsts n afters → tails ≡ lasts n afters → (front items : List ActCard) → front ≡ [] →
      items ≡ front ++ (task_acts 0 deck.tasks ++ (after_links 0 afters ++ (map (first_link deck) heads ++ map (last_link deck) tails))) →
      items ≡ task_acts 0 deck.tasks ++ drawn_links deck
  acts-put first last front items none put =
      let h : heads ≡ firsts (length deck.tasks) (afters_in deck) = first ∙ (ap (λ m. firsts m afters) all ∙ ap (firsts (length deck.tasks)) rows) in
      let t : tails ≡ lasts (length deck.tasks) (afters_in deck) = last ∙ (ap (λ m. lasts m afters) all ∙ ap (lasts (length deck.tasks)) rows) in
      put
      ∙ (ap (λ xs. xs ++ (task_acts 0 deck.tasks ++ (after_links 0 afters ++ (map (first_link deck) heads ++ map (last_link deck) tails)))) none
      ∙ (ap (λ xs. task_acts 0 deck.tasks ++ (after_links 0 xs ++ (map (first_link deck) heads ++ map (last_link deck) tails))) rows
      ∙ (ap (λ xs. task_acts 0 deck.tasks ++ (after_links 0 (afters_in deck) ++ (map (first_link deck) xs ++ map (last_link deck) tails))) h
      ∙ ap (λ xs. task_acts 0 deck.tasks
      ++ (after_links 0 (afters_in deck) ++ (map (first_link deck) (firsts (length deck.tasks) (afters_in deck)) ++ map (last_link deck) xs))) t)))
