-- When the events of the arrows occur in a schedule of the tasks.
use Rattle.std.proofs.Common.{◌≡◌, ℕ, zero, suc, ◌+◌, ◌*◌, ◌<◌, ◌==◌, refl, ◌∙◌, ap, arith}
use Rattle.std.specs.Prelude.{if◌then◌else◌}
use Rattle.std.proofs.lemmas.Bool.{eq-eqb, ne_eqb, cond-true, cond-false}
use Rattle.pc_tasks.specs.network.Arrows.{begin_event, end_event, last_event}

-- of the events between the start and the end, two for each task: when it begins, and its duration later
abbrev pub task_time : (ℕ → ℕ) → (ℕ → ℕ) → ℕ → ℕ
task_time begins durations zero = begins zero
task_time begins durations (suc zero) = begins zero + durations zero
task_time begins durations (suc (suc e)) = task_time (λ i. begins (suc i)) (λ i. durations (suc i)) e

-- of all events: the start at 0, the end at the limit
abbrev pub event_time : ℕ → ℕ → (ℕ → ℕ) → (ℕ → ℕ) → ℕ → ℕ
event_time n limit begins durations zero = 0
event_time n limit begins durations (suc e) = if e == 2 * n then limit else task_time begins durations e

task_time-begin : (begins durations : ℕ → ℕ) (i : ℕ) → task_time begins durations (2 * i) ≡ begins i
task_time-begin begins durations zero = refl
task_time-begin begins durations (suc i) =
    let next : 2 * suc i ≡ suc (suc (2 * i)) = omega arith in
    ap (task_time begins durations) next ∙ task_time-begin (λ k. begins (suc k)) (λ k. durations (suc k)) i

task_time-end : (begins durations : ℕ → ℕ) (i : ℕ) → task_time begins durations (suc (2 * i)) ≡ begins i + durations i
task_time-end begins durations zero = refl
task_time-end begins durations (suc i) =
    let next : suc (2 * suc i) ≡ suc (suc (suc (2 * i))) = omega arith in
    ap (task_time begins durations) next ∙ task_time-end (λ k. begins (suc k)) (λ k. durations (suc k)) i

pub at_begin : (n limit : ℕ) (begins durations : ℕ → ℕ) (i : ℕ) → i < n → event_time n limit begins durations (begin_event i) ≡ begins i
at_begin n limit begins durations i inside =
    let is : begin_event i ≡ suc (2 * i) = omega arith in
    ap (event_time n limit begins durations) is
    ∙ (cond-false (2 * i == 2 * n) limit (task_time begins durations (2 * i)) (ne_eqb (2 * i) (2 * n) (λ same. omega (arith, same)))
    ∙ task_time-begin begins durations i)

pub at_end : (n limit : ℕ) (begins durations : ℕ → ℕ) (i : ℕ) → i < n → event_time n limit begins durations (end_event i) ≡ begins i + durations i
at_end n limit begins durations i inside =
    let is : end_event i ≡ suc (suc (2 * i)) = omega arith in
    ap (event_time n limit begins durations) is
    ∙ (cond-false (suc (2 * i) == 2 * n) limit (task_time begins durations (suc (2 * i))) (ne_eqb (suc (2 * i)) (2 * n) (λ same. omega (arith, same)))
    ∙ task_time-end begins durations i)

pub at_last : (n limit : ℕ) (begins durations : ℕ → ℕ) → event_time n limit begins durations (last_event n) ≡ limit
at_last n limit begins durations =
    let is : last_event n ≡ suc (2 * n) = omega arith in
    ap (event_time n limit begins durations) is ∙ cond-true (2 * n == 2 * n) limit (task_time begins durations (2 * n)) (eq-eqb (2 * n) (2 * n) refl)
