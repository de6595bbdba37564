-- Verdicts on a deck of either sort: accepted, of one project, or refused with a fault that can be reported, and never
-- both.
use Rattle.std.proofs.Common.{◌≡◌, ℕ, ◌<◌, List, length, refl, sym, subst, arith}
use Rattle.pc_cards.specs.declared.sort.Sort.{Sort}
use Rattle.pc_cards.specs.declared.sort.Sort.TheVariants.{Plan, Tasks}
use Rattle.pc_deck.specs.Deck.{Deck}
use Rattle.pc_deck.specs.Limits.{longest_deck}
use Rattle.pc_deck.proofs.DeckLaws.{not_both_as as cards_not_refused, one_deck_as}
use Rattle.pc_deck.proofs.ToldLemmas.{told_of-refusal_as}
use Rattle.pc_faults.specs.inside.FaultText.{IsTold}
use Rattle.pc_faults.specs.Faults.{too_long as fault_too_long}
use Rattle.pc_faults.specs.declared.fault.Fault.{Fault}
use Rattle.pc_project.specs.Project.{Project}
use Rattle.pc_project.proofs.SoundLaws.{HasSoundParts, sound_parts}
use Rattle.pc_project.specs.shell.Verdict as plans
use Rattle.pc_project.proofs.lemmas.shell.VerdictLaws as plans_are
use Rattle.pc_tasks.specs.Drawn.{arrows_deck}
use Rattle.pc_tasks.specs.Refusal.{IsTasksRefusedWith}
use Rattle.pc_tasks.specs.Text.{IsDrawnProject}
use Rattle.pc_tasks.proofs.VerdictLaws.{arrows_not_refused, one_drawn_project, told_of-refused_tasks}
use Rattle.pert_cli.specs.Tasks.{IsAcceptedTasks, IsDrawnOf, IsTasksFault, card_refusal, tasks_refusal, too_long}
use Rattle.pert_cli.specs.Verdicts.{AcceptedAs, IsFaultAs, IsMadeAs, RefusedAs}

-- ---- decks of tasks

-- each fault of a deck of tasks can be reported
pub told_of-tasks : (bytes : List ℕ) (fault : Fault) → IsTasksFault bytes fault → IsTold fault
told_of-tasks bytes fault (too_long long is) = subst IsTold (sym is) refl
told_of-tasks bytes fault (card_refusal short refusal) = told_of-refusal_as Tasks bytes fault refusal
told_of-tasks bytes fault (tasks_refusal tasks short cards refused) = told_of-refused_tasks tasks fault refused

tasks_not_both : (bytes : List ℕ) (tasks : Deck) (fault : Fault) → IsAcceptedTasks bytes tasks → IsTasksFault bytes fault → ⊥
tasks_not_both bytes tasks fault accepted (too_long long is) = omega (arith, accepted.short, long)
tasks_not_both bytes tasks fault accepted (card_refusal short refusal) = cards_not_refused Tasks bytes tasks fault accepted.cards refusal
tasks_not_both bytes tasks fault accepted (tasks_refusal other short cards refused) =
    arrows_not_refused tasks fault accepted.makes (subst (λ d. IsTasksRefusedWith d fault) (one_deck_as Tasks bytes other tasks cards accepted.cards) refused)

one_drawn_of : (bytes : List ℕ) (project other : Project) → IsDrawnOf bytes project → IsDrawnOf bytes other → project ≡ other
one_drawn_of bytes project other is also =
    one_drawn_project is.tasks project other is.drawn
    (subst (λ d. IsDrawnProject d other) (one_deck_as Tasks bytes also.tasks is.tasks also.cards is.cards) also.drawn)

-- a deck from which a plan is generated is accepted
pub drawn_accepts : (bytes : List ℕ) (project : Project) (is : IsDrawnOf bytes project) → IsAcceptedTasks bytes is.tasks
drawn_accepts bytes project is = record { short = is.short; cards = is.cards; makes = is.drawn.makes }

-- ---- decks of a sort

-- one that is too long has F1
pub long_as : (sort : Sort) (bytes : List ℕ) (fault : Fault) → longest_deck < length bytes → fault ≡ fault_too_long → IsFaultAs sort bytes fault
long_as Plan bytes fault long is = plans.too_long long is
long_as Tasks bytes fault long is = too_long long is

-- a deck that has a project is accepted
pub accepts_as : (sort : Sort) (bytes : List ℕ) (project : Project) → IsMadeAs sort bytes project → AcceptedAs sort bytes
accepts_as Plan bytes project is = (is.deck, is.accepted)
accepts_as Tasks bytes project is = (is.tasks, drawn_accepts bytes project is)

-- one that is accepted has no fault
pub accepted_not_refused : (sort : Sort) (bytes : List ℕ) → AcceptedAs sort bytes → RefusedAs sort bytes → ⊥
accepted_not_refused Plan bytes accepted refused = plans_are.not_both bytes accepted.0 refused.0 accepted.1 refused.1
accepted_not_refused Tasks bytes accepted refused = tasks_not_both bytes accepted.0 refused.0 accepted.1 refused.1

-- and it is the deck of one project
pub one_project_as : (sort : Sort) (bytes : List ℕ) (project other : Project) → IsMadeAs sort bytes project → IsMadeAs sort bytes other → project ≡ other
one_project_as Plan bytes project other is also = plans_are.one_project bytes project other is also
one_project_as Tasks bytes project other is also = one_drawn_of bytes project other is also

-- whose parts are sound
pub parts_as : (sort : Sort) (bytes : List ℕ) (project : Project) → IsMadeAs sort bytes project → HasSoundParts project
parts_as Plan bytes project is = sound_parts is.deck project is.accepted.makes is.is
parts_as Tasks bytes project is = sound_parts (arrows_deck is.tasks) project is.drawn.makes.plan is.drawn.is
