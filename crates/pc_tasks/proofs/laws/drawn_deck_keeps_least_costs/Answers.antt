use Rattle.std.proofs.Common.{ℕ, List, length, sym, subst}
use Rattle.pc_model.specs.Cost.{IsLeastCost}
use Rattle.pc_model.specs.Network.{Network}
use Rattle.pc_model.specs.Pieces.{knees_of}
use Rattle.pc_model.specs.Schedule.{HasSchedule}
use Rattle.pc_model.specs.declared.PieceRow.{PieceRow}
use Rattle.pc_model.specs.declared.Term.{Term}
use Rattle.pc_tasks.specs.network.Arrows.{arrow_terms, arrows}
use Rattle.pc_project.specs.Project.{network_of, pieces_in, terms_in}
use Rattle.pc_deck.specs.Deck.{Deck}
use Rattle.pc_tasks.specs.Drawn.{arrows_deck}
use Rattle.pc_tasks.specs.Known.{CanBeDrawn}
use Rattle.pc_tasks.specs.Lists.{afters_in, task_pieces, task_terms}
use Rattle.pc_tasks.proofs.DrawnLemmas.{afters-among, network-arrows, pieces-known}
use Rattle.pc_tasks.proofs.PieceLemmas.{pieces-are}
use Rattle.pc_tasks.proofs.TermLemmas.{terms-are}
use Rattle.pc_tasks.proofs.laws.drawn_deck_keeps_least_costs.Goals as goal

-- what holds of the arrows of the tasks holds of the deck that is drawn, and the other way round
module _ (deck : Deck) (can : CanBeDrawn deck) where
  abbrev net : Network
  net = arrows (length (task_terms deck)) (afters_in deck)

  abbrev terms : List Term
  terms = arrow_terms (task_terms deck) (afters_in deck)

  module _ (limit : ℕ) where
    drawn_schedule : HasSchedule net terms limit → HasSchedule (network_of (arrows_deck deck)) (terms_in (arrows_deck deck)) limit
    drawn_schedule has =
        subst (λ n. HasSchedule n (terms_in (arrows_deck deck)) limit) (sym (network-arrows deck can)) (subst (λ t. HasSchedule net t limit) (sym (terms-are deck)) has)

    schedule_drawn : HasSchedule (network_of (arrows_deck deck)) (terms_in (arrows_deck deck)) limit → HasSchedule net terms limit
    schedule_drawn has =
        subst (λ t. HasSchedule net t limit) (terms-are deck) (subst (λ n. HasSchedule n (terms_in (arrows_deck deck)) limit) (network-arrows deck can) has)

    abbrev Least : Network → List Term → List PieceRow → ℕ → Type 0
    Least n t p cost = IsLeastCost n t (knees_of t p) limit cost

    drawn_cost : (cost : ℕ) → Least net terms (task_pieces deck) cost → Least (network_of (arrows_deck deck)) (terms_in (arrows_deck deck)) (pieces_in (arrows_deck deck)) cost
    drawn_cost cost least =
        subst (λ n. Least n (terms_in (arrows_deck deck)) (pieces_in (arrows_deck deck)) cost) (sym (network-arrows deck can))
        (subst (λ t. Least net t (pieces_in (arrows_deck deck)) cost) (sym (terms-are deck)) (subst (λ p. Least net terms p cost) (sym (pieces-are deck can)) least))

    cost_drawn : (cost : ℕ) → Least (network_of (arrows_deck deck)) (terms_in (arrows_deck deck)) (pieces_in (arrows_deck deck)) cost → Least net terms (task_pieces deck) cost
    cost_drawn cost least =
        subst (λ p. Least net terms p cost) (pieces-are deck can)
        (subst (λ t. Least net t (pieces_in (arrows_deck deck)) cost) (terms-are deck) (subst (λ n. Least n (terms_in (arrows_deck deck)) (pieces_in (arrows_deck deck)) cost)
        (network-arrows deck can) least))

pub returns-clause-schedules : goal.returns-clause-schedules
returns-clause-schedules c deck limit can acyclic = (
  (λ has. drawn_schedule deck can limit (c.arrows_keep_schedules.ensures.drawn (task_terms deck) (afters_in deck) limit (afters-among deck can) has)),
  (λ has. c.arrows_keep_schedules.ensures.read (task_terms deck) (afters_in deck) limit (afters-among deck can) acyclic (schedule_drawn deck can limit has)),
)

pub returns-clause-costs : goal.returns-clause-costs
returns-clause-costs c deck limit cost can acyclic = (
  (λ least. drawn_cost deck can limit cost
      (c.arrows_keep_least_costs.ensures.drawn (task_terms deck) (task_pieces deck) (afters_in deck) limit cost (afters-among deck can)
      (pieces-known deck can) acyclic least)),
  (λ least. c.arrows_keep_least_costs.ensures.read (task_terms deck) (task_pieces deck) (afters_in deck) limit cost (afters-among deck can)
      (pieces-known deck can) acyclic (cost_drawn deck can limit cost least)),
)
