-- The numbers of a deck's project fit.
use Rattle.std.proofs.Common.{◌≡◌, ℕ, ◌<◌, [], length, get_or, None, refl, sym, ◌∙◌, ap, subst, arith}
use Rattle.std.proofs.lemmas.List.{length-map, get_or-map}
use Rattle.std.specs.List.{All}
use Rattle.circular_buffer.specs.Buffer.{Buffer, buffer}
use Rattle.pc_deck.specs.inside.Act.{IsActWithin}
use Rattle.pc_deck.specs.Deck.{Deck}
use Rattle.pc_deck.specs.declared.kinds.act.ActCard.{ActCard}
use Rattle.pc_deck.proofs.NumberLemmas.{acts-within}
use Rattle.pc_project.specs.declared.activity.Estimates.{Estimates}
use Rattle.pc_project.specs.Makes.{IsSoundAct}
use Rattle.pc_project.specs.Planned.{IsPlanned}
use Rattle.pc_project.specs.Project.{Project}
use Rattle.pc_project.specs.shell.Priced.{priced_in}
use Rattle.pc_whatif.specs.edits.Plans.{nth_estimates, estimates_in}
use Rattle.pc_whatif.specs.inside.edits.Plans.{AreEstimates}
use Rattle.pc_whatif.specs.declared.edits.KeptEdit.{KeptEdit}
use Rattle.pc_whatif.specs.declared.edits.Edits.TheInside.{Inside}
use Rattle.pc_whatif.specs.declared.edits.TheConstants.{MAX_KEPT}
use Rattle.pc_whatif.specs.edits.Editing.{begun}
use Rattle.pc_whatif.specs.inside.edits.Editing.{IsEditing}
use Rattle.pc_whatif.specs.inside.edits.Inside.{IsSoundEdits, editing_in, plans_back}

-- a card to read past the end of the cards, where no one looks
no_act : ActCard
no_act = record { row = 0; code = []; from = []; to = []; item = []; opt = 0; likely = 0; pess = 0; normal = 0; crash = 0; cost = 0; slope = 0; title = [] }

-- the estimates of a card
abbrev estimates_of : ActCard → Estimates
estimates_of card = record { optimistic = card.opt; likely = card.likely; pessimistic = card.pess }

-- they are in order, where the card is sound
in_order : (card : ActCard) → IsSoundAct card → IsActWithin card → AreEstimates (estimates_of card)
in_order card fit within = record { optimistic = fit.ordered.optimistic; pessimistic = fit.ordered.pessimistic; short = within.pess }

module _ (project : Project) (planned : IsPlanned project) where
  as_many : length project.deck.acts ≡ length project.network.arcs
  as_many =
      sym (ap (λ (p : Project). length p.network.arcs) planned.own.is.lists ∙ length-map project.deck.acts _)

  ordered : (a : ℕ) → a < length project.network.arcs → AreEstimates (nth_estimates (estimates_in project.deck) a)
  ordered a known =
      let inside : a < length project.deck.acts = omega (arith, known, as_many) in
      let card : ActCard = get_or project.deck.acts a no_act in
      subst AreEstimates (sym (get_or-map estimates_of project.deck.acts a no_act (record { optimistic = 0; likely = 0; pessimistic = 0 }) inside))
      (in_order (get_or project.deck.acts a no_act) (planned.own.makes.cards.acts a no_act inside) (acts-within project.deck planned.own.within a no_act inside))

  pub IsEditing-begun : IsEditing (begun project)
  IsEditing-begun = record {
    fit = record {
      terms = planned.terms;
      limits = planned.limits;
      pieces = planned.pieces;
      estimates_each = length-map project.deck.acts estimates_of ∙ as_many;
      estimates = ordered;
    };
    kept_fit = λ k d inside. absurd (omega arith);
    few = omega arith;
    unit_days = planned.unit_days;
  }

  -- fields that are the deck's are sound
  module _ (s : Inside) (net_is : s.net ≡ priced_in project) (estimates_are : s.estimates.items ≡ estimates_in project.deck) (unit_is : s.unit_days ≡ project.heading.unit_days)
      (kept_is : s.kept ≡ buffer [] MAX_KEPT) (aside_is : s.aside ≡ None) where
    pub editing_is : editing_in s ≡ begun project
    editing_is =
        ap (λ aside. editing_in (record s { aside = aside })) aside_is
        ∙ (λ i. record { net = net_is i; estimates = estimates_are i; unit_days = unit_is i; kept = plans_back (kept_is i).items (record { terms = (net_is i).terms; estimates = estimates_are i }) })

    pub begun_whole : IsSoundEdits s
    begun_whole = record {
      editing = subst IsEditing (sym editing_is) IsEditing-begun;
      room = ap (λ (b : Buffer KeptEdit). b.capacity) kept_is;
      known = subst (All (λ (k : KeptEdit). k.activity < length s.net.network.arcs)) (sym (ap (λ (b : Buffer KeptEdit). b.items) kept_is)) (λ k d inside. absurd (omega arith));
      aside_known = λ t is. absurd (let none = aside_is in let some = is in cc);
    }
