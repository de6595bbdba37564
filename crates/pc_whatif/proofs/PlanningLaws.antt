-- The numbers of a project as it is edited, and its current times.
use Rattle.std.proofs.Common.{◌≡◌, ℕ, ◌<◌, List, [], ◌∷◌, length, map, refl, sym, ap, ◌∙◌, subst}
use Rattle.std.specs.Prelude.{slice_set}
use Rattle.std.proofs.lemmas.List.{map-set}
use Rattle.pc_deck.specs.Deck.{Deck}
use Rattle.pc_deck.specs.declared.kinds.act.ActCard.{ActCard}
use Rattle.pc_project.specs.Planned.{IsPlanned}
use Rattle.pc_project.specs.Project.{Project, expected_of, variance_in}
use Rattle.pc_whatif.specs.edits.Editing.{Editing, begun}
use Rattle.pc_whatif.specs.inside.edits.Editing.{ChangesOnly}
use Rattle.pc_whatif.specs.edits.Plans.{nth_estimates, estimates_in, expected_times, variances}
use Rattle.pc_whatif.specs.inside.trials.SessionRegion.{SessionRegion, IsRegionFor, IsStandingOf, IsChangedTo, expected_by, variance_by}
use Rattle.pc_whatif.specs.Planning.{project_as}
use Rattle.pc_whatif.specs.inside.Planning.{IsChangedAt, IsEditionOf, HasCurrentTimes}

-- ---- before any line

expected_fused : (deck : Deck) (acts : List ActCard) → map (expected_of deck) acts
    ≡ expected_times deck.project.unit_days (map (λ (act : ActCard). record { optimistic = act.opt; likely = act.likely; pessimistic = act.pess }) acts)
expected_fused deck [] = refl
expected_fused deck (act ∷ acts) = ap (λ (rest : List ℕ). expected_of deck act ∷ rest) (expected_fused deck acts)

variances_fused : (deck : Deck) (acts : List ActCard) → map (variance_in deck) acts
    ≡ variances deck.project.unit_days (map (λ (act : ActCard). record { optimistic = act.opt; likely = act.likely; pessimistic = act.pess }) acts)
variances_fused deck [] = refl
variances_fused deck (act ∷ acts) = ap (λ (rest : List ℕ). variance_in deck act ∷ rest) (variances_fused deck acts)

-- the project of a deck is an edition of itself, and its times are those of it as it is edited before any line
pub begun_edition : (project : Project) → IsEditionOf project (begun project)
begun_edition project = record { network = refl; pieces = refl; unit_days = refl }

module _ (project : Project) (planned : IsPlanned project) (region : SessionRegion) where
  pub begun_renewed : IsRegionFor project.network region → IsStandingOf project region → HasCurrentTimes project (begun project) region
  begun_renewed fits standing =
      let lists = planned.own.is.lists in
      let unit = ap (λ (p : Project). p.heading.unit_days) lists in
      record {
        fits = fits;
        standing = standing.standing;
        expected = standing.expected ∙ ap (λ (p : Project). p.expected) lists ∙ expected_fused project.deck project.deck.acts
            ∙ ap (λ u. expected_times u (estimates_in project.deck)) (sym unit);
        variances_are = standing.variances ∙ ap (λ (p : Project). p.variances) lists ∙ variances_fused project.deck project.deck.acts
            ∙ ap (λ u. variances u (estimates_in project.deck)) (sym unit);
      }

-- ---- after a change

module _ (project : Project) (old new : Editing) (a : ℕ) (change : ChangesOnly old new a) where
  pub changed_at : (region : SessionRegion) → IsEditionOf project old → HasCurrentTimes project old region → IsChangedAt project new a region
  changed_at region is renewed =
      let e = nth_estimates new.estimates a in
      record {
        fits = renewed.fits;
        activity = subst (λ n. a < length n.arcs) is.network change.activity;
        expected =
            ap (λ u. expected_times u new.estimates) change.unit_days
            ∙ ap (expected_times old.unit_days) change.estimates
            ∙ map-set (expected_by old.unit_days) old.estimates a e
            ∙ ap (λ l. slice_set l a (expected_by old.unit_days e)) (sym renewed.expected)
            ∙ ap (λ u. slice_set region.expected a (expected_by u e)) (sym change.unit_days);
        variances_are =
            ap (λ u. variances u new.estimates) change.unit_days
            ∙ ap (variances old.unit_days) change.estimates
            ∙ map-set (variance_by old.unit_days) old.estimates a e
            ∙ ap (λ l. slice_set l a (variance_by old.unit_days e)) (sym renewed.variances_are)
            ∙ ap (λ u. slice_set region.variances a (variance_by u e)) (sym change.unit_days);
      }

-- ---- requests

-- the project as it is edited is the one that the current times are of
pub changed_to : (project : Project) (editing : Editing) (region : SessionRegion) → HasCurrentTimes project editing region → IsChangedTo project region (project_as project editing)
changed_to project editing region renewed = record {
  heading = refl;
  network = refl;
  events = refl;
  activities = refl;
  expected = sym renewed.expected;
  variances = sym renewed.variances_are;
}
