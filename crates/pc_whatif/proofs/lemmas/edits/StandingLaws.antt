-- What is in effect after an accepted edit, and after one is taken back.
use Rattle.std.proofs.Common.{◌≡◌, ℕ, suc, ◌+◌, ◌-◌, ◌<◌, ◌≤◌, min, List, [], ◌∷◌, ◌++◌, length, take, Some, unwrap_or, refl, sym, ◌∙◌, ap, arith}
use Rattle.std.specs.Option.{option_map_or}
use Rattle.std.proofs.lemmas.List.{length-take}
use Rattle.circular_buffer.specs.Buffer.{keep_last, last_item}
use Rattle.circular_buffer.proofs.Places.{cut_end}
use Rattle.pc_crash.specs.Priced.{PricedNetwork}
use Rattle.pc_project.specs.Project.{Project}
use Rattle.pc_project.specs.shell.Priced.{priced_in}
use Rattle.pc_whatif.specs.declared.edits.ask.Edit.{Edit}
use Rattle.pc_whatif.specs.declared.edits.TheConstants.{MAX_KEPT}
use Rattle.pc_whatif.specs.edits.Plans.{Plan, plan_with}
use Rattle.pc_whatif.specs.edits.Editing.{Editing, activity_named, begun, edited, editing_with, edited_plan, undone}
use Rattle.pc_whatif.specs.edits.Standing.{Journal, IsEditedBy, empty, noted, activity_of_edit, plan_after, plans_before, standing_of, taken_back}
use Rattle.pc_whatif.proofs.lemmas.edits.ListLaws.{length-push, length-keep_last, keep_last-push, keep_last-keep_last, last_item-push, front-push}

module _ (net : PricedNetwork) (edit : Edit) where
  plan_after-push : (edits : List Edit) (plan : Plan) → plan_after net (edits ++ edit ∷ []) plan ≡ plan_with edit.change (activity_of_edit net edit) (plan_after net edits plan)
  plan_after-push [] plan = refl
  plan_after-push (e ∷ edits) plan = plan_after-push edits (plan_with e.change (activity_of_edit net e) plan)

  plans_before-push : (edits : List Edit) (plan : Plan) → plans_before net (edits ++ edit ∷ []) plan ≡ plans_before net edits plan ++ plan_after net edits plan ∷ []
  plans_before-push [] plan = refl
  plans_before-push (e ∷ edits) plan = ap (λ ps. plan ∷ ps) (plans_before-push edits (plan_with e.change (activity_of_edit net e) plan))

length-plans_before : (net : PricedNetwork) (edits : List Edit) (plan : Plan) → length (plans_before net edits plan) ≡ length edits
length-plans_before net [] plan = refl
length-plans_before net (e ∷ edits) plan = ap suc (length-plans_before net edits (plan_with e.change (activity_of_edit net e) plan))

-- before any line nothing is in effect
pub IsEditedBy-begun : (project : Project) → IsEditedBy project empty (begun project)
IsEditedBy-begun project = record { is = refl; some = omega arith; few = omega arith }

module _ (project : Project) (journal : Journal) where
  abbrev net : PricedNetwork
  net = priced_in project

  abbrev first : Plan
  first = edited_plan (begun project)

  abbrev plans : List Plan
  plans = plans_before net journal.standing first

  abbrev now : Plan
  now = plan_after net journal.standing first

  -- an accepted edit is in effect after those that were
  edited_stands : (edit : Edit) (a : ℕ) → activity_named net edit.act ≡ Some a → journal.kept ≤ length journal.standing →
      edited (standing_of project journal) edit ≡ standing_of project (noted journal edit)
  edited_stands edit a named some =
      ap (λ found. option_map_or (λ b. editing_with (standing_of project journal) (plan_with edit.change b now)
      (keep_last MAX_KEPT (keep_last journal.kept plans ++ now ∷ []))) found (standing_of project journal)) named
      ∙ (λ i. editing_with (begun project) (plan i) (kept i))
    where
      plan : plan_with edit.change a now ≡ plan_after net (journal.standing ++ edit ∷ []) first
      plan =
          ap (λ found. plan_with edit.change (unwrap_or found (length net.activities)) now) (sym named)
          ∙ sym (plan_after-push net edit journal.standing first)

      kept : keep_last MAX_KEPT (keep_last journal.kept plans ++ now ∷ []) ≡ keep_last (min MAX_KEPT (journal.kept + 1)) (plans_before net (journal.standing ++ edit ∷ []) first)
      kept =
          ap (keep_last MAX_KEPT) (sym (keep_last-push journal.kept plans now))
          ∙ keep_last-keep_last MAX_KEPT (journal.kept + 1) (plans ++ now ∷ []) (omega (arith, some, length-push plans now, length-plans_before net journal.standing first))
          ∙ ap (keep_last (min MAX_KEPT (journal.kept + 1))) (sym (plans_before-push net edit journal.standing first))

  pub IsEditedBy-edited : (editing : Editing) (edit : Edit) (a : ℕ) → activity_named editing.net edit.act ≡ Some a →
      IsEditedBy project journal editing → IsEditedBy project (noted journal edit) (edited editing edit)
  IsEditedBy-edited editing edit a named stands = record {
    is = ap (λ e. edited e edit) stands.is ∙ edited_stands edit a (sym (ap (λ (e : Editing). activity_named e.net edit.act) stands.is) ∙ named) stands.some;
    some = omega (arith, stands.some, length-push journal.standing edit);
    few = omega arith;
  }

  -- the edits are those before the latest one and that
  module _ (front : List Edit) (edit : Edit) (is : journal.standing ≡ front ++ edit ∷ []) (some : 0 < journal.kept) where
    abbrev latest : Plan
    latest = plan_after net front first

    abbrev before : List Plan
    before = keep_last (journal.kept - 1) (plans_before net front first)

    one_more : journal.kept ≡ journal.kept - 1 + 1
    one_more = omega arith

    kept_are : keep_last journal.kept plans ≡ before ++ latest ∷ []
    kept_are =
        ap (λ n. keep_last n plans) one_more
        ∙ ap (keep_last (journal.kept - 1 + 1)) (ap (λ edits. plans_before net edits first) is ∙ plans_before-push net edit front first)
        ∙ keep_last-push (journal.kept - 1) (plans_before net front first) latest

    fronts : front ≡ (taken_back journal).standing
    fronts = sym (ap (λ (edits : List Edit). take (length edits - 1) edits) is ∙ front-push front edit)

    back_stands : undone (standing_of project journal) ≡ standing_of project (taken_back journal)
    back_stands =
        ap (λ ps. option_map_or (λ plan. editing_with (standing_of project journal) plan (take (length ps - 1) ps)) (last_item ps) (standing_of project journal)) kept_are
        ∙ ap (λ found. option_map_or (λ plan. editing_with (standing_of project journal) plan
        (take (length (before ++ latest ∷ []) - 1) (before ++ latest ∷ []))) found (standing_of project journal))
        (last_item-push before latest)
        ∙ ap (λ ps. editing_with (begun project) latest ps) (front-push before latest)
        ∙ ap (λ edits. editing_with (begun project) (plan_after net edits first) (keep_last (journal.kept - 1) (plans_before net edits first))) fronts

  pub IsEditedBy-undone : (editing : Editing) → 0 < length editing.kept → IsEditedBy project journal editing → IsEditedBy project (taken_back journal) (undone editing)
  IsEditedBy-undone editing some stands =
      let as_many : length editing.kept ≡ journal.kept =
      ap (λ (e : Editing). length e.kept) stands.is ∙ length-keep_last journal.kept plans (omega (arith, stands.some, length-plans_before net journal.standing first)) in
      let parts = cut_end journal.standing (omega (arith, stands.some, as_many)) in
      record {
        is = ap undone stands.is ∙ back_stands parts.0 parts.1 parts.2 (omega (arith, as_many));
        some = omega (arith, stands.some, length-take (length journal.standing - 1) journal.standing);
        few = omega (arith, stands.few);
      }
