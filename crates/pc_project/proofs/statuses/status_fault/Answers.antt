use Rattle.std.proofs.Common.{◌≡◌, ◌+◌, ◌<◌, ◌≤◌, ◌∙◌, length, refl, sym, ap, subst, None, Some, arith}
use Rattle.std.specs.Prelude.{Option, option_map, slice_index}
use Rattle.std.proofs.lemmas.Grind.{common_steps}
use Rattle.std.proofs.lemmas.List.{get_or-map, get_or_read}
use Rattle.pc_deck.specs.declared.kinds.status.StatusCard.{StatusCard}
use Rattle.pc_model.specs.declared.limits.TheConstants.{MAX_STATUSES}
use Rattle.pc_faults.specs.declared.kind.Kind.TheVariants.{Status}
use Rattle.pc_faults.specs.Faults.{disorder}
use Rattle.pc_faults.specs.declared.fault.StatusFault.{StatusFault}
use Rattle.pc_faults.specs.inside.First.{earliest}
use Rattle.pc_faults.proofs.FirstLaws.{earliest-alone}
use Rattle.pc_project.specs.DisorderFaults.{IsDisorderAt}
use Rattle.pc_project.specs.Records.{status_records}
use Rattle.pc_project.proofs.CountLaws.{IsFirstBelow, first_of_none, first_of_all, first_with}
use Rattle.pc_project.proofs.DisorderLaws.{disorder-first}
use Rattle.pc_project.proofs.FigureLaws.{no_status}
use Rattle.pc_project.proofs.statuses.status_fault.Goals as goal
use Rattle.pc_project.proofs.statuses.status_fault.Goals.{in-Some, in_default}

pub overflow_cast-k : goal.overflow_cast-k
overflow_cast-k c =
    let inside : c.loop-k.k < length c.args.cards.now.statuses = omega (arith, c.loop-k-test.true, ap length c.statuses-card-items.ensures.cards) in
    let few : length c.args.cards.now.statuses ≤ MAX_STATUSES = (c.statuses-card-items.ensures.within Status).few in
    grind (arith, common_steps)

pub loop-k-init : goal.loop-k-init
loop-k-init c = first_of_none (IsDisorderAt c.args.cards.now)

pub loop-k-preserved : goal.loop-k-preserved
loop-k-preserved c =
    let deck = c.args.cards.now in
    let k = c.loop-k.k in
    let inside : k < length deck.statuses = omega (arith, c.loop-k-test.true, ap length c.statuses-card-items.ensures.cards) in
    let read = rw c.statuses-card-items.ensures.cards at c.card-item.is in
    let there = get_or_read deck.statuses k c.card-item.result inside read no_status in
    let row : c.card-item.result.row ≡ slice_index (status_records deck) k = ap (λ (s : StatusCard). s.row) there ∙ sym (get_or-map (λ (s : StatusCard). s.row) deck.statuses k no_status 0 inside) in
    let told = rw (c.project.ensures.card, c.as_of-as_of.ensures) at c.disorder.ensures.told in
    let none = rw (c.project.ensures.card, c.as_of-as_of.ensures) at c.disorder.ensures.none in
    let at = slice_index (status_records deck) k in
    let found = disorder-first deck k at c.args.log.now.statuses c.disorder.result c.requires told none in
    let all = first_with (IsDisorderAt deck) k c.loop-k.fault (option_map (disorder at) c.disorder.result) c.loop-k.invariant found in
    elim c.match-disorder.branch [
      | in-Some w ↦
          let same : option_map (disorder at) c.disorder.result ≡ Some w.new-told.result =
          ap (option_map (disorder at)) w.in-Some.is ∙ sym (ap Some (w.new-told.ensures ∙ ap (λ r. disorder r w.in-Some.reason) row)) in
          subst (IsFirstBelow (IsDisorderAt deck) (k + 1)) (ap (earliest c.loop-k.fault) same ∙ sym (w.fault-is ∙ w.earliest-fault.ensures)) all
      | in_default w ↦
          let same : option_map (disorder at) c.disorder.result ≡ None = ap (option_map (disorder at)) (none_of c.disorder.result w.in_default.not-Some) in
          subst (IsFirstBelow (IsDisorderAt deck) (k + 1)) (ap (earliest c.loop-k.fault) same ∙ (earliest-alone c.loop-k.fault ∙ sym w.fault-is)) all
    ]
  where
    none_of : (reason : Option StatusFault) → ((is : StatusFault) → reason ≡ Some is → ⊥) → reason ≡ None
    none_of None never = refl
    none_of (Some is) never = absurd (never is refl)

pub returns : goal.returns
returns c =
    let deck = c.args.cards.now in
    first_of_all (IsDisorderAt deck) c.loop-k.k (length deck.statuses) c.loop-k.fault
    (omega (arith, c.loop-k-test.false, c.loop-k.auto.k-end, ap length c.statuses-card-items.ensures.cards)) c.loop-k.invariant
