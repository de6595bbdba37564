use Rattle.std.proofs.Common.{◌≡◌, Some, refl, sym, ap, ◌∙◌, subst}
use Rattle.std.proofs.lemmas.Bool.{false≢true}
use Rattle.pc_crash.specs.Priced.{PricedNetwork}
use Rattle.pc_curve.specs.Points.{curve_in}
use Rattle.pc_edges.specs.inside.page.Puts.{desk}
use Rattle.pc_whatif.specs.declared.edits.ask.Ask.TheVariants as asks
use Rattle.pc_whatif.specs.declared.edits.reason.Reason.TheVariants.{OutsideRange}
use Rattle.pc_whatif.specs.edits.Editing.{net_trying}
use Rattle.pc_whatif.specs.inside.edits.Editing.{Edits, net_in}
use Rattle.pc_curve.specs.Range.{IsLengthInRange}
use Rattle.pc_whatif.specs.Planning.{IsTrialText, refused}
use Rattle.pc_whatif.specs.Texts.{cost_text, refused_text}
use Rattle.pc_whatif.proofs.AnswerLaws.{stays_as, tried_out, trial_costs, trial_outside}
use Rattle.pc_whatif.proofs.session.Session.try_out.Goals as goal

pub returns-in-Err-clause-answered : goal.returns-in-Err-clause-answered
returns-in-Err-clause-answered g c =
    let trial = c.args.trial.now in
    let text = refused_text c.in-Err.reason in (
      text,
      stays_as c.args.self.now _ (Some (asks.Try trial)) text c.self.view_is c.self.invariant.renewed (refused c.in-Err.reason c.in-Err.ensures.refused refl) refl,
      c.refuse.ensures.text,
    )

pub returns-in_default-clause-answered : goal.returns-in_default-clause-answered
returns-in_default-clause-answered g c =
    let a = c.self.inside in
    let trial = c.args.trial.now in
    let text = refused_text OutsideRange in
    let editing : c.end_trial.new.self.editing ≡ a.edits.editing = ap (λ (e : Edits). e.editing) c.end_trial.ensures ∙ ap (λ (e : Edits). e.editing) c.begin_trial.ensures in
    let net : c.net.result.now ≡ net_trying a.edits.editing.net c.in-Ok.tried = c.net.ensures ∙ ap net_in c.begin_trial.ensures in
    let is : IsTrialText a.edits.editing trial text =
    trial_outside a.edits.editing trial c.in-Ok.tried c.in-Ok.ensures.accepted c.in-Ok.ensures.activity c.in-Ok.ensures.term
    (λ within. false≢true (c.in_default.ensures.within.1 (subst (λ (n : PricedNetwork). IsLengthInRange n trial.length) (sym net) within))) in (
      text,
      tried_out c.args.self.now a.project.now a.edits.editing c.end_trial.new.self.editing _ _ trial text editing
          c.least_cost-cost.ensures.kept c.self.invariant.renewed c.self.view_is is,
      c.refuse-in_default.ensures.text,
    )

pub returns-clause-answered : goal.returns-clause-answered
returns-clause-answered g c =
    let a = c.self.inside in
    let trial = c.args.trial.now in
    let text = cost_text c.in-Some.cost in
    let editing : c.end_trial.new.self.editing ≡ a.edits.editing = ap (λ (e : Edits). e.editing) c.end_trial.ensures ∙ ap (λ (e : Edits). e.editing) c.begin_trial.ensures in
    let net : c.net.result.now ≡ net_trying a.edits.editing.net c.in-Ok.tried = c.net.ensures ∙ ap net_in c.begin_trial.ensures in
    let is : IsTrialText a.edits.editing trial text =
    trial_costs a.edits.editing trial c.in-Ok.tried c.in-Some.cost c.in-Ok.ensures.accepted c.in-Ok.ensures.activity c.in-Ok.ensures.term
    (subst (λ (n : PricedNetwork). IsLengthInRange n trial.length) net (c.in-Some.ensures.within.0 refl))
    (subst (λ (n : PricedNetwork). curve_in n trial.length c.in-Some.cost) net c.in-Some.ensures.least) in (
      text,
      tried_out c.args.self.now a.project.now a.edits.editing c.end_trial.new.self.editing _ _ trial text editing
          c.least_cost-cost.ensures.kept c.self.invariant.renewed c.self.view_is is,
      c.finish.ensures.text (desk g.O.Sink.taken g.O.Sink.faults a.page c.args.out.now) text c.self.invariant.page c.put_number.ensures,
    )
