use Rattle.std.proofs.Common.{Err, refl, ap, subst}
use Rattle.std.specs.Prelude.{IfSome}
use Rattle.pc_check.specs.Texts.{Finds}
use Rattle.pc_audit.specs.Certificate.{IsSettledIn, IsUnsettledIn}
use Rattle.pc_audit.specs.inside.Certificate.{found, unread, no_room}
use Rattle.pc_project.specs.shell.Priced.{priced_in}
use Rattle.pc_project.specs.shell.Sides.{pulled_side}
use Rattle.pc_project.proofs.lemmas.shell.PricedLaws.{priced_is}
use Rattle.pc_check.specs.OwnLines.{KeepsToOwnLines}
use Rattle.pc_check.proofs.OwnTurnLaws.{unpulled_keeps}
use Rattle.pc_audit.proofs.checking.check.Goals as goal

pub returns-in_default-clause-answered : goal.returns-in_default-clause-answered
returns-in_default-clause-answered g c = no_room refl refl

pub returns-in-Ok-audit_source-clause-answered : goal.returns-in-Ok-audit_source-clause-answered
returns-in-Ok-audit_source-clause-answered g c =
    let has = c.in-Ok.ensures in
    let same = priced_is c.in-Ok.net c.args.project.now has.network has.terms has.pieces has.project has.events has.activities in
    let s = g.C.Source in
    found c.in-Ok-audit_source.verdict c.tell.result
    (record {
      finds = subst (λ n. IfSome (s.left c.args.cert.now) (λ text. Finds n text c.in-Ok-audit_source.verdict)) same c.in-Ok-audit_source.ensures.finds;
      end = c.in-Ok-audit_source.ensures.end;
      settled = subst (λ n. IsSettledIn n c.in-Ok-audit_source.verdict (pulled_side s.left s.faults s.pulls c.args.cert.now c.audit_source.new.source)) same c.in-Ok-audit_source.ensures.stops;
      no_fault = c.in-Ok-audit_source.ensures.no_fault;
    })
    c.tell.ensures

pub returns-in-Err-ReadFault-clause-answered : goal.returns-in-Err-ReadFault-clause-answered
returns-in-Err-ReadFault-clause-answered g c =
    let is = ap (λ e. Err e) c.in-Err-ReadFault.field-0-is in
    let has = c.in-Ok.ensures in
    let same = priced_is c.in-Ok.net c.args.project.now has.network has.terms has.pieces has.project has.events has.activities in
    let s = g.C.Source in
    unread (c.in-Err-ReadFault.ensures.fault is)
    (subst (λ n. IsUnsettledIn n (pulled_side s.left s.faults s.pulls c.args.cert.now c.audit_source.new.source)) same (c.in-Err-ReadFault.ensures.unsettled is)) refl

pub returns-clause-answered : goal.returns-clause-answered
returns-clause-answered g c = no_room (c.in-Err-OutOfMemory.ensures.no_room (ap (λ e. Err e) c.in-Err-OutOfMemory.field-0-is)) refl

pub returns-in_default-clause-own_turns : goal.returns-in_default-clause-own_turns
returns-in_default-clause-own_turns g c = unpulled_keeps (priced_in c.args.project.now) (g.C.Source.left c.args.cert.now) (g.C.Source.pulls c.args.cert.now)

pub returns-in-Ok-audit_source-clause-own_turns : goal.returns-in-Ok-audit_source-clause-own_turns
returns-in-Ok-audit_source-clause-own_turns g c =
    let has = c.in-Ok.ensures in
    let same = priced_is c.in-Ok.net c.args.project.now has.network has.terms has.pieces has.project has.events has.activities in
    let s = g.C.Source in
    subst (λ n. IfSome (s.left c.args.cert.now) (λ text. KeepsToOwnLines n text (s.pulls c.args.cert.now) (s.pulls c.audit_source.new.source))) same c.audit_source.ensures.own_turns

pub returns-in-Err-ReadFault-clause-own_turns : goal.returns-in-Err-ReadFault-clause-own_turns
returns-in-Err-ReadFault-clause-own_turns g c =
    let has = c.in-Ok.ensures in
    let same = priced_is c.in-Ok.net c.args.project.now has.network has.terms has.pieces has.project has.events has.activities in
    let s = g.C.Source in
    subst (λ n. IfSome (s.left c.args.cert.now) (λ text. KeepsToOwnLines n text (s.pulls c.args.cert.now) (s.pulls c.audit_source.new.source))) same c.audit_source.ensures.own_turns

pub returns-clause-own_turns : goal.returns-clause-own_turns
returns-clause-own_turns g c =
    let has = c.in-Ok.ensures in
    let same = priced_is c.in-Ok.net c.args.project.now has.network has.terms has.pieces has.project has.events has.activities in
    let s = g.C.Source in
    subst (λ n. IfSome (s.left c.args.cert.now) (λ text. KeepsToOwnLines n text (s.pulls c.args.cert.now) (s.pulls c.audit_source.new.source))) same c.audit_source.ensures.own_turns
