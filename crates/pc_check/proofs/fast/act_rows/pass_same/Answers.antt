use Rattle.std.proofs.Common.{◌+◌, ◌<◌, length, Some, refl, sym, subst, arith}
use Rattle.pc_cert.specs.declared.line.CertLine.TheVariants.{Act}
use Rattle.pc_cert.specs.inside.Known.{IsLineTextOf}
use Rattle.pc_check.specs.declared.fast.passed.Passed.{Passed}
use Rattle.pc_check.specs.inside.fast.Rows.{across_at}
use Rattle.pc_check.specs.inside.Kept.{known_by}
use Rattle.pc_check.specs.inside.fast.Passed.{ComesAgain, HasPassed, IsPassed, passed_at}
use Rattle.pc_check.specs.inside.Safe.{AddsAct}
use Rattle.pc_check.proofs.lemmas.fast.PassedLaws.{adds_again, again_passes, read_passed, row_read}
use Rattle.pc_check.proofs.fast.act_rows.pass_same.Goals as goal

pub pass_act-requires : goal.pass_act-requires
pass_act-requires c =
    let a = c.args.a in
    let row = c.index-last.result.now in
    let known : a < length c.args.net.now.network.arcs = omega (arith, c.if-activities-a.false, c.requires.count) in
    let it : IsPassed c.args.net.now a row = read_passed a row c.requires.rows known c.index-last.ensures in
    record { text = it.text }

pub returns-clause-adds : goal.returns-clause-adds
returns-clause-adds c = λ cut some.
    let net = c.args.net.now in
    let a = c.args.a in
    let kept = c.args.kept.now in
    let row = c.index-last.result.now in
    let known : a < length net.network.arcs = omega (arith, c.if-activities-a.false, c.requires.count) in
    let it : IsPassed net a row = read_passed a row c.requires.rows known c.index-last.ensures in
    let has : HasPassed net a row = it.has (c.pass_act.ensures.kept some) in
    let own = has.own in
    let again : ComesAgain net (known_by (across_at kept a cut)) row = c.passes_again.ensures cut c.if-not-passes_again.false in
    let same = row_read a row c.requires.rows known c.index-last.ensures in
    let added : AddsAct net (across_at kept a cut).tally (passed_at kept.tally.rows.items a).duration (passed_at kept.tally.rows.items a).flows (across_at kept (a + 1) cut).tally =
    adds_again again.still (subst (HasPassed net a) same has) refl in
    record {
      line = Act own.code row.duration row.flows;
      row = tt;
      again = c.pass_act.ensures.again (Some (Act own.code row.duration row.flows)) some (subst (λ line. IsLineTextOf line row.text) own.says has.text);
      goes = c.pass_act.ensures.goes own.code row.duration some;
      none = again_passes own.code own.named again has;
      adds = (refl, subst (λ (r : Passed). AddsAct net (across_at kept a cut).tally r.duration r.flows (across_at kept (a + 1) cut).tally) (sym same) added);
    }
