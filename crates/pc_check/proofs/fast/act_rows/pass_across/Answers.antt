use Rattle.std.proofs.Common.{◌+◌, ◌<◌, length, Some, refl, sym, subst, ap, arith}
use Rattle.pc_cert.specs.declared.line.CertLine.TheVariants.{Act}
use Rattle.pc_cert.specs.inside.Known.{IsLineTextOf}
use Rattle.pc_check.specs.declared.fast.passed.Passed.{Passed}
use Rattle.pc_check.specs.inside.fast.Rows.{across_at}
use Rattle.pc_check.specs.inside.Kept.{known_by}
use Rattle.pc_check.specs.inside.fast.Passed.{HasPassed, IsPassed, PassesAcross, passed_at}
use Rattle.pc_check.specs.inside.Safe.{AddsAct, IsSafe}
use Rattle.pc_check.proofs.lemmas.fast.PassedLaws.{across_passes, adds_across, read_passed, row_read, safe_across}
use Rattle.pc_check.proofs.fast.act_rows.pass_across.Goals as goal

pub again-requires : goal.again-requires
again-requires c =
    let a = c.args.a in
    let row = c.index-last.result.now in
    let known : a < length c.args.net.now.network.arcs = omega (arith, c.if-activities-a.false, c.requires.count) in
    let it : IsPassed c.args.net.now a row = read_passed a row c.requires.safe.rows known c.index-last.ensures in
    it.text

pub pass_act-used-requires : goal.pass_act-used-requires
pass_act-used-requires c =
    let a = c.args.a in
    let row = c.index-last.result.now in
    let known : a < length c.args.net.now.network.arcs = omega (arith, c.if-activities-a.false, c.requires.count) in
    let it : IsPassed c.args.net.now a row = read_passed a row c.requires.safe.rows known c.index-last.ensures in
    record { text = it.text }

pub returns-clause-adds : goal.returns-clause-adds
returns-clause-adds c = λ some.
    let net = c.args.net.now in
    let a = c.args.a in
    let kept = c.args.kept.now in
    let cut = c.args.cut.now in
    let then = c.add.new.self in
    let row = c.index-last.result.now in
    let known : a < length net.network.arcs = omega (arith, c.if-activities-a.false, c.requires.count) in
    let it : IsPassed net a row = read_passed a row c.requires.safe.rows known c.index-last.ensures in
    let has : HasPassed net a row = it.has (c.pass_act-used.ensures.kept some) in
    let own = has.own in
    let across : PassesAcross net (known_by (across_at kept a cut)) row = c.in-Some.ensures.passes cut in
    let same = row_read a row c.requires.safe.rows known c.index-last.ensures in
    let added : AddsAct net (across_at kept a cut).tally (passed_at kept.tally.rows.items a).duration (passed_at kept.tally.rows.items a).flows (across_at kept (a + 1) then).tally =
    adds_across c.in-Some.ensures.adds (subst (HasPassed net a) same has) (ap (λ them. (across_at kept (a + 1) them).tally) c.add.ensures) in
    record {
      line = Act own.code row.duration row.flows;
      row = tt;
      again = c.pass_act-used.ensures.again (Some (Act own.code row.duration row.flows)) some (subst (λ line. IsLineTextOf line row.text) own.says has.text);
      goes = c.pass_act-used.ensures.goes own.code row.duration some;
      none = across_passes own.code own.named across has;
      adds = (refl, subst (λ (r : Passed). AddsAct net (across_at kept a cut).tally r.duration r.flows (across_at kept (a + 1) then).tally) (sym same) added);
    }

pub returns-clause-safe : goal.returns-clause-safe
returns-clause-safe c = λ some.
    let kept = c.args.kept.now in
    let a = c.args.a in
    subst (λ them. IsSafe c.args.net.now (across_at kept (a + 1) them).tally) (sym c.add.ensures)
    (safe_across c.requires.safe (omega (arith, c.if-activities-a.false, c.requires.count)) c.in-Some.ensures.adds)
