use Rattle.std.proofs.Common.{◌≡◌, ◌<◌, [], length, sym, subst, ◌∙◌, arith}
use Rattle.std.proofs.lemmas.List.{get_or_default}
use Rattle.pc_model.specs.Codes.{text_at}
use Rattle.pc_cert.specs.inside.Known.{IsFrontOf}
use Rattle.pc_check.specs.inside.fast.Fronts.{front_at}
use Rattle.pc_check.proofs.lemmas.fast.FrontsLaws.{own_front}
use Rattle.pc_check.proofs.fast.event_rows.add_row.Goals as goal

pub pass_event-requires : goal.pass_event-requires
pass_event-requires c =
    let e = c.len-e.result in
    let fronts = c.args.fronts.now in
    let front = c.index-fronts-e.result in
    let events = c.args.net.now.events in
    let within : e < length fronts = omega (arith, c.if-fronts-e.false) in
    let is : front_at fronts e ≡ front = sym (c.index-fronts-e.is ∙ get_or_default fronts e front (record { code = []; cells = [] }) within) in
    record { front = own_front (text_at events e) front (subst (IsFrontOf (text_at events e)) is (c.requires.fronts.each e (omega (arith, within, c.requires.fronts.one_each)))) }
