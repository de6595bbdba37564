use Rattle.std.proofs.Common.{rules}
use Rattle.pc_project.proofs.RefusalLaws.{handed_on}
use Rattle.pc_project.specs.inside.shell.Reading.{HasNoDeck, unread}
use Rattle.pc_project.specs.shell.Sides.{side}
use Rattle.pc_project.proofs.lemmas.shell.ReadingLaws.{unread_deck}
use Rattle.pc_project.proofs.shell.reading.load_deck.Goals as goal

pub returns-clause-deck : goal.returns-clause-deck
returns-clause-deck g c = record { short = search rules; all = c.in_ok-bytes.ensures.loaded.all; end = c.in_ok-bytes.ensures.loaded.end }

pub returns-in_err-bytes-clause-none : goal.returns-in_err-bytes-clause-none
returns-in_err-bytes-clause-none g c =
    let left = g.S.Source.left in
    let faults = g.S.Source.faults in
    let error = c.in_err-bytes.field-0.0 in
    let read = c.in_err-bytes.ensures.too_long in
    handed_on (HasNoDeck (side left faults c.args.source.now c.load.new.source)) c.from_residual.result (unread error) c.from_residual.ensures.1
    (unread_deck left faults c.args.source.now c.load.new.source error c.in_err-bytes.ensures.loaded read.0 read.1 read.2)
