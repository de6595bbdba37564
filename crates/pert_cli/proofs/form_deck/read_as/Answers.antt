use Rattle.std.proofs.Common.{List, ℕ, subst}
use Rattle.std.specs.Prelude.{IfErr, IfOk}
use Rattle.pc_project.proofs.RefusalLaws.{handed_on}
use Rattle.pc_project.specs.inside.shell.Reading.{HasNoProjectBy, IsNoProjectBy}
use Rattle.pc_project.specs.shell.Sides.{side}
use Rattle.pc_project.proofs.lemmas.shell.ReadingLaws.{unread_lacks, whole_has, whole_lacks}
use Rattle.pert_cli.specs.Verdicts.{IsFaultAs, IsMadeAs}
use Rattle.pert_cli.proofs.form_deck.read_as.Goals as goal

pub returns-clause-project : goal.returns-clause-project
returns-clause-project g c =
    let source = side g.S.Source.left g.S.Source.faults c.args.source.now c.load_deck.new.source in
    let is = subst (λ (bytes : List ℕ). IfOk c.project_as-project.result (IsMadeAs c.args.sort bytes)) c.deref.ensures.value c.project_as-project.ensures.project in
    whole_has (IsMadeAs c.args.sort) source c.in_ok-bytes.bytes.items c.in_ok-bytes.ensures.deck c.project_as-project.result is

pub returns-clause-none : goal.returns-clause-none
returns-clause-none g c =
    let source = side g.S.Source.left g.S.Source.faults c.args.source.now c.load_deck.new.source in
    let why = subst (λ (bytes : List ℕ). IfErr c.project_as-project.result (IsNoProjectBy (IsFaultAs c.args.sort) bytes)) c.deref.ensures.value c.project_as-project.ensures.none in
    whole_lacks (IsFaultAs c.args.sort) source c.in_ok-bytes.bytes.items c.in_ok-bytes.ensures.deck c.project_as-project.result why

pub returns-in_err-bytes-clause-none : goal.returns-in_err-bytes-clause-none
returns-in_err-bytes-clause-none g c =
    let source = side g.S.Source.left g.S.Source.faults c.args.source.now c.load_deck.new.source in
    let why = c.in_err-bytes.field-0.0 in
    handed_on (HasNoProjectBy (IsFaultAs c.args.sort) source) c.from_residual.result why c.from_residual.ensures.1 (unread_lacks (IsFaultAs c.args.sort) source why c.in_err-bytes.ensures.none)
