use Rattle.std.proofs.Common.{refl, ap, subst, sym}
use Rattle.std.specs.Prelude.{IfErr, IfOk}
use Rattle.pc_curve.specs.bench.Deck.{bench_deck_text}
use Rattle.pc_cards.specs.declared.sort.Sort.{Sort}
use Rattle.pert_cli.specs.FormDeck.{own_deck, sort_of}
use Rattle.pert_cli.specs.Verdicts.{IsFaultAs, IsMadeAs}
use Rattle.pert_cli.specs.declared.forms.Form.{Form}
use Rattle.pc_project.specs.shell.Reading.{HasProjectBy}
use Rattle.pc_project.specs.inside.shell.Reading.{HasNoProjectBy, IsNoProjectBy}
use Rattle.pc_project.specs.shell.Sides.{side}
use Rattle.pert_cli.proofs.FormDeckLaws.{own_gives, own_lacks, read_gives, read_lacks}
use Rattle.pc_deck.specs.Limits.{longest_deck}
use Rattle.pc_edges.specs.declared.loading.TheConstants.{STREAM_ROOM}
use Rattle.pc_edges.proofs.PullLaws.{IsReadWithin_none}
use Rattle.pert_cli.proofs.form_deck.project_for.Goals as goal

pub returns-in-Some-clause-project : goal.returns-in-Some-clause-project
returns-in-Some-clause-project g c =
    let n = c.in-Some.n in
    own_gives (side g.S.Source.left g.S.Source.faults c.args.source.now c.args.source.now) c.args.form c.bench_project.result (bench_deck_text n) (ap own_deck c.in-Some.ensures.own) refl
    (subst (λ (form : Form). IfOk c.bench_project.result (IsMadeAs (sort_of form) (bench_deck_text n))) (sym c.in-Some.ensures.own) c.bench_project.ensures.project)

pub returns-in-Some-clause-none : goal.returns-in-Some-clause-none
returns-in-Some-clause-none g c =
    let n = c.in-Some.n in
    own_lacks (side g.S.Source.left g.S.Source.faults c.args.source.now c.args.source.now) c.args.form c.bench_project.result (bench_deck_text n) (ap own_deck c.in-Some.ensures.own) refl
    (subst (λ (form : Form). IfErr c.bench_project.result (IsNoProjectBy (IsFaultAs (sort_of form)) (bench_deck_text n))) (sym c.in-Some.ensures.own) c.bench_project.ensures.none)

pub returns-in-Some-clause-stops : goal.returns-in-Some-clause-stops
returns-in-Some-clause-stops g c = IsReadWithin_none longest_deck STREAM_ROOM g.S.Source.left g.S.Source.faults g.S.Source.pulls c.args.source.now

pub returns-in-None-clause-project : goal.returns-in-None-clause-project
returns-in-None-clause-project g c =
    let s = side g.S.Source.left g.S.Source.faults c.args.source.now c.read_as.new.source in
    read_gives s c.args.form c.read_as.result c.in-None.ensures.none
    (subst (λ (sort : Sort). IfOk c.read_as.result (HasProjectBy (IsMadeAs sort) s)) c.sort.ensures c.read_as.ensures.project)

pub returns-in-None-clause-none : goal.returns-in-None-clause-none
returns-in-None-clause-none g c =
    let s = side g.S.Source.left g.S.Source.faults c.args.source.now c.read_as.new.source in
    read_lacks s c.args.form c.read_as.result c.in-None.ensures.none
    (subst (λ (sort : Sort). IfErr c.read_as.result (HasNoProjectBy (IsFaultAs sort) s)) c.sort.ensures c.read_as.ensures.none)
