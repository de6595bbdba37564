use Rattle.std.proofs.Common.{◌≡◌, ◌<◌, ℕ, List, length, get_or, map, slice_set, sym, ap, ◌∙◌, subst, arith}
use Rattle.std.proofs.lemmas.List.{get_or-map, get_or_read, length-map}
use Rattle.pc_deck.specs.declared.kinds.act.ActCard.{ActCard}
use Rattle.pc_model.specs.declared.Term.{Term}
use Rattle.pc_model.specs.Schedule.{term_at}
use Rattle.pc_faults.specs.inside.First.{IsFirstIn}
use Rattle.pc_project.specs.PieceFaults.{HasFlaw}
use Rattle.pc_project.specs.Project.{term_of}
use Rattle.pc_project.specs.inside.Runs.{run_at, run_with}
use Rattle.pc_project.specs.declared.pieces.Run.{Run}
use Rattle.pc_project.proofs.pieces.take_in.Goals as goal

-- the run that was read
run_read : (runs : List Run) (a : ℕ) (run : Run) → a < length runs → run ≡ get_or runs a run → run ≡ run_at runs a
run_read runs a run within read = get_or_read runs a run within read (record { count = 0; slope = 0; units = 0 })

-- the term of the activity that was read
term_read : (acts : List ActCard) (a : ℕ) (act : ActCard) → a < length acts → act ≡ get_or acts a act → term_of act ≡ term_at (map term_of acts) a
term_read acts a act within read =
    ap term_of read ∙ sym (get_or-map term_of acts a act (record { normal = 0; crash = 0; cost = 0; slope = 0 }) within)

pub bounds-acts-activity : goal.bounds-acts-activity
bounds-acts-activity c = omega (arith, c.requires.known, length-map c.args.acts.now term_of)

pub flaw-fault-requires : goal.flaw-fault-requires
flaw-fault-requires c =
    let known : c.args.piece.activity < length c.args.acts.now = omega (arith, c.requires.known, length-map c.args.acts.now term_of) in
    let run = run_read c.args.runs.now.items c.args.piece.activity c.index-run.result.now (omega (arith, c.requires.known, c.requires.one_each)) c.index-run.ensures in
    let term = term_read c.args.acts.now c.args.piece.activity c.index-acts-activity.result known c.index-acts-activity.is in
    omega (arith, c.requires.units, ap (λ (t : Term). t.crash) term, ap (λ (r : Run). r.units) run)

pub returns-clause-fault : goal.returns-clause-fault
returns-clause-fault c =
    let acts = c.args.acts.now in
    let piece = c.args.piece in
    let card = c.args.card.now in
    let known : piece.activity < length acts = omega (arith, c.requires.known, length-map acts term_of) in
    let run = run_read c.args.runs.now.items piece.activity c.index-run.result.now (omega (arith, c.requires.known, c.requires.one_each)) c.index-run.ensures in
    let term = term_read acts piece.activity c.index-acts-activity.result known c.index-acts-activity.is in
    subst (λ (r : Run). IsFirstIn (HasFlaw (term_at (map term_of acts) piece.activity) r.count r.slope r.units piece card.row card.activity) c.flaw-fault.result) run
    (subst (λ t. IsFirstIn (HasFlaw t c.index-run.result.now.count c.index-run.result.now.slope c.index-run.result.now.units piece card.row
    card.activity) c.flaw-fault.result) term c.flaw-fault.ensures)

pub index-run-requires : goal.index-run-requires
index-run-requires c = omega (arith, c.requires.known, c.requires.one_each)

pub index_mut-requires : goal.index_mut-requires
index_mut-requires c = omega (arith, c.requires.known, c.requires.one_each)

pub returns-clause-runs : goal.returns-clause-runs
returns-clause-runs c =
    let piece = c.args.piece in
    let run = run_read c.args.runs.now.items piece.activity c.index-run.result.now (omega (arith, c.requires.known, c.requires.one_each)) c.index-run.ensures in
    ap (λ (r : Run). slice_set c.args.runs.now.items piece.activity (run_with r piece)) run
