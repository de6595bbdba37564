use Rattle.std.proofs.Common.{◌≡◌, ◌<◌, ◌+◌, ◌-◌, leb, ◌||◌, length, sym, ap, ◌∙◌, arith}
use Rattle.std.proofs.lemmas.Bool.{le-leb, lt-leb}
use Rattle.pc_model.specs.declared.Term.{Term}
use Rattle.pc_model.specs.Pieces.{pieces_of}
use Rattle.pc_model.specs.Schedule.{term_at}
use Rattle.pc_crash.proofs.CostLaws.{AreSmallKnees-of}
use Rattle.pc_whatif.specs.edits.Refusal.{has_flaw}
use Rattle.pc_whatif.proofs.lemmas.edits.FlawLaws.{flaw_by, no_flaw}
use Rattle.pc_whatif.proofs.edits.judging.is_flawed.Goals.{After-knee}
use Rattle.pc_whatif.proofs.edits.judging.is_flawed.Goals as goal

pub overflow_add-slope : goal.overflow_add-slope
overflow_add-slope c =
    let inside : c.args.a < length c.args.net.now.terms = omega (arith, c.requires.activity, c.facts.ensures.priced.terms_fit.one_each) in
    let small = AreSmallKnees-of c.args.net.now.network c.args.net.now.terms c.args.net.now.pieces c.facts.ensures.priced.terms_fit c.facts.ensures.limits
    c.facts.ensures.pieces c.facts.ensures.piece_limits c.args.a inside c.knees-knees.result c.knees-knees.ensures in
    omega (arith, small.gentle 1 (omega arith), c.facts.ensures.limits.gentle c.args.a inside, ap (λ (t : Term). t.slope) c.term-own.ensures)

-- both tests together
flaw : (c : After-knee) → (leb (c.term-own.result.slope + c.rise.result) c.args.term.now.slope
    || leb (c.args.term.now.normal - c.args.term.now.crash) (c.knee.result - c.term-own.result.crash))
    ≡ has_flaw c.args.term.now c.args.term.now.slope 0 (pieces_of c.args.net.now.pieces c.args.a)
flaw c =
    ap (λ (t : Term). leb (t.slope + c.rise.result) c.args.term.now.slope || leb (c.args.term.now.normal - c.args.term.now.crash) (c.knee.result - t.crash)) c.term-own.ensures
    ∙ flaw_by (term_at c.args.net.now.terms c.args.a) c.args.term.now (pieces_of c.args.net.now.pieces c.args.a) c.knee.result c.rise.result
    (omega (arith, c.knees-knees.ensures.count))
    (c.knee.ensures ∙ c.knees-knees.ensures.at 1 (omega arith))
    (c.rise.ensures ∙ c.knees-knees.ensures.rise 1 (omega arith))
    (λ k. c.facts.ensures.pieces.rising c.args.a k (omega (arith, c.requires.activity, c.facts.ensures.priced.terms_fit.one_each)))
    c.requires.ordered

pub returns-then-len-lt2 : goal.returns-then-len-lt2
returns-then-len-lt2 c = no_flaw c.args.term.now (pieces_of c.args.net.now.pieces c.args.a) (omega (arith, c.knees-knees.ensures.count))

pub returns-then-slope-term : goal.returns-then-slope-term
returns-then-slope-term c =
    le-leb _ _ c.if-slope-term.true
    ∙ sym (ap (λ b. b || leb (c.args.term.now.normal - c.args.term.now.crash) (c.knee.result - c.term-own.result.crash)) (le-leb _ _ c.if-slope-term.true))
    ∙ flaw (goal.at.returns-then-slope-term c).After-knee

pub returns-else-slope-term : goal.returns-else-slope-term
returns-else-slope-term c =
    sym (ap (λ b. b || leb (c.args.term.now.normal - c.args.term.now.crash) (c.knee.result - c.term-own.result.crash)) (lt-leb _ _ c.if-slope-term.false))
    ∙ flaw (goal.at.returns-else-slope-term c).After-knee
