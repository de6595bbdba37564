use Rattle.std.proofs.Common.{◌+◌, refl}
use Rattle.pc_edges.specs.Pulls.{TakesPulls}
use Rattle.pc_check.specs.Auditing.{most_bytes}
use Rattle.pc_project.specs.Project.{Project}
use Rattle.pc_project.specs.shell.Priced.{priced_in}
use Rattle.pc_audit.proofs.CheckLaws.{after_check, after_no_project, of_each_project, unpulled, keeps_to_lines, unpulled_keeps_to_lines}
use Rattle.pc_audit.proofs.checking.check_outcome.Goals as goal

pub returns-in-Ok-clause-outcome : goal.returns-in-Ok-clause-outcome
returns-in-Ok-clause-outcome g c =
    let named = c.in-Ok.ensures.project in
    after_check c.args.words.now _ _ _ _ c.in-Ok.project c.check.result named.asked named.has named.quiet c.check.ensures.answered

pub returns-in-Ok-clause-turns : goal.returns-in-Ok-clause-turns
returns-in-Ok-clause-turns g c =
    of_each_project (g.D.Source.left c.args.deck.now) c.in-Ok.project
    (λ (p : Project). TakesPulls (most_bytes (priced_in p) + 1) (g.C.Source.pulls c.args.cert.now) (g.C.Source.pulls c.check.new.cert))
    c.in-Ok.ensures.project.has.is c.check.ensures.turns

pub returns-in-Ok-clause-own_turns : goal.returns-in-Ok-clause-own_turns
returns-in-Ok-clause-own_turns g c =
    keeps_to_lines (g.D.Source.left c.args.deck.now) (g.C.Source.left c.args.cert.now) (g.C.Source.pulls c.args.cert.now) (g.C.Source.pulls c.check.new.cert) c.in-Ok.project
    c.in-Ok.ensures.project.has.is c.check.ensures.own_turns

pub returns-in-Err-clause-outcome : goal.returns-in-Err-clause-outcome
returns-in-Err-clause-outcome g c = after_no_project c.args.words.now _ _ _ _ c.in-Err.status c.in-Err.ensures.none refl refl

pub returns-in-Err-clause-turns : goal.returns-in-Err-clause-turns
returns-in-Err-clause-turns g c = unpulled (g.D.Source.left c.args.deck.now) (g.C.Source.pulls c.args.cert.now)

pub returns-in-Err-clause-own_turns : goal.returns-in-Err-clause-own_turns
returns-in-Err-clause-own_turns g c = unpulled_keeps_to_lines (g.D.Source.left c.args.deck.now) (g.C.Source.left c.args.cert.now) (g.C.Source.pulls c.args.cert.now)
