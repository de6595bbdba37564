use Rattle.std.proofs.Common.{◌+◌, subst}
use Rattle.std.specs.Prelude.{IfOk, IfSome}
use Rattle.pc_edges.specs.declared.loading.TheConstants.{STREAM_ROOM}
use Rattle.pc_check.specs.Texts.{Finds}
use Rattle.pc_check.specs.Stops.{IsSettled}
use Rattle.pc_check.specs.Auditing.{most_bytes}
use Rattle.pc_check.specs.inside.Auditing.{audit_bytes_left}
use Rattle.pc_edges.proofs.PullLaws.{TakesPulls-none, TakesPulls-one_more}
use Rattle.pc_check.specs.OwnLines.{KeepsToOwnLines}
use Rattle.pc_check.proofs.OwnTurnLaws.{keeps_to_lines, unpulled_keeps}
use Rattle.pc_check.proofs.audit.audit_source.Goals as goal

pub returns-clause-finds : goal.returns-clause-finds
returns-clause-finds g c =
    subst (λ n. IfOk c.audit_by.result (λ verdict. IfSome (g.C.Source.left c.args.source.now) (λ text. Finds n text verdict))) c.in-Ok.ensures.net c.audit_by.ensures.finds

pub returns-clause-turns : goal.returns-clause-turns
returns-clause-turns g c =
    TakesPulls-one_more (audit_bytes_left c.in-Ok.audit) (most_bytes c.args.net.now) _ _ c.in-Ok.ensures.left c.audit_by.ensures.turns

pub returns-clause-stops : goal.returns-clause-stops
returns-clause-stops g c =
    subst (λ n. IfOk c.audit_by.result
    (λ verdict. IsSettled n verdict STREAM_ROOM g.C.Source.left g.C.Source.faults g.C.Source.pulls c.args.source.now c.audit_by.new.source))
    c.in-Ok.ensures.net c.audit_by.ensures.stops

pub returns-clause-own_turns : goal.returns-clause-own_turns
returns-clause-own_turns g c =
    let s = g.C.Source in
    subst (λ n. IfSome (s.left c.args.source.now) (λ text. KeepsToOwnLines n text (s.pulls c.args.source.now) (s.pulls c.audit_by.new.source))) c.in-Ok.ensures.net
    (keeps_to_lines _ STREAM_ROOM s.left s.faults s.pulls c.args.source.now c.audit_by.new.source c.audit_by.result c.audit_by.ensures.stops c.audit_by.ensures.unsettled)

pub returns-in_default-clause-own_turns : goal.returns-in_default-clause-own_turns
returns-in_default-clause-own_turns g c = unpulled_keeps c.args.net.now (g.C.Source.left c.args.source.now) (g.C.Source.pulls c.args.source.now)

pub audit_by-requires-clause-read : goal.audit_by-requires-clause-read
audit_by-requires-clause-read g c = c.in-Ok.ensures.read

pub audit_by-requires-clause-going : goal.audit_by-requires-clause-going
audit_by-requires-clause-going g c = c.in-Ok.ensures.going

pub returns-clause-end : goal.returns-clause-end
returns-clause-end g c = c.audit_by.ensures.end

pub returns-clause-no_fault : goal.returns-clause-no_fault
returns-clause-no_fault g c = c.audit_by.ensures.no_fault

pub returns-clause-fault : goal.returns-clause-fault
returns-clause-fault g c = c.audit_by.ensures.fault

pub returns-clause-no_room : goal.returns-clause-no_room
returns-clause-no_room g c = λ is. absurd (c.audit_by.ensures.room is)

pub returns-clause-count : goal.returns-clause-count
returns-clause-count g c = c.audit_by.ensures.count

pub returns-in_default-clause-turns : goal.returns-in_default-clause-turns
returns-in_default-clause-turns g c = TakesPulls-none (most_bytes c.args.net.now + 1) (g.C.Source.pulls c.args.source.now)

pub returns-in_default-vec-clause-turns : goal.returns-in_default-vec-clause-turns
returns-in_default-vec-clause-turns g c = TakesPulls-none (most_bytes c.args.net.now + 1) (g.C.Source.pulls c.args.source.now)

pub returns-in_default-vec-clause-own_turns : goal.returns-in_default-vec-clause-own_turns
returns-in_default-vec-clause-own_turns g c = unpulled_keeps c.args.net.now (g.C.Source.left c.args.source.now) (g.C.Source.pulls c.args.source.now)
