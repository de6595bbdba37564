use Rattle.std.proofs.Common.{◌≡◌, ◌∙◌, length, take, subst, arith, length-take-le}
use Rattle.pc_edges.specs.Faults.{Rose}
use Rattle.pc_check.proofs.SourceLaws.{none_pulled, piece_pulled, found_at_end, fails_in_piece, settled_at_end, settled_in_piece, unsettled, pulls_and_one, on_any}
use Rattle.pc_check.proofs.audit.audit_by.Goals as goal

pub loop-n-init : goal.loop-n-init
loop-n-init g c = none_pulled _ _ _ c.args.source.now c.args.audit c.requires.read c.requires.going

pub returns-then-n-eq0-clause-finds : goal.returns-then-n-eq0-clause-finds
returns-then-n-eq0-clause-finds g c =
    let s = g.C.Source in
    let piece = take c.in-Ok.n c.pull.new.buf in
    let given : length piece ≡ c.in-Ok.n = length-take-le c.in-Ok.n c.pull.new.buf (omega (arith, c.in-Ok.ensures.fits, c.pull.auto.buf)) in
    found_at_end s.left s.faults s.pulls c.args.source.now c.loop-n.source c.pull.new.self c.loop-n.invariant c.finish.result piece
    c.in-Ok.ensures.bytes (omega (arith, given, c.if-n-eq0.true))
    (c.in-Ok.ensures.end (omega (arith, c.if-n-eq0.true)) (omega (arith, c.loop-n.auto.buffer, c.requires.room)))
    c.finish.ensures

pub returns-in-Some-clause-finds : goal.returns-in-Some-clause-finds
returns-in-Some-clause-finds g c =
    let s = g.C.Source in
    fails_in_piece s.left s.faults s.pulls c.args.source.now c.loop-n.source c.pull.new.self c.loop-n.invariant c.in-Some.fail
    (take c.in-Ok.n c.pull.new.buf) c.in-Ok.ensures.bytes c.in-Some.ensures.fails

pub returns-then-n-eq0-clause-stops : goal.returns-then-n-eq0-clause-stops
returns-then-n-eq0-clause-stops g c =
    let s = g.C.Source in
    let piece = take c.in-Ok.n c.pull.new.buf in
    let given : length piece ≡ c.in-Ok.n = length-take-le c.in-Ok.n c.pull.new.buf (omega (arith, c.in-Ok.ensures.fits, c.pull.auto.buf)) in
    settled_at_end s.left s.faults s.pulls c.args.source.now c.loop-n.source c.pull.new.self c.loop-n.invariant piece
    c.in-Ok.ensures.bytes c.in-Ok.ensures.pulled c.finish.result _ (omega (arith, given, c.if-n-eq0.true)) c.finish.ensures

pub returns-in-Some-clause-stops : goal.returns-in-Some-clause-stops
returns-in-Some-clause-stops g c =
    let s = g.C.Source in
    let piece = take c.in-Ok.n c.pull.new.buf in
    let given : length piece ≡ c.in-Ok.n = length-take-le c.in-Ok.n c.pull.new.buf (omega (arith, c.in-Ok.ensures.fits, c.pull.auto.buf)) in
    settled_in_piece s.left s.faults s.pulls c.args.source.now c.loop-n.source c.pull.new.self c.loop-n.invariant piece
    c.in-Ok.ensures.bytes c.in-Ok.ensures.pulled c.in-Some.fail _
    (omega (arith, given, c.in-Ok.ensures.fits, c.loop-n.auto.buffer, c.requires.room)) c.in-Some.ensures.fails

pub loop-n-preserved : goal.loop-n-preserved
loop-n-preserved g c =
    let s = g.C.Source in
    let piece = take c.in-Ok.n c.pull.new.buf in
    let given : length piece ≡ c.in-Ok.n = length-take-le c.in-Ok.n c.pull.new.buf (omega (arith, c.in-Ok.ensures.fits, c.pull.auto.buf)) in
    piece_pulled s.left s.faults s.pulls c.args.source.now c.loop-n.source c.pull.new.self c.loop-n.invariant c.feed.new.self piece
    c.in-Ok.ensures.bytes c.in-Ok.ensures.no_fault c.in-Ok.ensures.pulled (omega (arith, given, c.if-n-eq0.false))
    c.in_default-feed.ensures.going c.feed.ensures.net c.in_default-feed.ensures.goes_on c.in_default-feed.ensures.left

pub finish-requires-clause-read : goal.finish-requires-clause-read
finish-requires-clause-read g c = (c.loop-n.invariant.text, c.loop-n.invariant.read)

pub finish-requires-clause-going : goal.finish-requires-clause-going
finish-requires-clause-going g c = c.loop-n.invariant.going

pub feed-requires-clause-read : goal.feed-requires-clause-read
feed-requires-clause-read g c = (c.loop-n.invariant.text, c.loop-n.invariant.read)

pub feed-requires-clause-going : goal.feed-requires-clause-going
feed-requires-clause-going g c = c.loop-n.invariant.going

pub loop-n-smaller : goal.loop-n-smaller
loop-n-smaller g c =
    let piece = take c.in-Ok.n c.pull.new.buf in
    let given : length piece ≡ c.in-Ok.n = length-take-le c.in-Ok.n c.pull.new.buf (omega (arith, c.in-Ok.ensures.fits, c.pull.auto.buf)) in
    c.in_default-feed.ensures.left (omega (arith, given, c.if-n-eq0.false))

pub returns-in_default-clause-fault : goal.returns-in_default-clause-fault
returns-in_default-clause-fault g c = λ is.
    subst (λ n. Rose n (g.C.Source.faults c.pull.new.self)) c.loop-n.invariant.no_fault c.in_default.ensures.failed

pub returns-in_default-clause-unsettled : goal.returns-in_default-clause-unsettled
returns-in_default-clause-unsettled g c =
    let s = g.C.Source in
    unsettled s.left s.faults s.pulls c.args.source.now c.loop-n.source c.pull.new.self c.loop-n.invariant
    c.in_default.ensures.failed c.in_default.ensures.kept c.pull.ensures.pulled

pub returns-in_default-clause-count : goal.returns-in_default-clause-count
returns-in_default-clause-count g c = omega (arith, c.loop-n.invariant.no_fault, c.pull.ensures.count)

pub returns-in_default-clause-turns : goal.returns-in_default-clause-turns
returns-in_default-clause-turns g c =
    let s = g.C.Source in
    pulls_and_one s.left s.faults s.pulls c.args.source.now c.loop-n.source c.pull.new.self c.loop-n.invariant c.pull.ensures.pulled

pub returns-then-n-eq0-clause-end : goal.returns-then-n-eq0-clause-end
returns-then-n-eq0-clause-end g c =
    on_any c.finish.result _ (c.in-Ok.ensures.end (omega (arith, c.if-n-eq0.true)) (omega (arith, c.loop-n.auto.buffer, c.requires.room)))

pub returns-then-n-eq0-clause-no_fault : goal.returns-then-n-eq0-clause-no_fault
returns-then-n-eq0-clause-no_fault g c = c.in-Ok.ensures.no_fault ∙ c.loop-n.invariant.no_fault

pub returns-then-n-eq0-clause-count : goal.returns-then-n-eq0-clause-count
returns-then-n-eq0-clause-count g c = omega (arith, c.loop-n.invariant.no_fault, c.pull.ensures.count)

pub returns-then-n-eq0-clause-turns : goal.returns-then-n-eq0-clause-turns
returns-then-n-eq0-clause-turns g c =
    let s = g.C.Source in
    pulls_and_one s.left s.faults s.pulls c.args.source.now c.loop-n.source c.pull.new.self c.loop-n.invariant c.in-Ok.ensures.pulled

pub returns-in-Some-clause-count : goal.returns-in-Some-clause-count
returns-in-Some-clause-count g c = omega (arith, c.loop-n.invariant.no_fault, c.pull.ensures.count)

pub returns-in-Some-clause-turns : goal.returns-in-Some-clause-turns
returns-in-Some-clause-turns g c =
    let s = g.C.Source in
    pulls_and_one s.left s.faults s.pulls c.args.source.now c.loop-n.source c.pull.new.self c.loop-n.invariant c.in-Ok.ensures.pulled
