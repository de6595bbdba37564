use Rattle.std.proofs.Common.{◌≡◌, ◌+◌, ◌-◌, ◌++◌, ◌≤◌, List, ℕ, length, take, drop, ap, ◌∙◌, arith, length-take-le, length-drop}
use Rattle.pc_edges.specs.declared.lines.reader.TheConstants.{LINE_ROOM}
use Rattle.pc_edges.specs.inside.lines.Reading.{Reading}
use Rattle.pc_edges.proofs.lemmas.lines.HoldLemmas.{held-more}
use Rattle.pc_edges.proofs.lines.reader.LineReader.hold.Goals as goal

pub returns : goal.returns
returns c =
    let a = c.self.inside in
    let much = c.min-kept.result in
    let kept : length (take (a.to - a.from) (drop a.from a.buffer.items)) ≡ a.to - a.from =
    length-take-le (a.to - a.from) (drop a.from a.buffer.items) (omega (arith, length-drop a.from a.buffer.items, c.self.invariant.room, c.self.invariant.to)) in
    let room : c.args.count ≤ a.to - a.from = omega (arith, kept, c.requires, ap (λ (r : Reading). length r.ahead) c.self.view_is) in
    let piece : c.copy_from_slice.new.self ≡ take much (drop a.from a.buffer.items) =
    c.copy_from_slice.ensures.after ∙ ap (λ l. take (a.from + much - a.from) (drop a.from l)) c.deref.ensures.value
    ∙ ap (λ n. take n (drop a.from a.buffer.items)) (let n : a.from + much - a.from ≡ much = omega arith in n) in
    let with_line : List ℕ → Reading = λ (line : List ℕ). record { line = line; ahead = take (a.to - a.from) (drop a.from a.buffer.items); taken = a.taken } in
    ap with_line (held-more a.cells a.buffer.items c.copy_from_slice.new.self LINE_ROOM a.held a.from a.to c.args.count much
    c.self.invariant.cells c.self.invariant.held c.self.invariant.from (omega (arith, c.self.invariant.room, c.self.invariant.to)) room c.min-kept.ensures piece)
    ∙ ap (λ (r : Reading). record r { line = take LINE_ROOM (r.line ++ take c.args.count r.ahead) }) c.self.view_is
