use Rattle.std.proofs.Common.{◌≡◌, ◌-◌, ◌≤◌, List, ℕ, length, take, drop, ap, ◌∙◌, arith, length-take-le, length-drop}
use Rattle.pc_edges.specs.inside.lines.Reading.{Reading}
use Rattle.pc_edges.proofs.lemmas.lines.HoldLemmas.{ahead-passed}
use Rattle.pc_edges.proofs.lines.reader.LineReader.pass.Goals as goal

pub returns : goal.returns
returns c =
    let a = c.self.inside in
    let kept : length (take (a.to - a.from) (drop a.from a.buffer.items)) ≡ a.to - a.from =
    length-take-le (a.to - a.from) (drop a.from a.buffer.items) (omega (arith, length-drop a.from a.buffer.items, c.self.invariant.room, c.self.invariant.to)) in
    let room : c.args.count ≤ length (take (a.to - a.from) (drop a.from a.buffer.items)) = omega (arith, c.requires, ap (λ (r : Reading). length r.ahead) c.self.view_is) in
    let with_ahead : List ℕ → Reading = λ (ahead : List ℕ). record { line = take a.held a.cells; ahead = ahead; taken = a.taken } in
    ap with_ahead (ahead-passed a.from c.args.count a.to a.buffer.items (omega (arith, kept, room, c.self.invariant.from)))
    ∙ ap (λ (r : Reading). record r { ahead = drop c.args.count r.ahead }) c.self.view_is
