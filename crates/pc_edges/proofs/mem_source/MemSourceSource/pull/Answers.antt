use Rattle.std.proofs.Common.{◌≡◌, ◌+◌, ◌-◌, length, take, drop, arith, sym, ap, ◌∙◌, length-take-le}
use Rattle.pc_edges.specs.inside.Supply.{Supply}
use Rattle.pc_edges.proofs.Copying.{drop-copied}
use Rattle.pc_edges.proofs.mem_source.MemSourceSource.pull.Goals as goal

pub returns-clause-bytes : goal.returns-clause-bytes
returns-clause-bytes c =
    let at = c.self.inside.at in
    let n = c.min-n.result in
    let len : length c.copy_from_slice.new.self ≡ n = omega (arith, length-take-le n c.args.buf.now) in
    let left : drop at c.self.inside.bytes.items ≡ c.args.self.now.left = ap (λ (s : Supply). s.left) c.self.view_is in
    let copied = c.copy_from_slice.ensures.after ∙ ap (λ l. take (at + n - at) (drop at l)) c.deref.ensures.value in
    sym left ∙ drop-copied c.self.inside.bytes.items _ _ at n len copied
