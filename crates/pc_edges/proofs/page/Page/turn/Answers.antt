use Rattle.std.proofs.Common.{◌≡◌, List, ℕ, [], ◌++◌, ap, sym, ◌∙◌, subst}
use Rattle.pc_edges.specs.inside.page.Page.{Page}
use Rattle.pc_edges.specs.inside.page.Puts.{Adds, desk}
use Rattle.pc_edges.proofs.lemmas.page.PageLaws.{Adds-then, Adds-behind, emptied}
use Rattle.pc_edges.proofs.page.Page.turn.Goals as goal

pub returns-else-not-gather : goal.returns-else-not-gather
returns-else-not-gather g c =
    let more : c.gather.new.self.pending ≡ c.push_pending.new.self.pending ++ c.args.piece.now = c.gather.ensures.gathered c.if-not-gather.false in
    Adds-then c.push_pending.ensures.text (Adds-behind _ _ _ _ c.args.piece.now c.gather.ensures.failed more)

pub returns-then-not-gather : goal.returns-then-not-gather
returns-then-not-gather g c =
    let o = g.O.Sink in
    let before = desk o.taken o.faults c.args.self.now c.args.sink.now in
    let same : c.gather.new.self ≡ c.push_pending.new.self = c.gather.ensures.same c.if-not-gather.true in
    let none = ap (λ (p : Page). p.pending) (c.self.view_is ∙ same) ∙ c.push_pending.ensures.empty in
    let empty = sym (c.self.view_is ∙ same) ∙ emptied _ none in
    let pushed = subst (λ (p : Page). Adds before (desk o.taken o.faults p c.push_pending.new.sink) []) empty c.push_pending.ensures.text in
    subst (λ (bytes : List ℕ). Adds before (desk o.taken o.faults (record { pending = bytes; failed = c.push_on-self-inside.result }) c.push_on-self-inside.new.sink) c.args.piece.now)
    (sym none) (Adds-then pushed c.push_on-self-inside.ensures)
