use Rattle.std.proofs.Common.{append-nil, ap, sym, ◌∙◌}
use Rattle.pc_edges.proofs.Writing.{Writes-ok}
use Rattle.pc_edges.specs.inside.page.Page.{Page}
use Rattle.pc_edges.proofs.lemmas.page.PageLaws.{◌⨾◌, Adds-as, Adds-whole, Adds-stopped}
use Rattle.pc_edges.proofs.page.Page.push_out.Goals as goal

pub returns-then-failed-clause-text : goal.returns-then-failed-clause-text
returns-then-failed-clause-text g c = λ start text begun put.
    let all = Adds-as text (append-nil text) (put ⨾ c.push_pending.ensures.text) in
    record { ok = tt; err = Adds-stopped begun (ap (λ (p : Page). p.failed) (sym c.self.view_is) ∙ c.if-failed.true) all; count = all.count }

pub returns-clause-text : goal.returns-clause-text
returns-clause-text g c = λ start text begun put.
    let all = Adds-as text (append-nil text) (put ⨾ c.push_pending.ensures.text) in
    Writes-ok (Adds-whole begun c.push_pending.ensures.empty (ap (λ (p : Page). p.failed) (sym c.self.view_is) ∙ c.if-failed.false) all)
