use Rattle.std.proofs.Common.{ap, ◌∙◌, ◌*◌, ◌/◌, ℕ}
use Rattle.pc_accounts.proofs.EntryLaws.{IsShare-rounded}
use Rattle.pc_accounts.proofs.book.Entry.value.Goals as goal

pub returns-clause-share : goal.returns-clause-share
returns-clause-share c = λ open_work some.
    IsShare-rounded c.args.self.now c.share.result some (c.share.ensures.share ∙ ap (λ (n : ℕ). c.args.self.now.budget * c.args.self.now.actual / n) c.latest-latest.ensures.latest)
