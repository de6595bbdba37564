use Rattle.std.proofs.Common.{◌∙◌, length, sym, ap}
use Rattle.std.proofs.lemmas.List.{length-map}
use Rattle.pc_project.proofs.project.Project.resource_count.Goals as goal

pub returns-clause-count : goal.returns-clause-count
returns-clause-count c =
    ap length c.resources.ensures.cards
    ∙ (sym (length-map c.self.inside.cards.resources (λ resource. resource.code)) ∙ ap (λ p. length p.resources) c.self.view_is)
