use Rattle.std.proofs.Common.{length, ap, sym, ◌∙◌, subst, arith}
use Rattle.std.proofs.lemmas.List.{length-map}
use Rattle.pc_faults.specs.inside.First.{Refuses}
use Rattle.pc_faults.specs.declared.kind.Kind.TheVariants.{Wbs}
use Rattle.pc_project.specs.Project.{row_of, rows_of}
use Rattle.pc_project.specs.Refusal.{IsTreeFault}
use Rattle.pc_faults.proofs.FirstLaws.{refused_by}
use Rattle.pc_project.proofs.RefusalLaws.{handed_on}
use Rattle.pc_wbs.specs.Climb.{AreInRange}
use Rattle.pc_tasks.specs.Refusal.{IsTasksRefusedWith, of_tree}
use Rattle.pc_tasks.proofs.KnownLemmas.{rows-in_range}
use Rattle.pc_tasks.proofs.tree.tree_of.Goals as goal

pub tree_between-requires-clause-each : goal.tree_between-requires-clause-each
tree_between-requires-clause-each c =
    let deck = c.args.cards.now in
    ap length (c.deref.ensures.value ∙ c.in_ok-rows.ensures.rows) ∙ length-map deck.items (row_of deck)

pub tree_between-requires-clause-few : goal.tree_between-requires-clause-few
tree_between-requires-clause-few c =
    let deck = c.args.cards.now in
    omega (arith, ap length (c.deref.ensures.value ∙ c.in_ok-rows.ensures.rows), length-map deck.items (row_of deck), (c.in_ok-rows.ensures.within Wbs).few)

pub tree_between-requires-clause-in_range : goal.tree_between-requires-clause-in_range
tree_between-requires-clause-in_range c =
    subst AreInRange (sym (c.deref.ensures.value ∙ c.in_ok-rows.ensures.rows)) (rows-in_range c.args.cards.now c.requires)

pub returns-in_err-tree-clause-refused : goal.returns-in_err-tree-clause-refused
returns-in_err-tree-clause-refused c =
    let deck = c.args.cards.now in
    let error = c.in_err-tree.field-0.0 in
    handed_on (Refuses (IsTasksRefusedWith deck)) c.from_residual-in_err-tree.result error c.from_residual-in_err-tree.ensures.1
    (refused_by (IsTreeFault deck.items (rows_of deck)) (IsTasksRefusedWith deck) (λ fault at. of_tree c.requires at) error
    (subst (λ rows. Refuses (IsTreeFault deck.items rows) error) (c.deref.ensures.value ∙ c.in_ok-rows.ensures.rows) c.in_err-tree.ensures.refused))
