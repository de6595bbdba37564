use Rattle.std.proofs.Common.{◌≤◌, length, map, sym, ◌∙◌, ap, subst}
use Rattle.std.specs.Prelude.{All}
use Rattle.std.proofs.lemmas.List.{length-map}
use Rattle.std.proofs.lemmas.Simd.{map-map}
use Rattle.pc_model.specs.declared.limits.TheConstants.{MAX_UNIT_DAYS}
use Rattle.pc_times.specs.Estimates.{expected_time, variance_of}
use Rattle.pc_deck.specs.inside.Act.{IsActWithin}
use Rattle.pc_deck.specs.declared.kinds.act.ActCard.{ActCard}
use Rattle.pc_deck.specs.declared.kinds.project.ProjectCard.{ProjectCard}
use Rattle.pc_deck.proofs.NumberLemmas.{acts-within, project-within}
use Rattle.pc_wbs.specs.Climb.{AreInRange, IsTree}
use Rattle.pc_faults.specs.inside.First.{Refuses}
use Rattle.pc_deck.specs.Durations.{HasOrderedEstimates}
use Rattle.pc_project.specs.Project.{row_of, term_of}
use Rattle.pc_project.specs.inside.Project.{placement_of}
use Rattle.pc_project.specs.Refusal.{IsRefusedWith, IsTreeFault}
use Rattle.pc_project.proofs.FitLaws.{all_fit, rows_of-in_range}
use Rattle.pc_project.proofs.RefusalLaws.{handed_on, refused_by_statuses, refused_by_togos, refused_by_tree}
use Rattle.pc_project.proofs.phases.frame_of.Goals as goal

pub tree_between-requires-clause-each : goal.tree_between-requires-clause-each
tree_between-requires-clause-each c =
    let deck = c.args.cards.now in
    ap length (c.deref.ensures.value ∙ c.requires.lists.rows) ∙ length-map deck.items (row_of deck)

pub tree_between-requires-clause-in_range : goal.tree_between-requires-clause-in_range
tree_between-requires-clause-in_range c =
    subst AreInRange (sym (c.deref.ensures.value ∙ c.requires.lists.rows)) (rows_of-in_range c.args.cards.now c.requires.faultless)

pub returns-in_err-tree-clause-refused : goal.returns-in_err-tree-clause-refused
returns-in_err-tree-clause-refused c =
    let deck = c.args.cards.now in
    let error = c.in_err-tree.field-0.0 in
    handed_on (Refuses (IsRefusedWith deck)) c.from_residual.result error c.from_residual.ensures.1
    (refused_by_tree deck error c.requires.faultless
    (subst (λ rows. Refuses (IsTreeFault deck.items rows) error) (c.deref.ensures.value ∙ c.requires.lists.rows) c.in_err-tree.ensures.refused))

pub net_of-requires-clause-tree : goal.net_of-requires-clause-tree
net_of-requires-clause-tree c = subst IsTree (c.deref.ensures.value ∙ c.requires.lists.rows) c.in_ok-tree.ensures.tree

pub check_items-requires-clause-plan : goal.check_items-requires-clause-plan
check_items-requires-clause-plan c = record {
  cards = c.requires.faultless;
  tree = subst IsTree (c.deref.ensures.value ∙ c.requires.lists.rows) c.in_ok-tree.ensures.tree;
  sound = c.in_ok-net.ensures.sound;
}

pub check_items-requires-clause-tree : goal.check_items-requires-clause-tree
check_items-requires-clause-tree c = c.in_ok-tree.ensures.rows ∙ (c.deref.ensures.value ∙ c.requires.lists.rows)

pub returns-in_err-states-clause-refused : goal.returns-in_err-states-clause-refused
returns-in_err-states-clause-refused c =
    let deck = c.args.cards.now in
    let error = c.in_err-states.field-0.0 in
    handed_on (Refuses (IsRefusedWith deck)) c.from_residual-in_err-states.result error c.from_residual-in_err-states.ensures.1
    (refused_by_statuses deck error
    (record {
      cards = c.requires.faultless;
      tree = subst IsTree (c.deref.ensures.value ∙ c.requires.lists.rows) c.in_ok-tree.ensures.tree;
      sound = c.in_ok-net.ensures.sound;
    })
    c.in_ok-check_items.ensures.leaves c.in_ok-check_items.ensures.even c.in_err-states.ensures.first)

pub returns-in_err-book-clause-refused : goal.returns-in_err-book-clause-refused
returns-in_err-book-clause-refused c =
    let deck = c.args.cards.now in
    let error = c.in_err-book.field-0.0 in
    handed_on (Refuses (IsRefusedWith deck)) c.from_residual-in_err-book.result error c.from_residual-in_err-book.ensures.1
    (refused_by_togos deck error
    (record {
      cards = c.requires.faultless;
      tree = subst IsTree (c.deref.ensures.value ∙ c.requires.lists.rows) c.in_ok-tree.ensures.tree;
      sound = c.in_ok-net.ensures.sound;
    })
    c.in_ok-check_items.ensures.leaves c.in_ok-check_items.ensures.even c.in_ok-states.ensures.ordered c.in_err-book.ensures.first)

pub check_costs-requires-clause-plan : goal.check_costs-requires-clause-plan
check_costs-requires-clause-plan c = record {
  cards = c.requires.faultless;
  tree = subst IsTree (c.deref.ensures.value ∙ c.requires.lists.rows) c.in_ok-tree.ensures.tree;
  sound = c.in_ok-net.ensures.sound;
}

pub check_costs-requires-clause-figures : goal.check_costs-requires-clause-figures
check_costs-requires-clause-figures c = record {
  leaves = c.in_ok-check_items.ensures.leaves;
  even = c.in_ok-check_items.ensures.even;
  ordered = c.in_ok-states.ensures.ordered;
  once = c.in_ok-book.ensures.once;
}

pub expected_times-requires-clause-unit : goal.expected_times-requires-clause-unit
expected_times-requires-clause-unit c =
    subst (λ (card : ProjectCard). card.unit_days ≤ MAX_UNIT_DAYS) (sym c.project.ensures.card) (project-within c.args.cards.now c.acts-acts.ensures.within).unit_within

pub expected_times-requires-clause-within : goal.expected_times-requires-clause-within
expected_times-requires-clause-within c =
    subst (All IsActWithin) (sym c.acts-acts.ensures.cards) (acts-within c.args.cards.now c.acts-acts.ensures.within)

pub variances-requires-clause-unit : goal.variances-requires-clause-unit
variances-requires-clause-unit c =
    subst (λ (card : ProjectCard). card.unit_days ≤ MAX_UNIT_DAYS) (sym c.project.ensures.card) (project-within c.args.cards.now c.acts-acts.ensures.within).unit_within

pub variances-requires-clause-within : goal.variances-requires-clause-within
variances-requires-clause-within c =
    subst (All IsActWithin) (sym c.acts-acts.ensures.cards) (acts-within c.args.cards.now c.acts-acts.ensures.within)

pub expected_times-requires-clause-ordered : goal.expected_times-requires-clause-ordered
expected_times-requires-clause-ordered c =
    subst (All (λ (act : ActCard). HasOrderedEstimates act.opt act.likely act.pess)) (sym c.acts-acts.ensures.cards) (λ k d within. (all_fit c.args.cards.now c.requires.faultless k d within).ordered)

pub variances-requires-clause-ordered : goal.variances-requires-clause-ordered
variances-requires-clause-ordered c =
    subst (All (λ (act : ActCard). HasOrderedEstimates act.opt act.likely act.pess)) (sym c.acts-acts.ensures.cards) (λ k d within. (all_fit c.args.cards.now c.requires.faultless k d within).ordered)

pub returns-clause-lists : goal.returns-clause-lists
returns-clause-lists c =
    let deck = c.args.cards.now in
    let acts = c.acts-acts.ensures.cards in
    let card = c.project.ensures.card in
    record {
      places = c.in_ok-places.ensures ∙ (ap (map (λ placement. placement.item)) (c.deref-2.ensures.value ∙ c.requires.lists.placements)
          ∙ map-map (λ placement. placement.item) (placement_of deck) deck.acts);
      terms = c.in_ok-terms.ensures ∙ ap (map term_of) acts;
      expected = c.in_ok-expected_times.ensures
          ∙ (ap (map (λ act. expected_time act.opt act.likely act.pess c.project.result.now.unit_days)) acts
          ∙ ap (λ (card : ProjectCard). map (λ act. expected_time act.opt act.likely act.pess card.unit_days) deck.acts) card);
      variances = c.in_ok-variances.ensures
          ∙ (ap (map (λ act. variance_of act.opt act.pess c.project.result.now.unit_days)) acts
          ∙ ap (λ (card : ProjectCard). map (λ act. variance_of act.opt act.pess card.unit_days) deck.acts) card);
    }

pub returns-clause-makes : goal.returns-clause-makes
returns-clause-makes c = record {
  cards = c.requires.faultless;
  tree = subst IsTree (c.deref.ensures.value ∙ c.requires.lists.rows) c.in_ok-tree.ensures.tree;
  sound = c.in_ok-net.ensures.sound;
  figures = record {
    leaves = c.in_ok-check_items.ensures.leaves;
    even = c.in_ok-check_items.ensures.even;
    ordered = c.in_ok-states.ensures.ordered;
    once = c.in_ok-book.ensures.once;
  };
  pieces = c.in_ok-check_costs.ensures.pieces;
  terms = c.in_ok-check_costs.ensures.terms;
}
