use Rattle.std.proofs.Common.{◌≡◌, ◌∙◌, sym, subst, None, Option, ℕ, Some, set, arith}
use Rattle.std.proofs.lemmas.List.{get_or_default}
use Rattle.pc_wbs.specs.Climb.{parent_of}
use Rattle.pc_wbs.specs.inside.Links.{linked_row_at, AreNextSiblings}
use Rattle.pc_wbs.proofs.LinkLaws.{firsts_more, nexts_more}
use Rattle.pc_wbs.proofs.order.link.Goals as goal

pub returns-clause-firsts : goal.returns-clause-firsts
returns-clause-firsts c =
    let child : parent_of c.args.rows.now c.args.item ≡ Some c.in-Some.parent = sym c.parent_of.ensures ∙ c.in-Some.is in
    firsts_more _ _ _ _ child c.requires.item c.requires.firsts

pub returns-clause-nexts : goal.returns-clause-nexts
returns-clause-nexts c =
    let rows = c.args.rows.now in
    let parent = c.in-Some.parent in
    let firsts = c.args.firsts.now.items in
    let child : parent_of rows c.args.item ≡ Some parent = sym c.parent_of.ensures ∙ c.in-Some.is in
    let known = c.requires.in_range c.args.item parent c.requires.item child in
    let read : c.index.result.now ≡ linked_row_at firsts parent = c.index.ensures ∙ get_or_default firsts parent c.index.result.now None (omega (arith, c.requires.firsts.one_each, known)) in
    subst (λ (o : Option ℕ). AreNextSiblings rows c.args.item (set c.args.nexts.now.items c.args.item o)) (sym read)
    (nexts_more _ _ _ _ _ child c.requires.item known c.requires.firsts c.requires.nexts)
