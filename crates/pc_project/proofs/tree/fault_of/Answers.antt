use Rattle.std.proofs.Common.{◌<◌, length, sym, ap, subst, arith}
use Rattle.std.specs.Prelude.{All}
use Rattle.std.proofs.lemmas.List.{length-map}
use Rattle.pc_deck.specs.declared.kinds.wbs.ItemCard.{ItemCard}
use Rattle.pc_project.specs.inside.Refusal.{IsAbout}
use Rattle.pc_project.proofs.tree.fault_of.Goals as goal

pub codes_at-requires : goal.codes_at-requires
codes_at-requires g c = λ k d inside.
    let deck = c.args.cards.now in
    let known = subst (All (λ item. item < length deck.items)) (sym c.as_slice-items.ensures) (subst (IsAbout (length deck.items)) c.in-Loop.is c.requires).1 in
    omega (arith, known k d inside, ap length c.item_codes.ensures.codes, length-map deck.items (λ (item : ItemCard). item.code))
