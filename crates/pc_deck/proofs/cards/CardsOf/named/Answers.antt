use Rattle.std.proofs.Common.{ℕ, ◌≤◌, List, [], length, nat_eq, sym, subst, ◌∙◌, arith}
use Rattle.std.specs.Cmp.Lexicographic.{pointwise}
use Rattle.std.proofs.lemmas.Grind.{common_steps}
use Rattle.std.proofs.lemmas.List.Quantifiers.{position-Some}
use Rattle.pc_deck.proofs.TargetLaws.{few_targets}
use Rattle.pc_deck.proofs.cards.CardsOf.named.Goals as goal

pub overflow_cast-result : goal.overflow_cast-result
overflow_cast-result g c =
    let codes = c.names.result.now in
    let below = position-Some (pointwise nat_eq c.args.code.now) codes c.in_ok-number.number [] (sym c.place_of.ensures ∙ c.in_ok-number.was) in
    let few : length codes ≤ 4294967295 =
    subst (λ (codes : List (List ℕ)). length codes ≤ 4294967295) (sym c.names.ensures.codes) (few_targets g.S.DeckSort.sort c.args.self.now c.names.ensures.within c.args.target) in
    grind (arith, common_steps, below.0, few)
