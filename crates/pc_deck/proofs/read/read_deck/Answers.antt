use Rattle.std.proofs.Common.{◌≡◌, true, Ok, Err, sym, ◌∙◌}
use Rattle.std.specs.Str.{is_utf8}
use Rattle.std.proofs.lemmas.Result.{IfErr-weaker, IfOk-weaker}
use Rattle.pc_faults.specs.inside.First.{Refuses}
use Rattle.pc_faults.proofs.FirstLaws.{refused_by}
use Rattle.pc_deck.specs.Read.{IsReadAs}
use Rattle.pc_deck.specs.Refusal.{IsRefusalAs}
use Rattle.pc_deck.specs.Within.{IsWithin}
use Rattle.pc_deck.specs.inside.Reading.{cards_of}
use Rattle.pc_deck.specs.inside.Titles.{AreTitlesText}
use Rattle.pc_deck.proofs.DeckLaws.{read_is}
use Rattle.pc_deck.proofs.TitleLemmas.{titles-text}
use Rattle.pc_deck.proofs.RefusalLemmas.{first_of-read}
use Rattle.pc_deck.proofs.read.read_deck.Goals as goal

pub returns-clause-accepted : goal.returns-clause-accepted
returns-clause-accepted c =
    let bytes = c.args.bytes.now in
    let utf8 : is_utf8 bytes ≡ true = sym c.is_utf8.ensures ∙ c.if-not-is_utf8.false in
    IfOk-weaker c.cards_of.result (λ deck. cards_of c.args.sort bytes ≡ Ok deck) (IsReadAs c.args.sort bytes) (λ deck. read_is c.args.sort bytes deck utf8) c.cards_of.ensures.cards

pub returns-clause-first : goal.returns-clause-first
returns-clause-first c =
    let bytes = c.args.bytes.now in
    let utf8 : is_utf8 bytes ≡ true = sym c.is_utf8.ensures ∙ c.if-not-is_utf8.false in
    IfErr-weaker c.cards_of.result (Refuses (λ fault. cards_of c.args.sort bytes ≡ Err fault)) (Refuses (IsRefusalAs c.args.sort bytes))
    (refused_by (λ fault. cards_of c.args.sort bytes ≡ Err fault) (IsRefusalAs c.args.sort bytes) (λ fault. first_of-read c.args.sort bytes fault utf8)) c.cards_of.ensures.fault

pub returns-clause-titles : goal.returns-clause-titles
returns-clause-titles c = IfOk-weaker c.cards_of.result (IsWithin c.args.sort) AreTitlesText (λ deck. titles-text {sort = c.args.sort} deck) c.cards_of.ensures.within
