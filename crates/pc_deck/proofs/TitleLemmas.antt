-- The titles of a deck within the limits are text, as each field of its cards is.
use Rattle.std.proofs.Common.{ℕ, List, All, get_or, sym, subst, arith}
use Rattle.std.specs.Str.{IsUtf8}
use Rattle.pc_faults.specs.declared.kind.Kind.{Kind}
use Rattle.pc_faults.specs.declared.kind.Kind.TheVariants.{Project, Wbs, Event, Act, Task, Acct, Res}
use Rattle.pc_cards.specs.declared.sort.Sort.{Sort}
use Rattle.pc_deck.specs.Deck.{Deck, list_of}
use Rattle.pc_deck.specs.Kinds.{CardOf, card_of}
use Rattle.pc_deck.specs.inside.Titles.{AreTitlesText}
use Rattle.pc_deck.specs.Within.{IsFit, IsWithin}
use Rattle.pc_deck.proofs.WrittenLemmas.{field-text}

-- what follows from the text of a card's fields holds of each card of the kind
texts : {sort : Sort} (kind : Kind) (title : CardOf kind → List ℕ) (deck : Deck) → IsWithin sort deck
    → ((row : ℕ) (fields : List (List ℕ)) → All IsUtf8 fields → IsUtf8 (title (card_of kind row fields))) → All (λ card. IsUtf8 (title card)) (list_of deck kind)
texts {sort} kind title deck limits follows = λ k d inside. so (get_or (list_of deck kind) k d) ((limits kind).fit k d inside)
  where
    so : (card : CardOf kind) → IsFit sort kind card → IsUtf8 (title card)
    so card (row, fields, is, fit, text) = subst (λ (c : CardOf kind). IsUtf8 (title c)) (sym is) (follows row fields text)

pub titles-text : {sort : Sort} (deck : Deck) → IsWithin sort deck → AreTitlesText deck
titles-text {sort} deck limits = record {
  project = texts Project (λ card. card.title) deck limits (λ row fields text. field-text fields 7 text) 0 deck.project (omega arith);
  items = texts Wbs (λ card. card.title) deck limits (λ row fields text. field-text fields 3 text);
  events = texts Event (λ card. card.title) deck limits (λ row fields text. field-text fields 2 text);
  acts = texts Act (λ card. card.title) deck limits (λ row fields text. field-text fields 12 text);
  tasks = texts Task (λ card. card.title) deck limits (λ row fields text. field-text fields 10 text);
  accounts = texts Acct (λ card. card.title) deck limits (λ row fields text. field-text fields 4 text);
  resources = texts Res (λ card. card.title) deck limits (λ row fields text. field-text fields 2 text);
}
