-- Which deck bytes are: at most one, and none where they are refused.
use Rattle.std.proofs.Common.{◌≡◌, ℕ, true, List, [], ◌∷◌, Bool, false, Option, Some, None, Ok, refl, sym, ap, ◌∙◌}
use Rattle.std.specs.Prelude.{option_to_list}
use Rattle.std.specs.Str.{is_utf8}
use Rattle.pc_faults.specs.declared.fault.Fault.{Fault}
use Rattle.pc_cards.specs.Cards.{Numbered}
use Rattle.pc_cards.specs.declared.sort.Sort.{Sort}
use Rattle.pc_cards.specs.declared.sort.Sort.TheVariants.{Plan}
use Rattle.pc_faults.specs.declared.kind.Kind.{Kind}
use Rattle.pc_faults.specs.declared.kind.Kind.TheVariants.{Project, End}
use Rattle.pc_deck.specs.Kinds.{CardOf, stands_once, held_in, lists_with}
use Rattle.pc_cards.specs.Named.{HeldBy, listed_by}
use Rattle.pc_deck.specs.Deck.{Deck, list_of}
use Rattle.pc_deck.specs.inside.Reading.{cards_of}
use Rattle.pc_deck.specs.Read.{IsDeckOf, IsReadAs}
use Rattle.pc_deck.specs.Refusal.{IsCardRefusal, IsRefusalAs}
use Rattle.pc_deck.specs.Says.{Says}
use Rattle.pc_deck.proofs.RefusalLemmas.{none_of-read}
use Rattle.pc_deck.proofs.NoFaultLaws.{no_fault, is_faultless}
use Rattle.pc_deck.proofs.SaysLemmas.{says_of-read}

-- the first of a list, or another
abbrev first_or : {X : Type 0} → X → List X → X
first_or other [] = other
first_or other (x ∷ xs) = x

-- the first of a list, where there is one
abbrev first_of : {X : Type 0} → List X → Option X
first_of [] = None
first_of (x ∷ xs) = Some x

first_of-option_to_list : {X : Type 0} (card : Option X) → first_of (option_to_list card) ≡ card
first_of-option_to_list None = refl
first_of-option_to_list (Some card) = refl

one : {X : Type 0} (x y : X) → x ∷ [] ≡ y ∷ [] → x ≡ y
one x y same = ap (first_or x) same

one_or_none : {X : Type 0} (card other : Option X) → option_to_list card ≡ option_to_list other → card ≡ other
one_or_none card other same = sym (first_of-option_to_list card) ∙ (ap first_of same ∙ first_of-option_to_list other)

same_held : (once : Bool) (C : Type 0) (held other : HeldBy once C) → listed_by once C held ≡ listed_by once C other → held ≡ other
same_held true C held other same = one_or_none held other same
same_held false C held other same = same

-- the cards of a deck say one thing alone
pub said_once : (cards : List Numbered) (deck other : Deck) → Says cards deck → Says cards other → deck ≡ other
said_once cards deck other says also = λ i. record { project = one deck.project other.project (list Project) i; lists = lists i }
  where
    list : (kind : Kind) → list_of deck kind ≡ list_of other kind
    list kind = sym (says kind) ∙ also kind

    held : (kind : Kind) → held_in deck.lists kind ≡ held_in other.lists kind
    held Project = refl
    held End = refl
    held kind = same_held (stands_once kind) (CardOf kind) (held_in deck.lists kind) (held_in other.lists kind) (list kind)

    lists : deck.lists ≡ other.lists
    lists = let all : held_in deck.lists ≡ held_in other.lists = λ i kind. held kind i in ap lists_with all

-- bytes are one deck of a sort at most
pub one_deck_as : (sort : Sort) (bytes : List ℕ) (deck other : Deck) → IsReadAs sort bytes deck → IsReadAs sort bytes other → deck ≡ other
one_deck_as sort bytes deck other is also = said_once _ deck other is.says also.says

-- and none where they are refused as one
pub not_both_as : (sort : Sort) (bytes : List ℕ) (deck : Deck) (fault : Fault) → IsReadAs sort bytes deck → IsRefusalAs sort bytes fault → ⊥
not_both_as sort bytes deck fault is refused = no_fault sort bytes is.faultless fault refused.holds

-- the same of plans
pub one_deck : (bytes : List ℕ) (deck other : Deck) → IsDeckOf bytes deck → IsDeckOf bytes other → deck ≡ other
one_deck = one_deck_as Plan

pub not_both : (bytes : List ℕ) (deck : Deck) (fault : Fault) → IsDeckOf bytes deck → IsCardRefusal bytes fault → ⊥
not_both = not_both_as Plan

-- what is read is the deck
pub read_is : (sort : Sort) (bytes : List ℕ) (deck : Deck) → is_utf8 bytes ≡ true → cards_of sort bytes ≡ Ok deck → IsReadAs sort bytes deck
read_is sort bytes deck utf8 read = record { says = says_of-read sort bytes deck read; faultless = is_faultless sort bytes (none_of-read sort bytes deck utf8 read) }
