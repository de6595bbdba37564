-- The numbers of codes.
use Rattle.std.proofs.Common.{◌≡◌, ◌<◌, ℕ, List, [], length, get_or, sym, ap, ◌∙◌, refl, arith, Option, Some, None, nat_eq}
use Rattle.std.specs.Prelude.{IsSome, unwrap_or}
use Rattle.std.specs.Cmp.Lexicographic.{pointwise, bytes_decides}
use Rattle.std.proofs.lemmas.Bool.{false≢true}
use Rattle.std.proofs.lemmas.List.{length-map}
use Rattle.std.proofs.lemmas.List.Quantifiers.{position-Some}
use Rattle.pc_deck.specs.Deck.{Deck, account_codes, act_codes, event_codes, item_codes, named_among, number_among, resource_codes}

-- what is found is at some place
pub found_at : (found : Option ℕ) → IsSome found → (i : ℕ) × (found ≡ Some i)
found_at (Some i) known = (i, refl)
found_at None known = absurd (false≢true known)

-- a code that is found has a number below the number of codes, and is at that place
pub record HasNumber (codes : List (List ℕ)) (code : List ℕ) : Type 0 where
  pub within : number_among codes code < length codes
  pub code_there : get_or codes (number_among codes code) [] ≡ code

pub has_number : (codes : List (List ℕ)) (code : List ℕ) → IsSome (named_among codes code) → HasNumber codes code
has_number codes code known =
    let at = found_at (named_among codes code) known in
    let number : number_among codes code ≡ at.0 = ap (λ found. unwrap_or found (length codes)) at.1 in
    let found = position-Some (pointwise nat_eq code) codes at.0 [] at.1 in
    record {
      within = omega (arith, found.0, number);
      code_there = ap (λ i. get_or codes i []) number ∙ sym ((bytes_decides code (get_or codes at.0 [])).0 found.1);
    }

-- the number of an event that is there is below their count
pub event_number-within : (deck : Deck) (code : List ℕ) → IsSome (named_among (event_codes deck) code) → number_among (event_codes deck) code < length deck.events
event_number-within deck code known =
    omega (arith, (has_number (event_codes deck) code known).within, length-map deck.events (λ event. event.code))

-- two events with one number have one code
pub event_number-apart : (deck : Deck) (a b : List ℕ) → IsSome (named_among (event_codes deck) a) →
    IsSome (named_among (event_codes deck) b) → number_among (event_codes deck) a ≡ number_among (event_codes deck) b → a ≡ b
event_number-apart deck a b known_a known_b same =
    sym (has_number (event_codes deck) a known_a).code_there
    ∙ (ap (λ i. get_or (event_codes deck) i []) same ∙ (has_number (event_codes deck) b known_b).code_there)

-- the number of an item that is there is below their count
pub item_number-within : (deck : Deck) (code : List ℕ) → IsSome (named_among (item_codes deck) code) → number_among (item_codes deck) code < length deck.items
item_number-within deck code known =
    omega (arith, (has_number (item_codes deck) code known).within, length-map deck.items (λ item. item.code))

-- the number of an activity that is there is below their count
pub act_number-within : (deck : Deck) (code : List ℕ) → IsSome (named_among (act_codes deck) code) → number_among (act_codes deck) code < length deck.acts
act_number-within deck code known =
    omega (arith, (has_number (act_codes deck) code known).within, length-map deck.acts (λ act. act.code))

-- that of an account that is there is below their count
pub account_number-within : (deck : Deck) (code : List ℕ) → IsSome (named_among (account_codes deck) code) → number_among (account_codes deck) code < length deck.accounts
account_number-within deck code known =
    omega (arith, (has_number (account_codes deck) code known).within, length-map deck.accounts (λ account. account.code))

-- and so is that of a resource
pub resource_number-within : (deck : Deck) (code : List ℕ) → IsSome (named_among (resource_codes deck) code) → number_among (resource_codes deck) code < length deck.resources
resource_number-within deck code known =
    omega (arith, (has_number (resource_codes deck) code known).within, length-map deck.resources (λ resource. resource.code))
