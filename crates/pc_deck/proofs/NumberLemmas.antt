-- The numbers of the cards of a deck are within their limits.
use Rattle.std.proofs.Common.{◌≡◌, ℕ, ◌≤◌, false, List, get_or, Option, Some, None, unwrap_or, All, refl, sym, subst, arith}
use Rattle.std.specs.Option.{ForSome}
use Rattle.std.specs.Prelude.{option_to_list}
use Rattle.pc_model.specs.Codes.{text_at}
use Rattle.pc_text.specs.Number.{number_of}
use Rattle.pc_model.specs.declared.limits.TheConstants.{MAX_COST, MAX_DIRECTED, MAX_DURATION, MAX_SLOPE, MAX_TERMS, MAX_UNIT_DAYS}
use Rattle.pc_faults.specs.declared.kind.Kind.{Kind}
use Rattle.pc_faults.specs.declared.kind.Kind.TheVariants.{Project, Terms, Act, Piece, Acct, Charge, ToGo, Load}
use Rattle.pc_deck.specs.Deck.{Deck, list_of}
use Rattle.pc_deck.specs.Kinds.{CardOf, card_of, slots_of}
use Rattle.pc_cards.specs.Forms.{AllFit, is_outside}
use Rattle.pc_cards.specs.declared.sort.Sort.{Sort}
use Rattle.pc_cards.specs.declared.sort.Sort.TheVariants.{Plan}
use Rattle.pc_deck.specs.Project.{project_kind, project_card}
use Rattle.pc_deck.specs.Terms.{terms_kind, terms_card}
use Rattle.pc_deck.specs.Act.{act_kind, act_card}
use Rattle.pc_deck.specs.inside.Act.{IsActWithin}
use Rattle.pc_deck.specs.Piece.{piece_kind, piece_card}
use Rattle.pc_deck.specs.Acct.{account_kind, account_card}
use Rattle.pc_deck.specs.Money.{charge_kind, money_card}
use Rattle.pc_deck.specs.Load.{load_kind, load_card}
use Rattle.pc_deck.specs.Within.{IsFit, IsWithin}
use Rattle.pc_deck.specs.declared.kinds.terms.TermsCard.{TermsCard}
use Rattle.pc_cards.proofs.FitLemmas.{number_fits}
use Rattle.pc_deck.specs.declared.kinds.project.ProjectCard.{ProjectCard}
use Rattle.pc_deck.specs.declared.kinds.piece.PieceCard.{PieceCard}
use Rattle.pc_deck.specs.declared.kinds.money.MoneyCard.{MoneyCard}
use Rattle.pc_deck.specs.declared.kinds.load.LoadCard.{LoadCard}
use Rattle.pc_deck.specs.declared.kinds.acct.AcctCard.{AcctCard}

-- the budget of an account is within the limit of money
abbrev pub IsBudgetWithin : AcctCard → Type 0
IsBudgetWithin account = account.budget ≤ MAX_COST

-- the quantity of a load is within the limit of money
abbrev pub IsLoadWithin : LoadCard → Type 0
IsLoadWithin card = card.quantity ≤ MAX_COST

-- the amount of a CHARGE or TOGO card is within the limit of money
abbrev pub IsAmountWithin : MoneyCard → Type 0
IsAmountWithin card = card.amount ≤ MAX_COST

-- the numbers of a piece are within their limits
pub record IsPieceWithin (piece : PieceCard) : Type 0 where
  pub some_units : 1 ≤ piece.units
  pub units : piece.units ≤ MAX_DURATION
  pub slope : piece.slope ≤ MAX_SLOPE

-- the numbers of the project are within their limits
pub record IsProjectWithin (project : ProjectCard) : Type 0 where
  pub unit_some : 1 ≤ project.unit_days
  pub unit_within : project.unit_days ≤ MAX_UNIT_DAYS
  pub directed_within : ForSome project.directed (λ days. days ≤ MAX_DIRECTED)
  pub version_some : 1 ≤ project.version
  pub version_within : project.version ≤ 2

-- the terms are within their limits
pub record AreTermsWithin (terms : TermsCard) : Type 0 where
  pub overhead : terms.overhead ≤ MAX_TERMS
  pub target : terms.target ≤ MAX_TERMS
  pub bonus : terms.bonus ≤ MAX_TERMS
  pub penalty : terms.penalty ≤ MAX_TERMS

-- a number that is empty or fits is within its limits, where the number of an empty field is
or_fits : (least most other : ℕ) (found : Option ℕ) → least ≤ other → other ≤ most → is_outside least most found ≡ false → (least ≤ unwrap_or found other) × (unwrap_or found other ≤ most)
or_fits least most other None low high h = (low, high)
or_fits least most other (Some n) low high h = number_fits least most (Some n) refl h

-- the numbers of a card of each kind that has some, where its fields are what they must be
project_within : (sort : Sort) (row : ℕ) (fields : List (List ℕ)) → AllFit (project_kind.slots sort) fields → IsProjectWithin (project_card row fields)
project_within sort row fields fit =
    let from_6 = fit.1.1.1.1 in
    let version = or_fits 1 2 1 (number_of (text_at fields 8)) (omega arith) (omega arith) from_6.1.1.1.0.1 in
    record {
      unit_some = (number_fits 1 MAX_UNIT_DAYS (number_of (text_at fields 5)) from_6.0.0 from_6.0.1).0;
      unit_within = (number_fits 1 MAX_UNIT_DAYS (number_of (text_at fields 5)) from_6.0.0 from_6.0.1).1;
      directed_within = λ days is. (number_fits 0 MAX_DIRECTED (Some days) refl (subst (λ (o : Option ℕ). is_outside 0 MAX_DIRECTED o ≡ false) is from_6.1.0.1)).1;
      version_some = version.0;
      version_within = version.1;
    }

terms_within : (row : ℕ) (fields : List (List ℕ)) → AllFit (terms_kind.slots Plan) fields → AreTermsWithin (terms_card row fields)
terms_within row fields fit = record {
  overhead = (number_fits 0 MAX_TERMS (number_of (text_at fields 1)) fit.0.0 fit.0.1).1;
  target = (number_fits 0 MAX_TERMS (number_of (text_at fields 2)) fit.1.0.0 fit.1.0.1).1;
  bonus = (number_fits 0 MAX_TERMS (number_of (text_at fields 3)) fit.1.1.0.0 fit.1.1.0.1).1;
  penalty = (number_fits 0 MAX_TERMS (number_of (text_at fields 4)) fit.1.1.1.0.0 fit.1.1.1.0.1).1;
}

act_within : (row : ℕ) (fields : List (List ℕ)) → AllFit (act_kind.slots Plan) fields → IsActWithin (act_card row fields)
act_within row fields fit =
    let from_6 = fit.1.1.1.1 in
    let from_11 = from_6.1.1.1.1.1 in
    record {
      opt = (number_fits 0 MAX_DURATION (number_of (text_at fields 5)) from_6.0.0 from_6.0.1).1;
      likely = (number_fits 0 MAX_DURATION (number_of (text_at fields 6)) from_6.1.0.0 from_6.1.0.1).1;
      pess = (number_fits 0 MAX_DURATION (number_of (text_at fields 7)) from_6.1.1.0.0 from_6.1.1.0.1).1;
      normal = (number_fits 0 MAX_DURATION (number_of (text_at fields 8)) from_6.1.1.1.0.0 from_6.1.1.1.0.1).1;
      crash = (number_fits 0 MAX_DURATION (number_of (text_at fields 9)) from_6.1.1.1.1.0.0 from_6.1.1.1.1.0.1).1;
      cost = (number_fits 0 MAX_COST (number_of (text_at fields 10)) from_11.0.0 from_11.0.1).1;
      slope = (number_fits 0 MAX_SLOPE (number_of (text_at fields 11)) from_11.1.0.0 from_11.1.0.1).1;
    }

piece_within : (row : ℕ) (fields : List (List ℕ)) → AllFit (piece_kind.slots Plan) fields → IsPieceWithin (piece_card row fields)
piece_within row fields fit = record {
  some_units = (number_fits 1 MAX_DURATION (number_of (text_at fields 2)) fit.1.0.0 fit.1.0.1).0;
  units = (number_fits 1 MAX_DURATION (number_of (text_at fields 2)) fit.1.0.0 fit.1.0.1).1;
  slope = (number_fits 0 MAX_SLOPE (number_of (text_at fields 3)) fit.1.1.0.0 fit.1.1.0.1).1;
}

budget_within : (row : ℕ) (fields : List (List ℕ)) → AllFit (account_kind.slots Plan) fields → IsBudgetWithin (account_card row fields)
budget_within row fields fit = (number_fits 0 MAX_COST (number_of (text_at fields 3)) fit.1.1.0.0 fit.1.1.0.1).1

amount_within : (row : ℕ) (fields : List (List ℕ)) → AllFit (charge_kind.slots Plan) fields → IsAmountWithin (money_card row fields)
amount_within row fields fit = (number_fits 0 MAX_COST (number_of (text_at fields 3)) fit.1.1.0.0 fit.1.1.0.1).1

load_within : (row : ℕ) (fields : List (List ℕ)) → AllFit (load_kind.slots Plan) fields → IsLoadWithin (load_card row fields)
load_within row fields fit = (number_fits 0 MAX_COST (number_of (text_at fields 3)) fit.1.1.0.0 fit.1.1.0.1).1

-- what follows from the fields of a card of a kind holds of each card of the kind in a deck
all_so : {sort : Sort} (kind : Kind) (P : CardOf kind → Type 0) (deck : Deck) → IsWithin sort deck →
    ((row : ℕ) (fields : List (List ℕ)) → AllFit (slots_of sort kind) fields → P (card_of kind row fields)) → All P (list_of deck kind)
all_so {sort} kind P deck limits follows = λ k d inside. so (get_or (list_of deck kind) k d) ((limits kind).fit k d inside)
  where
    so : (card : CardOf kind) → IsFit sort kind card → P card
    so card (row, fields, is, fit, text) = subst P (sym is) (follows row fields fit)

for_some : (terms : Option TermsCard) → All AreTermsWithin (option_to_list terms) → ForSome terms AreTermsWithin
for_some None all = λ card is. absurd (let is' = is in cc)
for_some (Some terms) all = λ card is. let same : terms ≡ card = cc in subst AreTermsWithin same (all 0 terms (omega arith))

module _ {sort : Sort} (deck : Deck) (limits : IsWithin sort deck) where
  pub project-within : IsProjectWithin deck.project
  project-within = all_so Project IsProjectWithin deck limits (project_within sort) 0 deck.project (omega arith)

  pub terms-within : ForSome deck.terms AreTermsWithin
  terms-within = for_some deck.terms (all_so Terms AreTermsWithin deck limits terms_within)

  pub acts-within : All IsActWithin deck.acts
  acts-within = all_so Act IsActWithin deck limits act_within

  pub pieces-within : All IsPieceWithin deck.pieces
  pieces-within = all_so Piece IsPieceWithin deck limits piece_within

  pub accounts-within : All IsBudgetWithin deck.accounts
  accounts-within = all_so Acct IsBudgetWithin deck limits budget_within

  pub charges-within : All IsAmountWithin deck.charges
  charges-within = all_so Charge IsAmountWithin deck limits amount_within

  pub togos-within : All IsAmountWithin deck.togos
  togos-within = all_so ToGo IsAmountWithin deck limits amount_within

  pub loads-within : All IsLoadWithin deck.loads
  loads-within = all_so Load IsLoadWithin deck limits load_within
