-- Faults of single cards, in decks of either sort, are determined by record and number.
use Rattle.std.proofs.Common.{◌≡◌, ℕ, ◌==◌, Bool, true, false, ◌&&◌, nat_le, List, [], ◌∷◌, Option, Some, None, is_none, if◌then◌else◌, IsSome, refl, sym, ap, ◌∙◌, inl, inr, ⊎_elim}
use Rattle.std.specs.List.{Any}
use Rattle.pc_cards.specs.Cards.{Numbered}
use Rattle.pc_cards.specs.Entry.{Reference}
use Rattle.pc_cards.specs.declared.sort.Sort.{Sort}
use Rattle.pc_cards.specs.declared.sort.Sort.TheVariants.{Plan, Tasks}
use Rattle.pc_deck.specs.Act as act
use Rattle.pc_deck.specs.Deck.{Deck, list_of, named_among}
use Rattle.pc_deck.specs.Durations.{HasDurationFault, crash_above, unordered}
use Rattle.pc_deck.specs.Kinds.{CardOf, card_of, entry_of}
use Rattle.pc_deck.specs.Misfit.{HasCardMisfit, HasMisfit, HasUnknown}
use Rattle.pc_deck.specs.inside.Misfit.{names_of}
use Rattle.pc_deck.specs.Says.{Says}
use Rattle.pc_deck.specs.Target.{target_codes}
use Rattle.pc_deck.proofs.MisfitLaws.{unknown_row}
use Rattle.pc_faults.specs.Faults as fault
use Rattle.pc_faults.specs.Faults.{unknown_number}
use Rattle.pc_faults.specs.declared.fault.Detail.TheVariants.{Plain}
use Rattle.pc_faults.specs.declared.fault.Fault.{Fault}
use Rattle.pc_faults.specs.declared.kind.Kind.{Kind}
use Rattle.pc_faults.specs.declared.kind.Kind.TheVariants as kinds
use Rattle.pc_faults.specs.declared.kind.Kind.TheVariants.{Project, Act, After, Acct, End}
use Rattle.pc_faults.specs.declared.target.Target.{Target}
use Rattle.pc_faults.specs.declared.target.Target.TheVariants as target
use Rattle.pc_project.specs.PackageFaults.{HasLeafFault, StandsOnBranch, of_account, of_act}
use Rattle.pert_cli.proofs.CardOnceLaws.{Rises}
use Rattle.pert_cli.proofs.FirstOnceLaws.{AreToldByPlace}
use Rattle.pert_cli.proofs.RowsOnceLaws.{IsCardFault, card_fault_once, some_card}

-- ---- what is named

-- one fault where a name is not there, and another where it is
abbrev unless_known : Option ℕ → Fault → Fault → Fault
unless_known found missing other = if is_none found then missing else other

where_known : (found : Option ℕ) (missing other : Fault) → IsSome found → other ≡ unless_known found missing other
where_known None missing other some = absurd (let some' = some in cc)
where_known (Some k) missing other some = refl

-- the fault of the first of these names that is not there
abbrev unknown_among : Deck → ℕ → List Reference → Fault
unknown_among deck row [] = fault.no_top
unknown_among deck row (named ∷ more) =
    unless_known (named_among (target_codes deck named.target) named.code) (fault.unknown_name named.target row named.code) (unknown_among deck row more)

unknown_is : (deck : Deck) (row : ℕ) (names : List Reference) (f : Fault) → HasUnknown deck row names f → f ≡ unknown_among deck row names
unknown_is deck row [] f h = absurd h
unknown_is deck row (named ∷ more) f (inl is) =
    is.told ∙ ap (λ (found : Option ℕ). unless_known found (fault.unknown_name named.target row named.code) (unknown_among deck row more)) (sym is.missing)
unknown_is deck row (named ∷ more) f (inr (there, h)) =
    unknown_is deck row more f h
    ∙ where_known (named_among (target_codes deck named.target) named.code) (fault.unknown_name named.target row named.code) (unknown_among deck row more) there

-- ---- what is wrong with a card by itself, and the number that says which of the two it is

abbrev is_flaw : ℕ → Bool
is_flaw n = nat_le 17 n && nat_le n 19

no_flaw_number : (named : Target) → is_flaw (unknown_number named) ≡ false
no_flaw_number target.Event = refl
no_flaw_number target.Item = refl
no_flaw_number target.Account = refl
no_flaw_number target.Activity = refl
no_flaw_number target.Task = refl
no_flaw_number target.Resource = refl

unknown_is_no_flaw : (deck : Deck) (row : ℕ) (names : List Reference) (f : Fault) → HasUnknown deck row names f → is_flaw f.number ≡ false
unknown_is_no_flaw deck row [] f h = absurd h
unknown_is_no_flaw deck row (named ∷ more) f (inl is) = ap (λ (g : Fault). is_flaw g.number) is.told ∙ no_flaw_number named.target
unknown_is_no_flaw deck row (named ∷ more) f (inr (there, h)) = unknown_is_no_flaw deck row more f h

abbrev flaw_told : (kind : Kind) → CardOf kind → ℕ → Fault
flaw_told Project card n = fault.one_event card.row card.start
flaw_told Act card n = if n == 17 then fault.one_event card.row card.from else record { row = card.row; number = n; detail = Plain }
flaw_told kinds.Task card n = record { row = card.row; number = n; detail = Plain }
flaw_told After card n = fault.one_event card.row card.task
flaw_told other card n = fault.no_top

-- such a fault is known by its number, and is at the card's record
record IsFlawTold (kind : Kind) (card : CardOf kind) (f : Fault) : Type 0 where
  is : f ≡ flaw_told kind card f.number
  number : is_flaw f.number ≡ true
  row : f.row ≡ (entry_of kind).row card

told_by : (kind : Kind) (card : CardOf kind) (f known : Fault) → f ≡ known → known ≡ flaw_told kind card known.number → is_flaw known.number ≡ true →
    known.row ≡ (entry_of kind).row card → IsFlawTold kind card f
told_by kind card f known is at number row = record {
  is = is ∙ (at ∙ ap (λ (h : Fault). flaw_told kind card h.number) (sym is));
  number = ap (λ (h : Fault). is_flaw h.number) is ∙ number;
  row = ap (λ (h : Fault). h.row) is ∙ row;
}

plan_flaw : (kind : Kind) (card : CardOf kind) (f : Fault) → (entry_of kind).flaws Plan card f → IsFlawTold kind card f
plan_flaw Project card f h = told_by Project card f _ h.1 refl refl refl
plan_flaw Act card f (act.same_events same is) = told_by Act card f _ is refl refl refl
plan_flaw Act card f (act.durations (unordered not is)) = told_by Act card f _ is refl refl refl
plan_flaw Act card f (act.durations (crash_above above is)) = told_by Act card f _ is refl refl refl
plan_flaw other card f h = absurd (let h' = h in h')

task_flaw : (kind : Kind) (card : CardOf kind) (f : Fault) → (entry_of kind).flaws Tasks card f → IsFlawTold kind card f
task_flaw Project card f h = told_by Project card f _ h.1 refl refl refl
task_flaw kinds.Task card f (unordered not is) = told_by kinds.Task card f _ is refl refl refl
task_flaw kinds.Task card f (crash_above above is) = told_by kinds.Task card f _ is refl refl refl
task_flaw After card f h = told_by After card f _ h.1 refl refl refl
task_flaw other card f h = absurd (let h' = h in h')

flaw_is : (sort : Sort) (kind : Kind) (card : CardOf kind) (f : Fault) → (entry_of kind).flaws sort card f → IsFlawTold kind card f
flaw_is Plan kind card f h = plan_flaw kind card f h
flaw_is Tasks kind card f h = task_flaw kind card f h

-- ---- a card's faults

abbrev told : Sort → Deck → Kind → Numbered → ℕ → Fault
told sort deck kind c n =
    if is_flaw n then flaw_told kind (card_of kind c.0 c.1) n
    else unknown_among deck ((entry_of kind).row (card_of kind c.0 c.1)) (names_of sort kind (card_of kind c.0 c.1))

by_test : (test known : Bool) (one other : Fault) → test ≡ known → (if known then one else other) ≡ (if test then one else other)
by_test test known one other is = ap (λ (b : Bool). if b then one else other) (sym is)

told_is : (sort : Sort) (deck : Deck) (kind : Kind) (c : Numbered) (f : Fault) → HasCardMisfit sort deck kind (card_of kind c.0 c.1) f → f ≡ told sort deck kind c f.number
told_is sort deck kind c f (inl unknown) =
    let card = card_of kind c.0 c.1 in
    unknown_is deck ((entry_of kind).row card) (names_of sort kind card) f unknown
    ∙ by_test (is_flaw f.number) false (flaw_told kind card f.number) (unknown_among deck ((entry_of kind).row card) (names_of sort kind card))
    (unknown_is_no_flaw deck ((entry_of kind).row card) (names_of sort kind card) f unknown)
told_is sort deck kind c f (inr flaw) =
    let card = card_of kind c.0 c.1 in
    let told = flaw_is sort kind card f flaw in
    told.is ∙ by_test (is_flaw f.number) true (flaw_told kind card f.number) (unknown_among deck ((entry_of kind).row card) (names_of sort kind card)) told.number

-- a card that has a fault is at its own record
own_row : (sort : Sort) (deck : Deck) (kind : Kind) (c : Numbered) (f : Fault) → HasCardMisfit sort deck kind (card_of kind c.0 c.1) f → (entry_of kind).row (card_of kind c.0 c.1) ≡ c.0
own_row sort deck End c f h = absurd (⊎_elim (λ x. x) (λ x. x) h)
own_row sort deck other c f h = refl

at_own_row : (sort : Sort) (deck : Deck) (kind : Kind) (c : Numbered) (f : Fault) → HasCardMisfit sort deck kind (card_of kind c.0 c.1) f → f.row ≡ c.0
at_own_row sort deck kind c f h =
    let card = card_of kind c.0 c.1 in
    ⊎_elim (λ unknown. unknown_row deck ((entry_of kind).row card) (names_of sort kind card) f unknown) (λ flaw. (flaw_is sort kind card f flaw).row) h ∙ own_row sort deck kind c f h

-- ---- cards on items that have items below them

abbrev OnBranch : Deck → (kind : Kind) → CardOf kind → Fault → Type 0
OnBranch deck Act card f = StandsOnBranch deck card.row card.item f
OnBranch deck Acct card f = StandsOnBranch deck card.row card.item f
OnBranch deck other card f = ⊥

abbrev branch_of : Kind → Numbered → ℕ → Fault
branch_of Act c n = fault.not_a_leaf c.0 (card_of Act c.0 c.1).item
branch_of Acct c n = fault.not_a_leaf c.0 (card_of Acct c.0 c.1).item
branch_of other c n = fault.no_top

branch_is : (deck : Deck) (kind : Kind) (c : Numbered) (f : Fault) → OnBranch deck kind (card_of kind c.0 c.1) f → f ≡ branch_of kind c f.number
branch_is deck Act c f h = h.1
branch_is deck Acct c f h = h.1
branch_is deck other c f h = absurd (let h' = h in h')

branch_row : (deck : Deck) (kind : Kind) (c : Numbered) (f : Fault) → OnBranch deck kind (card_of kind c.0 c.1) f → f.row ≡ c.0
branch_row deck Act c f h = ap (λ (g : Fault). g.row) h.1
branch_row deck Acct c f h = ap (λ (g : Fault). g.row) h.1
branch_row deck other c f h = absurd (let h' = h in h')

-- ---- in a deck that was read

module _ (cards : List Numbered) (deck : Deck) (rising : Rises 1 cards) (says : Says cards deck) where
  module _ (sort : Sort) where
    abbrev Misfit : Fault → Type 0
    Misfit f = IsCardFault cards deck rising says (HasCardMisfit sort deck) (told sort deck) (told_is sort deck) (at_own_row sort deck) f

    as_misfit : (f : Fault) → HasMisfit sort deck f → Misfit f
    as_misfit f (n, kind, among, at, any) = some_card cards deck rising says (HasCardMisfit sort deck) (told sort deck) (told_is sort deck) (at_own_row sort deck) kind f any

    -- the faults of the cards
    pub misfit_once : AreToldByPlace (HasMisfit sort deck)
    misfit_once f g x y =
        card_fault_once cards deck rising says (HasCardMisfit sort deck) (told sort deck) (told_is sort deck) (at_own_row sort deck) f g (as_misfit f x) (as_misfit g y)

  abbrev LeafFault : Fault → Type 0
  LeafFault f = IsCardFault cards deck rising says (OnBranch deck) branch_of (branch_is deck) (branch_row deck) f

  some_leaf : (kind : Kind) (f : Fault) → Any (λ card. OnBranch deck kind card f) (list_of deck kind) → LeafFault f
  some_leaf kind f any = some_card cards deck rising says (OnBranch deck) branch_of (branch_is deck) (branch_row deck) kind f any

  as_leaf : (f : Fault) → HasLeafFault deck f → LeafFault f
  as_leaf f (of_act any) = some_leaf Act f any
  as_leaf f (of_account any) = some_leaf Acct f any

  -- those of its activities and accounts that are on no leaf
  pub leaf_once : AreToldByPlace (HasLeafFault deck)
  leaf_once f g x y = card_fault_once cards deck rising says (OnBranch deck) branch_of (branch_is deck) (branch_row deck) f g (as_leaf f x) (as_leaf g y)
