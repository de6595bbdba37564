-- Activities and accounts that are on leaves, and those that are not.
use Rattle.std.proofs.Common.{◌≡◌, ◌+◌, ◌<◌, ◌≤◌, ℕ, List, length, map, get_or, Option, refl, sym, ap, ◌∙◌, subst, inl, inr, ◌⊎◌, arith}
use Rattle.std.specs.List.{Any}
use Rattle.std.proofs.lemmas.List.{get_or-map, length-map}
use Rattle.pc_accounts.specs.Amounts.{account_at}
use Rattle.pc_accounts.specs.declared.book.AcctRow.{AcctRow}
use Rattle.pc_accounts.specs.declared.packages.WorkRow.{WorkRow}
use Rattle.pc_cards.specs.declared.sort.Sort.TheVariants.{Plan}
use Rattle.pc_deck.specs.Deck.{Deck, item_codes, number_among}
use Rattle.pc_deck.specs.declared.kinds.acct.AcctCard.{AcctCard}
use Rattle.pc_deck.specs.declared.kinds.act.ActCard.{ActCard}
use Rattle.pc_deck.specs.Misfit.{HasNoMisfit}
use Rattle.pc_faults.specs.Faults.{not_a_leaf}
use Rattle.pc_faults.specs.declared.fault.Fault.{Fault}
use Rattle.pc_wbs.specs.Climb.{IsLeaf}
use Rattle.pc_wbs.specs.declared.tree.ItemRow.{ItemRow}
use Rattle.pc_faults.specs.inside.First.{IsFirstIn, earliest}
use Rattle.pc_project.specs.PackageFaults.{HasLeafFault, HasNoLeafFault, StandsOnBranch, of_act, of_account}
use Rattle.pc_project.specs.Project.{account_of, accounts_in, row_of, rows_of, work_of}
use Rattle.pc_project.specs.inside.Project.{placement_of}
use Rattle.pc_project.specs.declared.placed.Placement.{Placement}
use Rattle.pc_faults.proofs.FirstLaws.{earliest-first}
use Rattle.pc_deck.proofs.MisfitLaws.{Any-at}
use Rattle.pc_project.proofs.FitLaws.{account_item-read, act_item-within}
use Rattle.pc_project.proofs.LoopLaws.{IsFirstBefore, first_more, first_of_all}

-- an item that is not said to be no leaf is one
leaf_unless : (rows : List ItemRow) (x : ℕ) → ((IsLeaf rows x → ⊥) → ⊥) → IsLeaf rows x
leaf_unless rows x never y within is = never (λ leaf. leaf y within is)

-- without such a fault, each activity and each account is on a leaf
pub act_on_leaf : (deck : Deck) → HasNoLeafFault deck → (a : ℕ) (d : ActCard) → a < length deck.acts → IsLeaf (rows_of deck) (number_among (item_codes deck) (get_or deck.acts a d).item)
act_on_leaf deck none a d within =
    let card = get_or deck.acts a d in
    let fault : Fault = not_a_leaf card.row card.item in
    leaf_unless (rows_of deck) (number_among (item_codes deck) card.item)
    (λ branch. none fault (of_act (Any-at (λ (act : ActCard). StandsOnBranch deck act.row act.item fault) deck.acts a d within (branch, refl))))

pub account_on_leaf : (deck : Deck) → HasNoLeafFault deck → (a : ℕ) (d : AcctCard) → a < length deck.accounts → IsLeaf (rows_of deck) (number_among (item_codes deck) (get_or deck.accounts a d).item)
account_on_leaf deck none a d within =
    let card = get_or deck.accounts a d in
    let fault : Fault = not_a_leaf card.row card.item in
    leaf_unless (rows_of deck) (number_among (item_codes deck) card.item)
    (λ branch. none fault (of_account (Any-at (λ (account : AcctCard). StandsOnBranch deck account.row account.item fault) deck.accounts a d within (branch, refl))))

-- the fault of a card by the number of its item is that by the item's code
pub branch-is : (deck : Deck) (rows : List ItemRow) (item row : ℕ) (code : List ℕ) (found : Option Fault) → rows ≡ rows_of deck →
    item ≡ number_among (item_codes deck) code → IsFirstIn (λ fault. (IsLeaf rows item → ⊥) × (fault ≡ not_a_leaf row code)) found →
    IsFirstIn (StandsOnBranch deck row code) found
branch-is deck rows item row code found same_rows same_item first =
    subst (λ rs. IsFirstIn (λ fault. (IsLeaf rs (number_among (item_codes deck) code) → ⊥) × (fault ≡ not_a_leaf row code)) found) same_rows
    (subst (λ x. IsFirstIn (λ fault. (IsLeaf rows x → ⊥) × (fault ≡ not_a_leaf row code)) found) same_item first)

-- the first of these faults among the cards on items that a loop has passed
module _ {C : Type 0} (deck : Deck) (row : C → ℕ) (item : C → List ℕ) (cards : List C) where
  abbrev pub IsFirstBranchBefore : ℕ → Option Fault → Type 0
  IsFirstBranchBefore i found = IsFirstBefore (λ card fault. StandsOnBranch deck (row card) (item card) fault) cards i found

  pub branch_more : (rows : List ItemRow) (number i : ℕ) (card : C) (found here next : Option Fault) → rows ≡ rows_of deck →
      i < length cards → card ≡ get_or cards i card → number ≡ number_among (item_codes deck) (item card) → IsFirstBranchBefore i found →
      IsFirstIn (λ fault. (IsLeaf rows number → ⊥) × (fault ≡ not_a_leaf (row card) (item card))) here → next ≡ earliest found here → IsFirstBranchBefore (i + 1) next
  branch_more rows number i card found here next same within is place so_far first later =
      first_more (λ c fault. StandsOnBranch deck (row c) (item c) fault) cards i card found within is so_far here next later (branch-is deck rows number (row card) (item card) here same place first)

  pub branch_all : (i : ℕ) (found : Option Fault) → length cards ≤ i → IsFirstBranchBefore i found → IsFirstIn (λ fault. Any (λ card. StandsOnBranch deck (row card) (item card) fault) cards) found
  branch_all i found all so_far = first_of_all (λ c fault. StandsOnBranch deck (row c) (item c) fault) cards i found all so_far

module _ (deck : Deck) where
  into : (fault : Fault) → HasLeafFault deck fault → Any (λ (act : ActCard). StandsOnBranch deck act.row act.item fault) deck.acts
      ⊎ Any (λ (account : AcctCard). StandsOnBranch deck account.row account.item fault) deck.accounts
  into fault (of_act h) = inl h
  into fault (of_account h) = inr h

  -- the first of these faults of activities and accounts
  pub first_of_leaves : (acts accounts : Option Fault) →
      IsFirstIn (λ fault. Any (λ (act : ActCard). StandsOnBranch deck act.row act.item fault) deck.acts) acts →
      IsFirstIn (λ fault. Any (λ (account : AcctCard). StandsOnBranch deck account.row account.item fault) deck.accounts) accounts →
      IsFirstIn (HasLeafFault deck) (earliest acts accounts)
  first_of_leaves acts accounts a b =
      earliest-first (λ fault. Any (λ (act : ActCard). StandsOnBranch deck act.row act.item fault) deck.acts)
      (λ fault. Any (λ (account : AcctCard). StandsOnBranch deck account.row account.item fault) deck.accounts) (HasLeafFault deck)
      (λ f h. of_act h) (λ f h. of_account h) into acts accounts a b

-- the item of an activity, and that of an account, by the number that was looked up
pub act_item : (deck : Deck) (placements : List Placement) (a : ℕ) (card : ActCard) → placements ≡ map (placement_of deck) deck.acts →
    a < length deck.acts → card ≡ get_or deck.acts a card →
    (get_or placements a (record { arc = record { from = 0; to = 0 }; item = 0 })).item ≡ number_among (item_codes deck) card.item
act_item deck placements a card same inside read =
    ap (λ (ps : List Placement). (get_or ps a (record { arc = record { from = 0; to = 0 }; item = 0 })).item) same
    ∙ ap (λ (p : Placement). p.item) (get_or-map (placement_of deck) deck.acts a card (record { arc = record { from = 0; to = 0 }; item = 0 }) inside)
    ∙ ap (λ (c : ActCard). number_among (item_codes deck) c.item) (sym read)

pub act_item-in_tree : (deck : Deck) (rows : List ItemRow) (placements : List Placement) (a : ℕ) (card : ActCard) → HasNoMisfit Plan deck →
    rows ≡ rows_of deck → placements ≡ map (placement_of deck) deck.acts → a < length deck.acts → card ≡ get_or deck.acts a card →
    (get_or placements a (record { arc = record { from = 0; to = 0 }; item = 0 })).item < length rows
act_item-in_tree deck rows placements a card none tree same inside read =
    omega (arith, act_item deck placements a card same inside read, act_item-within deck none a card inside read, ap length tree, length-map deck.items (row_of deck))

-- the item and the cost of an activity
pub act_work : (deck : Deck) (placements : List Placement) (a : ℕ) (card : ActCard) → placements ≡ map (placement_of deck) deck.acts → a < length deck.acts → card ≡ get_or deck.acts a card →
    let row : WorkRow = record { item = (get_or placements a (record { arc = record { from = 0; to = 0 }; item = 0 })).item; cost = card.cost } in row ≡ work_of deck card
act_work deck placements a card same inside read =
    λ i. record { item = act_item deck placements a card same inside read i; cost = card.cost }

pub account_item : (deck : Deck) (accounts : List AcctRow) (a : ℕ) (card : AcctCard) → accounts ≡ accounts_in deck →
    a < length deck.accounts → card ≡ get_or deck.accounts a card → (account_at accounts a).item ≡ number_among (item_codes deck) card.item
account_item deck accounts a card same inside read =
    ap (λ (rows : List AcctRow). (account_at rows a).item) same
    ∙ ap (λ (r : AcctRow). r.item) (get_or-map (account_of deck) deck.accounts a card (record { item = 0; budget = 0 }) inside)
    ∙ ap (λ (c : AcctCard). number_among (item_codes deck) c.item) (sym read)

pub account_item-in_tree : (deck : Deck) (rows : List ItemRow) (accounts : List AcctRow) (a : ℕ) (card : AcctCard) → HasNoMisfit Plan deck →
    rows ≡ rows_of deck → accounts ≡ accounts_in deck → a < length deck.accounts → card ≡ get_or deck.accounts a card →
    (account_at accounts a).item < length rows
account_item-in_tree deck rows accounts a card none tree same inside read =
    omega (arith, account_item deck accounts a card same inside read, account_item-read deck none a card inside read, ap length tree, length-map deck.items (row_of deck))
