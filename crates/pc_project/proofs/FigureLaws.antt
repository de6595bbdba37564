-- The accounts, amounts and statuses of a deck whose cards make a project, and its entries and states.
use Rattle.std.proofs.Common.{◌≡◌, ◌<◌, ◌≤◌, ℕ, List, [], ◌∷◌, length, get_or, map, refl, sym, ap, subst, ◌∙◌, arith}
use Rattle.std.specs.Prelude.{pos, false, slice_index}
use Rattle.std.proofs.lemmas.List.{get_or-map, length-map}
use Rattle.pc_faults.specs.declared.kind.Kind.TheVariants.{Acct, Charge, Status, ToGo}
use Rattle.pc_accounts.specs.Amounts.{AreEntriesOf, AreMoney, account_at, money_at}
use Rattle.pc_accounts.specs.Entries.{AreEntriesWithinLimits}
use Rattle.pc_accounts.specs.Packages.{IsUneven, work_at}
use Rattle.pc_accounts.specs.inside.Packages.{AreWork}
use Rattle.pc_accounts.specs.declared.book.Entry.{Entry}
use Rattle.pc_accounts.specs.declared.book.AcctRow.{AcctRow}
use Rattle.pc_accounts.specs.declared.book.MoneyRow.{MoneyRow}
use Rattle.pc_accounts.specs.declared.packages.WorkRow.{WorkRow}
use Rattle.pc_cards.specs.declared.sort.Sort.TheVariants.{Plan}
use Rattle.pc_deck.specs.Deck.{Deck}
use Rattle.pc_deck.specs.Within.{IsWithinLimits}
use Rattle.pc_deck.specs.declared.kinds.acct.AcctCard.{AcctCard}
use Rattle.pc_deck.specs.declared.kinds.act.ActCard.{ActCard}
use Rattle.pc_deck.specs.declared.kinds.money.MoneyCard.{MoneyCard}
use Rattle.pc_deck.specs.declared.kinds.status.StatusCard.{StatusCard}
use Rattle.pc_deck.proofs.NumberLemmas.{accounts-within, acts-within, charges-within, togos-within}
use Rattle.pc_deck.specs.Misfit.{HasNoMisfit}
use Rattle.pc_model.specs.declared.limits.TheConstants.{MAX_COST}
use Rattle.pc_accounts.specs.status.Statuses.{AreKnown, status_at}
use Rattle.pc_accounts.specs.declared.status.StatusRow.{StatusRow}
use Rattle.pc_times.specs.declared.forecasts.ActState.{ActState}
use Rattle.pc_wbs.specs.Climb.{IsLeaf}
use Rattle.pc_project.specs.DisorderFaults.{as_of_in}
use Rattle.pc_project.specs.Figures.{AreAccounts, AreFigures, AreStatesOf, work_rows}
use Rattle.pc_project.specs.PackageFaults.{HasNoLeafFault}
use Rattle.pc_project.specs.Planned.{HasFigures}
use Rattle.pc_project.specs.Project.{account_of, accounts_in, arc_of, charges_in, money_of, network_of, item_of_act, project_in}
use Rattle.pc_project.specs.Project.{row_of, rows_of, status_of, statuses_in, term_of, togos_in, work_in, work_of}
use Rattle.pc_project.specs.Refusal.{HasNoSecondToGo, HasSoundFigures}
use Rattle.pc_project.proofs.BranchLaws.{account_on_leaf, act_on_leaf}
use Rattle.pc_project.proofs.DisorderLaws.{all_in_order, as_of-late}
use Rattle.pc_project.proofs.FitLaws.{account_item-within, charge_account-within, no_act, place_of-within, status_activity-within, togo_account-within}

-- cards to read past the end of the cards, where no one looks
pub no_account : AcctCard
no_account = record { row = 0; code = []; item = []; budget = 0; title = [] }

pub no_money : MoneyCard
no_money = record { row = 0; account = []; day = pos 0; amount = 0 }

pub no_status : StatusCard
no_status = record { row = 0; activity = []; finished = false; day = pos 0 }

-- what is at a place of a deck's lists is that of the card there
module _ (deck : Deck) where
  pub account_there : (a : ℕ) → a < length deck.accounts → account_at (accounts_in deck) a ≡ account_of deck (get_or deck.accounts a no_account)
  account_there a inside = get_or-map (account_of deck) deck.accounts a no_account (record { item = 0; budget = 0 }) inside

  pub charge_there : (k : ℕ) → k < length deck.charges → money_at (charges_in deck) k ≡ money_of deck (get_or deck.charges k no_money)
  charge_there k inside = get_or-map (money_of deck) deck.charges k no_money (record { account = 0; day = pos 0; amount = 0 }) inside

  pub togo_there : (k : ℕ) → k < length deck.togos → money_at (togos_in deck) k ≡ money_of deck (get_or deck.togos k no_money)
  togo_there k inside = get_or-map (money_of deck) deck.togos k no_money (record { account = 0; day = pos 0; amount = 0 }) inside

  pub work_there : (a : ℕ) → a < length deck.acts → work_at (work_in deck) a ≡ work_of deck (get_or deck.acts a no_act)
  work_there a inside = get_or-map (work_of deck) deck.acts a no_act (record { item = 0; cost = 0 }) inside

  pub status_there : (k : ℕ) → k < length deck.statuses → status_at (statuses_in deck) k ≡ status_of deck (get_or deck.statuses k no_status)
  status_there k inside = get_or-map (status_of deck) deck.statuses k no_status (record { activity = 0; finished = false; day = pos 0 }) inside

-- the item of an activity's work is an item
pub work_known : (deck : Deck) → HasNoMisfit Plan deck → (a : ℕ) → a < length (work_in deck) → (work_at (work_in deck) a).item < length deck.items
work_known deck none a below =
    let inside : a < length deck.acts = omega (arith, below, length-map deck.acts (work_of deck)) in
    omega (arith, ap (λ (r : WorkRow). r.item) (work_there deck a inside), place_of-within deck none a inside)

-- they are within their limits
module _ (deck : Deck) (limits : IsWithinLimits deck) (none : HasNoMisfit Plan deck) where
  pub accounts_known : (a : ℕ) → a < length (accounts_in deck) → (account_at (accounts_in deck) a).item < length (rows_of deck)
  accounts_known a below =
      let inside : a < length deck.accounts = omega (arith, below, length-map deck.accounts (account_of deck)) in
      omega (arith, ap (λ (r : AcctRow). r.item) (account_there deck a inside), account_item-within deck none a no_account inside, length-map deck.items (row_of deck))

  pub accounts_cheap : (a : ℕ) → a < length (accounts_in deck) → (account_at (accounts_in deck) a).budget ≤ MAX_COST
  accounts_cheap a below =
      let inside : a < length deck.accounts = omega (arith, below, length-map deck.accounts (account_of deck)) in
      omega (arith, ap (λ (r : AcctRow). r.budget) (account_there deck a inside), accounts-within deck limits a no_account inside)

  pub are_charges : AreMoney (length (accounts_in deck)) (charges_in deck)
  are_charges = record {
    known = λ k below.
        let inside : k < length deck.charges = omega (arith, below, length-map deck.charges (money_of deck)) in
        omega (arith, ap (λ (r : MoneyRow). r.account) (charge_there deck k inside), charge_account-within deck none k no_money inside, length-map deck.accounts (account_of deck));
    small = λ k below.
        let inside : k < length deck.charges = omega (arith, below, length-map deck.charges (money_of deck)) in
        omega (arith, ap (λ (r : MoneyRow). r.amount) (charge_there deck k inside), charges-within deck limits k no_money inside);
  }

  pub are_togos : AreMoney (length (accounts_in deck)) (togos_in deck)
  are_togos = record {
    known = λ k below.
        let inside : k < length deck.togos = omega (arith, below, length-map deck.togos (money_of deck)) in
        omega (arith, ap (λ (r : MoneyRow). r.account) (togo_there deck k inside), togo_account-within deck none k no_money inside, length-map deck.accounts (account_of deck));
    small = λ k below.
        let inside : k < length deck.togos = omega (arith, below, length-map deck.togos (money_of deck)) in
        omega (arith, ap (λ (r : MoneyRow). r.amount) (togo_there deck k inside), togos-within deck limits k no_money inside);
  }

  pub are_work : AreWork (length (rows_of deck)) (work_in deck)
  are_work = record {
    known = λ a below. omega (arith, work_known deck none a below, length-map deck.items (row_of deck));
    small = λ a below.
        let inside : a < length deck.acts = omega (arith, below, length-map deck.acts (work_of deck)) in
        omega (arith, ap (λ (r : WorkRow). r.cost) (work_there deck a inside), (acts-within deck limits a no_act inside).cost);
  }

  pub are_known : AreKnown (length deck.acts) (statuses_in deck)
  are_known k below =
      let inside : k < length deck.statuses = omega (arith, below, length-map deck.statuses (status_of deck)) in
      omega (arith, ap (λ (r : StatusRow). r.activity) (status_there deck k inside), status_activity-within deck none k no_status inside)

  accounts_stand : HasNoLeafFault deck → AreAccounts (rows_of deck) (accounts_in deck)
  accounts_stand leaves = record {
    few = omega (arith, length-map deck.accounts (account_of deck), (limits Acct).few);
    known = accounts_known;
    leaves = λ a below.
        let inside : a < length deck.accounts = omega (arith, below, length-map deck.accounts (account_of deck)) in
        subst (IsLeaf (rows_of deck)) (sym (ap (λ (r : AcctRow). r.item) (account_there deck a inside))) (account_on_leaf deck leaves a no_account inside);
    budgets = accounts_cheap;
  }

  acts_stand : HasNoLeafFault deck → (a : ℕ) → a < length (network_of deck).arcs → IsLeaf (rows_of deck) (slice_index (map (item_of_act deck) deck.acts) a)
  acts_stand leaves a below =
      let inside : a < length deck.acts = omega (arith, below, length-map deck.acts (arc_of deck)) in
      subst (IsLeaf (rows_of deck)) (sym (get_or-map (item_of_act deck) deck.acts a no_act 0 inside)) (act_on_leaf deck leaves a no_act inside)

  are_figures : HasNoSecondToGo deck → AreFigures (length (accounts_in deck)) (charges_in deck) (togos_in deck)
  are_figures once = record {
    few_charges = omega (arith, length-map deck.charges (money_of deck), (limits Charge).few);
    charges_known = are_charges;
    few_togos = omega (arith, length-map deck.togos (money_of deck), (limits ToGo).few);
    togos_known = are_togos;
    once = once;
  }

  -- the work of the lists of places and terms is that of the cards
  work_of_cards : (acts : List ActCard) → work_rows (map (item_of_act deck) acts) (map term_of acts) ≡ map (work_of deck) acts
  work_of_cards [] = refl
  work_of_cards (act ∷ acts) = ap (λ rest. work_of deck act ∷ rest) (work_of_cards acts)

  -- the figures of the project of cards that make one
  pub project_in-figures : HasSoundFigures deck → (entries : List Entry) (states : List ActState) →
      AreEntriesOf (accounts_in deck) (charges_in deck) (togos_in deck) (as_of_in deck) entries → AreEntriesWithinLimits entries →
      AreStatesOf deck.project.start_day (statuses_in deck) (length deck.acts) states →
      HasFigures (project_in deck entries states)
  project_in-figures sound entries states made small far =
      let arcs = length-map deck.acts (arc_of deck) in
      record {
        on_leaves = acts_stand sound.leaves;
        accounts = accounts_stand sound.leaves;
        even = λ item uneven. sound.even item (subst (λ work. IsUneven (accounts_in deck) work item) (work_of_cards deck.acts) uneven);
        figures = are_figures sound.once;
        entries = made;
        small_entries = small;
        as_of = as_of-late deck sound.ordered;
        few_statuses = omega (arith, length-map deck.statuses (status_of deck), (limits Status).few);
        statuses_known = subst (λ n. AreKnown n (statuses_in deck)) (sym arcs) are_known;
        in_order = all_in_order deck sound.ordered (length-map deck.statuses (status_of deck));
        states = subst (λ n. AreStatesOf deck.project.start_day (statuses_in deck) n states) (sym arcs) far;
        small_states = record {
          one_each = far.one_each ∙ sym arcs;
          small = λ a below. far.small a (omega (arith, below, arcs));
        };
      }
