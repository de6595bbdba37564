-- What a project's accounts have spent and have to go, and how far its activities are, by its charges, amounts to go and statuses.
use Rattle.std.specs.Prelude.{◌≡◌, ℕ, ◌<◌, ◌≤◌, ℤ, List, [], ◌∷◌, length}
use Rattle.pc_accounts.specs.Amounts.{AreBudgets, AreEntriesOf, AreMoney, item_of}
use Rattle.pc_accounts.specs.Second.{IsRepeated}
use Rattle.pc_accounts.specs.declared.book.AcctRow.{AcctRow}
use Rattle.pc_accounts.specs.declared.book.MoneyRow.{MoneyRow}
use Rattle.pc_accounts.specs.declared.packages.WorkRow.{WorkRow}
use Rattle.pc_deck.specs.Deck.{Deck}
use Rattle.pc_model.specs.declared.Term.{Term}
use Rattle.pc_model.specs.declared.limits.TheConstants.{MAX_ACCOUNTS, MAX_CHARGES, MAX_TOGOS}
use Rattle.pc_accounts.specs.status.Statuses.{IsStateOf}
use Rattle.pc_accounts.specs.declared.status.StatusRow.{StatusRow}
use Rattle.pc_times.specs.Forecast.{IsSmallState, state_at}
use Rattle.pc_times.specs.declared.forecasts.ActState.{ActState}
use Rattle.pc_wbs.specs.Climb.{IsLeaf}
use Rattle.pc_wbs.specs.declared.tree.ItemRow.{ItemRow}
use Rattle.pc_project.specs.Project.{Project, project_in}

-- one state for each of n activities, by the statuses of a project with this start; no time is beyond the calendar
pub record AreStatesOf (start : ℤ) (statuses : List StatusRow) (activities : ℕ) (states : List ActState) : Type 0 where
  pub one_each : length states ≡ activities
  pub each : (a : ℕ) → a < activities → IsStateOf start statuses a (state_at states a)
  pub small : (a : ℕ) → a < activities → IsSmallState (state_at states a)

-- the project is that of the deck: it has the deck's lists; its entries are what all its charges and all its amounts to
-- go make of its accounts at as-of, and its states what all its statuses say of its activities
pub record IsProjectOfDeck (deck : Deck) (project : Project) : Type 0 where
  pub lists : project ≡ project_in deck project.entries project.states
  pub entries : AreEntriesOf project.accounts project.charges project.togos project.heading.as_of project.entries
  pub states : AreStatesOf project.heading.start_day project.statuses (length project.network.arcs) project.states

-- the activities' items and costs, from their items and their terms
abbrev pub work_rows : List ℕ → List Term → List WorkRow
work_rows [] terms = []
work_rows (place ∷ places) [] = []
work_rows (place ∷ places) (term ∷ terms) = record { item = place; cost = term.cost } ∷ work_rows places terms

-- the accounts are within their limits, and each is on a leaf of the tree
pub record AreAccounts (tree : List ItemRow) (accounts : List AcctRow) : Type 0 where
  pub few : length accounts ≤ MAX_ACCOUNTS
  pub known : (a : ℕ) → a < length accounts → item_of accounts a < length tree
  pub leaves : (a : ℕ) → a < length accounts → IsLeaf tree (item_of accounts a)
  pub budgets : AreBudgets accounts

-- the charges and the amounts to go of these accounts are within their limits, and no account has two amounts to go for one
-- day
pub record AreFigures (accounts : ℕ) (charges togos : List MoneyRow) : Type 0 where
  pub few_charges : length charges ≤ MAX_CHARGES
  pub charges_known : AreMoney accounts charges
  pub few_togos : length togos ≤ MAX_TOGOS
  pub togos_known : AreMoney accounts togos
  pub once : (k : ℕ) → IsRepeated togos k → ⊥
