-- A deck that makes a project makes one: its lists are those of the deck, and the entries of its accounts and the states of
-- its activities are fixed by them.
use Rattle.std.proofs.Common.{◌≡◌, List, length, sym, ◌∙◌, ap, subst}
use Rattle.pc_accounts.specs.declared.book.Entry.{Entry}
use Rattle.pc_accounts.specs.Amounts.{AreEntriesOf}
use Rattle.pc_accounts.proofs.OneBookLaws.{one_book}
use Rattle.pc_times.specs.declared.forecasts.ActState.{ActState}
use Rattle.pc_accounts.proofs.lemmas.status.OneStateLaws.{one_progress}
use Rattle.pc_deck.specs.Deck.{Deck}
use Rattle.pc_project.specs.Project.{Project, project_in}
use Rattle.pc_project.specs.Figures.{AreStatesOf, IsProjectOfDeck}
use Rattle.pc_project.specs.Refusal.{HasNoSecondToGo}

abbrev EntriesIn : Project → List Entry → Type 0
EntriesIn p entries = AreEntriesOf p.accounts p.charges p.togos p.heading.as_of entries

abbrev StatesIn : Project → List ActState → Type 0
StatesIn p states = AreStatesOf p.heading.start_day p.statuses (length p.network.arcs) states

-- the project of a deck without two amounts to go of one account and one day is one
pub one_project_of : (deck : Deck) → HasNoSecondToGo deck → (p q : Project) → IsProjectOfDeck deck p → IsProjectOfDeck deck q → p ≡ q
one_project_of deck once p q x y =
    let entries_p : EntriesIn (project_in deck p.entries p.states) p.entries = subst (λ o. EntriesIn o p.entries) x.lists x.entries in
    let entries_q : EntriesIn (project_in deck q.entries q.states) q.entries = subst (λ o. EntriesIn o q.entries) y.lists y.entries in
    let states_p : StatesIn (project_in deck p.entries p.states) p.states = subst (λ o. StatesIn o p.states) x.lists x.states in
    let states_q : StatesIn (project_in deck q.entries q.states) q.states = subst (λ o. StatesIn o q.states) y.lists y.states in
    let entries : p.entries ≡ q.entries = one_book _ _ _ once _ _ _ entries_p entries_q in
    let states : p.states ≡ q.states = one_progress _ _ _ _ _ states_p.one_each states_q.one_each states_p.each states_q.each in
    x.lists ∙ ap (λ e. project_in deck e p.states) entries ∙ ap (λ s. project_in deck q.entries s) states ∙ sym y.lists
