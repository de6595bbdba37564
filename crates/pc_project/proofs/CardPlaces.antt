-- The cards of a project are where its numbers say, and say what its lists do.
use Rattle.std.proofs.Common.{◌≡◌, ℕ, ◌<◌, List, length, map, get_or, sym, ap, ◌∙◌, arith}
use Rattle.std.proofs.lemmas.List.{length-map, get_or-map}
use Rattle.pc_project.specs.declared.project.Project.TheInside.{Inside}
use Rattle.pc_project.specs.inside.Parts.{project_from}
use Rattle.pc_project.specs.Planned.{IsPlanned}
use Rattle.pc_project.specs.Project.{Project, account_of, arc_of}

-- there is a card for each number of an event, an activity, an item, a resource or an account
module _ (s : Inside) (project : Project) (is : project_from s ≡ project) (planned : IsPlanned (project_from s)) (i : ℕ) where
  pub event_there : i < project.network.events → i < length s.cards.events
  event_there below = omega (arith, below, ap (λ p. p.network.events) is, ap (λ p. p.network.events) planned.own.is.lists)

  pub act_there : i < length project.network.arcs → i < length s.cards.acts
  act_there below =
      omega (arith, below, ap (λ p. length p.network.arcs) is, ap (λ p. length p.network.arcs) planned.own.is.lists, length-map s.cards.acts (arc_of s.cards))

  pub item_there : i < length project.tree → i < length s.cards.items
  item_there below = omega (arith, below, ap (λ p. length p.tree) is, planned.item_codes, length-map s.cards.items (λ item. item.code))

  pub resource_there : i < length project.resources → i < length s.cards.resources
  resource_there below = omega (arith, below, ap (λ p. length p.resources) is, length-map s.cards.resources (λ resource. resource.code))

  pub account_there : i < length project.accounts → i < length s.cards.accounts
  account_there below =
      omega (arith, below, ap (λ p. length p.accounts) is, ap (λ p. length p.accounts) planned.own.is.lists, length-map s.cards.accounts (account_of s.cards))

-- the card that was read at a place says what the list says there
pub said_there : {C X : Type 0} (f : C → X) (cards read : List C) (said : List X) (i : ℕ) (card : C) (none : X) →
    read ≡ cards → map f cards ≡ said → i < length cards → f (get_or read i card) ≡ get_or said i none
said_there f cards read said i card none same is within =
    ap (λ cs. f (get_or cs i card)) same ∙ (sym (get_or-map f cards i card none within) ∙ ap (λ xs. get_or xs i none) is)
