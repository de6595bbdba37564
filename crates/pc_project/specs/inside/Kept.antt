-- What the cards of a project say and no number does, in card order.
use Rattle.std.specs.Prelude.{ℕ, List, map, slice_index}
use Rattle.pc_deck.specs.Deck.{Deck}
use Rattle.pc_project.specs.declared.activity.Estimates.{Estimates}

-- the titles of the events, the activities, the accounts and the resources
abbrev pub event_titles : Deck → List (List ℕ)
event_titles deck = map (λ event. event.title) deck.events

abbrev pub act_titles : Deck → List (List ℕ)
act_titles deck = map (λ act. act.title) deck.acts

abbrev pub account_titles : Deck → List (List ℕ)
account_titles deck = map (λ account. account.title) deck.accounts

abbrev pub resource_titles : Deck → List (List ℕ)
resource_titles deck = map (λ resource. resource.title) deck.resources

-- the estimates of activity a
abbrev pub estimates_at : Deck → ℕ → Estimates
estimates_at deck a = record {
  optimistic = slice_index (map (λ act. act.opt) deck.acts) a;
  likely = slice_index (map (λ act. act.likely) deck.acts) a;
  pessimistic = slice_index (map (λ act. act.pess) deck.acts) a;
}
