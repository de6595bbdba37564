-- What a call that puts a text on a page leaves of the page and its sink.
use Rattle.std.specs.Prelude.{◌≡◌, ℕ, ◌≤◌, List, ◌++◌, Option, Bool, true, false}
use Rattle.pc_edges.specs.Writes.{Stopped}
use Rattle.pc_edges.specs.inside.Writes.{Gathered}
use Rattle.pc_edges.specs.inside.page.Page.{Page}

-- a page and the sink that it is written to: the page, what the sink has taken, if it shows that, and its count of
-- faults
pub record Desk : Type 0 where
  pub page : Page
  pub taken : Option (List ℕ)
  pub faults : ℕ

-- a page and a sink, by the words of the sink's trait
abbrev pub desk : {O : Type 0} → (O → Option (List ℕ)) → (O → ℕ) → Page → O → Desk
desk taken faults page sink = record { page = page; taken = taken sink; faults = faults sink }

-- whether a push had failed before, and whether one has now: without a failure the text follows what was pending,
-- pushed or pending itself; at the first failure the sink has a front of both; and after it the sink does not change
abbrev pub AddsFrom : Bool → Bool → List ℕ → List ℕ → Option (List ℕ) → Option (List ℕ) → ℕ → ℕ → List ℕ → Type 0
AddsFrom false false pending pending' old new before after text = Gathered old new pending' before after (pending ++ text)
AddsFrom false true pending pending' old new before after text = Stopped old new before after (pending ++ text)
AddsFrom true true pending pending' old new before after text = (new ≡ old) × (after ≡ before)
AddsFrom true false pending pending' old new before after text = ⊥

-- the text was put on the page after what was there
pub record Adds (old new : Desk) (text : List ℕ) : Type 0 where
  pub added : AddsFrom old.page.failed new.page.failed old.page.pending new.page.pending old.taken new.taken old.faults new.faults text
  pub count : old.faults ≤ new.faults

-- the same, of a page and a sink before and after a call
abbrev pub Puts : {O : Type 0} → (O → Option (List ℕ)) → (O → ℕ) → Page → O → Page → O → List ℕ → Type 0
Puts taken faults page sink page' sink' text = Adds (desk taken faults page sink) (desk taken faults page' sink') text
