-- What a search promises of many activities at once.
use Rattle.std.specs.Prelude.{◌≡◌, ℕ, ◌+◌, ◌<◌, ◌≤◌, ◌⊎◌, length}
use Rattle.pc_model.specs.Greatest.{places}
use Rattle.pc_model.specs.Walk.{from_of, to_of}
use Rattle.pc_net.specs.Networks.{events_from, events_to}
use Rattle.pc_crash.specs.Priced.{PricedNetwork}
use Rattle.pc_flow.specs.board.Sheets.{Sheet, time_of, rank_of}
use Rattle.pc_flow.specs.inside.board.Sheets.{lost_of, slot_of, due_of}
use Rattle.pc_flow.specs.inside.board.Labelling.{HaveRoom}
use Rattle.pc_flow.specs.declared.search.way.Way.{Way}
use Rattle.pc_flow.specs.inside.search.Searches.{lesser_at, greater_at, IsSearch, MayCross, IsSettledActivity, grown_as, Grows}

-- activity a begins or ends at event e
abbrev pub IsAt : PricedNetwork → ℕ → ℕ → Type 0
IsAt net e a = (from_of net.network.arcs a ≡ e) ⊎ (to_of net.network.arcs a ≡ e)

-- how many activities begin at event e and end there, in all
abbrev pub degree : PricedNetwork → ℕ → ℕ
degree net e = length (places e 0 (events_from net.network.arcs)) + length (places e 0 (events_to net.network.arcs))

-- an end of activity a has a label
abbrev pub IsReached : PricedNetwork → Sheet → ℕ → Type 0
IsReached net s a = (0 < rank_of s (from_of net.network.arcs a)) ⊎ (0 < rank_of s (to_of net.network.arcs a))

-- event e has a label and was scanned
pub record IsScanned (s : Sheet) (e : ℕ) : Type 0 where
  pub labelled : 0 < rank_of s e
  pub within : rank_of s e ≤ s.head

-- an end of activity a was scanned
abbrev pub IsMet : PricedNetwork → Sheet → ℕ → Type 0
IsMet net s a = IsScanned s (from_of net.network.arcs a) ⊎ IsScanned s (to_of net.network.arcs a)

-- activity a waits, and stops no sooner than when the falls have reached the sum that is stored for it
pub record IsDueLater (net : PricedNetwork) (s : Sheet) (way : Way) (a : ℕ) : Type 0 where
  pub listed : 0 < slot_of s a
  pub due : due_of s a + lesser_at net s way a ≤ s.fallen + greater_at net s way a

-- of the activities at scanned events those wait that labels may cross
abbrev pub AreDueLater : PricedNetwork → Sheet → Type 0
AreDueLater net s = (a : ℕ) → a < length net.network.arcs → IsMet net s a → (way : Way) → MayCross net s way a → IsDueLater net s way a

-- and they stop only after a fall
abbrev pub AreSettled : PricedNetwork → Sheet → Type 0
AreSettled net s = (a : ℕ) → a < length net.network.arcs → IsMet net s a → IsSettledActivity net s a

-- the search continued from board s to board t, and has settled those of these activities that have an end with a label
pub record GoesOn (net : PricedNetwork) (these : ℕ → Type 0) (s t : Sheet) : Type 0 where
  pub grows : Grows s t
  pub search : IsSearch net t
  pub room : HaveRoom t
  pub settled : (a : ℕ) → a < length net.network.arcs → these a → IsReached net s a → IsSettledActivity net t a

-- the search continued to the activities that waited, and all at scanned events are settled
pub record HasSettled (net : PricedNetwork) (s t : Sheet) : Type 0 where
  pub grows : Grows s t
  pub search : IsSearch net t
  pub room : HaveRoom t
  pub settled : AreSettled net t

-- the search went on until the end had a label or all events with one were scanned
pub record HasGrown (net : PricedNetwork) (s t : Sheet) : Type 0 where
  pub grows : Grows (record s { head = t.head }) t
  pub head : s.head ≤ t.head
  pub search : IsSearch net t
  pub room : HaveRoom t
  pub settled : AreSettled net t
  pub ended : (0 < rank_of t net.network.end) ⊎ (t.head ≡ t.count)

-- board s with the labels of board t, with those that it lost, and with its waiting activities
abbrev pub relabelled : Sheet → Sheet → Sheet
relabelled s t = record (grown_as s t) { lost = t.lost; head = t.head; due = t.due }

-- after an augmentation the labels without room were removed, and the search continued from the others; times and flows
-- are as they were
pub record HasLookedAgain (net : PricedNetwork) (s t : Sheet) : Type 0 where
  pub rest : t ≡ relabelled s t
  pub time : (e : ℕ) → e < s.events → time_of t e ≡ time_of s e
  pub search : IsSearch net t
  pub room : HaveRoom t
  pub settled : AreSettled net t

-- activity a begins or ends at one of the first `gone` events that lost their labels
abbrev pub IsAtLost : PricedNetwork → Sheet → ℕ → ℕ → Type 0
IsAtLost net s gone a = (k : ℕ) × (k < gone) × IsAt net (lost_of s k) a
