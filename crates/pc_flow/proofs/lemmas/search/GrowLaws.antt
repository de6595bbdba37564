-- A search that scans one event after another.
use Rattle.std.proofs.Common.{◌≡◌, ◌≢◌, ℕ, suc, ◌+◌, ◌-◌, ◌*◌, ◌<◌, ◌≤◌, ◌⊎◌, List, length, refl, sym, ◌∙◌, ap, subst, inl, inr, arith}
use Rattle.std.proofs.lemmas.Bool.{cases_lt}
use Rattle.pc_model.specs.Walk.{from_of, to_of}
use Rattle.pc_model.specs.Sums.{sum_to}
use Rattle.pc_model.proofs.Sums.{sum_to-same}
use Rattle.pc_net.specs.Networks.{events_from, events_to}
use Rattle.pc_net.specs.Degrees.{AreDistinct, degrees}
use Rattle.pc_crash.specs.Priced.{PricedNetwork}
use Rattle.pc_flow.specs.board.Sheets.{Sheet, rank_of}
use Rattle.pc_flow.specs.inside.board.Sheets.{queue_of}
use Rattle.pc_flow.specs.inside.board.Labelling.{HaveRoom}
use Rattle.pc_flow.specs.inside.search.Searches.{IsSearch, IsSettledActivity, Grows}
use Rattle.pc_flow.specs.inside.search.Growing.{IsAt, degree, IsReached, IsScanned, IsMet, AreSettled, GoesOn, HasGrown}
use Rattle.pc_flow.proofs.lemmas.search.KeptLaws.{waiting-kept, search-relisted}
use Rattle.pc_flow.proofs.lemmas.search.VisitLaws.{grows-none}
use Rattle.pc_flow.proofs.lemmas.search.GrowingLaws.{grows-head, grows-joins, grows-early, settled-grows}
use Rattle.pc_flow.proofs.lemmas.search.DegreeLaws.{degrees-few}

-- another count of scanned events
abbrev pub headed : Sheet → ℕ → Sheet
headed s head = record s { head = head }

-- the search is under way from board s to board t; `looks` were taken
pub record IsGrowing (net : PricedNetwork) (s t : Sheet) (looks : ℕ) : Type 0 where
  pub grows : Grows (headed s t.head) t
  pub head : s.head ≤ t.head
  pub search : IsSearch net t
  pub room : HaveRoom t
  pub settled : AreSettled net t
  pub few : looks ≤ sum_to t.head (λ k. degree net (queue_of t k))

pub growing-begins : (net : PricedNetwork) (s : Sheet) → IsSearch net s → HaveRoom s → AreSettled net s → IsGrowing net s s 0
growing-begins net s search room settled = record {
  grows = grows-none s;
  head = omega arith;
  search = search;
  room = room;
  settled = settled;
  few = omega arith;
}

-- one event more counts as scanned
pub grows-headed : (s t : Sheet) (h : ℕ) → Grows (headed s t.head) t → Grows (headed s h) (headed t h)
grows-headed s t h grows = record {
  rest = ap (λ (v : Sheet). headed v h) grows.rest;
  labelled = grows.labelled;
  time = grows.time;
  waits = grows.waits;
  queue = grows.queue;
  waiting = grows.waiting;
  count = grows.count;
  len = grows.len;
}

pub search-headed : (net : PricedNetwork) (t : Sheet) (h : ℕ) → h ≤ t.count → IsSearch net t → IsSearch net (headed t h)
search-headed net t h within search = search-relisted net t (headed t h) search within (waiting-kept t (headed t h) refl search.waiting)

pub room-headed : (t : Sheet) (h : ℕ) → HaveRoom t → HaveRoom (headed t h)
room-headed t h room = record { some = room.some }

settled-headed : (net : PricedNetwork) (t : Sheet) (h a : ℕ) → IsSettledActivity net t a → IsSettledActivity net (headed t h) a
settled-headed net t h a settled = λ way may. settled way (record { near = may.near; far = may.far; flows = may.flows })

module _ (net : PricedNetwork) (s t u : Sheet) (e looks more : ℕ) (on : IsGrowing net s t looks) (open_ : t.head < t.count) (next : e ≡ queue_of t t.head)
    (scanned : GoesOn net (IsAt net e) (headed t (t.head + 1)) u) where
  abbrev there : Sheet
  there = headed t (t.head + 1)

  head-now : u.head ≡ t.head + 1
  head-now = grows-head there u scanned.grows

  -- a scanned event was scanned before or is the next one
  early : (f : ℕ) → f < net.network.events → IsScanned u f → IsScanned t f ⊎ (f ≡ e)
  early f known is =
      let kf : f < t.events = omega (arith, known, on.search.fits.events) in
      let was : rank_of t f ≡ rank_of u f =
      grows-early there u scanned.grows (search-headed net t (t.head + 1) (omega arith) on.search).ranked scanned.search.ranked f kf is.labelled
      (omega (arith, is.within, head-now)) in
      elim (cases_lt t.head (rank_of t f)) [
        | inl late ↦
            let place : rank_of t f - 1 ≡ t.head = omega (arith, was, is.within, head-now) in
            inr (sym (on.search.ranked.queued f kf (omega (arith, was, is.labelled))) ∙ ap (queue_of t) place ∙ sym next)
        | inr before ↦ inl (record { labelled = omega (arith, was, is.labelled); within = before })
      ]

  settled-at : (a : ℕ) → a < length net.network.arcs → (IsReached net there a) → (IsMet net t a ⊎ IsAt net e a) → IsSettledActivity net u a
  settled-at a known reached (inl met) =
      settled-grows there u scanned.grows net on.search.in_range on.search.fits.events a known reached (settled-headed net t (t.head + 1) a (on.settled a known met))
  settled-at a known reached (inr at) = scanned.settled a known at reached

  e-labelled : 0 < rank_of t e
  e-labelled = omega (arith, ap (rank_of t) next, on.search.ranked.placed t.head open_)

  settled-now : AreSettled net u
  settled-now a known (inl from) =
      elim (early (from_of net.network.arcs a) (on.search.in_range.from_in a known) from) [
        | inl was ↦ settled-at a known (inl was.labelled) (inl (inl was))
        | inr is ↦ settled-at a known (inl (omega (arith, ap (rank_of t) is, e-labelled))) (inr (inl is))
      ]
  settled-now a known (inr to) =
      elim (early (to_of net.network.arcs a) (on.search.in_range.to_in a known) to) [
        | inl was ↦ settled-at a known (inr was.labelled) (inl (inr was))
        | inr is ↦ settled-at a known (inr (omega (arith, ap (rank_of t) is, e-labelled))) (inr (inr is))
      ]

  looks-now : more ≡ looks + degree net e → more ≤ sum_to u.head (λ k. degree net (queue_of u k))
  looks-now is =
      omega (
        arith,
        is,
        on.few,
        sum_to-same t.head (λ k. degree net (queue_of u k)) (λ k. degree net (queue_of t k)) (λ k below. ap (degree net) (scanned.grows.queue k (omega arith))),
        ap (degree net) (scanned.grows.queue t.head open_),
        ap (degree net) next,
        ap (λ h. sum_to h (λ k. degree net (queue_of u k))) (head-now ∙ one),
      )
    where
      one : t.head + 1 ≡ suc t.head
      one = omega arith

  pub growing-goes_on : more ≡ looks + degree net e → IsGrowing net s u more
  growing-goes_on is = record {
    grows = subst (λ h. Grows (headed s h) u) (sym head-now) (grows-joins (headed s (t.head + 1)) there (grows-headed s t (t.head + 1) on.grows) u scanned.grows);
    head = omega (arith, on.head, head-now);
    search = scanned.search;
    room = scanned.room;
    settled = settled-now;
    few = looks-now is;
  }

-- the looks are at most two for each activity
pub growing-few : (net : PricedNetwork) (s t : Sheet) (looks : ℕ) → IsGrowing net s t looks
    → ((events : List ℕ) → AreDistinct events → degrees (events_from net.network.arcs) events ≤ length net.network.arcs)
    → ((events : List ℕ) → AreDistinct events → degrees (events_to net.network.arcs) events ≤ length net.network.arcs)
    → looks ≤ 2 * length net.network.arcs
growing-few net s t looks on begin end =
    omega (arith, on.few, degrees-few net (queue_of t) t.head once begin end) where
      once : (j k : ℕ) → j < k → k < t.head → queue_of t j ≢ queue_of t k
      once j k before below same =
          let inside : k < t.count = omega (arith, below, on.search.ranked.scanned) in
          omega (arith, on.search.ranked.placed j (omega arith), on.search.ranked.placed k inside, ap (rank_of t) same)

pub growing-ends : (net : PricedNetwork) (s t : Sheet) (looks : ℕ) → IsGrowing net s t looks → (0 < rank_of t net.network.end) ⊎ (t.head ≡ t.count)
    → HasGrown net s t
growing-ends net s t looks on ended =
    record { grows = on.grows; head = on.head; search = on.search; room = on.room; settled = on.settled; ended = ended }
