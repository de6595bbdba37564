-- What a search that continues preserves, and what it has settled.
use Rattle.std.proofs.Common.{◌≡◌, ℕ, ◌+◌, ◌-◌, ◌<◌, ◌≤◌, ◌⊎◌, List, length, sym, ◌∙◌, ap, subst, inl, inr, arith}
use Rattle.std.specs.Prelude.{slice_index}
use Rattle.std.proofs.lemmas.Bool.{cases_lt}
use Rattle.pc_model.specs.Greatest.{StandsBelow}
use Rattle.pc_model.specs.Walk.{from_of, to_of}
use Rattle.pc_model.specs.Network.{IsInRange}
use Rattle.pc_crash.specs.Priced.{PricedNetwork}
use Rattle.pc_flow.specs.board.Sheets.{Sheet, time_of, rank_of, flow_of}
use Rattle.pc_flow.specs.inside.board.Sheets.{queue_of, waiting_of, slot_of, due_of}
use Rattle.pc_flow.specs.inside.board.Labelling.{HaveRoom, IsRanked}
use Rattle.pc_flow.specs.declared.search.way.Way.{Way}
use Rattle.pc_flow.specs.declared.search.way.Way.TheVariants.{Along, Against}
use Rattle.pc_flow.specs.inside.search.Searches.{gap_at, IsSearch, MayCross, IsSettledActivity, grown_as, Grows, IsVisited}
use Rattle.pc_flow.proofs.lemmas.search.VisitLaws.{grows-none}
use Rattle.pc_flow.specs.inside.search.Growing.{IsReached, IsScanned, IsMet, AreDueLater, GoesOn, HasSettled}
use Rattle.pc_flow.proofs.lemmas.search.WayLaws.{settled-kept}

-- Going on from board to board

module _ (s t : Sheet) (grows : Grows s t) where
  pub grows-events : t.events ≡ s.events
  grows-events = ap (λ (v : Sheet). v.events) grows.rest

  pub grows-head : t.head ≡ s.head
  grows-head = ap (λ (v : Sheet). v.head) grows.rest

  pub grows-flow : (a : ℕ) → flow_of t a ≡ flow_of s a
  grows-flow a = ap (λ (v : Sheet). flow_of v a) grows.rest

  pub grows-labelled : (e : ℕ) → 0 < rank_of s e → 0 < rank_of t e
  grows-labelled e labelled = omega (arith, grows.labelled e labelled)

  pub grows-unlabelled : (e : ℕ) → rank_of t e ≡ 0 → rank_of s e ≡ 0
  grows-unlabelled e none =
      elim (cases_lt 0 (rank_of s e)) [
        | inl some ↦ absurd (omega (arith, grows.labelled e some))
        | inr still ↦ omega arith
      ]

  -- a label at one of the first places was there before
  pub grows-early : IsRanked s → IsRanked t → (e : ℕ) → e < s.events → 0 < rank_of t e → rank_of t e ≤ s.count → rank_of s e ≡ rank_of t e
  grows-early ranked_s ranked_t e known labelled early =
      let below : rank_of t e - 1 < s.count = omega arith in
      let place : queue_of s (rank_of t e - 1) ≡ e =
      sym (grows.queue (rank_of t e - 1) below) ∙ ranked_t.queued e (omega (arith, known, grows-events)) labelled in
      omega (arith, ap (rank_of s) place, ranked_s.placed (rank_of t e - 1) below)

  pub grows-joins : (u : Sheet) → Grows t u → Grows s u
  grows-joins u next = record {
    rest = next.rest ∙ ap (λ (v : Sheet). grown_as v u) grows.rest;
    labelled = λ e some. next.labelled e (grows-labelled e some) ∙ grows.labelled e some;
    time = λ e known. next.time e (omega (arith, known, grows-events)) ∙ grows.time e known;
    waits = λ a some. next.waits a (omega (arith, grows.waits a some, some)) ∙ grows.waits a some;
    queue = λ k below. next.queue k (omega (arith, grows.count)) ∙ grows.queue k below;
    waiting = λ k below. next.waiting k (omega (arith, grows.len)) ∙ grows.waiting k below;
    count = omega (arith, grows.count, next.count);
    len = omega (arith, grows.len, next.len);
  }

  -- an activity that is settled stays so, if an end had a label
  module _ (net : PricedNetwork) (range : IsInRange net.network) (events : net.network.events ≡ s.events) (a : ℕ) (known : a < length net.network.arcs) where
    from-time : time_of t (from_of net.network.arcs a) ≡ time_of s (from_of net.network.arcs a)
    from-time = grows.time (from_of net.network.arcs a) (omega (arith, range.from_in a known, events))

    to-time : time_of t (to_of net.network.arcs a) ≡ time_of s (to_of net.network.arcs a)
    to-time = grows.time (to_of net.network.arcs a) (omega (arith, range.to_in a known, events))

    gap-same : gap_at net t a ≡ gap_at net s a
    gap-same = omega (arith, from-time, to-time)

    -- what labels may cross now they could cross before, if an end had a label
    pub may-was : IsReached net s a → (way : Way) → MayCross net t way a → MayCross net s way a
    may-was (inl labelled) Along may = record {
      near = labelled;
      far = grows-unlabelled (to_of net.network.arcs a) may.far;
      flows = λ is. omega (arith, may.flows is, grows-flow a);
    }
    may-was (inr labelled) Along may = absurd (omega (arith, grows-labelled (to_of net.network.arcs a) labelled, may.far))
    may-was (inl labelled) Against may = absurd (omega (arith, grows-labelled (from_of net.network.arcs a) labelled, may.far))
    may-was (inr labelled) Against may = record {
      near = labelled;
      far = grows-unlabelled (from_of net.network.arcs a) may.far;
      flows = λ is. omega (arith, may.flows is, grows-flow a);
    }

    pub settled-grows : IsReached net s a → IsSettledActivity net s a → IsSettledActivity net t a
    settled-grows reached settled =
        settled-kept net s t a (grows-flow a) gap-same (may-was reached) (λ had. omega (arith, had, grows.waits a had)) settled

  pub reached-grows : (net : PricedNetwork) (a : ℕ) → IsReached net s a → IsReached net t a
  reached-grows net a (inl labelled) = inl (grows-labelled (from_of net.network.arcs a) labelled)
  reached-grows net a (inr labelled) = inr (grows-labelled (to_of net.network.arcs a) labelled)

-- What has been settled

pub goes_on-begins : (net : PricedNetwork) (these : ℕ → Type 0) (s : Sheet) → IsSearch net s → HaveRoom s → ((a : ℕ) → these a → ⊥)
    → GoesOn net these s s
goes_on-begins net these s search room none = record {
  grows = grows-none s;
  search = search;
  room = room;
  settled = λ a known this reached. absurd (none a this);
}

module _ (net : PricedNetwork) (these those all : ℕ → Type 0) (s t u : Sheet)
    (split : (a : ℕ) → a < length net.network.arcs → all a → these a ⊎ those a) where
  pub goes_on-joins : GoesOn net these s t → GoesOn net those t u → GoesOn net all s u
  goes_on-joins first second = record {
    grows = grows-joins s t first.grows u second.grows;
    search = second.search;
    room = second.room;
    settled = λ a known this reached. elim (split a known this) [
      | inl early ↦
          settled-grows t u second.grows net first.search.in_range first.search.fits.events a known (reached-grows s t first.grows net a reached)
          (first.settled a known early reached)
      | inr late ↦ second.settled a known late (reached-grows s t first.grows net a reached)
    ];
  }

-- one visit
pub goes_on-visited : (net : PricedNetwork) (t u : Sheet) (a : ℕ) → IsVisited net t u a → GoesOn net (λ b. b ≡ a) t u
goes_on-visited net t u a visited = record {
  grows = visited.grows;
  search = visited.search;
  room = visited.room;
  settled = λ b known same reached. subst (λ x. IsSettledActivity net u x) (sym same) visited.settled;
}

-- one of the first of a list and the next one is among the first or is the next
stands-next : (xs : List ℕ) (i a b : ℕ) → slice_index xs i ≡ a → StandsBelow xs (i + 1) b → StandsBelow xs i b ⊎ (b ≡ a)
stands-next xs i a b at stands =
    elim (cases_lt stands.0 i) [
      | inl early ↦ inl (stands.0, early, stands.2)
      | inr late ↦ let here : stands.0 ≡ i = omega (arith, stands.1) in inr (sym stands.2 ∙ ap (slice_index xs) here ∙ at)
    ]

-- a visit to the next of a list
pub goes_on-visits : (net : PricedNetwork) (xs : List ℕ) (i a : ℕ) (s t u : Sheet) → GoesOn net (StandsBelow xs i) s t → slice_index xs i ≡ a
    → IsVisited net t u a → GoesOn net (StandsBelow xs (i + 1)) s u
goes_on-visits net xs i a s t u before at visited =
    goes_on-joins net (StandsBelow xs i) (λ b. b ≡ a) (StandsBelow xs (i + 1)) s t u (λ b known stands. stands-next xs i a b at stands)
    before (goes_on-visited net t u a visited)

-- one of the first i that wait, and the falls have reached the sum that is stored for it
abbrev pub IsDueBelow : Sheet → ℕ → ℕ → Type 0
IsDueBelow s i a = StandsBelow s.waiting i a × (due_of s a ≤ s.fallen)

-- a visit to the next of those that wait
pub goes_on-due : (net : PricedNetwork) (i a : ℕ) (s t u : Sheet) → GoesOn net (IsDueBelow s i) s t → waiting_of s i ≡ a → IsVisited net t u a
    → GoesOn net (IsDueBelow s (i + 1)) s u
goes_on-due net i a s t u before at visited =
    goes_on-joins net (IsDueBelow s i) (λ b. b ≡ a) (IsDueBelow s (i + 1)) s t u split before (goes_on-visited net t u a visited)
  where
    split : (b : ℕ) → b < length net.network.arcs → IsDueBelow s (i + 1) b → IsDueBelow s i b ⊎ (b ≡ a)
    split b known this =
        elim (stands-next s.waiting i a b at this.0) [ inl early ↦ inl (early, this.1) | inr here ↦ inr here ]

-- the next of them waits on
pub goes_on-waits : (net : PricedNetwork) (i a : ℕ) (s t : Sheet) → GoesOn net (IsDueBelow s i) s t → waiting_of s i ≡ a → s.fallen < due_of s a
    → GoesOn net (IsDueBelow s (i + 1)) s t
goes_on-waits net i a s t before at late = record {
  grows = before.grows;
  search = before.search;
  room = before.room;
  settled = λ b known this reached. elim (stands-next s.waiting i a b at this.0) [
    | inl early ↦ before.settled b known (early, this.1) reached
    | inr here ↦ absurd (omega (arith, this.1, ap (due_of s) here, late))
  ];
}

-- Where none counts as scanned that was not

module _ (net : PricedNetwork) (these : ℕ → Type 0) (s t : Sheet) (search : IsSearch net s) (on : GoesOn net these s t) where
  -- a scanned event was scanned before
  scanned-was : (e : ℕ) → e < net.network.events → IsScanned t e → IsScanned s e
  scanned-was e known scanned =
      let same : rank_of s e ≡ rank_of t e =
      grows-early s t on.grows search.ranked on.search.ranked e (omega (arith, known, search.fits.events)) scanned.labelled
      (omega (arith, scanned.within, grows-head s t on.grows, search.ranked.scanned)) in
      record { labelled = omega (arith, same, scanned.labelled); within = omega (arith, same, scanned.within, grows-head s t on.grows) }

  pub met-was : (a : ℕ) → a < length net.network.arcs → IsMet net t a → IsMet net s a
  met-was a known (inl from) = inl (scanned-was (from_of net.network.arcs a) (search.in_range.from_in a known) from)
  met-was a known (inr to) = inr (scanned-was (to_of net.network.arcs a) (search.in_range.to_in a known) to)

pub met-reached : (net : PricedNetwork) (s : Sheet) (a : ℕ) → IsMet net s a → IsReached net s a
met-reached net s a (inl from) = inl from.labelled
met-reached net s a (inr to) = inr to.labelled

-- The list of those that wait

module _ (net : PricedNetwork) (s t : Sheet) (search : IsSearch net s) (on : GoesOn net (IsDueBelow s s.len) s t)
    (listed : AreDueLater net s) where
  -- an activity stops only after a fall, if the falls have not reached its sum
  waits-on : (a : ℕ) → a < length net.network.arcs → IsMet net s a → s.fallen < due_of s a → IsSettledActivity net s a
  waits-on a known met late way may = let waits = listed a known met way may in (waits.listed, omega (arith, waits.due, late))

  -- else it was visited, if it waited
  waited : (a : ℕ) → a < length net.network.arcs → IsMet net s a → 0 < slot_of s a → IsSettledActivity net t a
  waited a known met waits =
      let ka : a < s.activities = omega (arith, known, search.fits.activities) in
      elim (cases_lt s.fallen (due_of s a)) [
        | inl late ↦
            settled-grows s t on.grows net search.in_range search.fits.events a known (met-reached net s a met) (waits-on a known met late)
        | inr due ↦
            on.settled a known ((slot_of s a - 1, omega (arith, search.waiting.within a ka), search.waiting.listed a ka waits), due)
            (met-reached net s a met)
      ]

  pub settled-all : HasSettled net s t
  settled-all = record {
    grows = on.grows;
    search = on.search;
    room = on.room;
    settled = λ a known met way may.
        let was : IsMet net s a = met-was net (IsDueBelow s s.len) s t search on a known met in
        let before = may-was s t on.grows net search.in_range search.fits.events a known (met-reached net s a was) way may in
        waited a known was (listed a known was way before).listed way may;
  }
