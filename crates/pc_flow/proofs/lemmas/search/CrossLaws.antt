-- An activity that labels may cross: it waits for a fall, or its far event enters.
use Rattle.std.proofs.Common.{◌≡◌, ◌≢◌, ℕ, ◌+◌, ◌-◌, ◌^◌, ◌<◌, ◌≤◌, true, false, length, refl, sym, ap, subst, inl, inr, arith}
use Rattle.std.proofs.lemmas.Bool.{cases_eq}
use Rattle.pc_model.specs.Walk.{from_of, to_of}
use Rattle.pc_crash.specs.Priced.{PricedNetwork}
use Rattle.pc_laws.specs.Stair.{IsOnStair}
use Rattle.pc_flow.specs.board.Sheets.{Sheet, rank_of, flow_of}
use Rattle.pc_flow.specs.inside.board.Sheets.{slot_of}
use Rattle.pc_flow.specs.inside.board.Moves.{WaitsOnce, EntersAt}
use Rattle.pc_flow.specs.inside.board.Labelling.{HaveRoom}
use Rattle.pc_flow.proofs.lemmas.board.AfterEntering.{IsNewStep, queue-room}
use Rattle.pc_flow.specs.declared.search.way.Way.{Way}
use Rattle.pc_flow.specs.declared.search.way.Way.TheVariants.{Along, Against}
use Rattle.pc_flow.specs.inside.search.Ways.{near_in, far_in, goes_against}
use Rattle.pc_flow.specs.inside.search.Searches.{stair_at, gap_at, lesser_at, greater_at, IsSearch, MayCross, StopsAfterFall, HasRoomAlong, HasRoomAgainst, StopsLater, IsVisited}
use Rattle.pc_flow.proofs.lemmas.search.MeasureLaws.{unit-along, unit-against}
use Rattle.pc_flow.proofs.lemmas.search.WayLaws.{one-way, near-known, far-known, near-labelled, far-none}
use Rattle.pc_flow.proofs.lemmas.search.VisitLaws.{visited-still, visited-waits}
use Rattle.pc_flow.proofs.lemmas.search.EnterLaws.{visited-enters}

module _ (net : PricedNetwork) (s : Sheet) (a : ℕ) (search : IsSearch net s) (known : a < length net.network.arcs) (room : HaveRoom s) where
  activity : a < s.activities
  activity = omega (arith, known, search.fits.activities)

  -- labels may cross it only the one way
  pub stops-later : (way : Way) (after : ℕ) → MayCross net s way a → StopsAfterFall net s a way after → 0 < after → StopsLater net s a
  stops-later way after may stops some = λ other also.
      let same = one-way net s a other way also may in
      omega (arith, stops, some, ap (λ w. lesser_at net s w a) same, ap (λ w. greater_at net s w a) same)

  -- it waits, or did so before
  pub crossed-waits : (t : Sheet) → StopsLater net s a → (slot_of s a ≢ 0 → t ≡ s) → (slot_of s a ≡ 0 → WaitsOnce s t a) → IsVisited net s t a
  crossed-waits t later stays waits =
      elim (cases_eq (slot_of s a) 0) [
        | inl none ↦ visited-waits net s t a search activity none (waits none) room later
        | inr had ↦
            let slot : 0 < slot_of s a = omega (arith, had) in
            subst (λ u. IsVisited net s u a) (sym (stays had)) (visited-still net s a search room (λ way may. (slot, later way may)))
      ]

  -- a flow on the staircase may be one unit more, or one less, where the activity stops now
  abbrev pub HasUnit : Way → Type 0
  HasUnit Along = HasRoomAlong net s a 1
  HasUnit Against = HasRoomAgainst net s a 1

  unit : (way : Way) → MayCross net s way a → StopsAfterFall net s a way 0 → HasUnit way
  unit Along may stops = unit-along net s a known search.stairs stops
  unit Against may stops = unit-against net s a known search.stairs (may.flows refl) stops

  module _ (near far : ℕ) where
    none : (way : Way) → far_in net way a ≡ far → MayCross net s way a → rank_of s far ≡ 0
    none = far-none net s a near far

    inside : (way : Way) → far_in net way a ≡ far → far < s.events
    inside way ends = far-known net s a near far way search.in_range search.fits known ends

    pub far-room : (way : Way) → far_in net way a ≡ far → MayCross net s way a → s.count < s.events
    far-room way ends may = queue-room s far search.ranked (inside way ends) (none way ends may)

    -- the event to which the step leads enters
    new : (way : Way) → near_in net way a ≡ near → far_in net way a ≡ far → MayCross net s way a → HasUnit way
        → IsNewStep net.network s far a (goes_against way) near 1
    new way begins ends may has = record {
      unlabelled = none way ends may;
      known = inside way ends;
      near_known = near-known net s a near far way search.in_range search.fits known begins;
      near_labelled = near-labelled net s a near far way begins may;
      activity = activity;
      some = omega arith;
      along = along way begins ends has;
      back = back way begins ends has;
    } where
      along : (w : Way) → near_in net w a ≡ near → far_in net w a ≡ far → HasUnit w → goes_against w ≡ false
          → (from_of net.network.arcs a ≡ near) × (to_of net.network.arcs a ≡ far) × (flow_of s a + 1 < 2 ^ 64)
      along Along starts leads one is = (starts, leads, one.small)
      along Against starts leads one is = cc

      back : (w : Way) → near_in net w a ≡ near → far_in net w a ≡ far → HasUnit w → goes_against w ≡ true
          → (from_of net.network.arcs a ≡ far) × (to_of net.network.arcs a ≡ near) × (1 ≤ flow_of s a)
      back Along starts leads one is = cc
      back Against starts leads one is = (leads, starts, one.within)

    pub crossed : (way : Way) (t : Sheet) → near_in net way a ≡ near → far_in net way a ≡ far → MayCross net s way a → StopsAfterFall net s a way 0
        → EntersAt s t far a (goes_against way) near 1 → IsVisited net s t a
    crossed way t begins ends may stops entered =
        visited-enters net s t far a (goes_against way) near 1 search known (new way begins ends may has) entered (along way has) (back way has) room
      where
        has : HasUnit way
        has = unit way may stops

        along : (w : Way) → HasUnit w → goes_against w ≡ false → IsOnStair (stair_at net a) (gap_at net s a) (flow_of s a + 1)
        along Along one is = one.on
        along Against one is = cc

        back : (w : Way) → HasUnit w → goes_against w ≡ true → IsOnStair (stair_at net a) (gap_at net s a) (flow_of s a - 1)
        back Along one is = cc
        back Against one is = one.on
