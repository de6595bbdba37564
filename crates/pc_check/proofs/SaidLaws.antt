-- The checker's state is what the lines say.
use Rattle.std.proofs.Common.{◌≡◌, ℕ, ◌+◌, ◌<◌, ◌≤◌, suc, Bool, true, false, ◌||◌, cond, ltb, List, [], ◌∷◌, ◌++◌, length}
use Rattle.std.proofs.Common.{map, inl, inr, ⊎_elim, Option, refl, sym, ap, subst, ◌∙◌, arith, add-one, length-append}
use Rattle.std.proofs.lemmas.Bool.{cases_eq, cases_lt, lt-ltb, le-ltb}
use Rattle.std.proofs.lemmas.List.{map-append, get_or_past}
use Rattle.std.proofs.Math.ListN.{get_or-map, get_or-append}
use Rattle.std.proofs.Math.Seq.{get_or-append_seam}
use Rattle.std.specs.Prelude.{◌==◌, slice_index, slice_index_or, if◌then◌else◌}
use Rattle.pc_model.specs.Sums.{sum_to}
use Rattle.pc_model.specs.Walk.{from_of, to_of}
use Rattle.pc_model.specs.Cost.{activity_cost}
use Rattle.pc_model.proofs.Sums.{sum_to-same}
use Rattle.pc_crash.specs.Priced.{PricedNetwork, knees_in}
use Rattle.pc_cert.specs.declared.line.CertLine.{CertLine}
use Rattle.pc_cert.specs.declared.line.CertLine.TheVariants.{Head, Normal, Step, Crash, Segment as SegmentLine, Event, Act, Close, End}
use Rattle.pc_check.specs.declared.kept.Kept.{Kept}
use Rattle.pc_check.specs.declared.kept.Tally.{Tally}
use Rattle.pc_check.specs.declared.walk.Reached.{Reached}
use Rattle.pc_check.specs.Draft.{Part, Draft, EventRow, ActRow, event_at, act_at, with_line}
use Rattle.pc_check.specs.Known.{Known, some_below}
use Rattle.pc_check.specs.inside.Kept.{known_by, stretch_of}
use Rattle.pc_check.specs.inside.KneeTests.{flow_sum}
use Rattle.pc_check.specs.Segments.{segment_in, stops_in}
use Rattle.pc_check.specs.Said.{flow_along, flow_at, spent_in, forward_by, backward_by, said}
use Rattle.pc_check.specs.declared.fast.passed.Passed.{Passed}
use Rattle.pc_check.specs.inside.fast.Passed.{passed_flow, passed_cost}
use Rattle.pc_check.specs.Conditions.{conditions}
use Rattle.pc_check.specs.Failures.{first_failing, reason_at}
use Rattle.pc_check.specs.inside.Safe.{AreSums, IsSafe, IsBegun, AddsAct}
use Rattle.pc_check.specs.Walks.{length_in, stepped, walked, at_start}
use Rattle.pc_check.specs.inside.Advances.{AddsStep, AddsEvent, AddsToKept}
use Rattle.pc_check.specs.inside.Checking.{IsKept, IsTallied}
use Rattle.pc_check.proofs.Drafts.{begun_part, with_step, with_event, with_act, outline}
use Rattle.pc_check.proofs.BelowLaws.{some_below-same}

-- ---- the state is what is said

times_at : (rows : List EventRow) (e : ℕ) → slice_index (map (λ row. row.time) rows) e ≡ (event_at rows e).time
times_at rows e = get_or-map (λ (row : EventRow). row.time) rows e (record { code = []; time = 0; moves = false })

moves_at : (rows : List EventRow) (e : ℕ) → slice_index_or (map (λ row. row.moves) rows) e false ≡ (event_at rows e).moves
moves_at rows e = get_or-map (λ (row : EventRow). row.moves) rows e (record { code = []; time = 0; moves = false })

flow_past : (net : PricedNetwork) (part : Part) (event_of : ℕ → ℕ) (e : ℕ) → net.network.events ≤ e → flow_at net part event_of e ≡ 0
flow_past net part event_of e past = rw (le-ltb e net.network.events past) refl

sums_at : (n : ℕ) (sums : List ℕ) (said_at : ℕ → ℕ) → length sums ≡ n → ((e : ℕ) → e < n → slice_index sums e ≡ said_at e) →
    ((e : ℕ) → n ≤ e → said_at e ≡ 0) → (e : ℕ) → slice_index sums e ≡ said_at e
sums_at n sums said_at long within past e = elim (cases_lt e n) [
  | inl lt ↦ within e lt
  | inr le ↦ get_or_past sums e 0 (omega arith) ∙ sym (past e le)
]

length-map_of : {A B : Type 0} (f : A → B) (xs : List A) → length (map f xs) ≡ length xs
length-map_of f [] = refl
length-map_of f (x ∷ xs) = ap suc (length-map_of f xs)

-- the sums of flows are those of the activities that have come, where all have
flows_come : (net : PricedNetwork) (part : Part) (tally : Tally) (event_of : ℕ → ℕ) (sums : List ℕ) →
    length part.acts ≡ length net.network.arcs → IsTallied net part tally → AreSums net tally.rows.items event_of sums → (e : ℕ) →
    e < net.network.events → slice_index sums e ≡ flow_at net part event_of e
flows_come net part tally event_of sums all k are e lt =
    let rows = tally.rows.items in
    let here : ltb e net.network.events ≡ true = lt-ltb e net.network.events lt in
    are e lt
    ∙ ap (λ n. sum_to n (λ a. if event_of a == e then passed_flow rows a else 0)) (sym all)
    ∙ sum_to-same (length part.acts) (λ a. if event_of a == e then passed_flow rows a else 0)
    (λ a. if event_of a == e then flow_along net part a else 0) (λ a below. ap (λ x. if event_of a == e then x else 0) (k.flows a below))
    ∙ ap (λ b. cond b (sum_to (length part.acts) (λ a. if event_of a == e then flow_along net part a else 0)) 0) (sym here)

-- and so is the cost
spent_come : (net : PricedNetwork) (part : Part) (tally : Tally) → length part.acts ≡ length net.network.arcs → IsTallied net part tally →
    tally.spent ≡ sum_to (length net.network.arcs) (passed_cost tally.rows.items) → tally.spent ≡ spent_in net part
spent_come net part tally all k is =
    is
    ∙ ap (λ n. sum_to n (passed_cost tally.rows.items)) (sym all)
    ∙ sum_to-same (length part.acts) (passed_cost tally.rows.items) (λ a. activity_cost net.terms (knees_in net) a ((segment_in net part).duration a)) k.costs

-- the state, with these sums of flows and of the cost
abbrev known_with : Kept → (ℕ → ℕ) → (ℕ → ℕ) → ℕ → Known
known_with kept inflow outflow spent = record (known_by kept) { inflow = inflow; outflow = outflow; spent = spent }

-- the state is what is said, with sums that are said
known_is_said : (net : PricedNetwork) (draft : Draft) (kept : Kept) (inflow outflow : ℕ → ℕ) (spent : ℕ) →
    ((e : ℕ) → inflow e ≡ (said net draft).inflow e) → ((e : ℕ) → outflow e ≡ (said net draft).outflow e) → spent ≡ (said net draft).spent →
    IsKept net draft kept → known_with kept inflow outflow spent ≡ said net draft
known_is_said net draft kept inflow outflow spent inflow_is outflow_is spent_is k =
    let time : (e : ℕ) → slice_index kept.tally.times.items e ≡ (event_at draft.part.events e).time = λ e. ap (λ xs. slice_index xs e) k.tally.times ∙ times_at draft.part.events e in
    let moves : (e : ℕ) → slice_index_or kept.tally.moves.items e false
    ≡ (event_at draft.part.events e).moves = λ e. ap (λ xs. slice_index_or xs e false) k.tally.moves ∙ moves_at draft.part.events e in
    let events : length kept.tally.times.items ≡ length draft.part.events = ap length k.tally.times ∙ length-map_of (λ row. row.time) draft.part.events in
    λ i. record {
      normal = k.normal i;
      crash = k.crash i;
      crash_walk_started = k.crash_walk_started i;
      segments = k.segments i;
      upper = k.tally.upper i;
      lower = k.tally.lower i;
      cost = k.tally.cost i;
      slope = k.tally.slope i;
      events = events i;
      time = λ e. time e i;
      moves = λ e. moves e i;
      acts = k.tally.acts i;
      inflow = λ e. inflow_is e i;
      outflow = λ e. outflow_is e i;
      spent = spent_is i;
      forward = k.tally.forward i;
      backward = k.tally.backward i;
      stops = k.tally.stops i;
    }

-- of the sums of flows and of the cost nothing is asked before the end of a segment
almost_said : (net : PricedNetwork) (draft : Draft) (kept : Kept) → IsKept net draft kept → known_with kept (said net draft).inflow (said net draft).outflow (said net draft).spent ≡ said net draft
almost_said net draft kept k = known_is_said net draft kept (said net draft).inflow (said net draft).outflow (said net draft).spent (λ e. refl) (λ e. refl) refl k

-- after all activities
wholly_said : (net : PricedNetwork) (draft : Draft) (kept : Kept) → IsSafe net kept.tally → kept.tally.acts ≡ length net.network.arcs → IsKept net draft kept → known_by kept ≡ said net draft
wholly_said net draft kept safe all k =
    let come : length draft.part.acts ≡ length net.network.arcs = sym k.tally.acts ∙ all in
    let tally = kept.tally in
    known_is_said net draft kept (slice_index tally.inflow.items) (slice_index tally.outflow.items) tally.spent
    (sums_at net.network.events tally.inflow.items (said net draft).inflow safe.entering
    (flows_come net draft.part tally (to_of net.network.arcs) tally.inflow.items come k.tally safe.inflow)
    (flow_past net draft.part (to_of net.network.arcs)))
    (sums_at net.network.events tally.outflow.items (said net draft).outflow safe.leaving
    (flows_come net draft.part tally (from_of net.network.arcs) tally.outflow.items come k.tally safe.outflow)
    (flow_past net draft.part (from_of net.network.arcs)))
    (spent_come net draft.part tally come k.tally safe.spent)
    k

-- the reason for which a line fails follows from the state, at the end of a segment after all its activities
pub reason_told : (net : PricedNetwork) (draft : Draft) (line : CertLine) (kept : Kept) → IsSafe net kept.tally →
    (line ≡ Close → kept.tally.acts ≡ length net.network.arcs) → IsKept net draft kept →
    first_failing (conditions net (known_by kept) line) ≡ reason_at net draft line
reason_told net draft (Head version project events activities) kept safe all k =
    ap (λ known. first_failing (conditions net known (Head version project events activities))) (almost_said net draft kept k)
reason_told net draft Normal kept safe all k = refl
reason_told net draft (Step code) kept safe all k = refl
reason_told net draft Crash kept safe all k = refl
reason_told net draft (SegmentLine upper lower cost slope) kept safe all k = ap (λ known. first_failing (conditions net known (SegmentLine upper lower cost slope))) (almost_said net draft kept k)
reason_told net draft (Event code time moves) kept safe all k = ap (λ known. first_failing (conditions net known (Event code time moves))) (almost_said net draft kept k)
reason_told net draft (Act code duration flows) kept safe all k = ap (λ known. first_failing (conditions net known (Act code duration flows))) (almost_said net draft kept k)
reason_told net draft Close kept safe all k = ap (λ known. first_failing (conditions net known Close)) (wholly_said net draft kept safe (all refl) k)
reason_told net draft End kept safe all k = ap (λ known. first_failing (conditions net known End)) (almost_said net draft kept k)

-- ---- one more line

walked-append : (net : PricedNetwork) (lengths : ℕ → ℕ) (at : Option Reached) (codes : List (List ℕ)) (code : List ℕ) →
    walked net lengths at (codes ++ code ∷ []) ≡ stepped net lengths (walked net lengths at codes) code
walked-append net lengths at [] code = refl
walked-append net lengths at (c ∷ codes) code = walked-append net lengths (stepped net lengths at c) codes code

-- a step
kept_step : (net : PricedNetwork) (draft : Draft) (code : List ℕ) (is_crash : Bool) (old new : Kept) → is_crash ≡ old.crash_walk_started →
    IsKept net draft old → AddsStep net code old new → IsKept net (with_step draft code is_crash) new
kept_step net draft code false old new is k added =
    let rest = added.rest in
    record {
      normal = added.normal ∙ ap (λ b. cond b old.normal (stepped net (length_in net false) old.normal code)) (sym is)
          ∙ ap (λ at. stepped net (length_in net false) at code) k.normal
          ∙ sym (walked-append net (length_in net false) (at_start net.network) draft.normal code);
      crash = added.crash ∙ ap (λ b. cond b (stepped net (length_in net true) old.crash code) old.crash) (sym is) ∙ k.crash;
      crash_walk_started = ap (λ k. k.crash_walk_started) rest ∙ k.crash_walk_started;
      segments = ap (λ k. k.segments) rest ∙ k.segments;
      tally = subst (λ t. IsTallied net draft.part t) (ap (λ k. k.tally) (sym rest)) k.tally;
    }
kept_step net draft code true old new is k added =
    let rest = added.rest in
    record {
      normal = added.normal ∙ ap (λ b. cond b old.normal (stepped net (length_in net false) old.normal code)) (sym is) ∙ k.normal;
      crash = added.crash ∙ ap (λ b. cond b (stepped net (length_in net true) old.crash code) old.crash) (sym is)
          ∙ ap (λ at. stepped net (length_in net true) at code) k.crash
          ∙ sym (walked-append net (length_in net true) (at_start net.network) draft.crash code);
      crash_walk_started = ap (λ k. k.crash_walk_started) rest ∙ k.crash_walk_started;
      segments = ap (λ k. k.segments) rest ∙ k.segments;
      tally = subst (λ t. IsTallied net draft.part t) (ap (λ k. k.tally) (sym rest)) k.tally;
    }

-- a segment that begins
tallied_begun : (net : PricedNetwork) (upper lower cost slope : ℕ) (tally : Tally) → IsBegun upper lower cost slope tally → IsTallied net (begun_part upper lower cost slope) tally
tallied_begun net upper lower cost slope tally b = record {
  upper = b.upper;
  lower = b.lower;
  cost = b.cost;
  slope = b.slope;
  times = b.times;
  moves = b.moves;
  acts = b.acts;
  flows = λ a below. absurd (omega (arith, below));
  costs = λ a below. absurd (omega (arith, below));
  forward = ap (λ c. c.forward) b.cut;
  backward = ap (λ c. c.backward) b.cut;
  stops = ap (λ c. c.stops) b.cut;
}

sum_none : (n : ℕ) (f g : ℕ → ℕ) → n ≡ 0 → sum_to n f ≡ sum_to n g
sum_none n f g none = sum_to-same n f g (λ a lt. absurd (omega arith))

some_none : (n : ℕ) (f g : ℕ → Bool) → n ≡ 0 → some_below n f ≡ some_below n g
some_none n f g none = some_below-same n f g (λ a lt. absurd (omega arith))

-- an event, before any activity
tallied_event : (net : PricedNetwork) (part : Part) (row : EventRow) (old new : Tally) → length part.acts ≡ 0 → IsTallied net part old →
    AddsEvent row.time row.moves old new → IsTallied net (with_event part row) new
tallied_event net part row old new none k added =
    let rest = added.rest in
    let acts : length part.acts ≡ 0 = none in
    record {
      upper = ap (λ t. t.upper) rest ∙ k.upper;
      lower = ap (λ t. t.lower) rest ∙ k.lower;
      cost = ap (λ t. t.cost) rest ∙ k.cost;
      slope = ap (λ t. t.slope) rest ∙ k.slope;
      times = added.times ∙ ap (λ xs. xs ++ row.time ∷ []) k.times ∙ sym (map-append (λ (r : EventRow). r.time) part.events (row ∷ []));
      moves = added.moves_too ∙ ap (λ xs. xs ++ row.moves ∷ []) k.moves ∙ sym (map-append (λ (r : EventRow). r.moves) part.events (row ∷ []));
      acts = ap (λ t. t.acts) rest ∙ k.acts;
      flows = λ a below. absurd (omega (arith, below, none));
      costs = λ a below. absurd (omega (arith, below, none));
      forward = ap (λ t. t.cut.forward) rest ∙ k.forward ∙ sum_none (length part.acts) (forward_by net (segment_in net part)) (forward_by net (segment_in net (with_event part row))) none;
      backward = ap (λ t. t.cut.backward) rest ∙ k.backward ∙ sum_none (length part.acts) (backward_by net (segment_in net part)) (backward_by net (segment_in net (with_event part row))) none;
      stops = ap (λ t. t.cut.stops) rest ∙ k.stops ∙ some_none (length part.acts) (stops_in net (segment_in net part)) (stops_in net (segment_in net (with_event part row))) none;
    }

-- the tally of a part is what it begins to be
stretch_is_outline : (net : PricedNetwork) (part : Part) (tally : Tally) → IsTallied net part tally → stretch_of tally ≡ outline part
stretch_is_outline net part tally k =
    let time : (e : ℕ) → slice_index tally.times.items e ≡ (event_at part.events e).time = λ e. ap (λ xs. slice_index xs e) k.times ∙ times_at part.events e in
    let moves : (e : ℕ) → slice_index_or tally.moves.items e false ≡ (event_at part.events e).moves = λ e. ap (λ xs. slice_index_or xs e false) k.moves ∙ moves_at part.events e in
    λ i. record {
      upper = k.upper i;
      lower = k.lower i;
      cost = k.cost i;
      slope = k.slope i;
      time = λ e. time e i;
      moves = λ e. moves e i;
      duration = λ a. 0;
      flow = λ a k. 0;
      beside = λ a. 0;
    }

module _ (net : PricedNetwork) (part : Part) (row : ActRow) where
  grown : length (part.acts ++ row ∷ []) ≡ suc (length part.acts)
  grown = length-append part.acts (row ∷ []) ∙ add-one (length part.acts)

  at_last : act_at (part.acts ++ row ∷ []) (length part.acts) ≡ row
  at_last = get_or-append_seam part.acts row [] (record { code = []; duration = 0; flows = [] })

  at_earlier : (a : ℕ) → a < length part.acts → act_at (part.acts ++ row ∷ []) a ≡ act_at part.acts a
  at_earlier a lt = get_or-append part.acts (row ∷ []) (record { code = []; duration = 0; flows = [] }) a lt

  flow_along-earlier : (a : ℕ) → a < length part.acts → flow_along net (with_act part row) a ≡ flow_along net part a
  flow_along-earlier a lt = ap (λ (r : ActRow). sum_to ((knees_in net).count a) (slice_index r.flows) + slice_index r.flows ((knees_in net).count a)) (at_earlier a lt)

  flow_along-last : length row.flows ≡ (knees_in net).count (length part.acts) + 1 → flow_along net (with_act part row) (length part.acts) ≡ flow_sum row.flows
  flow_along-last long =
      ap (λ (r : ActRow). sum_to ((knees_in net).count (length part.acts)) (slice_index r.flows) + slice_index r.flows ((knees_in net).count (length part.acts))) at_last
      ∙ ap (λ n. sum_to n (slice_index row.flows)) (sym (long ∙ add-one ((knees_in net).count (length part.acts))))

  -- a row is the new one or one that was there
  grown_cases : {A : Type 0} (a : ℕ) → a < length (part.acts ++ row ∷ []) → (a ≡ length part.acts → A) → (a < length part.acts → (a ≡ length part.acts → ⊥) → A) → A
  grown_cases a below last earlier = ⊎_elim last (λ other. earlier (omega (arith, below, grown, other)) other) (cases_eq a (length part.acts))

  flows_grown : (old new : Tally) (a : ℕ) → length row.flows ≡ (knees_in net).count (length part.acts) + 1 → old.acts ≡ length part.acts →
      ((b : ℕ) → b < length part.acts → passed_flow old.rows.items b ≡ flow_along net part b) → AddsAct net old row.duration row.flows new →
      a < length (part.acts ++ row ∷ []) → passed_flow new.rows.items a ≡ flow_along net (with_act part row) a
  flows_grown old new a long acts before added below =
      grown_cases a below
      (λ last. ap (passed_flow new.rows.items) (last ∙ sym acts) ∙ added.row.flow ∙ sym (flow_along-last long) ∙ ap (flow_along net (with_act part row)) (sym last))
      (λ earlier other. ap (λ (r : Passed). r.flow) (added.row.others a (λ q. other (q ∙ acts))) ∙ before a earlier ∙ sym (flow_along-earlier a earlier))

  costs_grown : (old new : Tally) (a : ℕ) → old.acts ≡ length part.acts →
      ((b : ℕ) → b < length part.acts → passed_cost old.rows.items b ≡ activity_cost net.terms (knees_in net) b (act_at part.acts b).duration) →
      AddsAct net old row.duration row.flows new → a < length (part.acts ++ row ∷ [])
      → passed_cost new.rows.items a ≡ activity_cost net.terms (knees_in net) a (act_at (part.acts ++ row ∷ []) a).duration
  costs_grown old new a acts before added below =
      grown_cases a below
      (λ last.
      ap (passed_cost new.rows.items) (last ∙ sym acts) ∙ added.row.cost ∙ ap (λ b. activity_cost net.terms (knees_in net) b row.duration) acts
      ∙ ap (λ (r : ActRow). activity_cost net.terms (knees_in net) (length part.acts) r.duration) (sym at_last)
      ∙ ap (λ b. activity_cost net.terms (knees_in net) b (act_at (part.acts ++ row ∷ []) b).duration) (sym last))
      (λ earlier other.
      ap (λ (r : Passed). r.cost) (added.row.others a (λ q. other (q ∙ acts))) ∙ before a earlier
      ∙ ap (λ (r : ActRow). activity_cost net.terms (knees_in net) a r.duration) (sym (at_earlier a earlier)))

  forward_there : (old : Tally) → stretch_of old ≡ outline part →
      old.cut.forward + forward_by net (stretch_of old) (length part.acts)
      ≡ old.cut.forward + forward_by net (segment_in net part) (length part.acts)
  forward_there old seg = ap (λ s. old.cut.forward + forward_by net s (length part.acts)) seg

  backward_there : (old : Tally) → stretch_of old ≡ outline part →
      old.cut.backward + backward_by net (stretch_of old) (length part.acts)
      ≡ old.cut.backward + backward_by net (segment_in net part) (length part.acts)
  backward_there old seg = ap (λ s. old.cut.backward + backward_by net s (length part.acts)) seg

  stops_there : (old : Tally) → stretch_of old ≡ outline part →
      (old.cut.stops || stops_in net (stretch_of old) (length part.acts)) ≡ (old.cut.stops || stops_in net (segment_in net part) (length part.acts))
  stops_there old seg = ap (λ s. old.cut.stops || stops_in net s (length part.acts)) seg

  -- an activity
  tallied_act : (old new : Tally) → length row.flows ≡ (knees_in net).count (length part.acts) + 1 → IsTallied net part old →
      AddsAct net old row.duration row.flows new → IsTallied net (with_act part row) new
  tallied_act old new long k added =
      let rest = added.rest in
      let seg = stretch_is_outline net part old k in
      record {
        upper = ap (λ t. t.upper) rest ∙ k.upper;
        lower = ap (λ t. t.lower) rest ∙ k.lower;
        cost = ap (λ t. t.cost) rest ∙ k.cost;
        slope = ap (λ t. t.slope) rest ∙ k.slope;
        times = ap (λ t. t.times.items) rest ∙ k.times;
        moves = ap (λ t. t.moves.items) rest ∙ k.moves;
        acts = ap (λ t. t.acts) rest ∙ ap (λ n. n + 1) k.acts ∙ add-one (length part.acts) ∙ sym grown;
        flows = λ a below. flows_grown old new a long k.acts k.flows added below;
        costs = λ a below. costs_grown old new a k.acts k.costs added below;
        forward = added.forward ∙ ap (λ a. old.cut.forward + forward_by net (stretch_of old) a) k.acts ∙ forward_there old seg
            ∙ ap (λ x. x + forward_by net (segment_in net part) (length part.acts)) k.forward
            ∙ sym (ap (λ n. sum_to n (forward_by net (segment_in net part))) grown);
        backward = added.backward ∙ ap (λ a. old.cut.backward + backward_by net (stretch_of old) a) k.acts ∙ backward_there old seg
            ∙ ap (λ x. x + backward_by net (segment_in net part) (length part.acts)) k.backward
            ∙ sym (ap (λ n. sum_to n (backward_by net (segment_in net part))) grown);
        stops = added.stops ∙ ap (λ a. old.cut.stops || stops_in net (stretch_of old) a) k.acts ∙ stops_there old seg
            ∙ ap (λ b. b || stops_in net (segment_in net part) (length part.acts)) k.stops
            ∙ sym (ap (λ n. some_below n (stops_in net (segment_in net part))) grown);
      }

-- ---- all lines

kept_same : (net : PricedNetwork) (draft : Draft) (old new : Kept) → new ≡ old → IsKept net draft old → IsKept net draft new
kept_same net draft old new same k = subst (λ x. IsKept net draft x) (sym same) k

in_part : (net : PricedNetwork) (draft : Draft) (part : Part) (old new : Kept) → new ≡ record old { tally = new.tally } →
    IsKept net draft old → IsTallied net part new.tally → IsKept net (record draft { part = part }) new
in_part net draft part old new rest k tally = record {
  normal = ap (λ k. k.normal) rest ∙ k.normal;
  crash = ap (λ k. k.crash) rest ∙ k.crash;
  crash_walk_started = ap (λ k. k.crash_walk_started) rest ∙ k.crash_walk_started;
  segments = ap (λ k. k.segments) rest ∙ k.segments;
  tally = tally;
}

-- what must hold so that an event or an activity can be added to a draft
abbrev pub IsReady : PricedNetwork → CertLine → Draft → Type 0
IsReady net (Event code time moves) draft = length draft.part.acts ≡ 0
IsReady net (Act code duration flows) draft = length flows ≡ (knees_in net).count (length draft.part.acts) + 1
IsReady net other draft = Unit {0}

pub kept_more : (net : PricedNetwork) (draft : Draft) (line : CertLine) (old new : Kept) → IsReady net line draft → IsKept net draft old → AddsToKept net line old new → IsKept net
    (with_line draft line) new
kept_more net draft (Head version project events activities) old new ready k added = kept_same net draft old new added k
kept_more net draft Normal old new ready k added = kept_same net draft old new added k
kept_more net draft (Step code) old new ready k added = kept_step net draft code draft.crash_walk_started old new (sym k.crash_walk_started) k added
kept_more net draft Crash old new ready k added = record {
  normal = ap (λ k. k.normal) added ∙ k.normal;
  crash = ap (λ k. k.crash) added ∙ k.crash;
  crash_walk_started = ap (λ k. k.crash_walk_started) added;
  segments = ap (λ k. k.segments) added ∙ k.segments;
  tally = subst (λ t. IsTallied net draft.part t) (ap (λ k. k.tally) (sym added)) k.tally;
}
kept_more net draft (SegmentLine upper lower cost slope) old new ready k added =
    in_part net draft (begun_part upper lower cost slope) old new (added.0) k (tallied_begun net upper lower cost slope new.tally (added.1))
kept_more net draft (Event code time moves) old new ready k added =
    in_part net draft (with_event draft.part (record { code = code; time = time; moves = moves })) old new (added.0) k
    (tallied_event net draft.part (record { code = code; time = time; moves = moves }) old.tally new.tally ready k.tally (added.1))
kept_more net draft (Act code duration flows) old new ready k added =
    in_part net draft (with_act draft.part (record { code = code; duration = duration; flows = flows })) old new (added.0) k
    (tallied_act net draft.part (record { code = code; duration = duration; flows = flows }) old.tally new.tally ready k.tally
    (added.1))
kept_more net draft Close old new ready k added = record {
  normal = ap (λ k. k.normal) added ∙ k.normal;
  crash = ap (λ k. k.crash) added ∙ k.crash;
  crash_walk_started = ap (λ k. k.crash_walk_started) added ∙ k.crash_walk_started;
  segments = ap (λ k. k.segments) added ∙ ap (λ n. n + 1) k.segments ∙ sym (length-append draft.segments (draft.part ∷ []));
  tally = subst (λ t. IsTallied net draft.part t) (ap (λ k. k.tally) (sym added)) k.tally;
}
kept_more net draft End old new ready k added = kept_same net draft old new added k
