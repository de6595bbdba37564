-- The lengths of arcs that a board keeps, renewed along the steps whose flow was raised.
use Rattle.std.proofs.Common.{◌≡◌, ℕ, zero, suc, ◌+◌, ◌-◌, ◌^◌, ◌<◌, ◌≤◌, List, length, refl, sym, ◌∙◌, ap, subst, inl, inr, arith}
use Rattle.std.proofs.lemmas.Bool.{cases_eq, cases_lt}
use Rattle.pc_model.specs.declared.Knee.{Knee}
use Rattle.pc_model.specs.Schedule.{crash_of}
use Rattle.pc_laws.specs.Stair.{Stair, IsSameStair, unit_length}
use Rattle.pc_laws.proofs.Stairs.SameStair.{same-unit}
use Rattle.pc_crash.specs.inside.KneeLists.{AreKneesOf}
use Rattle.pc_crash.specs.Priced.{PricedNetwork, knees_in}
use Rattle.pc_flow.specs.inside.stair.Rows.{stair}
use Rattle.pc_flow.specs.board.Sheets.{Sheet, rank_of, flow_of}
use Rattle.pc_flow.specs.inside.board.Sheets.{step_of, near_of, room_of, up_of, down_of}
use Rattle.pc_flow.specs.inside.board.Moves.{SetsLengths}
use Rattle.pc_flow.specs.inside.board.Labelling.{HasStep, IsRankedBack, HaveSteps, IsFor}
use Rattle.pc_flow.specs.inside.board.Raising.{event_back, IsWayBack, IsStepTaken, IsRaisedBy, StandFirst}
use Rattle.pc_flow.proofs.lemmas.board.RaisingLaws.{way-none, way-more}
use Rattle.pc_flow.proofs.lemmas.board.AfterRaising.{find_below}
use Rattle.pc_flow.specs.inside.search.Searches.{stair_at, IsOnStairs, HasLengths, HaveLengths}
use Rattle.pc_flow.specs.inside.search.Lengths.{IsLevelAt, AreLevelBack, RenewsAt, IsRenewedBack}

-- the staircase of the known data of an activity
pub kept-stair : (net : PricedNetwork) (a crash : ℕ) (knees : List Knee) → AreKneesOf (knees_in net) a knees → crash ≡ crash_of net.terms a
    → IsSameStair (stair knees crash) (stair_at net a)
kept-stair net a crash knees bends lasts = record { count = bends.count; knee = bends.at; rise = bends.rise; crash = lasts }

-- its lengths are stored
pub renewed-at : (net : PricedNetwork) (s t : Sheet) (a up down flow : ℕ) (here : Stair) → IsSameStair here (stair_at net a) → flow ≡ flow_of s a
    → SetsLengths s t a up down → up ≡ unit_length here flow → (0 < flow → down ≡ unit_length here (flow - 1)) → RenewsAt net s t a
renewed-at net s t a up down flow here same is moved next last = record {
  rest = moved.rest;
  up_off = moved.up_off;
  down_off = moved.down_off;
  at = record {
    up = moved.up_at ∙ (next ∙ (same-unit here (stair_at net a) same flow ∙ ap (unit_length (stair_at net a)) now));
    down = λ some.
        moved.down_at
        ∙ (last (omega (arith, some, now))
        ∙ (same-unit here (stair_at net a) same (flow - 1) ∙ ap (λ x. unit_length (stair_at net a) (x - 1)) now));
  };
} where
  now : flow ≡ flow_of t a
  now = is ∙ sym (ap (λ (v : Sheet). flow_of v a) moved.rest)

-- the lengths of the first activities are stored
pub record AreKeptTo (net : PricedNetwork) (s t : Sheet) (n : ℕ) : Type 0 where
  pub rest : t ≡ record s { up = t.up; down = t.down }
  pub lengths : (a : ℕ) → a < n → HasLengths net t a

pub keeping-begins : (net : PricedNetwork) (s : Sheet) → AreKeptTo net s s 0
keeping-begins net s = record { rest = refl; lengths = λ a none. absurd (omega (arith, none)) }

-- the lengths of the activities of the last k steps that led to event e were renewed, back to event x
pub record IsRenewing (net : PricedNetwork) (s t : Sheet) (e k x : ℕ) : Type 0 where
  pub way : IsWayBack s e k x
  pub rest : t ≡ record s { up = t.up; down = t.down }
  pub kept : (a : ℕ) → HasLengths net s a → HasLengths net t a
  pub level : AreLevelBack net s t e
  pub renewed : (j : ℕ) → j < k → HasLengths net t (step_of s (event_back s e j))

pub renewing-begins : (net : PricedNetwork) (s : Sheet) (e : ℕ) → e < s.events → AreLevelBack net s s e → IsRenewing net s s e 0 e
renewing-begins net s e known level = record {
  way = way-none s e known;
  rest = refl;
  kept = λ a has. has;
  level = level;
  renewed = λ j none. absurd (omega arith);
}

-- the event that the way has reached, and the activity of its step
pub renewing-event : (net : PricedNetwork) (s t : Sheet) (e k x : ℕ) → IsRenewing net s t e k x → x < t.events
renewing-event net s t e k x on =
    omega (arith, ap (λ (v : Sheet). v.events) on.rest, subst (λ f. f < s.events) on.way.leads (on.way.known k (omega arith)))

module _ (net : PricedNetwork) (s t : Sheet) (e k x : ℕ) (on : IsRenewing net s t e k x) (has : HasStep t x) where
  -- it had the step before
  pub renewing-has : HasStep s x
  renewing-has = omega (arith, has, ap (λ (v : Sheet). rank_of v x) on.rest)

  module _ (fits : IsFor net.network s) (steps : HaveSteps s) where
    pub renewing-step : step_of t x < length net.network.arcs
    renewing-step =
        omega (
          arith,
          ap (λ (v : Sheet). step_of v x) on.rest,
          steps.known x (omega (arith, ap (λ (v : Sheet). v.events) on.rest, renewing-event net s t e k x on)) renewing-has,
          fits.activities,
        )

    -- its flow is small still
    pub renewing-small : IsOnStairs net s → flow_of t (step_of t x) + 1 < 2 ^ 64
    renewing-small stairs =
        omega (arith, ap (λ (v : Sheet). flow_of v (step_of t x)) on.rest, stairs.small (step_of t x) renewing-step)

  -- if the step there has room left, the flow stays on arcs of one length
  pub renewing-level : 0 < room_of t x → IsLevelAt net t x
  renewing-level left =
      subst (λ f. IsLevelAt net t f) on.way.leads
      (on.level k steps (omega (arith, left, ap (room_of s) on.way.leads, ap (λ (v : Sheet). room_of v x) on.rest)))
    where
      steps : (i : ℕ) → i ≤ k → HasStep s (event_back s e i)
      steps i within =
          elim (cases_lt i k) [
            | inl early ↦ on.way.steps i early
            | inr last ↦
                let at : k ≡ i = omega arith in
                subst (λ m. HasStep s (event_back s e m)) at (subst (λ f. HasStep s f) (sym on.way.leads) renewing-has)
          ]

-- lengths remain right if another activity has its own renewed
pub renewed-others : (net : PricedNetwork) (t u : Sheet) (a b : ℕ) → RenewsAt net t u b → HasLengths net t a → HasLengths net u a
renewed-others net t u a b moved was =
    elim (cases_eq a b) [
      | inl same ↦ subst (λ n. HasLengths net u n) (sym same) moved.at
      | inr apart ↦
          let flow : flow_of u a ≡ flow_of t a = ap (λ (v : Sheet). flow_of v a) moved.rest in
          record {
            up = moved.up_off a apart ∙ (was.up ∙ ap (unit_length (stair_at net a)) (sym flow));
            down = λ some.
                moved.down_off a apart
                ∙ (was.down (omega (arith, some, flow)) ∙ ap (λ x. unit_length (stair_at net a) (x - 1)) (sym flow));
          }
    ]

-- a step where the flow stays on arcs of one length is one where any lengths are renewed
level-kept : (net : PricedNetwork) (t u : Sheet) (e b : ℕ) → RenewsAt net t u b → IsLevelAt net t e → IsLevelAt net u e
level-kept net t u e b moved is = subst (λ v. IsLevelAt net v e) (sym moved.rest) (record {
  some = is.some;
  level = is.level;
  along = λ none. elim (cases_eq a b) [
    | inl same ↦ (here same).up ∙ ap (unit_length (stair_at net a)) flow
    | inr apart ↦ moved.up_off a apart ∙ is.along none
  ];
  against = λ some. elim (cases_eq a b) [
    | inl same ↦ (here same).down (omega (arith, is.some, flow)) ∙ (ap (λ x. unit_length (stair_at net a) (x - 1)) flow ∙ is.level)
    | inr apart ↦ moved.down_off a apart ∙ is.against some
  ];
}) where
  a : ℕ
  a = step_of t e

  flow : flow_of u a ≡ flow_of t a
  flow = ap (λ (v : Sheet). flow_of v a) moved.rest

  here : a ≡ b → HasLengths net u a
  here same = subst (λ c. HasLengths net u c) (sym same) moved.at

-- those of one activity more
pub keeping-goes_on : (net : PricedNetwork) (s t u : Sheet) (n : ℕ) → AreKeptTo net s t n → RenewsAt net t u n → AreKeptTo net s u (n + 1)
keeping-goes_on net s t u n on moved = record {
  rest = moved.rest ∙ ap (λ (v : Sheet). record v { up = u.up; down = u.down }) on.rest;
  lengths = λ a below. elim (cases_lt a n) [
    | inl early ↦ renewed-others net t u a n moved (on.lengths a early)
    | inr last ↦ let at : n ≡ a = omega arith in subst (λ b. HasLengths net u b) at moved.at
  ];
}

-- one step more
pub renewing-goes_on : (net : PricedNetwork) (s t u : Sheet) (e k x : ℕ) → IsRankedBack s → HasStep s x → IsRenewing net s t e k x
    → RenewsAt net t u (step_of s x) → IsRenewing net s u e (suc k) (near_of s x)
renewing-goes_on net s t u e k x back has on moved = record {
  way = way-more s e k x back has on.way;
  rest = moved.rest ∙ ap (λ (v : Sheet). record v { up = u.up; down = u.down }) on.rest;
  kept = λ a was. renewed-others net t u a (step_of s x) moved (on.kept a was);
  level = λ j has_steps left. level-kept net t u (event_back s e j) (step_of s x) moved (on.level j has_steps left);
  renewed = λ j below. elim (cases_lt j k) [
    | inl early ↦ renewed-others net t u (step_of s (event_back s e j)) (step_of s x) moved (on.renewed j early)
    | inr last ↦
        let at : k ≡ j = omega arith in
        subst (λ i. HasLengths net u (step_of s (event_back s e i))) at
        (subst (λ f. HasLengths net u (step_of s f)) (sym on.way.leads) moved.at)
  ];
}

-- all steps were gone through
pub renewing-ends : (net : PricedNetwork) (s t : Sheet) (e k x : ℕ) → rank_of s x ≤ 1 → IsRenewing net s t e k x → IsRenewedBack net s t e
renewing-ends net s t e k x last on = record {
  rest = on.rest;
  kept = on.kept;
  renewed = λ j has. elim (cases_lt j k) [
    | inl early ↦ on.renewed j early
    | inr late ↦ absurd (omega (arith, has k (omega arith), ap (rank_of s) on.way.leads, last))
  ];
}

-- the way back is the same on a board with the same steps
pub back-same : (s t : Sheet) → ((f : ℕ) → near_of t f ≡ near_of s f) → (e k : ℕ) → event_back t e k ≡ event_back s e k
back-same s t same e zero = refl
back-same s t same e (suc k) = same (event_back t e k) ∙ ap (near_of s) (back-same s t same e k)

-- what was raised before the lengths were renewed is raised after it
module _ (s t u : Sheet) (rest : u ≡ record t { up = u.up; down = u.down }) where
  abbrev there : Sheet
  there = record t { up = u.up; down = u.down }

  pub raised-renewed : (e by k : ℕ) → IsRaisedBy s t e by k → IsRaisedBy s u e by k
  raised-renewed e by k raised =
      subst (λ v. IsRaisedBy s v e by k) (sym rest) (record {
        some = raised.some;
        raising = record {
          way = raised.raising.way;
          rest = ap (λ (v : Sheet). record v { up = u.up; down = u.down }) raised.raising.rest;
          taken = λ j below.
              let taken : IsStepTaken s t by (event_back s e j) = raised.raising.taken j below in
              record { room = taken.room; along = taken.along; against = taken.against };
          room_off = raised.raising.room_off;
          flow_off = raised.raising.flow_off;
          part = raised.raising.part;
        };
        first = raised.first;
        used_up = raised.used_up;
      })

  pub stand-renewed : (standing : ℕ) → StandFirst t standing → StandFirst u standing
  stand-renewed standing stand =
      subst (λ v. StandFirst v standing) (sym rest) (record { some = stand.some; within = stand.within; room = stand.room })

-- the lengths are right again where they were renewed along all steps that were raised
pub lengths-renewed : (net : PricedNetwork) (s t u : Sheet) (e by k : ℕ) → HaveLengths net s → IsRaisedBy s t e by k
    → t ≡ record s { room = t.room; flow = t.flow } → IsRenewedBack net t u e → HaveLengths net u
lengths-renewed net s t u e by k lengths raised kept renewed a known =
    elim (find_below a (λ j. step_of s (event_back s e j)) k) [
      | inl at ↦
          subst (λ b. HasLengths net u b) (step at.0 ∙ sym at.2)
          (renewed.renewed at.0 (λ i early. omega (arith, raised.raising.way.steps i (omega (arith, early, at.1)), rank i)))
      | inr off ↦
          let flow : flow_of t a ≡ flow_of s a = raised.raising.flow_off a off in
          renewed.kept a (record {
            up = ap (λ (v : Sheet). up_of v a) kept ∙ ((lengths a known).up ∙ ap (unit_length (stair_at net a)) (sym flow));
            down = λ some.
                ap (λ (v : Sheet). down_of v a) kept
                ∙ ((lengths a known).down (omega (arith, some, flow)) ∙ ap (λ x. unit_length (stair_at net a) (x - 1)) (sym flow));
          })
    ]
  where
    back : (i : ℕ) → event_back t e i ≡ event_back s e i
    back = back-same s t (λ f. ap (λ (v : Sheet). near_of v f) kept) e

    rank : (i : ℕ) → rank_of t (event_back t e i) ≡ rank_of s (event_back s e i)
    rank i = ap (λ (v : Sheet). rank_of v (event_back t e i)) kept ∙ ap (rank_of s) (back i)

    step : (i : ℕ) → step_of t (event_back t e i) ≡ step_of s (event_back s e i)
    step i = ap (λ (v : Sheet). step_of v (event_back t e i)) kept ∙ ap (step_of s) (back i)
