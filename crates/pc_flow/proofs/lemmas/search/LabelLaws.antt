-- A labelling: what each of its parts changes, and that they make a complete one.
use Rattle.std.proofs.Common.{◌≡◌, ℕ, ◌+◌, ◌-◌, ◌*◌, ◌^◌, ◌<◌, ◌≤◌, sym, ◌∙◌, ap, subst, arith}
use Rattle.std.proofs.Math.Nat.{mul-add, mul-le-mul_left}
use Rattle.pc_model.specs.Cost.{IsPriced}
use Rattle.pc_laws.specs.Steps.{IsStairOptimal}
use Rattle.pc_laws.proofs.Stairs.StairStates.{stair-chosen}
use Rattle.pc_crash.specs.Priced.{PricedNetwork, knees_in}
use Rattle.pc_flow.specs.board.Sheets.{Sheet, time_of, flow_of}
use Rattle.pc_flow.specs.inside.search.Searches.{IsSearch}
use Rattle.pc_flow.specs.inside.search.Growing.{HasSettled, HasGrown, relabelled, HasLookedAgain}
use Rattle.pc_flow.specs.inside.search.Choosing.{moving, HasChosen}
use Rattle.pc_flow.specs.search.Labelling.{length_at}
use Rattle.pc_flow.specs.inside.search.Labelling.{slope_at, IsStateWith, IsAboveAllCrash, IsBetweenLabellings, HasRaised, risen, Rises, IsUnderWay, HasLabelled}
use Rattle.pc_flow.proofs.lemmas.search.StateLaws.{times-alike, state-own}

-- labels and lists have changed, times and flows are as they were
pub record IsRelabelled (s t : Sheet) : Type 0 where
  pub rest : t ≡ relabelled s t
  pub time : (e : ℕ) → e < s.events → time_of t e ≡ time_of s e

pub relabelled-settled : (net : PricedNetwork) (s t : Sheet) → HasSettled net s t → IsRelabelled s t
relabelled-settled net s t settled = record {
  rest = settled.grows.rest ∙ ap (λ (v : Sheet). relabelled s v) (sym settled.grows.rest);
  time = settled.grows.time;
}

pub relabelled-grown : (net : PricedNetwork) (s t : Sheet) → HasGrown net s t → IsRelabelled s t
relabelled-grown net s t grown = record {
  rest = grown.grows.rest ∙ ap (λ (v : Sheet). relabelled s v) (sym grown.grows.rest);
  time = grown.grows.time;
}

pub relabelled-again : (net : PricedNetwork) (s t : Sheet) → HasLookedAgain net s t → IsRelabelled s t
relabelled-again net s t again = record { rest = again.rest; time = again.time }

pub relabelled-chosen : (net : PricedNetwork) (s t : Sheet) (least : ℕ) → HasChosen net s t least → IsRelabelled s t
relabelled-chosen net s t least chosen = record {
  rest = chosen.rest ∙ ap (λ (v : Sheet). relabelled s v) (sym chosen.rest);
  time = λ e known. ap (λ (v : Sheet). time_of v e) chosen.rest;
}

pub relabelled-joins : (s t u : Sheet) → IsRelabelled s t → IsRelabelled t u → IsRelabelled s u
relabelled-joins s t u first second = record {
  rest = second.rest ∙ ap (λ (v : Sheet). relabelled v u) first.rest;
  time = λ e known. second.time e (omega (arith, known, ap (λ (v : Sheet). v.events) first.rest)) ∙ first.time e known;
}

module _ (net : PricedNetwork) (s t : Sheet) (search : IsSearch net s) (is : IsRelabelled s t) where
  flows : flow_of t ≡ flow_of s
  flows = ap (λ (v : Sheet). flow_of v) is.rest

  pub slope-relabelled : slope_at net t ≡ slope_at net s
  slope-relabelled = ap (λ (v : Sheet). slope_at net v) is.rest

  pub state-relabelled : IsStateWith net s (length_at net s) (slope_at net s) → IsStateWith net t (length_at net t) (slope_at net t)
  state-relabelled state =
      state-own net t (length_at net s) (slope_at net s)
      (subst (λ f. IsStairOptimal net.network net.terms (knees_in net) (length_at net s) (time_of t) f (slope_at net s)) (sym flows)
      (times-alike net.network net.terms (knees_in net) (length_at net s) (time_of s) (time_of t) (flow_of s) (slope_at net s) search.in_range
      (λ e known. sym (is.time e (omega (arith, known, search.fits.events)))) state))

  pub rises-relabelled : Rises net s t 0
  rises-relabelled = record {
    rest = is.rest ∙ ap (λ (v : Sheet). risen s v) (sym is.rest);
    time = is.time;
    slope = omega (arith, slope-relabelled);
  }

-- augmentations one after the other

pub rises-joins : (net : PricedNetwork) (s t u : Sheet) (x y : ℕ) → Rises net s t x → Rises net t u y → Rises net s u (x + y)
rises-joins net s t u x y first second = record {
  rest = second.rest ∙ ap (λ (v : Sheet). risen v u) first.rest;
  time = λ e known. second.time e (omega (arith, known, ap (λ (v : Sheet). v.events) first.rest)) ∙ first.time e known;
  slope = omega (arith, first.slope, second.slope);
}

rises-raised : (net : PricedNetwork) (s t : Sheet) (by : ℕ) → HasRaised net s t by → Rises net s t by
rises-raised net s t by raised = record {
  rest = raised.rest ∙ ap (λ (v : Sheet). risen s v) (sym raised.rest);
  time = λ e known. ap (λ (v : Sheet). time_of v e) raised.rest;
  slope = raised.slope;
}

module _ (net : PricedNetwork) (s t : Sheet) (rise : ℕ) (search : IsSearch net s) (rises : Rises net s t rise) where
  pub length-risen : length_at net t ≡ length_at net s
  length-risen = rises.time net.network.end (omega (arith, search.in_range.end_in, search.fits.events))

  pub fits-risen : length_at net s + s.fallen < 2 ^ 63 → length_at net t + t.fallen < 2 ^ 63
  fits-risen fits = omega (arith, fits, length-risen, ap (λ (v : Sheet). v.fallen) rises.rest)

  pub above-risen : IsAboveAllCrash net s → IsAboveAllCrash net t
  above-risen above = (above.0, above.1, omega (arith, above.2, length-risen))

-- the search continues from labels that were given to the events at steps with room
module _ (net : PricedNetwork) (s t u : Sheet) (between : IsBetweenLabellings net s) (above : IsAboveAllCrash net s) where
  pub under_way-begins : HasSettled net s t → HasGrown net t u → IsUnderWay net u × Rises net s u 0
  under_way-begins settled grown =
      let all : IsRelabelled s u = relabelled-joins s t u (relabelled-settled net s t settled) (relabelled-grown net t u grown) in
      let rises : Rises net s u 0 = rises-relabelled net s u between.search all in (
        record {
          between = record {
            search = grown.search;
            room = grown.room;
            state = state-relabelled net s u between.search all between.state;
            fits = fits-risen net s u 0 between.search rises between.fits;
          };
          above = above-risen net s u 0 between.search rises above;
          settled = grown.settled;
          ended = grown.ended;
        },
        rises,
      )

module _ (net : PricedNetwork) (s r t u : Sheet) (by : ℕ) (between : IsBetweenLabellings net s) (above : IsAboveAllCrash net s) (raised : HasRaised net s r by)
    (again : HasLookedAgain net r t) (grown : HasGrown net t u) where
  all : IsRelabelled r u
  all = relabelled-joins r t u (relabelled-again net r t again) (relabelled-grown net t u grown)

  pub rises-once : Rises net s u by
  rises-once =
      subst (λ n. Rises net s u n) (omega arith)
      (rises-joins net s r u by 0 (rises-raised net s r by raised) (rises-relabelled net r u raised.search all))

  pub slope-once : slope_at net u ≡ slope_at net r
  slope-once = slope-relabelled net r u raised.search all

  pub under_way-once : IsUnderWay net u
  under_way-once = record {
    between = record {
      search = grown.search;
      room = grown.room;
      state = state-relabelled net r u raised.search all raised.state;
      fits = fits-risen net s u by between.search rises-once between.fits;
    };
    above = above-risen net s u by between.search rises-once above;
    settled = grown.settled;
    ended = grown.ended;
  }

-- the labels cannot grow, and the least stop is the fall
pub labelled-ends : (net : PricedNetwork) (s t u : Sheet) (rise least : ℕ) → IsPriced net.network net.terms (knees_in net) → IsBetweenLabellings net s
    → Rises net s t rise → IsUnderWay net t → HasChosen net t u least → HasLabelled net s u rise least
labelled-ends net s t u rise least priced between rises under_way chosen = record {
  rises = all;
  same = length-risen net s u rise between.search all;
  between = record {
    search = chosen.search;
    room = chosen.room;
    state = state;
    fits = fits;
  };
  listed = chosen.listed;
  falls = stair-chosen net.network net.terms (knees_in net) priced (length_at net u) (time_of u) (flow_of u) (slope_at net u) state
      (moving u) (2 ^ 64 - 1) least chosen.stuck chosen.before chosen.stop (omega (arith, fits));
} where
  same : IsRelabelled t u
  same = relabelled-chosen net t u least chosen

  all : Rises net s u rise
  all =
      subst (λ n. Rises net s u n) (omega arith)
      (rises-joins net s t u rise 0 rises (rises-relabelled net t u under_way.between.search same))

  state : IsStateWith net u (length_at net u) (slope_at net u)
  state = state-relabelled net t u under_way.between.search same under_way.between.state

  fits : length_at net u + u.fallen < 2 ^ 63
  fits = fits-risen net s u rise between.search all between.fits

-- The count of looks

-- an augmentation by at least one unit more pays for its looks
pub looks-more : (m x y : ℕ) → 0 < y → m * x + m ≤ m * (x + y)
looks-more m x y some =
    let one : 1 ≤ y = omega (arith, some) in omega (arith, mul-add m x y, mul-le-mul_left m one)

-- and one unit more for those of the labelling
pub looks-whole : (m x : ℕ) → m + m * x ≤ m * (1 + x)
looks-whole m x = omega (arith, mul-add m 1 x)
