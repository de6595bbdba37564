-- The ends of the range, and the segments that cover it.
use Rattle.std.proofs.Common.{◌≡◌, ℕ, ◌+◌, suc, ap, ◌<◌, ◌≤◌, false, List, [], ◌∷◌, ◌++◌, length, refl, Option, Some, inl, inr, sym, ◌∙◌, subst, arith}
use Rattle.std.specs.Prelude.{find, nat_le, Bool, ◌&&◌, IsSomeAnd, All}
use Rattle.std.proofs.lemmas.Bool.{cases_lt, le-leb, lt-leb, and_from, and_left, cond-true, cond-false}
use Rattle.std.proofs.lemmas.List.Elements.{recursion_from_All, All-from_recursion, All-push}
use Rattle.std.specs.List.{AllByRecursion as ByRecursion}
use Rattle.pc_model.specs.declared.Term.{Term}
use Rattle.pc_model.specs.Walk.{IsWalk, walk_sum, IsSumOfWalk}
use Rattle.pc_model.specs.Network.{Network}
use Rattle.pc_model.specs.Schedule.{normal_of, normals, crashes, IsAllNormalLength, IsAllCrashLength}
use Rattle.pc_model.specs.Cost.{Knees, IsPriced}
use Rattle.pc_laws.specs.Segment.{Segment, Holds, IsRightSegment, IsSegment, IsRight}
use Rattle.pc_laws.specs.Cover.{Joins, IsLong, IsLongUnlessAlone, BeginsNormal, IsFront, IsCovering, segment_at, first_upper, last_lower, MeetsConditions, IsReadRight}
use Rattle.pc_model.proofs.Walks.WalkLaws.{times_bound_walk}
use Rattle.pc_model.proofs.Schedules.Durations.{normals-at, crash_walk_within}
use Rattle.pc_laws.proofs.Segments.Readings.{tight_upper, right_at}

-- no through walk has a greater sum of normal durations than the upper end of a right segment whose durations are normal
normal_walk_within : (net : Network) (terms : List Term) (knees : Knees) (seg : Segment) → IsPriced net terms knees →
    IsRightSegment net terms knees seg → ((a : ℕ) → a < length net.arcs → seg.duration a ≡ normal_of terms a) →
    (walk : List ℕ) → IsWalk net.arcs net.start walk net.end → walk_sum (normals terms) walk ≤ seg.upper
normal_walk_within net terms knees seg priced right normal walk leads =
    let upper = tight_upper net terms knees priced seg right in
    omega (
      arith,
      times_bound_walk net.arcs (normals terms) seg.time
          (λ a h. let room = (upper.tight a h).room in
          omega (arith, room, right.durations a h, normal a h, normals-at terms a (omega (arith, priced.terms_fit.one_each))))
          net.start net.end walk leads,
      right.ends.start_time,
      right.ends.end_time,
    )

-- no through walk has a greater sum of crash durations than the lower end of a right segment
crash_walk_at_lower : (net : Network) (terms : List Term) (knees : Knees) (seg : Segment) → IsPriced net terms knees →
    IsRightSegment net terms knees seg →
    (walk : List ℕ) → IsWalk net.arcs net.start walk net.end → walk_sum (crashes terms) walk ≤ seg.lower
crash_walk_at_lower net terms knees seg priced right walk leads =
    let read = right_at net terms knees priced seg right seg.lower (omega arith) right.proper.ordered in
    crash_walk_within net terms seg.lower _ _ priced.terms_fit read.schedule walk leads

-- of segments that join, what holds of each lower end holds of the last
pub at_last_lower : (P : Segment → Type 0) (B : ℕ → Type 0) → ((seg : Segment) → P seg → B seg.lower) →
    (segments : List Segment) (high low : ℕ) → ByRecursion P segments → Joins high segments low → B low
at_last_lower P B at [] high low each joined = absurd joined
at_last_lower P B at (seg ∷ []) high low (p, none) (upper, lower) = subst B lower (at seg p)
at_last_lower P B at (seg ∷ next ∷ rest) high low (p, others) (upper, joined) =
    at_last_lower P B at (next ∷ rest) seg.lower low others joined

-- the first of them begins at the upper end
pub joins-first : (seg : Segment) (rest : List Segment) (high low : ℕ) → Joins high (seg ∷ rest) low → seg.upper ≡ high
joins-first seg [] high low (upper, lower) = upper
joins-first seg (next ∷ rest) high low (upper, joined) = upper

-- and what holds of an upper end where the durations are normal holds of the first
pub at_first_upper : (net : Network) (terms : List Term) (P : Segment → Type 0) (B : ℕ → Type 0) →
    ((seg : Segment) → P seg → ((a : ℕ) → a < length net.arcs → seg.duration a ≡ normal_of terms a) → B seg.upper) →
    (segments : List Segment) (high low : ℕ) → ByRecursion P segments → Joins high segments low → BeginsNormal net terms segments → B high
at_first_upper net terms P B at [] high low each joined normal = absurd joined
at_first_upper net terms P B at (seg ∷ rest) high low (p, others) joined normal = subst B (joins-first seg rest high low joined) (at seg p normal)

-- a test for: the length is between the ends of the segment
abbrev is_held : ℕ → Segment → Bool
is_held limit seg = nat_le seg.lower limit && nat_le limit seg.upper

-- the first segment that holds a length is the first of all, if this one does
found_first : (Q : Segment → Type 0) (limit : ℕ) (seg : Segment) (rest : List Segment) → seg.lower ≤ limit → limit ≤ seg.upper → Q seg →
    IsSomeAnd (find (is_held limit) (seg ∷ rest)) Q
found_first Q limit seg rest above below q =
    subst (λ (o : Option Segment). IsSomeAnd o Q) (sym (cond-true (is_held limit seg) (Some seg) (find (is_held limit) rest)
    (and_from (nat_le seg.lower limit) (nat_le limit seg.upper) (le-leb seg.lower limit above) (le-leb limit seg.upper below)))) q

-- of segments that join, the first that holds a length of the range is one of them
found_for : (P Q : Segment → Type 0) (limit : ℕ) → ((seg : Segment) → P seg → Holds seg limit → Q seg) → (segments : List Segment) (high low : ℕ) →
    ByRecursion P segments → Joins high segments low → low ≤ limit → limit ≤ high → IsSomeAnd (find (is_held limit) segments) Q
found_for P Q limit reads [] high low each joined above below = absurd joined
found_for P Q limit reads (seg ∷ []) high low (p, none) (upper, lower) above below =
    found_first Q limit seg [] (omega arith) (omega arith) (reads seg p (record { above = omega arith; below = omega arith }))
found_for P Q limit reads (seg ∷ next ∷ rest) high low (p, others) (upper, joined) above below =
    elim (cases_lt limit seg.lower) [
      | inl h ↦
          let past : is_held limit seg ≡ false = and_left (nat_le seg.lower limit) (nat_le limit seg.upper) (lt-leb seg.lower limit h) in
          subst (λ (o : Option Segment). IsSomeAnd o Q) (sym (cond-false (is_held limit seg) (Some seg) (find (is_held limit) (next ∷ rest)) past))
          (found_for P Q limit reads (next ∷ rest) seg.lower low others joined above (omega arith))
      | inr h ↦ found_first Q limit seg (next ∷ rest) h (omega arith) (reads seg p (record { above = h; below = omega arith }))
    ]

module _ (net : Network) (terms : List Term) (knees : Knees) (priced : IsPriced net terms knees)
    (segments : List Segment) (high low : ℕ) (front : IsFront net terms knees segments high low) where
  each_one : ByRecursion (IsSegment net terms knees) segments
  each_one = recursion_from_All (IsSegment net terms knees) segments front.each

  -- the first upper end is the all-normal length
  pub begins_longest : IsAllNormalLength net terms high
  begins_longest = record {
    attained = front.normal_walk;
    bound = λ n (walk, leads, sums).
        omega (
          arith,
          at_first_upper net terms (IsSegment net terms knees) (λ end. walk_sum (normals terms) walk ≤ end)
              (λ seg whole normal. normal_walk_within net terms knees seg priced whole.right normal walk leads)
              segments high low each_one front.joined front.normal,
        );
  }

  -- no through walk has a greater sum of crash durations than the last lower end
  pub crash_walk_at_last : (walk : List ℕ) → IsWalk net.arcs net.start walk net.end → walk_sum (crashes terms) walk ≤ low
  crash_walk_at_last walk leads =
      at_last_lower (IsSegment net terms knees) (λ end. walk_sum (crashes terms) walk ≤ end)
      (λ seg whole. crash_walk_at_lower net terms knees seg priced whole.right walk leads)
      segments high low each_one front.joined

  -- the reading for each length that they hold is right
  pub read_right : (limit : ℕ) → low ≤ limit → limit ≤ high → IsReadRight net terms knees segments limit
  read_right limit above below =
      found_for (IsSegment net terms knees) (λ seg. Holds seg limit × IsRight net terms knees seg limit) limit
      (λ seg whole holds. (holds, right_at net terms knees priced seg whole.right limit holds.above holds.below))
      segments high low each_one front.joined above below

-- where a through walk's crash durations sum to the last lower end, this is the all-crash length
pub covers_shortest : (net : Network) (terms : List Term) (knees : Knees) (segments : List Segment) (high low : ℕ) → IsPriced net terms knees →
    IsCovering net terms knees segments high low → IsAllCrashLength net terms low
covers_shortest net terms knees segments high low priced covering = record {
  attained = covering.crash_walk;
  bound = λ n (walk, leads, sums). omega (arith, crash_walk_at_last net terms knees priced segments high low covering.front walk leads);
}

-- One segment more

-- a segment with the normal durations, whose upper end is the all-normal length, begins
pub front_begins : (net : Network) (terms : List Term) (knees : Knees) (seg : Segment) → IsSegment net terms knees seg →
    ((a : ℕ) → a < length net.arcs → seg.duration a ≡ normal_of terms a) →
    IsSumOfWalk net.arcs (normals terms) net.start net.end seg.upper → IsFront net terms knees (seg ∷ []) seg.upper seg.lower
front_begins net terms knees seg whole normal walk = record {
  each = All-from_recursion (IsSegment net terms knees) (seg ∷ []) (whole, tt);
  joined = (refl, refl);
  long = λ more. absurd (omega arith);
  normal = normal;
  normal_walk = walk;
}

-- one more at their lower end joins them
joins-push : (segments : List Segment) (seg : Segment) (high low : ℕ) → Joins high segments low → seg.upper ≡ low →
    Joins high (segments ++ seg ∷ []) seg.lower
joins-push [] seg high low joined at = absurd joined
joins-push (first ∷ []) seg high low (upper, lower) at = (upper, (at ∙ sym lower, refl))
joins-push (first ∷ next ∷ rest) seg high low (upper, joined) at = (upper, joins-push (next ∷ rest) seg first.lower low joined at)

normal-push : (net : Network) (terms : List Term) (segments : List Segment) (seg : Segment) →
    BeginsNormal net terms segments → BeginsNormal net terms (segments ++ seg ∷ [])
normal-push net terms [] seg normal = absurd normal
normal-push net terms (first ∷ rest) seg normal = normal

-- where a single segment is long, all are
pub all-long : (segments : List Segment) (high low : ℕ) → Joins high segments low → low < high → IsLongUnlessAlone segments → All IsLong segments
all-long [] high low joined below long = absurd joined
all-long (seg ∷ []) high low (upper, lower) below long = All-from_recursion IsLong (seg ∷ []) (omega (arith, upper, lower), tt)
all-long (seg ∷ next ∷ rest) high low joined below long = long (omega arith)

-- one more long segment at the lower end continues the front, if the front is long itself
pub front_grows : (net : Network) (terms : List Term) (knees : Knees) (segments : List Segment) (seg : Segment) (high low : ℕ) →
    IsFront net terms knees segments high low → low < high → IsSegment net terms knees seg → seg.upper ≡ low → IsLong seg →
    IsFront net terms knees (segments ++ seg ∷ []) high seg.lower
front_grows net terms knees segments seg high low front below whole at long = record {
  each = All-push (IsSegment net terms knees) segments seg front.each whole;
  joined = joins-push segments seg high low front.joined at;
  long = λ more. All-push IsLong segments seg (all-long segments high low front.joined below front.long) long;
  normal = normal-push net terms segments seg front.normal;
  normal_walk = front.normal_walk;
}

-- The conditions of a certificate

-- segments are joined if each begins where the one before ends
joined_from : (seg : Segment) (rest : List Segment) →
    ((k : ℕ) → k + 1 < length (seg ∷ rest) → (segment_at (seg ∷ rest) (k + 1)).upper ≡ (segment_at (seg ∷ rest) k).lower) →
    Joins seg.upper (seg ∷ rest) (last_lower (seg ∷ rest))
joined_from seg [] joined = (refl, refl)
joined_from seg (next ∷ rest) joined = (
  refl,
  subst (λ n. Joins n (next ∷ rest) (last_lower (next ∷ rest))) (joined 0 (omega arith))
      (joined_from next rest (λ k inside. shifted k (joined (suc k) (omega arith)))),
)
  where
    shifted : (k : ℕ) → (segment_at (seg ∷ next ∷ rest) (suc k + 1)).upper ≡ (segment_at (seg ∷ next ∷ rest) (suc k)).lower →
        (segment_at (next ∷ rest) (k + 1)).upper ≡ (segment_at (next ∷ rest) k).lower
    shifted k at = ap (λ i. (segment_at (seg ∷ next ∷ rest) i).upper) (let e : suc (k + 1) ≡ suc k + 1 = omega arith in e) ∙ at

-- where the conditions hold, the segments cover the range
pub conditions_cover : (net : Network) (terms : List Term) (knees : Knees) (normal_walk crash_walk : List ℕ) (segments : List Segment) →
    MeetsConditions net terms knees normal_walk crash_walk segments →
    IsCovering net terms knees segments (first_upper segments) (last_lower segments)
conditions_cover net terms knees normal_walk crash_walk [] meets = absurd (let some = meets.some in omega arith)
conditions_cover net terms knees normal_walk crash_walk (seg ∷ rest) meets = record {
  front = record {
    each = meets.each;
    joined = joined_from seg rest meets.joined;
    long = meets.long;
    normal = meets.normal;
    normal_walk = (normal_walk, meets.normal_through, meets.normal_sum);
  };
  crash_walk = (crash_walk, meets.crash_through, meets.crash_sum);
}
