-- The way down to the optimum: as long as it pays, the next segment.
use Rattle.std.proofs.Common.{◌≡◌, ℕ, ◌+◌, ◌-◌, ◌*◌, ◌^◌, ◌<◌, ◌≤◌, true, false, true≢false, inl, inr, sym, ◌∙◌, ap, subst, arith}
use Rattle.std.specs.Prelude.{if◌then◌else◌}
use Rattle.std.proofs.Math.Nat.{mul-add}
use Rattle.std.proofs.lemmas.Bool.{cases_Bool, cases_lt}
use Rattle.pc_model.specs.declared.TimeTerms.{TimeTerms}
use Rattle.pc_model.specs.Cost.{IsPriced}
use Rattle.pc_laws.specs.Segment.{Segment, cost_for}
use Rattle.pc_laws.proofs.Curves.Turns.{LiesOn, lies_on}
use Rattle.pc_crash.specs.Priced.{PricedNetwork, knees_in}
use Rattle.pc_flow.specs.Courses.{Course, upper_of, lower_of, IsSameCurve, IsFurther}
use Rattle.pc_flow.specs.inside.Courses.{present, HasEnded, IsNext}
use Rattle.pc_flow.proofs.LookLaws.{same-stays, same-joins, further-stays, further-joins}
use Rattle.pc_curve.specs.Points.{curve_in}
use Rattle.pc_curve.specs.inside.Points.{IsToCome}
use Rattle.pc_total.specs.declared.optimum.Best.{Best}
use Rattle.pc_total.specs.Bests.{IsBest}
use Rattle.pc_total.specs.inside.Stops.{unit_cost, IsStop, IsGain, PaysToStop}

-- what is left of the way: all lengths before the first segment, and then those below the lower end
abbrev pub left : Course → ℕ
left c = if c.given then lower_of c else c.longest + 1

-- the solver has advanced by complete segments, and at its lower end a unit more costs no less than it saves
pub record HasComeDown (terms : TimeTerms) (from c : Course) (gain : ℕ) : Type 0 where
  pub same : IsSameCurve from c
  pub further : IsFurther from c
  pub small : gain < 10 ^ 18
  pub low : c.given ≡ true → from.shortest ≤ lower_of c
  pub high : c.given ≡ true → lower_of c ≤ from.longest
  pub gained : c.given ≡ true → lower_of c < from.longest → IsGain (curve_in from.net) (lower_of c) gain
  pub costs : c.given ≡ true → lower_of c < from.longest → gain ≤ unit_cost terms (lower_of c + 1)

-- course d is one segment further down than course c
pub record IsNextDown (from c d : Course) : Type 0 where
  pub priced : IsPriced from.net.network from.net.terms (knees_in from.net)
  pub same : IsSameCurve c d
  pub further : IsFurther c d
  pub next : IsNext c d
  pub going : HasEnded c → ⊥

pub way-begins : (terms : TimeTerms) (c : Course) → c.given ≡ false → HasComeDown terms c c 0
way-begins terms c none = record {
  same = same-stays c;
  further = further-stays c;
  small = omega arith;
  low = λ given. absurd (no given);
  high = λ given. absurd (no given);
  gained = λ given low. absurd (no given);
  costs = λ given low. absurd (no given);
}
  where
    no : c.given ≡ true → ⊥
    no given = true≢false (sym given ∙ none)

-- inside a segment of a curve one unit more saves the slope
inside-gain : (curve : ℕ → ℕ → Type 0) (seg : Segment) → LiesOn curve seg → (limit : ℕ) → seg.lower ≤ limit → limit < seg.upper → IsGain curve limit seg.slope
inside-gain curve seg on limit above below =
    let split : seg.upper - limit ≡ (seg.upper - (limit + 1)) + 1 = omega (arith, below) in
    let one_less : cost_for seg limit ≡ cost_for seg (limit + 1) + seg.slope =
    omega (arith, ap (λ n. seg.slope * n) split, mul-add seg.slope (seg.upper - (limit + 1)) 1) in
    record {
      cost = cost_for seg (limit + 1);
      here = subst (curve limit) one_less (on.reads limit above (omega (arith, below)));
      longer = on.reads (limit + 1) (omega (arith, above)) (omega (arith, below));
    }

module _ (terms : TimeTerms) (from c : Course) (gain : ℕ) (way : HasComeDown terms from c gain) where
  -- at the all-crash length the way ends
  module _ (ended : HasEnded c) where
    pub ends-low : lower_of c ≡ from.shortest
    ends-low = ended.lowest ∙ way.same.shortest

    pub ends-stop : PaysToStop (curve_in from.net) terms from.shortest from.longest from.shortest 0 gain
    ends-stop = record {
      saved = λ above. absurd (omega (arith, above));
      saves = λ above. absurd (omega (arith, above));
      gained = λ below. subst (λ n. IsGain (curve_in from.net) n gain) ends-low (way.gained ended.given (omega (arith, below, ends-low)));
      costs = λ below. subst (λ n. gain ≤ unit_cost terms (n + 1)) ends-low (way.costs ended.given (omega (arith, below, ends-low)));
    }

    pub ends-come : IsToCome c c.shortest
    ends-come = record {
      above = omega arith;
      within = omega (arith, way.high ended.given, ended.lowest, way.same.longest);
      below = λ given. (let under : lower_of c ≤ upper_of c = omega arith in omega (arith, under, ended.lowest));
    }

  module _ (d : Course) (down : IsNextDown from c d) where
    abbrev next : IsNext c d
    next = down.next

    pub next-same : IsSameCurve from d
    next-same = same-joins from c d way.same down.same

    pub next-further : IsFurther from d
    next-further = further-joins from c d way.further down.further

    on : LiesOn (curve_in from.net) (present d)
    on =
        subst (λ (n : PricedNetwork). LiesOn (curve_in n) (present d)) next-same.net
        (lies_on d.net.network d.net.terms (knees_in d.net)
        (subst (λ (n : PricedNetwork). IsPriced n.network n.terms (knees_in n)) (sym next-same.net) down.priced) (present d) next.whole.right)

    pub next-ordered : (present d).lower ≤ (present d).upper
    next-ordered = next.whole.right.proper.ordered

    low : from.shortest ≤ (present d).lower
    low = (let within : c.shortest ≤ (present d).lower = next.within in omega (arith, within, way.same.shortest))

    -- above its upper end a unit more costs no less than it saves
    above-upper : (present d).upper < from.longest → c.given ≡ true × ((present d).upper ≡ lower_of c)
    above-upper short =
        elim (cases_Bool c.given) [
          | inl given ↦ (given, next.joined given)
          | inr none ↦ (let top : (present d).upper ≡ c.longest = next.first none in absurd (omega (arith, short, top, way.same.longest)))
        ]

    high : (present d).upper ≤ from.longest
    high =
        elim (cases_Bool c.given) [
          | inl given ↦ (let joined : (present d).upper ≡ lower_of c = next.joined given in omega (arith, joined, way.high given))
          | inr none ↦ (let top : (present d).upper ≡ c.longest = next.first none in omega (arith, top, way.same.longest))
        ]

    -- only a curve of one length has a segment of one length
    long : (present d).lower < from.longest → (present d).lower < (present d).upper
    long short =
        elim (cases_lt c.shortest (present d).upper) [
          | inl above ↦ next.long above
          | inr at ↦ elim (cases_lt (present d).upper from.longest) [
            | inl under ↦
                let (given, joined) = above-upper under in
                absurd (down.going (record { given = given; lowest = omega (arith, at, joined, way.low given, way.same.shortest) }))
            | inr top ↦ omega (arith, short, top)
          ]
        ]

    pub next-less : left d < left c
    next-less =
        let now : left d ≡ lower_of d = ap (λ b. if b then lower_of d else d.longest + 1) next.given in
        let under : lower_of d ≤ upper_of d = omega arith in
        elim (cases_Bool c.given) [
          | inl given ↦
              let before : left c ≡ lower_of c = ap (λ b. if b then lower_of c else c.longest + 1) given in
              let above : c.shortest < lower_of c = above_end given in
              let longer : lower_of d < upper_of d = next.long (omega (arith, above, next.joined given)) in
              omega (arith, now, before, longer, next.joined given)
          | inr none ↦
              let before : left c ≡ c.longest + 1 = ap (λ b. if b then lower_of c else c.longest + 1) none in
              omega (arith, now, before, under, next.first none)
        ]
      where
        above_end : c.given ≡ true → c.shortest < lower_of c
        above_end given =
            elim (cases_lt c.shortest (lower_of c)) [
              | inl above ↦ above
              | inr at ↦ absurd (down.going (record { given = given; lowest = omega (arith, at, way.low given, way.same.shortest) }))
            ]

    module _ (stop : ℕ) (stops : IsStop terms (present d).lower (present d).upper (present d).slope stop) where
      pub stop-come : IsToCome d stop
      stop-come = record {
        above = omega (arith, low, stops.low, next-same.shortest);
        within = omega (arith, stops.high, high, next-same.longest);
        below = λ given. stops.high;
      }

      -- where it pays to stop above the lower end
      pub stop-pays : (present d).lower < stop → (more : ℕ) → (stop < (present d).upper → more ≡ (present d).slope) → ((present d).upper ≤ stop → more ≡ gain)
          → PaysToStop (curve_in from.net) terms from.shortest from.longest stop (present d).slope more
      stop-pays over more inside top = record {
        saved = λ above. inside-gain (curve_in from.net) (present d) on (stop - 1) (omega (arith, over)) (omega (arith, over, stops.high));
        saves = λ above. stops.saves over;
        gained = λ below. elim (cases_lt stop (present d).upper) [
          | inl within ↦
              subst (IsGain (curve_in from.net) stop) (sym (inside within)) (inside-gain (curve_in from.net) (present d) on stop stops.low within)
          | inr at ↦
              let same_end : stop ≡ (present d).upper = omega (arith, at, stops.high) in
              let (given, joined) = above-upper (omega (arith, below, same_end)) in
              subst (λ n. IsGain (curve_in from.net) stop n) (sym (top at))
              (subst (λ n. IsGain (curve_in from.net) n gain) (sym (same_end ∙ joined)) (way.gained given (omega (arith, below, same_end, joined))))
        ];
        costs = λ below. elim (cases_lt stop (present d).upper) [
          | inl within ↦ omega (arith, stops.costs within, inside within)
          | inr at ↦
              let same_end : stop ≡ (present d).upper = omega (arith, at, stops.high) in
              let (given, joined) = above-upper (omega (arith, below, same_end)) in
              subst (λ n. n ≤ unit_cost terms (stop + 1)) (sym (top at))
              (subst (λ n. gain ≤ unit_cost terms (n + 1)) (sym (same_end ∙ joined)) (way.costs given (omega (arith, below, same_end, joined))))
        ];
      }

      -- where it does not, the solver has come down by one segment more
      pub next-way : stop ≤ (present d).lower → HasComeDown terms from d (present d).slope
      next-way under =
          let at : stop ≡ (present d).lower = omega (arith, under, stops.low) in
          record {
            same = next-same;
            further = next-further;
            small = next.small.slope;
            low = λ given. low;
            high = λ given. omega (arith, next-ordered, high);
            gained = λ given below. inside-gain (curve_in from.net) (present d) on (present d).lower (omega arith) (long below);
            costs = λ given below. subst (λ n. (present d).slope ≤ unit_cost terms (n + 1)) at (stops.costs (omega (arith, at, long below)));
          }

-- an optimum of the curve along which a solver has advanced is one of its complete curve
pub best-there : (terms : TimeTerms) (from c : Course) (best : Best) → IsSameCurve from c → IsBest (curve_in c.net) terms c.shortest c.longest best
    → IsBest (curve_in from.net) terms from.shortest from.longest best
best-there terms from c best same is =
    subst (λ (net : PricedNetwork). IsBest (curve_in net) terms from.shortest from.longest best) same.net
    (subst (λ n. IsBest (curve_in c.net) terms n from.longest best) same.shortest
    (subst (λ n. IsBest (curve_in c.net) terms c.shortest n best) same.longest is))

-- what pays along it pays from where the solver is
pub pays-there : (terms : TimeTerms) (from c : Course) (stop slope gain : ℕ) → IsSameCurve from c
    → PaysToStop (curve_in from.net) terms from.shortest from.longest stop slope gain → PaysToStop (curve_in c.net) terms c.shortest c.longest stop slope gain
pays-there terms from c stop slope gain same pays =
    subst (λ (net : PricedNetwork). PaysToStop (curve_in net) terms c.shortest c.longest stop slope gain) (sym same.net)
    (subst (λ n. PaysToStop (curve_in from.net) terms n c.longest stop slope gain) (sym same.shortest)
    (subst (λ n. PaysToStop (curve_in from.net) terms from.shortest n stop slope gain) (sym same.longest) pays))
