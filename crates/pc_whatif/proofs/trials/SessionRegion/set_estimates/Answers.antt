use Rattle.std.proofs.Common.{◌≡◌, length, refl, sym, ap, subst, ◌∙◌, arith}
use Rattle.pc_whatif.specs.inside.trials.Laid.{IsLaidIn, IsSoundRegion, kept_in, span_list, region_of}
use Rattle.pc_whatif.specs.inside.trials.SessionRegion.{SessionRegion, expected_by}
use Rattle.pc_times.proofs.EstimateLaws.{variance_small}
use Rattle.pc_whatif.proofs.lemmas.trials.KeptLaws.{with_numbers, AreSet, region-found, laid-set, laid-both, kept-both, early-both, whole-both}
use Rattle.pc_whatif.proofs.trials.SessionRegion.set_estimates.Goals as goal
use Rattle.pc_whatif.proofs.trials.SessionRegion.set_estimates.Goals.{After-set-2}

-- the region of the fields, in which two numbers were set
found : (c : After-set-2) → region_of c.self.inside ≡ c.in-Some.region
found c = region-found c.self.inside c.in-Some.region c.in-Some.is

are_set : (c : After-set-2)
    → AreSet c.self.inside.spans c.in-Some.region c.set.new.self c.set-2.new.self c.args.a c.expected_sixths-expected.result c.variance_36-variance.result
are_set c =
    let spans = c.self.inside.spans in
    let laid = subst (λ region. IsLaidIn region spans) (found c) c.self.invariant.laid in
    let expected = c.set.ensures 0 laid.live.expected in
    let next = laid-set spans c.in-Some.region c.set.new.self c.args.a c.expected_sixths-expected.result laid expected in
    record { laid = laid; expected = expected; variance = c.set-2.ensures 1 next.live.variances }

pub invariant_of-self : goal.invariant_of-self
invariant_of-self c =
    let r0 = c.in-Some.region in
    let r2 = c.set-2.new.self in
    let x = c.expected_sixths-expected.result in
    let v = c.variance_36-variance.result in
    let same = found c in
    let whole = subst (λ region. IsSoundRegion (kept_in region c.self.inside.path_len)) same c.self.invariant.whole in
    record {
      here = refl;
      laid = laid-both c.self.inside.spans r0 c.set.new.self r2 c.args.a x v (are_set c);
      whole = whole-both c.self.inside.spans r0 c.set.new.self r2 c.args.a x v (are_set c) c.self.inside.path_len whole
          (omega (arith, c.requires.activity, ap (λ r. length r.expected) c.self.view_is, ap (λ region. length (span_list region 0)) same))
          c.expected_sixths-expected.ensures.limit
          (omega (arith, c.variance_36-variance.ensures, variance_small c.args.estimates.now.optimistic c.args.estimates.now.pessimistic c.args.unit_days c.requires.estimates.short c.requires.unit));
      room = c.self.invariant.room ∙ ap (λ region. length (span_list region 2)) same
          ∙ sym (early-both c.self.inside.spans r0 c.set.new.self r2 c.args.a x v (are_set c));
    }

pub returns : goal.returns
returns c =
    let path_len = c.self.inside.path_len in
    let x = c.expected_sixths-expected.result in
    let v = c.variance_36-variance.result in
    kept-both c.self.inside.spans c.in-Some.region c.set.new.self c.set-2.new.self c.args.a x v (are_set c) path_len
    ∙ ap (λ (r : SessionRegion). with_numbers r c.args.a x v) (sym (ap (λ region. kept_in region path_len) (found c)) ∙ c.self.view_is)
    ∙ ap (λ n. with_numbers c.args.self.now c.args.a n v) c.expected_sixths-expected.ensures.value
    ∙ ap (λ n. with_numbers c.args.self.now c.args.a (expected_by c.args.unit_days c.args.estimates.now) n) c.variance_36-variance.ensures
