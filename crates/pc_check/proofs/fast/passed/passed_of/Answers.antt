use Rattle.std.proofs.Common.{◌≡◌, ℕ, ◌-◌, min, arith, ap, subst, ◌∙◌, length}
use Rattle.pc_model.specs.declared.Term.{Term}
use Rattle.pc_check.specs.inside.KneeTests.{flow_sum}
use Rattle.pc_check.specs.inside.fast.Passed.{FitsWithin, IsGapWithin}
use Rattle.pc_check.proofs.lemmas.fast.PassedLaws.{slack_in_within}
use Rattle.pc_check.proofs.fast.passed.passed_of.Goals as goal

pub returns-clause-passed : goal.returns-clause-passed
returns-clause-passed c =
    let list = c.knees-list.result in
    let flows = c.args.flows.now in
    let gaps = c.gaps_of-fitting.result in
    let of_knees = subst (λ knees. FitsWithin c.term.result.crash knees c.as_slice-2.result.now (length knees) gaps.low gaps.high) c.as_slice.ensures c.gaps_of-fitting.ensures in
    let of_flows = subst (λ them. FitsWithin c.term.result.crash list them (length list) gaps.low gaps.high) c.as_slice-2.ensures.value of_knees in
    let fits = subst (λ term. FitsWithin term.crash list flows (length list) gaps.low gaps.high) c.term.ensures of_flows in
    let lasting = c.lasting-gaps.ensures in
    let within : (head tail : ℕ) → IsGapWithin c.lasting-gaps.result.low c.lasting-gaps.result.high head tail → IsGapWithin gaps.low gaps.high head tail = λ head tail is. record {
      above = omega (arith, is.above, lasting.above);
      below = omega (arith, is.below, lasting.below);
    } in
    record {
      line = c.args.line.now.line;
      own = c.requires.line;
      text = c.text.ensures;
      capacity = c.requires.capacity;
      bare = fits.room;
      fits = λ head tail is. slack_in_within c.args.net.now c.args.a list flows head tail c.knees-list.ensures fits is;
      room = omega (arith, fits.room, lasting.above);
      slack = λ head tail is. slack_in_within c.args.net.now c.args.a list flows head tail c.knees-list.ensures fits (within head tail is);
      lasts = λ head tail is. subst (λ (t : Term). c.args.duration ≡ min t.normal (head - tail)) c.term-2.ensures (lasting.lasts (head - tail) (omega (arith, is.above)) (omega (arith, is.below)));
      flow = c.flow_sum.ensures.sum ∙ ap flow_sum c.as_slice-3.ensures.value;
      small = c.flow_sum.ensures.small;
      cost = c.activity_cost.ensures.cost;
      cheap = c.activity_cost.ensures.limit;
    }
