use Rattle.std.proofs.Common.{◌≡◌, ◌+◌, [], ◌∷◌, ◌++◌, length, decimal, ap, ◌∙◌, append_assoc, add-one, arith}
use Rattle.pc_laws.specs.Stair.{Stair, stair_of, reach, knee_flow, crash_flow}
use Rattle.pc_crash.specs.Priced.{knees_in}
use Rattle.pc_text.specs.Fields.{spaced}
use Rattle.pc_cert.specs.Lines.{numbers}
use Rattle.pc_cert.specs.Listed.{listed}
use Rattle.pc_cert.proofs.WordLaws.{numbers-more, numbers-with_last}
use Rattle.pc_certify.proofs.fast.last_lines.add_flows.Goals as goal

pub loop-knee-preserved : goal.loop-knee-preserved
loop-knee-preserved c =
    let net = c.args.net.now in
    let stair : Stair = stair_of net.terms (knees_in net) c.args.a in
    let each = knee_flow stair c.args.whole in
    let k = c.loop-knee.knee-index in
    let old = c.args.spelling.now in
    let word = spaced (decimal (each k)) [] in
    let rise = (rw (← c.as_slice-knee-items.ensures) at c.knees.ensures.rise) k c.loop-knee-test.true in
    let further : reach stair (k + 1) ≡ reach stair k + stair.rise k = ap (reach stair) (add-one k) in
    let runs : c.min.result ≡ each k = omega (arith, c.min.ensures, c.loop-knee.invariant.rest, rise) in
    record {
      text =
          c.add_number.ensures.text
          ∙ ap (λ n. c.loop-knee.spelling ++ spaced (decimal n) []) runs
          ∙ ap (λ so_far. so_far ++ word) c.loop-knee.invariant.text
          ∙ append_assoc old (numbers (listed k each)) word
          ∙ ap (λ more. old ++ more) (numbers-more k each);
      short = omega (arith, c.add_number.ensures.short, c.loop-knee.invariant.short);
      rest = omega (arith, c.saturating_sub-rest.ensures, c.loop-knee.invariant.rest, rise, further);
    }

pub returns-clause-text : goal.returns-clause-text
returns-clause-text c =
    let net = c.args.net.now in
    let stair : Stair = stair_of net.terms (knees_in net) c.args.a in
    let each = knee_flow stair c.args.whole in
    let last = crash_flow stair c.args.whole in
    let k = c.loop-knee.knee-index in
    let old = c.args.spelling.now in
    let word = spaced (decimal last) [] in
    let all : k ≡ stair.count = omega (arith, c.loop-knee-test.false, c.loop-knee.auto.knee-index-end, ap length c.as_slice-knee-items.ensures, c.knees.ensures.count) in
    let left : c.loop-knee.rest ≡ last = c.loop-knee.invariant.rest ∙ ap (λ n. crash_flow (record stair { count = n }) c.args.whole) all in
    c.add_number-2.ensures.text
    ∙ ap (λ n. c.loop-knee.spelling ++ spaced (decimal n) []) left
    ∙ ap (λ so_far. so_far ++ word) c.loop-knee.invariant.text
    ∙ append_assoc old (numbers (listed k each)) word
    ∙ ap (λ more. old ++ more) (numbers-with_last k each last)
    ∙ ap (λ n. old ++ numbers (listed n each ++ last ∷ [])) all
