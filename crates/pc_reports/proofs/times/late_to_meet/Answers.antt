use Rattle.std.proofs.Common.{◌≡◌, ◌≤◌, List, ℕ, get_or, ap, subst, ◌∙◌, to_z, of_z, w64, rules, arith}
use Rattle.std.specs.Prelude.{ℤ, pos, ◌≤ℤ◌, unsigned_abs}
use Rattle.std.proofs.lemmas.Int.{ints, to_z-of_z}
use mir.Val.{SFits}
use Rattle.pc_model.specs.Network.{Network}
use Rattle.pc_rollup.proofs.lemmas.figures.PushLaws.{if_answered}
use Rattle.pc_times.specs.declared.TheConstants.{MAX_TIME}
use Rattle.pc_times.specs.Late.{AreLate}
use Rattle.pc_times.specs.inside.Late.{IsInTimeFor}
use Rattle.pc_reports.specs.Times.{end_to_meet}
use Rattle.pc_reports.proofs.times.late_to_meet.Goals as goal

pub late-requires : goal.late-requires
late-requires c =
    let planned = c.net.ensures.planned in
    record {
      lengths = rw (c.net.ensures.network, c.expected.ensures.expected) planned.lengths;
      by = grind (arith, ints, c.end_to_meet-by.ensures.limit);
    }

pub returns-clause-late : goal.returns-clause-late
returns-clause-late c =
    let project = c.args.project.now in
    let meet = end_to_meet project.heading.directed c.args.reached in
    let fits : SFits w64 c.end_to_meet-by.result = search rules in
    let by : to_z w64 (of_z w64 c.end_to_meet-by.result) ≡ meet = to_z-of_z w64 c.end_to_meet-by.result fits
    ∙ (c.end_to_meet-by.ensures.end ∙ ap (λ d. end_to_meet d c.args.reached) c.directed.ensures.directed) in
    if_answered c.late.result _ _
    (λ late is. subst (λ (n : Network). AreLate n project.expected meet late.items) c.net.ensures.network
    (subst (λ (l : List ℕ). AreLate c.net.result.now l meet late.items) c.expected.ensures.expected
    (subst (λ (z : ℤ). AreLate c.net.result.now c.expected.result.now z late.items) by is)))
    c.late.ensures.times

-- a time that is no later than the end, and no earlier by more than the greatest, is no greater
up_to_small : (by time : ℤ) → pos 0 ≤ℤ by → by ≤ℤ pos MAX_TIME → IsInTimeFor by time → unsigned_abs time ≤ MAX_TIME
up_to_small by time least most up = grind (arith, ints, up.0, up.1)

pub returns-clause-limit : goal.returns-clause-limit
returns-clause-limit c =
    let fits : SFits w64 c.end_to_meet-by.result = search rules in
    let by : to_z w64 (of_z w64 c.end_to_meet-by.result) ≡ c.end_to_meet-by.result = to_z-of_z w64 c.end_to_meet-by.result fits in
    if_answered c.late.result _ _
    (λ late up. λ k d within. up_to_small c.end_to_meet-by.result (get_or late.items k d) c.end_to_meet-by.ensures.limit.0 c.end_to_meet-by.ensures.limit.1
    (subst (λ (z : ℤ). IsInTimeFor z (get_or late.items k d)) by (up k d within)))
    c.late.ensures.limit
