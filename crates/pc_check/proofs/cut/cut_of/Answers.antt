use Rattle.std.proofs.Common.{◌∙◌, ap}
use Rattle.std.specs.Prelude.{if◌then◌else◌}
use Rattle.pc_crash.specs.Priced.{knees_in}
use Rattle.pc_check.specs.inside.KneeTests.{knee_rises_over, stops_over}
use Rattle.pc_check.proofs.CutLaws.{rises_if-list, stops-list}
use Rattle.pc_check.proofs.cut.cut_of.Goals as goal

pub returns : goal.returns
returns c = record {
  forward = c.rises_if.ensures.sum
      ∙ ap (λ list. if c.args.crossing.now.forward then knee_rises_over c.args.crossing.now.lower.head c.args.crossing.now.lower.tail list else 0) c.as_slice-knees.ensures
      ∙ rises_if-list (knees_in c.args.net.now) c.args.a c.knees-list.result c.knees-list.ensures _ _ _ _ _ _
      c.requires.crossing.forward c.requires.crossing.lower_head c.requires.crossing.lower_tail;
  backward = c.rises_if-2.ensures.sum
      ∙ ap (λ list. if c.args.crossing.now.backward then knee_rises_over c.args.crossing.now.upper.head c.args.crossing.now.upper.tail list else 0) c.as_slice-knees.ensures
      ∙ rises_if-list (knees_in c.args.net.now) c.args.a c.knees-list.result c.knees-list.ensures _ _ _ _ _ _
      c.requires.crossing.backward c.requires.crossing.upper_head c.requires.crossing.upper_tail;
  stops = c.stops.ensures
      ∙ ap (λ list. stops_over c.args.crossing.now c.term.result.crash list) c.as_slice-knees.ensures
      ∙ ap (λ term. stops_over c.args.crossing.now term.crash c.knees-list.result) c.term.ensures
      ∙ stops-list c.args.net.now c.args.a c.knees-list.result c.knees-list.ensures c.requires.crossing;
  small_forward = c.rises_if.ensures.small;
  small_backward = c.rises_if-2.ensures.small;
}
