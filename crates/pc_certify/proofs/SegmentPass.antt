-- None of the lines that are written of a complete segment fails.
use Rattle.std.proofs.Common.{◌≡◌, ℕ, ◌<◌, ◌≤◌, zero, suc, true, List, [], ◌∷◌, ◌++◌, length, None, refl, sym, ap, subst, arith}
use Rattle.std.specs.Prelude.{◌==◌}
use Rattle.pc_model.specs.Codes.{text_at}
use Rattle.pc_model.specs.Cost.{IsPriced}
use Rattle.pc_model.specs.Schedule.{normal_of}
use Rattle.pc_laws.specs.Segment.{Segment, IsSegment}
use Rattle.pc_cert.specs.declared.line.CertLine.TheVariants.{Event, Act, Close}
use Rattle.pc_crash.specs.Priced.{PricedNetwork, knees_in}
use Rattle.pc_check.specs.Draft.{Part, Draft}
use Rattle.pc_check.specs.Conditions.{conditions}
use Rattle.pc_check.specs.Failures.{reason_at, first_failing}
use Rattle.pc_check.specs.Known.{frame}
use Rattle.pc_check.specs.Said.{said}
use Rattle.pc_check.proofs.Drafts.{begun_part}
use Rattle.pc_cert.specs.Listed.{listed}
use Rattle.pc_cert.specs.Document.{ends_line, event_line, act_line, flows_along, segment_lines}
use Rattle.pc_cert.proofs.ListedLaws.{length-listed}
use Rattle.pc_certify.proofs.RowLaws.{event_row, act_row, part_of, event_is, flows_long, right_event, right_act}
use Rattle.pc_certify.proofs.PassLaws.{Pass, Pass-nil, Pass-cons, Pass-one, Pass-then}
use Rattle.pc_certify.proofs.HoldLaws.{event_holds, act_holds, close_holds}
use Rattle.pc_certify.proofs.SameLaws.{MoveSame}
use Rattle.pc_certify.proofs.CloseLaws.{ends}

-- the draft among the segments: the two walks, the segments that are complete, and the last one that has begun
abbrev pub in_body : List (List ℕ) → List (List ℕ) → List Part → Part → Draft
in_body normal crash segments part = record { normal = normal; crash = crash; crash_walk_started = true; segments = segments; part = part }

-- the part of a segment after this many events, and no activity
abbrev pub events_part : PricedNetwork → Segment → ℕ → Part
events_part net seg j = record (begun_part seg.upper seg.lower seg.cost seg.slope) { events = listed j (event_row net seg) }

-- the part of a segment after all events, and this many activities
abbrev pub acts_part : PricedNetwork → Segment → ℕ → Part
acts_part net seg j = record (part_of net seg) { acts = listed j (act_row net seg) }

module _ (net : PricedNetwork) (priced : IsPriced net.network net.terms (knees_in net)) (normal crash : List (List ℕ)) (segments : List Part)
    (seg : Segment) (whole : IsSegment net.network net.terms (knees_in net) seg) where
  event_passes : (j : ℕ) → j < net.network.events → reason_at net (in_body normal crash segments (events_part net seg j)) (event_line net seg j) ≡ None
  event_passes j lt =
      let known = said net (in_body normal crash segments (events_part net seg j)) in
      let at : j ≡ known.events = sym (length-listed j (event_row net seg)) in
      let come : known.events < net.network.events = omega arith in
      subst (λ e. first_failing (conditions net known (Event (text_at net.events e) (seg.time e) (seg.moves e))) ≡ None) (sym at)
      (event_holds net known (seg.time known.events) (seg.moves known.events) come whole.right.proper.ordered (right_event net seg whole.right known.events come))

  pub events_pass : (j : ℕ) → j ≤ net.network.events →
      Pass net (in_body normal crash segments (events_part net seg 0)) (listed j (event_line net seg))
      (in_body normal crash segments (events_part net seg j))
  events_pass zero some = Pass-nil net (in_body normal crash segments (events_part net seg 0))
  events_pass (suc j) some =
      Pass-then (listed j (event_line net seg)) (event_line net seg j ∷ []) (events_pass j (omega arith))
      (Pass-one net (in_body normal crash segments (events_part net seg j)) (event_line net seg j) (event_passes j (omega arith)))

  module _ (first : (length segments == 0) ≡ true → (a : ℕ) → a < length net.network.arcs → seg.duration a ≡ normal_of net.terms a) where
    act_passes : (j : ℕ) → j < length net.network.arcs → reason_at net (in_body normal crash segments (acts_part net seg j)) (act_line net seg j) ≡ None
    act_passes j lt =
        let known = said net (in_body normal crash segments (acts_part net seg j)) in
        let at : j ≡ known.acts = sym (length-listed j (act_row net seg)) in
        let come : known.acts < length net.network.arcs = omega arith in
        let same : MoveSame net seg (frame known) =
        record {
          upper = refl;
          lower = refl;
          time = λ e l. ap (λ row. row.time) (event_is net seg e l);
          moves = λ e l. ap (λ row. row.moves) (event_is net seg e l);
        } in
        subst (λ a. first_failing (conditions net known (Act (text_at net.activities a) (seg.duration a) (flows_along net seg a))) ≡ None) (sym at)
        (act_holds net known (seg.duration known.acts) (flows_along net seg known.acts) come (flows_long net seg known.acts)
        (right_act net seg whole.right known.acts come priced.range (known.segments == 0) (frame known) same (λ is. first is known.acts come)))

    acts_pass : (j : ℕ) → j ≤ length net.network.arcs →
        Pass net (in_body normal crash segments (acts_part net seg 0)) (listed j (act_line net seg)) (in_body normal crash segments (acts_part net seg j))
    acts_pass zero some = Pass-nil net (in_body normal crash segments (acts_part net seg 0))
    acts_pass (suc j) some =
        Pass-then (listed j (act_line net seg)) (act_line net seg j ∷ []) (acts_pass j (omega arith))
        (Pass-one net (in_body normal crash segments (acts_part net seg j)) (act_line net seg j) (act_passes j (omega arith)))

    close_passes : reason_at net (in_body normal crash segments (part_of net seg)) Close ≡ None
    close_passes =
        let draft = in_body normal crash segments (part_of net seg) in
        close_holds net (said net draft) whole.right.proper.ordered (ends net priced seg draft refl whole)

    -- the lines of the segment, where its first one passes
    pub segment_passes : (before : Part) → reason_at net (in_body normal crash segments before) (ends_line seg) ≡ None
        → Pass net (in_body normal crash segments before) (segment_lines net seg) (in_body normal crash (segments ++ part_of net seg ∷ []) (part_of net seg))
    segment_passes before passes =
        Pass-cons (ends_line seg) _ passes
        (Pass-then (listed net.network.events (event_line net seg)) _ (events_pass net.network.events (omega arith))
        (Pass-then (listed (length net.network.arcs) (act_line net seg)) (Close ∷ []) (acts_pass (length net.network.arcs) (omega arith))
        (Pass-one net (in_body normal crash segments (part_of net seg)) Close close_passes)))
