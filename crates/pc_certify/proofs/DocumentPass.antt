-- No line of a certificate fails that is written of complete segments which join.
use Rattle.std.proofs.Common.{◌≡◌, ℕ, ◌<◌, ◌≤◌, true, false, not, ◌&&◌, ◌||◌, List, [], ◌∷◌, ◌++◌, length, None, refl, sym, ap, ◌∙◌, subst, arith, inl, inr, append_assoc, append-nil, length-append}
use Rattle.std.proofs.lemmas.Bool.{eq-eqb, eqb-true, lt-ltb, ne_eqb, cond-true, cond-false, cases_eq, and_from, or_left, or_right}
use Rattle.std.proofs.lemmas.List.Elements.{recursion_from_All}
use Rattle.std.proofs.Math.ListN.{get_or-map}
use Rattle.std.specs.List.{AllByRecursion as ByRecursion, flat_map}
use Rattle.std.specs.Prelude.{map, nat_lt, ◌==◌}
use Rattle.pc_model.specs.declared.Term.{Term}
use Rattle.pc_model.specs.Cost.{IsPriced}
use Rattle.pc_model.specs.Schedule.{normals, crashes}
use Rattle.pc_laws.specs.Segment.{Segment, IsSegment}
use Rattle.pc_laws.specs.Cover.{Joins, IsLong, IsFront}
use Rattle.pc_laws.proofs.Segments.Covering.{joins-first}
use Rattle.pc_cert.specs.declared.line.CertLine.TheVariants.{Segment as SegmentLine, Normal, Crash, End}
use Rattle.pc_crash.specs.Priced.{PricedNetwork, knees_in}
use Rattle.pc_crash.specs.inside.Priced.{AreNames}
use Rattle.pc_check.specs.Draft.{Part, empty_draft, draft_of}
use Rattle.pc_check.specs.Conditions.{conditions, is_first, has_head, has_joined_ends}
use Rattle.pc_check.specs.Failures.{first_failing, reason_at, failure_of}
use Rattle.pc_check.specs.Known.{Known}
use Rattle.pc_check.specs.Said.{said}
use Rattle.pc_check.specs.Walks.{length_in, walked, at_start, is_through}
use Rattle.pc_check.proofs.Drafts.{begun_part}
use Rattle.pc_cert.specs.Document.{first_line, steps, head_lines, segment_lines, end_lines, document_lines, version_of}
use Rattle.pc_certify.specs.Complete.{IsThrough, IsComplete}
use Rattle.pc_certify.proofs.RowLaws.{part_of}
use Rattle.pc_certify.proofs.PassLaws.{Pass, Pass-nil, Pass-cons, Pass-then, PassTo, PassTo-then, holds_on}
use Rattle.pc_certify.proofs.HoldLaws.{same_code}
use Rattle.pc_certify.proofs.StepLaws.{codes_of, comes_through, in_crash, normal_steps, crash_steps}
use Rattle.pc_certify.proofs.SegmentPass.{in_body, segment_passes}

-- ---- the head

head_holds : (net : PricedNetwork) → reason_at net empty_draft (first_line net) ≡ None
head_holds net =
    holds_on (has_head net (version_of net) net.project net.network.events (length net.network.arcs)) None 1
    (and_from _ _ (eq-eqb (version_of net) (version_of net) refl) (and_from _ _ (same_code net.project)
    (and_from _ _ (eq-eqb net.network.events net.network.events refl) (eq-eqb (length net.network.arcs) (length net.network.arcs) refl)))) refl

head_passes : (net : PricedNetwork) (normal crash : List ℕ) → Pass net empty_draft (head_lines net normal crash) (in_crash (codes_of net normal) (codes_of net crash))
head_passes net normal crash =
    Pass-cons (first_line net) _ (head_holds net)
    (Pass-cons Normal _ refl
    (Pass-then (steps net normal) _ (normal_steps net [] normal)
    (Pass-cons Crash (steps net crash) refl
    (crash_steps net (codes_of net normal) [] crash))))

-- ---- the first line of a segment

first_ends_hold : (net : PricedNetwork) (known : Known) (upper lower cost slope : ℕ) → known.segments ≡ 0 → is_through net.network upper known.normal ≡ true → lower ≤ upper
    → (lower ≡ upper → slope ≡ 0)
    → first_failing (conditions net known (SegmentLine upper lower cost slope)) ≡ None
first_ends_hold net known upper lower cost slope none through ordered flat =
    let first : (known.segments == 0) ≡ true = eq-eqb known.segments 0 none in
    let ends : (nat_lt lower upper || (lower == upper && slope == 0)) ≡ true = elim (cases_eq lower upper) [
      | inl same ↦ or_right (nat_lt lower upper) (lower == upper && slope == 0) (and_from _ _ (eq-eqb lower upper same) (eq-eqb slope 0 (flat same)))
      | inr other ↦ or_left (nat_lt lower upper) (lower == upper && slope == 0) (lt-ltb lower upper (omega arith))
    ] in
    holds_on (not (is_first known) || is_through net.network upper known.normal) _ 2 (or_right (not (is_first known)) (is_through net.network upper known.normal) through)
    (holds_on (has_joined_ends known upper lower slope) None 15
    (cond-true (is_first known) (nat_lt lower upper || (lower == upper && slope == 0)) (upper == known.lower && (nat_lt known.lower known.upper && nat_lt lower upper)) first ∙ ends) refl)

not_first : (known : Known) → 0 < known.segments → is_first known ≡ false
not_first known some = ne_eqb known.segments 0 (λ none. absurd (omega arith))

later_ends_hold : (net : PricedNetwork) (known : Known) (upper lower cost slope : ℕ) → 0 < known.segments → upper ≡ known.lower → known.lower < known.upper → lower < upper
    → first_failing (conditions net known (SegmentLine upper lower cost slope)) ≡ None
later_ends_hold net known upper lower cost slope some joined long below =
    let later = not_first known some in
    holds_on (not (is_first known) || is_through net.network upper known.normal) _ 2 (or_left (not (is_first known)) (is_through net.network upper known.normal) (ap not later))
    (holds_on (has_joined_ends known upper lower slope) None 15
    (cond-false (is_first known) (nat_lt lower upper || (lower == upper && slope == 0)) (upper == known.lower && (nat_lt known.lower known.upper && nat_lt lower upper)) later
    ∙ and_from _ _ (eq-eqb upper known.lower joined) (and_from _ _ (lt-ltb known.lower known.upper long) (lt-ltb lower upper below))) refl)

-- ---- the segments and the end

module _ (net : PricedNetwork) (priced : IsPriced net.network net.terms (knees_in net)) (names : AreNames (length net.network.arcs) net.activities) (normal crash : List ℕ) where
  end_passes : (done : List Part) (last : Segment) (low : ℕ) → last.lower ≡ low → IsThrough net.network (crashes net.terms) crash low
      → PassTo net (in_body (codes_of net normal) (codes_of net crash) done (part_of net last)) end_lines done
  end_passes done last low at through =
      let draft = in_body (codes_of net normal) (codes_of net crash) done (part_of net last) in
      let comes = comes_through net names (length_in net true) (crashes net.terms)
      (λ a. sym (get_or-map (λ (t : Term). t.crash) net.terms a (record { normal = 0; crash = 0; cost = 0; slope = 0 }))) crash low
      through in
      let holds : is_through net.network last.lower (walked net (length_in net true) (at_start net.network) (codes_of net crash))
      ≡ true = subst (λ n. is_through net.network n (walked net (length_in net true) (at_start net.network) (codes_of net crash))
      ≡ true) (sym at) comes in
      let passes = Pass-cons {draft = draft} End []
      (holds_on (is_through net.network last.lower (walked net (length_in net true) (at_start net.network) (codes_of net crash))) None 3
      holds refl) (Pass-nil net draft) in
      record { none = passes.none; says = refl }

  -- after a complete segment come the others and the end
  rest_pass : (done : List Part) (last : Segment) (rest : List Segment) (high low : ℕ) → 0 < length done → Joins high (last ∷ rest) low
      → (0 < length rest → ByRecursion IsLong (last ∷ rest)) → ByRecursion (IsSegment net.network net.terms (knees_in net)) rest → IsThrough net.network (crashes net.terms) crash low
      → PassTo net (in_body (codes_of net normal) (codes_of net crash) done (part_of net last)) (flat_map (segment_lines net) rest ++ end_lines) (done ++ map (part_of net) rest)
  rest_pass done last [] high low some joined long each through =
      subst (λ segments. PassTo net (in_body (codes_of net normal) (codes_of net crash) done (part_of net last)) end_lines segments) (sym (append-nil done))
      (end_passes done last low (joined.1) through)
  rest_pass done last (next ∷ rest) high low some joined long each through =
      let draft = in_body (codes_of net normal) (codes_of net crash) done (part_of net last) in
      let all = long (omega arith) in
      let at = joins-first next rest last.lower low (joined.1) in
      let later = λ (is : (length done == 0) ≡ true). absurd (let none = eqb-true (length done) 0 is in omega (arith, none, some)) in
      let first = later_ends_hold net (said net draft) next.upper next.lower next.cost next.slope some at (all.0) (all.1.0) in
      let here = segment_passes net priced (codes_of net normal) (codes_of net crash) done next (each.0) later (part_of net last) first in
      let behind = rest_pass (done ++ part_of net next ∷ []) next rest last.lower low (omega (arith, some, length-append done (part_of net next ∷ []))) (joined.1) (λ more. all.1) (each.1) through in
      subst (λ lines. PassTo net draft lines (done ++ map (part_of net) (next ∷ rest))) (sym (append_assoc (segment_lines net next) (flat_map (segment_lines net) rest) end_lines))
      (subst (λ segments. PassTo net draft (segment_lines net next ++ (flat_map (segment_lines net) rest ++ end_lines)) segments) (append_assoc done (part_of net next ∷ []) (map (part_of net) rest))
      (PassTo-then (segment_lines net next) (flat_map (segment_lines net) rest ++ end_lines) here behind))

  all_pass : (segments : List Segment) (high low : ℕ) → IsFront net.network net.terms (knees_in net) segments high low
      → IsThrough net.network (normals net.terms) normal high → IsThrough net.network (crashes net.terms) crash low
      → PassTo net empty_draft (document_lines net normal crash segments) (map (part_of net) segments)
  all_pass [] high low front normals_through crashes_through = absurd front.joined
  all_pass (seg ∷ rest) high low front normals_through crashes_through =
      let draft = in_crash (codes_of net normal) (codes_of net crash) in
      let each = recursion_from_All (IsSegment net.network net.terms (knees_in net)) (seg ∷ rest) front.each in
      let top = joins-first seg rest high low front.joined in
      let comes = comes_through net names (length_in net false) (normals net.terms)
      (λ a. sym (get_or-map (λ (t : Term). t.normal) net.terms a (record { normal = 0; crash = 0; cost = 0; slope = 0 }))) normal high
      normals_through in
      let through : is_through net.network seg.upper (walked net (length_in net false) (at_start net.network) (codes_of net normal))
      ≡ true = subst (λ n. is_through net.network n (walked net (length_in net false) (at_start net.network) (codes_of net normal))
      ≡ true) (sym top) comes in
      let first = first_ends_hold net (said net draft) seg.upper seg.lower seg.cost seg.slope refl through each.0.right.proper.ordered (λ same. (each.0.right.proper.degenerate same).flat) in
      let here = segment_passes net priced (codes_of net normal) (codes_of net crash) [] seg (each.0) (λ is. front.normal) (begun_part 0 0 0 0) first in
      let behind = rest_pass (part_of net seg ∷ []) seg rest high low (omega arith) front.joined (λ more. recursion_from_All IsLong (seg ∷ rest) (front.long (omega arith))) (each.1) crashes_through in
      PassTo-then (head_lines net normal crash) _ (head_passes net normal crash)
      (subst (λ lines. PassTo net draft lines (map (part_of net) (seg ∷ rest))) (sym (append_assoc (segment_lines net seg) (flat_map (segment_lines net) rest) end_lines))
      (PassTo-then (segment_lines net seg) (flat_map (segment_lines net) rest ++ end_lines) here behind))

-- none of the lines fails, and they say the segments that were written
pub document_passes : (net : PricedNetwork) (normal crash : List ℕ) (segments : List Segment) →
    IsPriced net.network net.terms (knees_in net) → AreNames (length net.network.arcs) net.activities → IsComplete net normal crash segments
    → (failure_of net (document_lines net normal crash segments) ≡ None) × ((draft_of (document_lines net normal crash segments)).segments ≡ map (part_of net) segments)
document_passes net normal crash segments priced names complete =
    let passes = all_pass net priced names normal crash segments complete.high complete.low complete.front complete.normal_walk complete.crash_walk in
    (passes.none 1, passes.says)
