-- A certificate that is written of complete segments is certified, and states these segments.
use Rattle.std.proofs.Common.{◌≡◌, ℕ, ◌<◌, zero, suc, List, [], ◌∷◌, ◌++◌, length, refl, sym, ap, ◌∙◌, subst, arith, append_assoc}
use Rattle.std.proofs.lemmas.List.{length-map, append-nil}
use Rattle.std.proofs.lemmas.List.Elements.{recursion_from_All, All-from_recursion}
use Rattle.std.proofs.lemmas.Grind.{flat_map-append}
use Rattle.std.specs.List.{AllByRecursion as ByRecursion, flat_map}
use Rattle.std.specs.Prelude.{map, All}
use Rattle.pc_model.specs.declared.Arc.{Arc}
use Rattle.pc_model.specs.Walk.{to_of, IsWalk}
use Rattle.pc_laws.specs.Segment.{Segment}
use Rattle.pc_laws.specs.Cover.{Joins, segment_at}
use Rattle.pc_cert.specs.Text.{text_of, AreWritable}
use Rattle.pc_cert.proofs.TextLaws.{text_of-append, AllFit-append}
use Rattle.pc_crash.specs.Priced.{PricedNetwork}
use Rattle.pc_crash.specs.inside.Priced.{AreNames}
use Rattle.pc_check.specs.Segments.{segment_in}
use Rattle.pc_check.specs.Certified.{segments_of}
use Rattle.pc_check.specs.Certified.{AreCertified, AreCurve}
use Rattle.pc_check.proofs.GoodLines.{curve_of}
use Rattle.pc_check.specs.Texts.{IsCertified}
use Rattle.pc_cert.specs.Document.{head_lines, segment_lines, end_lines, document_lines}
use Rattle.pc_certify.specs.Complete.{begun_lines}
use Rattle.pc_certify.specs.Complete.{IsComplete}
use Rattle.pc_certify.proofs.RowLaws.{part_of}
use Rattle.pc_certify.specs.Rows.{SaySame, AllSaySame}
use Rattle.pc_certify.proofs.CloseLaws.{says_same}
use Rattle.pc_certify.proofs.DocumentPass.{document_passes}
use Rattle.pc_certify.proofs.OrderLaws.{document_order}
use Rattle.pc_certify.proofs.SmallLaws.{IsSized, short_walk}

some_joined : (segments : List Segment) (high low : ℕ) → Joins high segments low → 0 < length segments
some_joined [] high low joined = absurd joined
some_joined (seg ∷ rest) high low joined = omega arith

same_at : (net : PricedNetwork) (segments : List Segment) (k : ℕ) → k < length segments → SaySame net (segment_at segments k) (segment_at (map (segment_in net) (map (part_of net) segments)) k)
same_at net [] k lt = absurd (omega arith)
same_at net (seg ∷ rest) zero lt = says_same net seg
same_at net (seg ∷ rest) (suc k) lt = same_at net rest k (omega arith)

module _ (net : PricedNetwork) (sized : IsSized net) (names : AreNames (length net.network.arcs) net.activities) (normal crash : List ℕ)
    (segments : List Segment) (complete : IsComplete net normal crash segments) where
  pub certified : AreCertified net (document_lines net normal crash segments)
  certified = record {
    whole = document_order net normal crash segments (some_joined segments complete.high complete.low complete.front.joined)
        (short_walk net sized _ normal complete.high complete.normal_walk) (short_walk net sized _ crash complete.low complete.crash_walk);
    none = (document_passes net normal crash segments sized.priced names complete).0;
  }

  says : segments_of net (document_lines net normal crash segments) ≡ map (segment_in net) (map (part_of net) segments)
  says = ap (map (segment_in net)) ((document_passes net normal crash segments sized.priced names complete).1)

  pub all_same : AllSaySame net segments (segments_of net (document_lines net normal crash segments))
  all_same = record {
    one_each = ap (λ (others : List Segment). length others) says ∙ length-map (map (part_of net) segments) (segment_in net) ∙ length-map segments (part_of net);
    each = λ k lt. subst (λ others. SaySame net (segment_at segments k) (segment_at others k)) (sym says) (same_at net segments k lt);
  }

  pub curve : AreCurve net (segments_of net (document_lines net normal crash segments))
  curve = curve_of net (document_lines net normal crash segments) sized.priced names.one_each certified

  pub text_certified : AreWritable (document_lines net normal crash segments) → IsCertified net (text_of (document_lines net normal crash segments)) (length segments)
  text_certified fit = record {
    lines = document_lines net normal crash segments;
    whole = record { led = record { fit = fit; order = certified.whole }; whole = refl };
    none = certified.none;
    count = sym all_same.one_each;
  }

-- ---- texts

pub text_begins : (net : PricedNetwork) (normal crash : List ℕ) → text_of (begun_lines net normal crash []) ≡ text_of (head_lines net normal crash)
text_begins net normal crash = ap text_of (append-nil (head_lines net normal crash))

pub text_goes_on : (net : PricedNetwork) (normal crash : List ℕ) (segments : List Segment) (seg : Segment) →
    text_of (begun_lines net normal crash segments) ++ text_of (segment_lines net seg)
    ≡ text_of (begun_lines net normal crash (segments ++ seg ∷ []))
text_goes_on net normal crash segments seg =
    let head = head_lines net normal crash in
    let body = flat_map (segment_lines net) segments in
    let one : flat_map (segment_lines net) (seg ∷ []) ≡ segment_lines net seg = append-nil (segment_lines net seg) in
    let all : flat_map (segment_lines net) (segments ++ seg ∷ []) ≡ body ++ segment_lines net seg = flat_map-append (segment_lines net) segments (seg ∷ []) ∙ ap (λ lines. body ++ lines) one in
    sym (text_of-append (head ++ body) (segment_lines net seg)) ∙ ap text_of (append_assoc head body (segment_lines net seg) ∙ ap (λ lines. head ++ lines) (sym all))

pub text_ends : (net : PricedNetwork) (normal crash : List ℕ) (segments : List Segment) →
    text_of (begun_lines net normal crash segments) ++ text_of end_lines ≡ text_of (document_lines net normal crash segments)
text_ends net normal crash segments =
    let head = head_lines net normal crash in
    let body = flat_map (segment_lines net) segments in
    sym (text_of-append (head ++ body) end_lines) ∙ ap text_of (append_assoc head body end_lines)

fit_all : (net : PricedNetwork) (segments : List Segment) → ByRecursion (λ seg. AreWritable (segment_lines net seg)) segments → AreWritable (flat_map (segment_lines net) segments ++ end_lines)
fit_all net [] fit = (tt, tt)
fit_all net (seg ∷ rest) (fit, others) =
    subst (λ lines. AreWritable lines) (sym (append_assoc (segment_lines net seg) (flat_map (segment_lines net) rest) end_lines))
    (AllFit-append (segment_lines net seg) (flat_map (segment_lines net) rest ++ end_lines) fit (fit_all net rest others))

pub document_fits : (net : PricedNetwork) (normal crash : List ℕ) (segments : List Segment) → AreWritable (head_lines net normal crash) →
    All (λ seg. AreWritable (segment_lines net seg)) segments → AreWritable (document_lines net normal crash segments)
document_fits net normal crash segments head fit =
    AllFit-append (head_lines net normal crash) (flat_map (segment_lines net) segments ++ end_lines) head
    (fit_all net segments (recursion_from_All (λ seg. AreWritable (segment_lines net seg)) segments fit))

walk_known_each : (arcs : List Arc) (e f : ℕ) (walk : List ℕ) → IsWalk arcs e walk f → ByRecursion (λ a. a < length arcs) walk
walk_known_each arcs e f [] leads = tt
walk_known_each arcs e f (a ∷ walk) leads = (leads.0, walk_known_each arcs (to_of arcs a) f walk (leads.2))

-- the activities of a walk are activities of the network, as its writer asks
pub walk_known : (arcs : List Arc) (e f : ℕ) (walk : List ℕ) → IsWalk arcs e walk f → All (λ a. a < length arcs) walk
walk_known arcs e f walk leads = All-from_recursion (λ a. a < length arcs) walk (walk_known_each arcs e f walk leads)
