-- Lines that can be written.
use Rattle.std.proofs.Common.{◌≡◌, ℕ, ◌<◌, ◌≤◌, zero, suc, ◌==◌, Bool, true, false, List, [], ◌∷◌, ◌++◌, length, sym, ap, ◌∙◌, subst, arith, length-append}
use Rattle.std.proofs.lemmas.List.{map-append}
use Rattle.std.specs.Prelude.{map, if◌then◌else◌}
use Rattle.pc_model.specs.Codes.{text_at}
use Rattle.pc_model.specs.Cost.{IsPriced}
use Rattle.pc_model.specs.Pieces.{ArePieces}
use Rattle.pc_laws.specs.Segment.{Segment as Stretch}
use Rattle.pc_crash.specs.Priced.{PricedNetwork, knees_in}
use Rattle.pc_cert.specs.declared.line.CertLine.{CertLine}
use Rattle.pc_cert.specs.declared.line.CertLine.TheVariants.{Close}
use Rattle.pc_text.specs.Fields.{IsCode}
use Rattle.pc_cert.specs.Lines.{IsSmall, AreSmall, IsWritable}
use Rattle.pc_cert.specs.Text.{AreWritable}
use Rattle.pc_cert.proofs.TextLaws.{AllFit-append}
use Rattle.pc_cert.specs.Listed.{listed}
use Rattle.pc_cert.specs.Document.{event_line, act_line, segment_lines}
use Rattle.pc_cert.specs.Document.{HasSmallNumbers}
use Rattle.pc_cert.proofs.ListedLaws.{length-listed}

pub AllFit-listed : (n : ℕ) (line : ℕ → CertLine) → ((i : ℕ) → i < n → IsWritable (line i)) → AreWritable (listed n line)
AllFit-listed zero line each = tt
AllFit-listed (suc n) line each = AllFit-append (listed n line) (line n ∷ []) (AllFit-listed n line (λ i lt. each i (omega arith))) (each n (omega arith), tt)

AreSmall-append : (ns ms : List ℕ) → AreSmall ns → AreSmall ms → AreSmall (ns ++ ms)
AreSmall-append [] ms p q = q
AreSmall-append (n ∷ ns) ms p q = (p.0, AreSmall-append ns ms (p.1) q)

AreSmall-listed : (n : ℕ) (each : ℕ → ℕ) → ((i : ℕ) → i < n → IsSmall (each i)) → AreSmall (listed n each)
AreSmall-listed zero each small = tt
AreSmall-listed (suc n) each small = AreSmall-append (listed n each) (each n ∷ []) (AreSmall-listed n each (λ i lt. small i (omega arith))) (small n (omega arith), tt)

pub AreSmall-with_last : (n : ℕ) (each : ℕ → ℕ) (last : ℕ) → ((i : ℕ) → i < n → IsSmall (each i)) → IsSmall last → AreSmall (listed n each ++ last ∷ [])
AreSmall-with_last n each last small is = AreSmall-append (listed n each) (last ∷ []) (AreSmall-listed n each small) (is, tt)

one_or_two : (b : Bool) → (1 ≤ (if b then 1 else 2)) × ((if b then 1 else 2) ≤ 2)
one_or_two true = (omega arith, omega arith)
one_or_two false = (omega arith, omega arith)

-- a certificate has version 1 or 2
pub is_version : (pieces : ℕ) → (1 ≤ (if pieces == 0 then 1 else 2)) × ((if pieces == 0 then 1 else 2) ≤ 2)
is_version pieces = one_or_two (pieces == 0)

-- an activity has two to six flows
module _ (net : PricedNetwork) (priced : IsPriced net.network net.terms (knees_in net)) (pieces : ArePieces net.terms net.pieces) where
  act_fits : (seg : Stretch) (a : ℕ) → a < length net.network.arcs → IsCode (text_at net.activities a) → HasSmallNumbers net seg → IsWritable (act_line net seg a)
  act_fits seg a lt code small =
      let long = length-listed ((knees_in net).count a) (seg.flow a) in
      let all = length-append (listed ((knees_in net).count a) (seg.flow a)) (seg.beside a ∷ []) in
      let few = pieces.few a (omega (arith, lt, priced.terms_fit.one_each)) in (
        code,
        small.durations a lt,
        AreSmall-with_last ((knees_in net).count a) (seg.flow a) (seg.beside a)
            (λ k within. small.flows a k lt within) (small.beside a lt),
        omega (arith, long, all),
        omega (arith, long, all, few),
      )

  pub segment_fits : (seg : Stretch) → ((e : ℕ) → e < net.network.events → IsCode (text_at net.events e)) →
      ((a : ℕ) → a < length net.network.arcs → IsCode (text_at net.activities a)) → HasSmallNumbers net seg → AreWritable (segment_lines net seg)
  segment_fits seg events activities small = (
    (small.upper, small.lower, small.cost, small.slope),
    AllFit-append (listed net.network.events (event_line net seg)) (listed (length net.network.arcs) (act_line net seg) ++ Close ∷ [])
        (AllFit-listed net.network.events (event_line net seg) (λ e lt. (events e lt, small.times e lt)))
        (AllFit-append (listed (length net.network.arcs) (act_line net seg)) (Close ∷ [])
        (AllFit-listed (length net.network.arcs) (act_line net seg) (λ a lt. act_fits seg a lt (activities a lt) small))
        (tt, tt)),
  )

-- one more of the lines that a list gives
pub AllFit-map : (line : ℕ → CertLine) (walk more : List ℕ) (a : ℕ) → more ≡ walk ++ a ∷ [] → AreWritable (map line walk) → AreWritable (line a ∷ []) → AreWritable (map line more)
AllFit-map line walk more a is all last =
    subst (λ lines. AreWritable lines) (sym (ap (λ w. map line w) is ∙ map-append line walk (a ∷ []))) (AllFit-append (map line walk) (line a ∷ []) all last)
