-- The lines of a certificate that is written come in the order in which they may.
use Rattle.std.proofs.Common.{◌≡◌, ℕ, ◌+◌, ◌-◌, ◌<◌, ◌≤◌, zero, suc, Bool, true, false, ◌&&◌, ◌||◌, List, [], ◌∷◌, ◌++◌, length, Some, None, refl, sym, ap, ◌∙◌, subst, arith, append_assoc}
use Rattle.std.proofs.lemmas.Bool.{eq-eqb, eqb-true, lt-ltb, cond-true, and_from, or_left, or_right}
use Rattle.std.proofs.lemmas.List.{nil_from_length}
use Rattle.std.specs.List.{flat_map}
use Rattle.std.specs.Prelude.{◌==◌, nat_lt, if◌then◌else◌}
use Rattle.pc_model.specs.Codes.{text_at}
use Rattle.pc_model.specs.Pieces.{pieces_of}
use Rattle.pc_laws.specs.Segment.{Segment as Stretch}
use Rattle.pc_cert.specs.declared.line.CertLine.{CertLine}
use Rattle.pc_cert.specs.declared.line.CertLine.TheVariants.{Normal, Step, Crash, Close}
use Rattle.pc_cert.specs.declared.place.Shape.{Shape}
use Rattle.pc_cert.specs.declared.place.Place.{Place}
use Rattle.pc_cert.specs.declared.place.Place.TheVariants.{Start, AfterHead, NormalWalk, CrashWalk, InSegment, Between, Ended}
use Rattle.pc_text.specs.Fields.{◌>>=◌}
use Rattle.pc_cert.specs.Grammar.{next}
use Rattle.pc_cert.specs.Text.{ran}
use Rattle.pc_cert.proofs.TextLaws.{ran-append}
use Rattle.pc_crash.specs.Priced.{PricedNetwork}
use Rattle.pc_cert.specs.Listed.{listed}
use Rattle.pc_cert.specs.Document.{version_of, first_line, steps, head_lines, ends_line, event_line, act_line, flows_along, segment_lines, end_lines, document_lines}
use Rattle.pc_certify.proofs.RowLaws.{flows_long}

ran-cons : (place : Place) {middle behind : Place} (line : CertLine) (lines : List CertLine) → next place line ≡ Some middle → ran middle lines ≡ Some behind → ran place (line ∷ lines) ≡ Some behind
ran-cons place {middle} {behind} line lines goes later = ap (λ found. found >>= (λ at. ran at lines)) goes ∙ later

ran-then : (place : Place) {middle behind : Place} (lines others : List CertLine) → ran place lines ≡ Some middle → ran middle others ≡ Some behind → ran place (lines ++ others) ≡ Some behind
ran-then place {middle} {behind} lines others go later = ran-append place lines others ∙ ap (λ found. found >>= (λ at. ran at others)) go ∙ later

-- the numbers of the first line
abbrev shape_of : PricedNetwork → Shape
shape_of net = record { version = version_of net; events = net.network.events; activities = length net.network.arcs }

-- ---- the two walks

normal_steps : (net : PricedNetwork) (shape : Shape) (walk : List ℕ) (n rest : ℕ) → n ≡ length walk + rest → ran (NormalWalk shape n) (steps net walk) ≡ Some (NormalWalk shape rest)
normal_steps net shape [] n rest all = let same : n ≡ rest = omega arith in ap (λ m. Some (NormalWalk shape m)) same
normal_steps net shape (a ∷ walk) n rest all =
    ran-cons (NormalWalk shape n) (Step (text_at net.activities a)) (steps net walk) (cond-true (nat_lt 0 n) (Some (NormalWalk shape (n - 1))) None (lt-ltb 0 n (omega arith)))
    (normal_steps net shape walk (n - 1) rest (omega arith))

crash_steps : (net : PricedNetwork) (shape : Shape) (walk : List ℕ) (n rest : ℕ) → n ≡ length walk + rest → ran (CrashWalk shape n) (steps net walk) ≡ Some (CrashWalk shape rest)
crash_steps net shape [] n rest all = let same : n ≡ rest = omega arith in ap (λ m. Some (CrashWalk shape m)) same
crash_steps net shape (a ∷ walk) n rest all =
    ran-cons (CrashWalk shape n) (Step (text_at net.activities a)) (steps net walk) (cond-true (nat_lt 0 n) (Some (CrashWalk shape (n - 1))) None (lt-ltb 0 n (omega arith)))
    (crash_steps net shape walk (n - 1) rest (omega arith))

head_order : (net : PricedNetwork) (normal crash : List ℕ) → length normal ≤ net.network.events → length crash ≤ net.network.events
    → ran Start (head_lines net normal crash) ≡ Some (CrashWalk (shape_of net) (net.network.events - length crash))
head_order net normal crash some others =
    let shape = shape_of net in
    let walks = steps net normal ++ Crash ∷ steps net crash in
    ran-cons Start (first_line net) (Normal ∷ walks) refl
    (ran-cons (AfterHead shape) Normal walks refl
    (ran-then (NormalWalk shape net.network.events) (steps net normal) (Crash ∷ steps net crash) (normal_steps net shape normal net.network.events (net.network.events - length normal) (omega arith))
    (ran-cons (NormalWalk shape (net.network.events - length normal)) Crash (steps net crash) refl
    (crash_steps net shape crash net.network.events (net.network.events - length crash) (omega arith)))))

-- ---- a segment

events_order : (net : PricedNetwork) (shape : Shape) (seg : Stretch) (m j n rest : ℕ) → n ≡ j + rest → ran (InSegment shape n m) (listed j (event_line net seg)) ≡ Some (InSegment shape rest m)
events_order net shape seg m zero n rest all = let same : n ≡ rest = omega arith in ap (λ k. Some (InSegment shape k m)) same
events_order net shape seg m (suc j) n rest all =
    let one : suc rest - 1 ≡ rest = omega arith in
    ran-then (InSegment shape n m) (listed j (event_line net seg)) (event_line net seg j ∷ []) (events_order net shape seg m j n (suc rest) (omega arith))
    (ran-cons (InSegment shape (suc rest) m) (event_line net seg j) []
    (cond-true (nat_lt 0 (suc rest)) (Some (InSegment shape (suc rest - 1) m)) None (lt-ltb 0 (suc rest) (omega arith))
    ∙ ap (λ k. Some (InSegment shape k m)) one) refl)

two_flows : (one_kind : Bool) (count : ℕ) → (one_kind ≡ true → count ≡ 2) → ((if one_kind then 1 else 2) == 2 || count == 2) ≡ true
two_flows true count h = or_right ((if true then 1 else 2) == 2) (count == 2) (eq-eqb count 2 (h refl))
two_flows false count h = or_left ((if false then 1 else 2) == 2) (count == 2) refl

-- an activity has as many flows as the version allows
takes : (net : PricedNetwork) (seg : Stretch) (a : ℕ) → (version_of net == 2 || length (flows_along net seg a) == 2) ≡ true
takes net seg a = two_flows (length net.pieces == 0) (length (flows_along net seg a)) (λ is.
    let none = ap (λ pieces. length (pieces_of pieces a)) (nil_from_length net.pieces (eqb-true (length net.pieces) 0 is)) in
    omega (arith, flows_long net seg a, none))

acts_order : (net : PricedNetwork) (seg : Stretch) (j n rest : ℕ) → n ≡ j + rest → ran (InSegment (shape_of net) 0 n) (listed j (act_line net seg)) ≡ Some (InSegment (shape_of net) 0 rest)
acts_order net seg zero n rest all = let same : n ≡ rest = omega arith in ap (λ k. Some (InSegment (shape_of net) 0 k)) same
acts_order net seg (suc j) n rest all =
    let one : suc rest - 1 ≡ rest = omega arith in
    ran-then (InSegment (shape_of net) 0 n) (listed j (act_line net seg)) (act_line net seg j ∷ []) (acts_order net seg j n (suc rest) (omega arith))
    (ran-cons (InSegment (shape_of net) 0 (suc rest)) (act_line net seg j) []
    (cond-true (0 == 0 && (nat_lt 0 (suc rest) && (version_of net == 2 || length (flows_along net seg j) == 2)))
    (Some (InSegment (shape_of net) 0 (suc rest - 1))) None
    (and_from _ _ refl (and_from _ _ (lt-ltb 0 (suc rest) (omega arith)) (takes net seg j))) ∙ ap (λ k. Some (InSegment (shape_of net) 0 k)) one) refl)

segment_order : (net : PricedNetwork) (seg : Stretch) (place : Place) →
    next place (ends_line seg) ≡ Some (InSegment (shape_of net) net.network.events (length net.network.arcs)) →
    ran place (segment_lines net seg) ≡ Some (Between (shape_of net))
segment_order net seg place goes =
    let acts = listed (length net.network.arcs) (act_line net seg) in
    ran-cons place (ends_line seg) _ goes
    (ran-then (InSegment (shape_of net) net.network.events (length net.network.arcs)) (listed net.network.events (event_line net seg))
    (acts ++ Close ∷ []) (events_order net (shape_of net) seg (length net.network.arcs) net.network.events net.network.events 0
    (omega arith))
    (ran-then (InSegment (shape_of net) 0 (length net.network.arcs)) acts (Close ∷ []) (acts_order net seg (length net.network.arcs) (length net.network.arcs) 0 (omega arith)) refl))

-- ---- the complete certificate

rest_order : (net : PricedNetwork) (segments : List Stretch) → ran (Between (shape_of net)) (flat_map (segment_lines net) segments ++ end_lines) ≡ Some Ended
rest_order net [] = refl
rest_order net (seg ∷ rest) =
    subst (λ lines. ran (Between (shape_of net)) lines ≡ Some Ended) (sym (append_assoc (segment_lines net seg) (flat_map (segment_lines net) rest) end_lines))
    (ran-then (Between (shape_of net)) (segment_lines net seg) (flat_map (segment_lines net) rest ++ end_lines) (segment_order net seg (Between (shape_of net)) refl) (rest_order net rest))

pub document_order : (net : PricedNetwork) (normal crash : List ℕ) (segments : List Stretch) → 0 < length segments → length normal ≤ net.network.events → length crash ≤ net.network.events
    → ran Start (document_lines net normal crash segments) ≡ Some Ended
document_order net normal crash [] some normal_short crash_short = absurd (omega arith)
document_order net normal crash (seg ∷ rest) some normal_short crash_short =
    let place = CrashWalk (shape_of net) (net.network.events - length crash) in
    ran-then Start (head_lines net normal crash) _ (head_order net normal crash normal_short crash_short)
    (subst (λ lines. ran place lines ≡ Some Ended) (sym (append_assoc (segment_lines net seg) (flat_map (segment_lines net) rest) end_lines))
    (ran-then place (segment_lines net seg) (flat_map (segment_lines net) rest ++ end_lines) (segment_order net seg place refl) (rest_order net rest)))
