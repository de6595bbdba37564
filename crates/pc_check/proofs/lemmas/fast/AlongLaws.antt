-- Rows of one piece that are taken in a loop, which counts the place and the number of lines in variables of its own.
use Rattle.std.proofs.Common.{◌≡◌, ◌≢◌, ℕ, ◌+◌, ◌-◌, ◌<◌, ◌≤◌, List, [], ◌∷◌, length, drop, refl, sym, ap, subst, ◌∙◌, arith}
use Rattle.pc_model.specs.declared.limits.TheConstants.{MAX_EVENTS, MAX_ACTIVITIES}
use Rattle.pc_cert.specs.declared.event.EventFront.{EventFront}
use Rattle.pc_cert.specs.declared.line.CertLine.{CertLine}
use Rattle.pc_cert.specs.declared.line.CertLine.TheVariants.{Head, Normal, Step, Crash, Segment, Event, Act, Close, End}
use Rattle.pc_cert.specs.declared.place.Place.{Place}
use Rattle.pc_cert.specs.inside.Grammar.{IsRow}
use Rattle.pc_cert.proofs.Passing.{PassesLine}
use Rattle.pc_cert.specs.inside.Reader.{CertReading}
use Rattle.pc_cert.proofs.ReaderLaws.{passes_line}
use Rattle.pc_crash.specs.Priced.{PricedNetwork}
use Rattle.pc_check.specs.declared.kept.Kept.{Kept}
use Rattle.pc_check.specs.inside.Advances.{AddsToKept, Advances, moved_on}
use Rattle.pc_check.specs.inside.fast.Rows.{AddsLine, going}
use Rattle.pc_check.specs.inside.fast.Along.{TakesAlong, MayAdvance, HasAdvanced}
use Rattle.pc_check.specs.inside.Bounds.{IsBounded, lines_left}
use Rattle.pc_check.specs.inside.Checking.{Checking}
use Rattle.pc_check.specs.inside.Safe.{IsSafe}
use Rattle.pc_check.proofs.BoundLaws.{Passes, bounded_behind, fewer_behind, lines_few, lines_kept}
use Rattle.pc_check.proofs.lemmas.fast.RunLaws.{IsRest, all_left, begun, less_left, used_is}
use Rattle.pc_check.proofs.TakeLaws.{goes_on}

-- the state after this many lines more, with the next line at this place
abbrev pub moved_by : Kept → Place → ℕ → Kept
moved_by kept place count = record kept { place = place; lines = kept.lines + count }

-- a reader after this many lines more
abbrev pub read_by : CertReading → Place → ℕ → CertReading
read_by reader place count = record reader { place = place; lines = reader.lines + count }

-- rows at the front of the piece were taken, and these bytes are left
pub record IsAlong (net : PricedNetwork) (piece rest : List ℕ) (reader : CertReading) (old kept : Kept) (place : Place) (count : ℕ) : Type 0 where
  pub left : IsRest piece rest reader (read_by reader place count) (going net old) (going net (moved_by kept place count))
  pub held : reader.held ≡ []
  pub safe : IsSafe net kept.tally
  pub bounded : IsBounded net (moved_by kept place count)
  pub long : kept.tally.upper ≢ kept.tally.lower

read_none : (reader : CertReading) → reader ≡ read_by reader reader.place 0
read_none reader = ap (λ n. record reader { lines = n }) (omega arith)

moved_none : (kept : Kept) (place : Place) → place ≡ kept.place → kept ≡ moved_by kept place 0
moved_none kept place there = ap (λ n. record kept { lines = n }) (omega arith) ∙ ap (λ p. record kept { place = p; lines = kept.lines + 0 }) (sym there)

-- none is taken yet
pub along_begins : {net : PricedNetwork} {fronts : List EventFront} {reader : CertReading} {kept : Kept} (piece : List ℕ) → MayAdvance net fronts reader kept
    → reader.held ≡ [] → kept.tally.upper ≢ kept.tally.lower → IsAlong net piece piece reader kept kept reader.place 0
along_begins {net} {fronts} {reader} {kept} piece may held long =
    let begins = all_left piece reader (going net kept) (begun piece reader (going net kept) refl may.place may.going may.alike may.few) in
    let moved = moved_none kept reader.place may.place in
    record {
      left = subst (λ r. IsRest piece piece reader r (going net kept) (going net (moved_by kept reader.place 0))) (read_none reader)
          (subst (λ k. IsRest piece piece reader reader (going net kept) (going net k)) moved begins);
      held = held;
      safe = may.safe;
      bounded = subst (IsBounded net) moved may.bounded;
      long = long;
    }

-- what a row adds does not hang on the place and the number of lines
adds_moved : (net : PricedNetwork) (old new : Kept) (line : CertLine) (place : Place) (count : ℕ) → IsRow line → AddsToKept net line old new →
    AddsToKept net line (moved_by old place count) (moved_by new place count)
adds_moved net old new (Head version project events activities) place count row added = absurd row
adds_moved net old new Normal place count row added = absurd row
adds_moved net old new (Step code) place count row added = absurd row
adds_moved net old new Crash place count row added = absurd row
adds_moved net old new (Segment upper lower cost slope) place count row added = absurd row
adds_moved net old new (Event code time moves) place count row added = (ap (λ k. moved_by k place count) (added.0), added.1)
adds_moved net old new (Act code duration flows) place count row added = (ap (λ k. moved_by k place count) (added.0), added.1)
adds_moved net old new Close place count row added = absurd row
adds_moved net old new End place count row added = absurd row

-- nor does it change the ends of the segment
ends_kept : (net : PricedNetwork) (old new : Kept) (line : CertLine) → IsRow line → AddsToKept net line old new → (new.tally.upper ≡ old.tally.upper) × (new.tally.lower ≡ old.tally.lower)
ends_kept net old new (Head version project events activities) row added = absurd row
ends_kept net old new Normal row added = absurd row
ends_kept net old new (Step code) row added = absurd row
ends_kept net old new Crash row added = absurd row
ends_kept net old new (Segment upper lower cost slope) row added = absurd row
ends_kept net old new (Event code time moves) row added = (ap (λ t. t.upper) ((added.1).rest), ap (λ t. t.lower) ((added.1).rest))
ends_kept net old new (Act code duration flows) row added = (ap (λ t. t.upper) ((added.1).rest), ap (λ t. t.lower) ((added.1).rest))
ends_kept net old new Close row added = absurd row
ends_kept net old new End row added = absurd row

one_more : (n count : ℕ) → n + count + 1 ≡ n + (count + 1)
one_more n count = omega arith

-- one more row is taken
pub along_more : {net : PricedNetwork} {piece rest : List ℕ} {reader : CertReading} {old kept new : Kept} {place behind : Place} {count : ℕ}
    (used : ℕ) → net.network.events ≤ MAX_EVENTS → length net.network.arcs ≤ MAX_ACTIVITIES
    → IsAlong net piece rest reader old kept place count → AddsLine net rest used place behind kept new → IsSafe net new.tally → IsAlong net piece (drop used rest) reader old new behind (count + 1)
along_more {net} {piece} {rest} {reader} {old} {kept} {new} {place} {behind} {count} used events activities h it safe =
    let run = h.left.run in
    let before : CertReading = read_by reader place count in
    let after : CertReading = read_by reader behind (count + 1) in
    let from : Kept = moved_by kept place count in
    let between : Kept = moved_by new place count in
    let to : Kept = moved_by new behind (count + 1) in
    let read : PassesLine it.line rest used before after =
    passes_line it.line rest used before after run.going h.held it.again it.goes (ap (λ n. record reader { place = behind; lines = n }) (sym (one_more reader.lines count))) in
    let added : AddsToKept net it.line from between = adds_moved net kept new it.line place count it.row it.adds in
    let moved : moved_on between behind ≡ to = ap (λ n. record new { place = behind; lines = n }) (one_more new.lines count) in
    let advances : Advances net it.line from to = record { goes = it.goes; between = between; added = added; moved = sym moved } in
    let passes : Passes net it.line from behind = record { goes = it.goes; passes = it.none } in
    let bounded : IsBounded net to = subst (IsBounded net) moved (bounded_behind between h.bounded passes added) in
    let takes : TakesAlong rest used before after (going net from) (going net to) = record {
      taken = it.line ∷ [];
      within = read.within;
      going = read.going;
      nothing = read.nothing;
      reads = read.stands;
      stands = λ lines stood. goes_on it.line h.safe h.bounded (sym it.none) advances stood;
      none = refl;
      net = refl;
      place = refl;
      alike = omega (arith, run.alike, lines_kept net it.line kept new it.adds);
      few = lines_few bounded events activities;
      left = subst (λ k. lines_left net k < lines_left net from) moved (fewer_behind between h.bounded passes added);
    } in
    let ends = ends_kept net kept new it.line it.row it.adds in
    record { left = less_left used h.left read.some takes; held = h.held; safe = safe; bounded = bounded; long = λ e. h.long (sym (ends.0) ∙ e ∙ ends.1) }

-- no row is taken
pub none_taken : {net : PricedNetwork} {fronts : List EventFront} {reader : CertReading} {kept : Kept} (piece : List ℕ) → MayAdvance net fronts reader kept
    → HasAdvanced net piece 0 reader reader kept kept
none_taken piece may = record {
  same_kept = λ nothing. refl;
  same_reader = λ nothing. refl;
  takes = λ some. absurd (omega (arith, some));
  bounded = may.bounded;
  safe = may.safe;
}

-- what was taken after the loop
pub along_ends : {net : PricedNetwork} {piece rest : List ℕ} {reader : CertReading} {old kept : Kept} {place : Place} {count : ℕ}
    (after : CertReading) (there : Place) (final : Kept) → IsAlong net piece rest reader old kept place count
    → there ≡ place → final ≡ kept → after ≡ read_by reader there count → HasAdvanced net piece (length piece - length rest) reader after old (moved_by final there count)
along_ends {net} {piece} {rest} {reader} {old} {kept} {place} {count} after there final h here same is =
    let ended : HasAdvanced net piece h.left.used reader (read_by reader place count) old (moved_by kept place count) = record {
      same_kept = λ none. ap (λ (c : Checking). c.kept) (h.left.run.same none);
      same_reader = h.left.run.same_reader;
      takes = h.left.run.takes;
      bounded = h.bounded;
      safe = h.safe;
    } in
    subst (λ n. HasAdvanced net piece n reader after old (moved_by final there count)) (used_is h.left)
    (subst (λ r. HasAdvanced net piece h.left.used reader r old (moved_by final there count)) (sym is)
    (subst (λ k. HasAdvanced net piece h.left.used reader (read_by reader there count) old (moved_by k there count)) (sym same)
    (subst (λ p. HasAdvanced net piece h.left.used reader (read_by reader p count) old (moved_by kept p count)) (sym here) ended)))
