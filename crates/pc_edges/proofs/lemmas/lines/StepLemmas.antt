-- The steps of a reader of lines.
use Rattle.std.proofs.Common.{◌≡◌, ◌≢◌, ℕ, ◌+◌, ◌-◌, ◌<◌, ◌≤◌, List, [], ◌∷◌, ◌++◌, length, take, drop, Option, refl, sym, ap}
use Rattle.std.proofs.Common.{◌∙◌, subst, arith, append_assoc, append-nil, length-append, Contains, get_or, zero, suc}
use Rattle.std.proofs.lemmas.List.{take_all, drop_all, length-take, nil_from_length}
use Rattle.std.proofs.Math.Seq.{take-append-add}
use Rattle.std.proofs.KnownBytes.{Consumes-nil, Consumes-trans, Consumes-kept}
use Rattle.std.specs.Io.KnownBytes.{Consumes, Keeps, IsAtEnd}
use Rattle.pc_text.specs.Fields.{run_len}
use Rattle.pc_edges.specs.Pulls.{CameIn, TakesPulls}
use Rattle.pc_edges.specs.declared.loading.TheConstants.{STREAM_ROOM}
use Rattle.pc_edges.proofs.PullLaws.{CameIn-more}
use Rattle.pc_edges.specs.declared.lines.reader.TheConstants.{INPUT_LIMIT, LINE_ROOM}
use Rattle.pc_edges.specs.lines.Lines.{last_line, lines_of, whole_lines}
use Rattle.pc_edges.specs.inside.lines.Lines.{text_of_lines, IsOpen, AreOpen}
use Rattle.pc_edges.specs.inside.lines.Reading.{Reading, kept, StandsFor, bytes_left, TookAll, TookLine, IsFilled, HasPulled, no_pull, some_pulls, Gave, GaveLast, GaveAll, FailedBehind, PassedLimit}
use Rattle.pc_edges.proofs.lemmas.lines.HoldLemmas.{take-of_cut}
use Rattle.pc_edges.proofs.lemmas.lines.LineLaws.{line-splits, line-open, IsOpen-append, text_of_lines-more, AreOpen-more, whole_lines-are, lines_of-are, last_line-some}

-- ---- what is taken of the bytes ahead

pub took_all : (old held new : Reading) (count : ℕ) → count ≡ run_len 10 old.ahead → count ≡ length old.ahead
    → held ≡ record old { line = take LINE_ROOM (old.line ++ take count old.ahead) } → new ≡ record held { ahead = drop count held.ahead } → TookAll old new
took_all old held new count is all holds passes =
    let passed : new ≡ record { line = take LINE_ROOM (old.line ++ take count old.ahead); ahead = drop count old.ahead; taken = old.taken } =
    passes ∙ ap (λ (r : Reading). record r { ahead = drop count r.ahead }) holds in
    record {
      nothing = ap (λ (r : Reading). r.ahead) passed ∙ drop_all count old.ahead (omega arith);
      no_end = line-open old.ahead (sym is ∙ all);
      kept_is = ap (λ (r : Reading). r.line) passed ∙ ap (λ l. kept (old.line ++ l)) (take_all count old.ahead (omega arith));
      same = ap (λ (r : Reading). r.taken) passed;
    }

pub took_line : (old held new : Reading) (count : ℕ) → count ≡ run_len 10 old.ahead → count < length old.ahead
    → held ≡ record old { line = take LINE_ROOM (old.line ++ take count old.ahead) } → new ≡ record held { ahead = drop (count + 1) held.ahead }
    → (front : List ℕ) × TookLine old new front
took_line old held new count is less holds passes =
    let passed : new ≡ record { line = take LINE_ROOM (old.line ++ take count old.ahead); ahead = drop (count + 1) old.ahead; taken = old.taken } =
    passes ∙ ap (λ (r : Reading). record r { ahead = drop (count + 1) r.ahead }) holds in
    let parts = line-splits old.ahead (omega (arith, is, less)) in (
      take count old.ahead,
      record {
        split = parts.0 ∙ ap (λ n. take n old.ahead ++ 10 ∷ drop (n + 1) old.ahead) (sym is) ∙ ap (λ l. take count old.ahead ++ 10 ∷ l) (sym (ap (λ (r : Reading). r.ahead) passed));
        no_end = subst (λ n. IsOpen (take n old.ahead)) (sym is) (parts.1);
        kept_is = ap (λ (r : Reading). r.line) passed;
        same = ap (λ (r : Reading). r.taken) passed;
      },
    )

-- ---- within a step

-- some bytes were pulled since the lines were given; within the limit they continue with a part of the next line, and
-- then with the bytes ahead
pub record IsWithin (lines : List (List ℕ)) (bytes : List ℕ) (left left_now : Option (List ℕ)) (reading : Reading) : Type 0 where
  pub part : List ℕ
  pub more : List ℕ
  pub taken : Consumes left left_now more
  pub whole : take INPUT_LIMIT (bytes ++ more) ≡ text_of_lines lines ++ (part ++ reading.ahead)
  pub ends : AreOpen lines
  pub no_end : IsOpen part
  pub is : reading.line ≡ kept part
  pub count : reading.taken ≡ length (bytes ++ more)

pub begins : {lines : List (List ℕ)} {bytes : List ℕ} (left : Option (List ℕ)) (start now : Reading) → StandsFor start lines bytes → now ≡ record start { line = [] }
    → IsWithin lines bytes left left now
begins {lines} {bytes} left start now h is = record {
  part = [];
  more = [];
  taken = Consumes-nil left;
  whole = ap (take INPUT_LIMIT) (append-nil bytes) ∙ h.whole ∙ ap (λ l. text_of_lines lines ++ l) (sym (ap (λ (r : Reading). r.ahead) is));
  ends = h.ends;
  no_end = tt;
  is = ap (λ (r : Reading). r.line) is;
  count = ap (λ (r : Reading). r.taken) is ∙ h.count ∙ ap length (sym (append-nil bytes));
}

-- what was pulled since the lines were given
pub record IsUnder {X : Type 0} (left : X → Option (List ℕ)) (faults : X → ℕ) (pulls : X → Option ℕ) (source source_now : X) (lines : List (List ℕ)) (bytes : List ℕ) (reading : Reading) : Type 0 where
  pub within : IsWithin lines bytes (left source) (left source_now) reading
  pub pieces : List (List ℕ)
  pub each : CameIn left faults pulls pieces within.more source source_now
  pub pulled : HasPulled left faults pulls source source_now lines bytes

pub begins_under : {X : Type 0} (left : X → Option (List ℕ)) (faults : X → ℕ) (pulls : X → Option ℕ) (source : X) {lines : List (List ℕ)} {bytes : List ℕ} (start now : Reading)
    → StandsFor start lines bytes → now ≡ record start { line = [] } → IsUnder left faults pulls source source lines bytes now
unfolding begins
begins_under left faults pulls source start now h is = record {
  within = begins (left source) start now h is;
  pieces = [];
  each = (refl, refl);
  pulled = no_pull refl;
}

-- a line ends in the bytes ahead
pub gives : {X : Type 0} {left : X → Option (List ℕ)} {faults : X → ℕ} {pulls : X → Option ℕ} {source source_now : X} {lines : List (List ℕ)} {bytes : List ℕ} {old : Reading}
    (new : Reading) (front : List ℕ) → IsUnder left faults pulls source source_now lines bytes old → TookLine old new front → Gave left faults pulls source source_now lines bytes new
gives {lines = lines} {bytes = bytes} {old = old} new front u took =
    let h = u.within in
    let line = h.part ++ front in
    record {
      line = line;
      more = h.more;
      pieces = u.pieces;
      taken = u.each;
      pulled = u.pulled;
      is = took.kept_is ∙ ap (λ l. kept (l ++ front)) h.is ∙ take-of_cut LINE_ROOM h.part front;
      stands = record {
        whole =
            h.whole
            ∙ ap (λ l. text_of_lines lines ++ (h.part ++ l)) took.split
            ∙ ap (λ l. text_of_lines lines ++ l) (sym (append_assoc h.part front (10 ∷ new.ahead)) ∙ sym (append_assoc line (10 ∷ []) new.ahead))
            ∙ sym (append_assoc (text_of_lines lines) (line ++ 10 ∷ []) new.ahead)
            ∙ ap (λ l. l ++ new.ahead) (sym (text_of_lines-more lines line));
        ends = AreOpen-more lines line h.ends (IsOpen-append h.part front h.no_end took.no_end);
        count = took.same ∙ h.count;
      };
    }

-- no line ends in the bytes ahead
pub goes_on : {lines : List (List ℕ)} {bytes : List ℕ} {left left_now : Option (List ℕ)} {old : Reading} (new : Reading)
    → IsWithin lines bytes left left_now old → TookAll old new → IsWithin lines bytes left left_now new
goes_on {lines} {old = old} new h took = record {
  part = h.part ++ old.ahead;
  more = h.more;
  taken = h.taken;
  whole = h.whole ∙ ap (λ l. text_of_lines lines ++ l) (sym (append-nil (h.part ++ old.ahead)) ∙ ap (λ l. (h.part ++ old.ahead) ++ l) (sym took.nothing));
  ends = h.ends;
  no_end = IsOpen-append h.part old.ahead h.no_end took.no_end;
  is = took.kept_is ∙ ap (λ l. kept (l ++ old.ahead)) h.is ∙ take-of_cut LINE_ROOM h.part old.ahead;
  count = took.same ∙ h.count;
}

pub goes_on_under : {X : Type 0} {left : X → Option (List ℕ)} {faults : X → ℕ} {pulls : X → Option ℕ} {source source_now : X} {lines : List (List ℕ)} {bytes : List ℕ} {old : Reading} (new : Reading)
    → IsUnder left faults pulls source source_now lines bytes old → TookAll old new → IsUnder left faults pulls source source_now lines bytes new
unfolding goes_on
goes_on_under new u took = record { within = goes_on new u.within took; pieces = u.pieces; each = u.each; pulled = u.pulled }

-- of all bytes that were pulled before and those that are pulled now, the ones within the limit
within_limit : (limit : ℕ) (bytes more : List ℕ) → length bytes ≤ limit → take limit (bytes ++ more) ≡ bytes ++ take (limit - length bytes) more
within_limit limit bytes more fits =
    let split : limit ≡ length bytes + (limit - length bytes) = omega arith in
    ap (λ n. take n (bytes ++ more)) split ∙ take-append-add bytes more (limit - length bytes)

-- all bytes that were pulled are within the limit, and nothing is ahead
short_whole : {lines : List (List ℕ)} {bytes : List ℕ} {left left_now : Option (List ℕ)} {reading : Reading} (h : IsWithin lines bytes left left_now reading)
    → reading.ahead ≡ [] → reading.taken ≤ INPUT_LIMIT → bytes ++ h.more ≡ text_of_lines lines ++ h.part
short_whole {lines} {bytes} h nothing fits =
    sym (take_all INPUT_LIMIT (bytes ++ h.more) (omega (arith, h.count, fits))) ∙ h.whole ∙ ap (λ l. text_of_lines lines ++ (h.part ++ l)) nothing ∙ ap (λ l. text_of_lines lines ++ l)
    (append-nil h.part)

-- the next bytes are pulled
pub fills : {lines : List (List ℕ)} {bytes : List ℕ} {left left_now : Option (List ℕ)} (left_after : Option (List ℕ)) {old : Reading} (new : Reading) (count : ℕ)
    → IsWithin lines bytes left left_now old → old.ahead ≡ [] → old.taken ≤ INPUT_LIMIT → IsFilled old new left_now left_after count
    → IsWithin lines bytes left left_after new
fills {lines} {bytes} left_after {old} new count h nothing fits f =
    let all = bytes ++ h.more in
    record {
      part = h.part;
      more = h.more ++ f.more;
      taken = Consumes-trans _ _ _ h.more f.more h.taken f.taken;
      whole =
          ap (take INPUT_LIMIT) (sym (append_assoc bytes h.more f.more))
          ∙ within_limit INPUT_LIMIT all f.more (omega (arith, h.count, fits))
          ∙ ap (λ n. all ++ take (INPUT_LIMIT - n) f.more) (sym h.count)
          ∙ ap (λ l. all ++ l) (sym f.ahead)
          ∙ ap (λ l. l ++ new.ahead) (short_whole h nothing fits)
          ∙ append_assoc (text_of_lines lines) h.part new.ahead;
      ends = h.ends;
      no_end = h.no_end;
      is = f.same ∙ h.is;
      count = f.counted ∙ ap (λ n. n + count) h.count ∙ ap (λ n. length all + n) (sym f.length_is) ∙ sym (length-append all f.more) ∙ ap length (append_assoc bytes h.more f.more);
    }

-- one pull more: the lines are all complete ones before it
pub pulls_once : {X : Type 0} {left : X → Option (List ℕ)} {faults : X → ℕ} {pulls : X → Option ℕ} {source source_now : X} {lines : List (List ℕ)} {bytes : List ℕ}
    (source_after : X) {reading : Reading} → IsUnder left faults pulls source source_now lines bytes reading → reading.ahead ≡ [] → reading.taken ≤ INPUT_LIMIT
    → (last : List ℕ) → Consumes (left source_now) (left source_after) last → length last ≤ STREAM_ROOM → TakesPulls 1 (pulls source_now) (pulls source_after)
    → HasPulled left faults pulls source source_after lines bytes
pulls_once {source_now = source_now} {lines = lines} source_after u nothing fits last taken room once =
    let h = u.within in
    some_pulls source_now u.pieces h.more last u.each (omega (arith, h.count, fits)) taken room once
    (ap whole_lines (short_whole h nothing fits) ∙ whole_lines-are lines h.part h.ends h.no_end)

-- and it gives some bytes
pub fills_under : {X : Type 0} {left : X → Option (List ℕ)} {faults : X → ℕ} {pulls : X → Option ℕ} {source source_now : X} {lines : List (List ℕ)} {bytes : List ℕ}
    (source_after : X) {old : Reading} (new : Reading) (count : ℕ)
    → IsUnder left faults pulls source source_now lines bytes old → old.ahead ≡ [] → old.taken ≤ INPUT_LIMIT → IsFilled old new (left source_now) (left source_after) count
    → TakesPulls 1 (pulls source_now) (pulls source_after) → faults source_after ≡ faults source_now → 0 < count → IsUnder left faults pulls source source_after lines bytes new
unfolding fills
fills_under {left = left} {faults = faults} {pulls = pulls} {source = source} {source_now = source_now} source_after new count u nothing fits f once no_fault some = record {
  within = fills (left source_after) new count u.within nothing fits f;
  pieces = u.pieces ++ f.more ∷ [];
  each = CameIn-more left faults pulls u.pieces u.within.more f.more source source_now source_after u.each (omega (arith, f.length_is, some)) f.taken no_fault once;
  pulled = pulls_once source_after u nothing fits f.more f.taken f.room once;
}

-- no byte is pulled
pub fills_nothing : {old new : Reading} {left left_after : Option (List ℕ)} (count : ℕ) → IsFilled old new left left_after count → count ≡ 0 → new.ahead ≡ []
fills_nothing {old} {new} count f none =
    nil_from_length new.ahead (omega (arith, ap length f.ahead, length-take (INPUT_LIMIT - old.taken) f.more, f.length_is, none))

-- ---- where a step ends

part_empty : (part line : List ℕ) → line ≡ kept part → length line ≡ 0 → part ≡ []
part_empty part line is none = nil_from_length part (omega (arith, ap length is, length-take LINE_ROOM part, none))

pub ends_all : {X : Type 0} {left : X → Option (List ℕ)} {faults : X → ℕ} {pulls : X → Option ℕ} {source source_now : X} {lines : List (List ℕ)} {bytes : List ℕ} {reading : Reading}
    → IsWithin lines bytes (left source) (left source_now) reading → HasPulled left faults pulls source source_now lines bytes
    → reading.ahead ≡ [] → reading.taken ≤ INPUT_LIMIT → IsAtEnd (left source_now) → length reading.line ≡ 0 → GaveAll left faults pulls source source_now lines bytes
ends_all {lines = lines} {bytes = bytes} {reading = reading} h pulled nothing fits end none =
    let empty : h.part ≡ [] = part_empty h.part reading.line h.is none in
    record {
      more = h.more;
      taken = h.taken;
      pulled = pulled;
      end = end;
      short = omega (arith, h.count, fits);
      all = ap lines_of (short_whole h nothing fits) ∙ lines_of-are lines h.part h.ends h.no_end ∙ ap (λ l. lines ++ last_line l) empty ∙ append-nil lines;
    }

pub ends_last : {X : Type 0} {left : X → Option (List ℕ)} {faults : X → ℕ} {pulls : X → Option ℕ} {source source_now : X} {lines : List (List ℕ)} {bytes : List ℕ} {reading : Reading}
    → IsWithin lines bytes (left source) (left source_now) reading → HasPulled left faults pulls source source_now lines bytes
    → reading.ahead ≡ [] → reading.taken ≤ INPUT_LIMIT → IsAtEnd (left source_now) → length reading.line ≢ 0 → GaveLast left faults pulls source source_now lines bytes reading
ends_last {lines = lines} {bytes = bytes} {reading = reading} h pulled nothing fits end some =
    let full : h.part ≢ [] = λ empty. some (ap length (h.is ∙ ap kept empty)) in
    record {
      line = h.part;
      more = h.more;
      taken = h.taken;
      pulled = pulled;
      end = end;
      short = omega (arith, h.count, fits);
      is = h.is;
      all = ap lines_of (short_whole h nothing fits) ∙ lines_of-are lines h.part h.ends h.no_end ∙ ap (λ l. lines ++ l) (last_line-some h.part full);
    }

pub fails : {X : Type 0} {left : X → Option (List ℕ)} {faults : X → ℕ} {pulls : X → Option ℕ} {source source_now : X} {lines : List (List ℕ)} {bytes : List ℕ} (source_after : X) {reading : Reading}
    → IsUnder left faults pulls source source_now lines bytes reading → reading.ahead ≡ [] → reading.taken ≤ INPUT_LIMIT → Keeps (left source_now) (left source_after)
    → TakesPulls 1 (pulls source_now) (pulls source_after) → FailedBehind left faults pulls source source_after lines bytes
fails {left = left} {source_now = source_now} {lines = lines} {bytes = bytes} source_after u nothing fits keeps once =
    let h = u.within in
    record {
      more = h.more;
      taken = Consumes-kept _ _ _ h.more h.taken keeps;
      pulled = pulls_once source_after u nothing fits [] (Consumes-kept _ _ _ [] (Consumes-nil (left source_now)) keeps) (omega arith) once;
      short = omega (arith, h.count, fits);
      all = ap whole_lines (short_whole h nothing fits) ∙ whole_lines-are lines h.part h.ends h.no_end;
    }

pub passes : {X : Type 0} {left : X → Option (List ℕ)} {faults : X → ℕ} {pulls : X → Option ℕ} {source source_now : X} {lines : List (List ℕ)} {bytes : List ℕ} {reading : Reading}
    → IsUnder left faults pulls source source_now lines bytes reading → reading.ahead ≡ [] → INPUT_LIMIT < reading.taken → PassedLimit left faults pulls source source_now lines bytes
passes {lines = lines} {bytes = bytes} u nothing long =
    let h = u.within in
    record {
      more = h.more;
      taken = h.taken;
      pulled = u.pulled;
      long = omega (arith, h.count, long);
      all =
          ap whole_lines (h.whole ∙ ap (λ l. text_of_lines lines ++ (h.part ++ l)) nothing ∙ ap (λ l. text_of_lines lines ++ l) (append-nil h.part))
          ∙ whole_lines-are lines h.part h.ends h.no_end;
    }

-- ---- how much is left

pub left-of_all : {old new : Reading} → TookAll old new → bytes_left new ≤ bytes_left old
left-of_all {old} {new} took = omega (arith, took.same, ap length took.nothing)

pub left-filled : {old new : Reading} {left left_after : Option (List ℕ)} (count : ℕ) → IsFilled old new left left_after count → old.ahead ≡ [] → bytes_left new ≤ bytes_left old
left-filled {old} {new} count f nothing =
    omega (arith, f.counted, f.length_is, ap length f.ahead, length-take (INPUT_LIMIT - old.taken) f.more, ap length nothing)

-- no byte of an open text ends a line
lacks_at : (bytes : List ℕ) → IsOpen bytes → (k : ℕ) → k < length bytes → get_or bytes k 10 ≡ 10 → ⊥
lacks_at [] h k less is = absurd (omega (arith, less))
lacks_at (b ∷ bytes) h zero less is = h.0 is
lacks_at (b ∷ bytes) h (suc k) less is = lacks_at bytes (h.1) k (omega (arith, less)) is

pub open_lacks : (bytes : List ℕ) → IsOpen bytes → Contains bytes 10 → ⊥
open_lacks bytes h has = lacks_at bytes h (has.0) (has.1) (has.2)

-- ---- what a step keeps before it ends

pub record Keeping {S : Type 0} (start now : Reading) (left : S → Option (List ℕ)) (pulls : S → Option ℕ) (faults : S → ℕ) (source source_now : S) : Type 0 where
  pub under : (lines : List (List ℕ)) (bytes : List ℕ) → StandsFor start lines bytes → IsUnder left faults pulls source source_now lines bytes now
  pub unpulled : Contains start.ahead 10 → (source_now ≡ source) × (now.ahead ≡ start.ahead)
  pub less : bytes_left now ≤ bytes_left start
  pub no_fault : faults source_now ≡ faults source
