-- How a session continues and ends.
use Rattle.std.proofs.Common.{◌≡◌, ℕ, List, [], ◌∷◌, ◌++◌, map, Option, refl, sym, ap, ◌∙◌, subst, arith, append_assoc, append-nil}
use Rattle.std.proofs.lemmas.List.{map-append, take_all}
use Rattle.std.proofs.KnownBytes.{Consumes-nil, Consumes-trans}
use Rattle.std.specs.Io.KnownBytes.{Consumes}
use Rattle.pc_edges.specs.Faults.{Rose}
use Rattle.pc_edges.specs.Writes.{Wrote, Stopped}
use Rattle.pc_edges.proofs.Writing.{Rose-earlier, Wrote-nil, Wrote-then, Stopped-after}
use Rattle.pc_edges.specs.declared.lines.reader.TheConstants.{INPUT_LIMIT}
use Rattle.pc_edges.specs.lines.Lines.{lines_of, whole_lines}
use Rattle.pc_edges.specs.lines.Taken.{of_whole, of_all, IsTakenWithin, IsTakenFor, IsTakenForLast}
use Rattle.pc_edges.specs.Pulls.{CameIn}
use Rattle.pc_edges.proofs.PullLaws.{CameIn-then, CameIn-consumes, TakesPulls-none}
use Rattle.pc_edges.specs.inside.lines.Reading.{Reading, kept, StandsFor, HasPulled, no_pull, some_pulls, Gave, GaveLast, GaveAll, FailedBehind, PassedLimit}
use Rattle.pc_edges.proofs.lemmas.lines.LineLaws.{lines_of-front, whole_lines-front}
use Rattle.pc_edges.specs.inside.lines.Talk.{Talks, Answered, IsDone, IsUnread, IsTooLong, IsCut}

-- one line more is answered
pub Talks-more : {T : Type 0} (says : T → List ℕ → List ℕ → T → Type 0) (old middle new : T) (lines : List (List ℕ)) (line text answer : List ℕ)
    → Talks says old lines text middle → says middle line answer new → Talks says old (lines ++ line ∷ []) (text ++ answer) new
Talks-more says old middle new [] line text answer p said =
    (answer, [], new, ap (λ t. t ++ answer) (p.0) ∙ sym (append-nil answer), subst (λ t. says t line answer new) (p.1) said, (refl, refl))
Talks-more says old middle new (first ∷ lines) line text answer p said =
    let rest = p.1 in
    (p.0, rest ++ answer, p.2, ap (λ t. t ++ answer) (p.3) ∙ append_assoc (p.0) rest answer, p.4, Talks-more says (p.2) middle new lines line rest answer (p.5) said)

pub Answered-more : {T : Type 0} (says : T → List ℕ → List ℕ → T → Type 0) (old middle new : T) (lines : List (List ℕ)) (line text answer : List ℕ)
    → Answered says old lines text middle → says middle (kept line) answer new → Answered says old (lines ++ line ∷ []) (text ++ answer) new
Answered-more says old middle new lines line text answer p said =
    subst (λ ls. Talks says old ls (text ++ answer) new) (sym (map-append kept lines (line ∷ []))) (Talks-more says old middle new (map kept lines) (kept line) text answer p said)

-- ---- a talk under way

pub record IsTalking {T C O : Type 0} (says : T → List ℕ → List ℕ → T → Type 0) (left : C → Option (List ℕ)) (source_faults : C → ℕ) (pulls : C → Option ℕ)
    (taken : O → Option (List ℕ)) (sink_faults : O → ℕ) (talker talker_now : T) (source source_now : C) (out out_now : O) (reading : Reading) : Type 0 where
  pub lines : List (List ℕ)
  pub bytes : List ℕ
  pub text : List ℕ
  pub pieces : List (List ℕ)
  pub read : CameIn left source_faults pulls pieces bytes source source_now
  pub taken_for : IsTakenFor left source_faults pulls source source_now lines
  pub no_fault : source_faults source_now ≡ source_faults source
  pub stands : StandsFor reading lines bytes
  pub answered : Answered says talker lines text talker_now
  pub wrote : Wrote (taken out) (taken out_now) (sink_faults out) (sink_faults out_now) text

-- nothing is taken
pub taken_none : {C : Type 0} (left : C → Option (List ℕ)) (faults : C → ℕ) (pulls : C → Option ℕ) (source : C) → IsTakenFor left faults pulls source source []
taken_none left faults pulls source = record {
  taken = record {
    before = source;
    pieces = [];
    front = [];
    last = [];
    came = (refl, refl);
    within = omega arith;
    pulled = Consumes-nil (left source);
    short = omega arith;
    once = TakesPulls-none 1 (pulls source);
  };
  others = [];
  whole = refl;
}

-- the last of lines is the one that was cut
taken_last : {C : Type 0} {left : C → Option (List ℕ)} {faults : C → ℕ} {pulls : C → Option ℕ} {source source_after : C} (lines : List (List ℕ)) (line : List ℕ)
    → IsTakenFor left faults pulls source source_after lines → IsTakenForLast left faults pulls source source_after (lines ++ line ∷ [])
taken_last lines line is = record { earlier = lines; line = line; are = refl; taken = is }

-- one line more is given
taken_more : {C : Type 0} {left : C → Option (List ℕ)} {faults : C → ℕ} {pulls : C → Option ℕ} {source source_after : C} (lines : List (List ℕ)) (line : List ℕ)
    → IsTakenFor left faults pulls source source_after lines → IsTakenFor left faults pulls source source_after (lines ++ line ∷ [])
taken_more lines line is = record {
  taken = is.taken;
  others = is.others ++ line ∷ [];
  whole = ap (λ ls. ls ++ line ∷ []) is.whole ∙ append_assoc (whole_lines is.taken.front) is.others (line ∷ []);
}

module _ {T C O : Type 0} {says : T → List ℕ → List ℕ → T → Type 0} {left : C → Option (List ℕ)} {source_faults : C → ℕ} {pulls : C → Option ℕ}
    {taken : O → Option (List ℕ)} {sink_faults : O → ℕ} where
  pub begins : (talker : T) (source : C) (out : O) (reading : Reading) → StandsFor reading [] [] → IsTalking says left source_faults pulls taken sink_faults talker talker source source out out reading
  begins talker source out reading stands = record {
    lines = [];
    bytes = [];
    text = [];
    pieces = [];
    read = (refl, refl);
    taken_for = taken_none left source_faults pulls source;
    no_fault = refl;
    stands = stands;
    answered = (refl, refl);
    wrote = Wrote-nil (taken out) (sink_faults out);
  }

  module _ {talker talker_now : T} {source source_now : C} {out out_now : O} {reading : Reading}
      (h : IsTalking says left source_faults pulls taken sink_faults talker talker_now source source_now out out_now reading) where
    -- what was pulled so far
    taken_so_far : Consumes (left source) (left source_now) h.bytes
    taken_so_far = CameIn-consumes left source_faults pulls h.pieces h.bytes source source_now h.read

    -- what a step pulls follows what was pulled before it
    taken_on : (source_after : C) → HasPulled left source_faults pulls source_now source_after h.lines h.bytes → IsTakenFor left source_faults pulls source source_after h.lines
    taken_on source_after (no_pull same) = subst (λ s. IsTakenFor left source_faults pulls source s h.lines) (sym same) h.taken_for
    taken_on source_after (some_pulls before pieces more last came within pulled short once whole) = record {
      taken = record {
        before = before;
        pieces = h.pieces ++ pieces;
        front = h.bytes ++ more;
        last = last;
        came = CameIn-then left source_faults pulls h.pieces pieces h.bytes more source source_now before h.read came;
        within = within;
        pulled = pulled;
        short = short;
        once = once;
      };
      others = [];
      whole = sym whole ∙ sym (append-nil (whole_lines (h.bytes ++ more)));
    }

    -- so reading stopped where it should
    pub stopped_at : (source_after : C) → HasPulled left source_faults pulls source_now source_after h.lines h.bytes → IsTakenWithin left source_faults pulls source source_after
    stopped_at source_after pulled = (taken_on source_after pulled).taken

    -- a line was given and answered
    pub goes_on : (talker_after : T) (source_after : C) (out_after : O) (reading_after : Reading) (answer : List ℕ)
        → (gave : Gave left source_faults pulls source_now source_after h.lines h.bytes reading_after) → source_faults source_after ≡ source_faults source_now
        → says talker_now reading_after.line answer talker_after → Wrote (taken out_now) (taken out_after) (sink_faults out_now) (sink_faults out_after) answer
        → IsTalking says left source_faults pulls taken sink_faults talker talker_after source source_after out out_after reading_after
    goes_on talker_after source_after out_after reading_after answer gave no_fault said wrote = record {
      lines = h.lines ++ gave.line ∷ [];
      bytes = h.bytes ++ gave.more;
      text = h.text ++ answer;
      pieces = h.pieces ++ gave.pieces;
      read = CameIn-then left source_faults pulls h.pieces gave.pieces h.bytes gave.more source source_now source_after h.read gave.taken;
      taken_for = taken_more h.lines gave.line (taken_on source_after gave.pulled);
      no_fault = no_fault ∙ h.no_fault;
      stands = gave.stands;
      answered = Answered-more says talker talker_now talker_after h.lines gave.line h.text answer h.answered (subst (λ l. says talker_now l answer talker_after) gave.is said);
      wrote = Wrote-then h.wrote wrote;
    }

    -- a line was given, and its answer was cut
    pub cut_in : (talker_after : T) (source_after : C) (out_after : O) (reading_after : Reading) (answer : List ℕ)
        → (gave : Gave left source_faults pulls source_now source_after h.lines h.bytes reading_after) → source_faults source_after ≡ source_faults source_now
        → says talker_now reading_after.line answer talker_after → Stopped (taken out_now) (taken out_after) (sink_faults out_now) (sink_faults out_after) answer
        → IsCut says left source_faults pulls taken sink_faults talker talker_after source source_after out out_after
    cut_in talker_after source_after out_after reading_after answer gave no_fault said stopped = record {
      bytes = h.bytes ++ gave.more;
      text = h.text ++ answer;
      lines = h.lines ++ gave.line ∷ [];
      others = lines_of reading_after.ahead;
      read = Consumes-trans _ _ _ h.bytes gave.more taken_so_far (CameIn-consumes left source_faults pulls gave.pieces gave.more source_now source_after gave.taken);
      no_fault = no_fault ∙ h.no_fault;
      first = ap lines_of gave.stands.whole ∙ lines_of-front (h.lines ++ gave.line ∷ []) reading_after.ahead gave.stands.ends;
      are_first = of_whole (whole_lines reading_after.ahead) (ap whole_lines gave.stands.whole ∙ whole_lines-front (h.lines ++ gave.line ∷ []) reading_after.ahead gave.stands.ends);
      at_once = taken_last h.lines gave.line (taken_on source_after gave.pulled);
      answered = Answered-more says talker talker_now talker_after h.lines gave.line h.text answer h.answered (subst (λ l. says talker_now l answer talker_after) gave.is said);
      stopped = Stopped-after h.wrote stopped;
    }

    -- the last line, which has no end, was answered
    pub last_answered : (talker_after : T) (source_after : C) (out_after : O) (reading_after : Reading) (answer : List ℕ)
        → (gave : GaveLast left source_faults pulls source_now source_after h.lines h.bytes reading_after) → source_faults source_after ≡ source_faults source_now
        → says talker_now reading_after.line answer talker_after → Wrote (taken out_now) (taken out_after) (sink_faults out_now) (sink_faults out_after) answer
        → IsDone says left source_faults pulls taken sink_faults talker talker_after source source_after out out_after
    last_answered talker_after source_after out_after reading_after answer gave no_fault said wrote = record {
      bytes = h.bytes ++ gave.more;
      text = h.text ++ answer;
      read = Consumes-trans _ _ _ h.bytes gave.more taken_so_far gave.taken;
      end = gave.end;
      no_fault = no_fault ∙ h.no_fault;
      short = gave.short;
      answered = subst (λ ls. Answered says talker ls (h.text ++ answer) talker_after) (sym gave.all)
          (Answered-more says talker talker_now talker_after h.lines gave.line h.text answer h.answered (subst (λ l. says talker_now l answer talker_after) gave.is said));
      wrote = Wrote-then h.wrote wrote;
    }

    pub last_cut : (talker_after : T) (source_after : C) (out_after : O) (reading_after : Reading) (answer : List ℕ)
        → (gave : GaveLast left source_faults pulls source_now source_after h.lines h.bytes reading_after) → source_faults source_after ≡ source_faults source_now
        → says talker_now reading_after.line answer talker_after → Stopped (taken out_now) (taken out_after) (sink_faults out_now) (sink_faults out_after) answer
        → IsCut says left source_faults pulls taken sink_faults talker talker_after source source_after out out_after
    last_cut talker_after source_after out_after reading_after answer gave no_fault said stopped = record {
      bytes = h.bytes ++ gave.more;
      text = h.text ++ answer;
      lines = h.lines ++ gave.line ∷ [];
      others = [];
      read = Consumes-trans _ _ _ h.bytes gave.more taken_so_far gave.taken;
      no_fault = no_fault ∙ h.no_fault;
      first = ap lines_of (take_all INPUT_LIMIT (h.bytes ++ gave.more) gave.short) ∙ gave.all ∙ sym (append-nil (h.lines ++ gave.line ∷ []));
      are_first = of_all gave.end gave.short [] (gave.all ∙ sym (append-nil (h.lines ++ gave.line ∷ [])));
      at_once = taken_last h.lines gave.line (taken_on source_after gave.pulled);
      answered = Answered-more says talker talker_now talker_after h.lines gave.line h.text answer h.answered (subst (λ l. says talker_now l answer talker_after) gave.is said);
      stopped = Stopped-after h.wrote stopped;
    }

    -- there is no further line
    pub ended : (source_after : C) → (gave : GaveAll left source_faults pulls source_now source_after h.lines h.bytes) → source_faults source_after ≡ source_faults source_now
        → IsDone says left source_faults pulls taken sink_faults talker talker_now source source_after out out_now
    ended source_after gave no_fault = record {
      bytes = h.bytes ++ gave.more;
      text = h.text;
      read = Consumes-trans _ _ _ h.bytes gave.more taken_so_far gave.taken;
      end = gave.end;
      no_fault = no_fault ∙ h.no_fault;
      short = gave.short;
      answered = subst (λ ls. Answered says talker ls h.text talker_now) (sym gave.all) h.answered;
      wrote = h.wrote;
    }

    pub unread : (source_after : C) → (failed : FailedBehind left source_faults pulls source_now source_after h.lines h.bytes) → Rose (source_faults source_now) (source_faults source_after)
        → IsUnread says left source_faults pulls taken sink_faults talker talker_now source source_after out out_now
    unread source_after failed rose = record {
      bytes = h.bytes ++ failed.more;
      text = h.text;
      read = Consumes-trans _ _ _ h.bytes failed.more taken_so_far failed.taken;
      fault = Rose-earlier (source_faults source) (source_faults source_now) (source_faults source_after) (omega (arith, h.no_fault)) rose;
      short = failed.short;
      answered = subst (λ ls. Answered says talker ls h.text talker_now) (sym failed.all) h.answered;
      wrote = h.wrote;
    }

    pub too_long : (source_after : C) → (passed : PassedLimit left source_faults pulls source_now source_after h.lines h.bytes) → source_faults source_after ≡ source_faults source_now
        → IsTooLong says left source_faults pulls taken sink_faults talker talker_now source source_after out out_now
    too_long source_after passed no_fault = record {
      bytes = h.bytes ++ passed.more;
      text = h.text;
      read = Consumes-trans _ _ _ h.bytes passed.more taken_so_far passed.taken;
      no_fault = no_fault ∙ h.no_fault;
      long = passed.long;
      answered = subst (λ ls. Answered says talker ls h.text talker_now) (sym passed.all) h.answered;
      wrote = h.wrote;
    }
