-- A line that is read has this text, and the text of a line is read as it: no line has two texts, and no bytes are two
-- lines.
use Rattle.std.proofs.Common.{◌≡◌, ℕ, ◌≤◌, zero, suc, Bool, false, ◌||◌, cond, ltb, List, [], ◌∷◌, ◌++◌, length, take, drop, Option, Some, None, refl, sym, ap, subst, ◌∙◌, arith}
use Rattle.std.proofs.lemmas.Bool.{ltb-false, le-ltb}
use Rattle.std.proofs.lemmas.Bool.Decides.{nat_tests}
use Rattle.std.proofs.lemmas.List.{take-append-drop}
use Rattle.std.specs.Prelude.{codes, IfSome}
use Rattle.std.specs.Fmt.{decimal}
use Rattle.std.proofs.lemmas.Option.{same_Some}
use Rattle.pc_cert.specs.declared.line.CertLine.{CertLine}
use Rattle.pc_cert.specs.declared.line.CertLine.TheVariants.{Head, Normal, Step, Crash, Segment, Event, Act, Close, End}
use Rattle.pc_text.specs.Fields.{◌>>=◌, run_len, code_field, number_field, spaced, IsCode, alone}
use Rattle.pc_cert.specs.inside.Fields.{bit_text, bit_field}
use Rattle.pc_cert.specs.Lines.{numbers, spelling, IsSmall, AreSmall, IsWritable}
use Rattle.pc_cert.specs.inside.Reading.{head_from, step_from, segment_from, event_from, numbers_in, flows_of, act_from, line_with, line_of}
use Rattle.pc_cert.specs.declared.flows.TheConstants.{MAX_FLOWS}
use Rattle.pc_text.proofs.SpellingLemmas.{IsSpelled, either, no_name, one_word}
use Rattle.pc_text.proofs.FieldLemmas.{bind_some, alone_takes, unless_takes, unless_again, IsBehind, nothing, space, code_field_takes, code_field_again, number_field_takes, number_field_again}
use Rattle.pc_cert.proofs.FieldLemmas.{bit_field_takes, bit_field_again}
use Rattle.pc_cert.proofs.NumberLemmas.{limit}
use Rattle.pc_cert.specs.declared.number.TheConstants.{MAX_DIGITS}

-- the word and the fields are those of the line, which can be written
abbrev IsLine : List ℕ → List ℕ → CertLine → Type 0
IsLine word fields line = IsSpelled spelling IsWritable word fields line

-- ---- a walk's step

step_takes : (fields : List ℕ) (line : CertLine) → step_from fields ≡ Some line → IsLine (codes "STEP") fields line
unfolding step_from
step_takes fields line e =
    let code = bind_some (code_field fields) (λ code. alone (code.1) (Step (code.0))) line e in
    let end = alone_takes (code.0.1) (Step (code.0.0)) line (code.2) in
    let code_is = code_field_takes fields (code.0) (code.1) in
    subst (λ l. IsLine (codes "STEP") fields l) (end.1) (record {
      text = ap (λ x. codes "STEP" ++ x) (code_is.text ∙ ap (λ x. spaced (code.0.0) x) (end.0));
      fits = code_is.code_is;
    })

step_again : (code : List ℕ) → IsCode code → step_from (spaced code []) ≡ Some (Step code)
unfolding step_from
step_again code h = rw (code_field_again code [] h nothing) refl

-- ---- the first line

version_known : (version : ℕ) → (ltb version 1 || ltb 2 version) ≡ false → (1 ≤ version) × (version ≤ 2)
version_known version h = (grind (arith, nat_tests), grind (arith, nat_tests))

version_passes : (version : ℕ) → 1 ≤ version → version ≤ 2 → (ltb version 1 || ltb 2 version) ≡ false
version_passes version some few = grind (arith, nat_tests)

head_takes : (fields : List ℕ) (line : CertLine) → head_from fields ≡ Some line → IsLine (codes "CERT") fields line
unfolding head_from
head_takes fields line e =
    let made = λ (version : ℕ) (project : List ℕ) (events : ℕ) (activities : ℕ) (rest : List ℕ). cond (ltb version 1 || ltb 2 version) None (alone rest (Head version project events activities)) in
    let version = bind_some (number_field MAX_DIGITS fields)
    (λ version. code_field (version.1) >>=
    (λ project. number_field MAX_DIGITS (project.1) >>=
    (λ events. number_field MAX_DIGITS (events.1) >>= (λ activities. made (version.0) (project.0) (events.0) (activities.0) (activities.1))))) line
    e in
    let project = bind_some (code_field (version.0.1))
    (λ project. number_field MAX_DIGITS (project.1) >>=
    (λ events. number_field MAX_DIGITS (events.1) >>= (λ activities. made (version.0.0) (project.0) (events.0) (activities.0) (activities.1))))
    line (version.2) in
    let events = bind_some (number_field MAX_DIGITS (project.0.1))
    (λ events. number_field MAX_DIGITS (events.1) >>= (λ activities. made (version.0.0) (project.0.0) (events.0) (activities.0) (activities.1)))
    line (project.2) in
    let activities = bind_some (number_field MAX_DIGITS (events.0.1)) (λ activities. made (version.0.0) (project.0.0) (events.0.0) (activities.0) (activities.1)) line (events.2) in
    let known = unless_takes (ltb (version.0.0) 1 || ltb 2 (version.0.0)) (alone (activities.0.1) (Head (version.0.0) (project.0.0) (events.0.0) (activities.0.0))) line (activities.2) in
    let end = alone_takes (activities.0.1) (Head (version.0.0) (project.0.0) (events.0.0) (activities.0.0)) line (known.1) in
    let version_is = number_field_takes limit fields (version.0) (version.1) in
    let project_is = code_field_takes (version.0.1) (project.0) (project.1) in
    let events_is = number_field_takes limit (project.0.1) (events.0) (events.1) in
    let activities_is = number_field_takes limit (events.0.1) (activities.0) (activities.1) in
    subst (λ l. IsLine (codes "CERT") fields l) (end.1) (record {
      text = ap (λ x. codes "CERT" ++ x) (
          version_is.text ∙ ap (λ x. spaced (decimal (version.0.0)) x) (
          project_is.text ∙ ap (λ x. spaced (project.0.0) x) (
          events_is.text ∙ ap (λ x. spaced (decimal (events.0.0)) x) (
          activities_is.text ∙ ap (λ x. spaced (decimal (activities.0.0)) x) (end.0)))));
      fits = (version_known (version.0.0) (known.0), project_is.code_is, events_is.small, activities_is.small);
    })

head_again : (version : ℕ) (project : List ℕ) (events activities : ℕ) → IsWritable (Head version project events activities) →
    head_from (spaced (decimal version) (spaced project (spaced (decimal events) (spaced (decimal activities) []))))
    ≡ Some (Head version project events activities)
unfolding head_from
head_again version project events activities h =
    let small : IsSmall version = omega (arith, h.0.1) in
    rw (
      number_field_again limit version (spaced project (spaced (decimal events) (spaced (decimal activities) []))) small (space _),
      code_field_again project (spaced (decimal events) (spaced (decimal activities) [])) (h.1) (space _),
      number_field_again limit events (spaced (decimal activities) []) (h.2) (space _),
      number_field_again limit activities [] (h.3) nothing,
    ) (unless_again (ltb version 1 || ltb 2 version) (Some (Head version project events activities)) (version_passes version (h.0.0) (h.0.1)))

-- ---- a segment's first line

segment_takes : (fields : List ℕ) (line : CertLine) → segment_from fields ≡ Some line → IsLine (codes "SEGMENT") fields line
unfolding segment_from
segment_takes fields line e =
    let upper = bind_some (number_field MAX_DIGITS fields)
    (λ upper. number_field MAX_DIGITS (upper.1) >>=
    (λ lower. number_field MAX_DIGITS (lower.1) >>=
    (λ cost. number_field MAX_DIGITS (cost.1) >>= (λ slope. alone (slope.1) (Segment (upper.0) (lower.0) (cost.0) (slope.0)))))) line e in
    let lower = bind_some (number_field MAX_DIGITS (upper.0.1))
    (λ lower. number_field MAX_DIGITS (lower.1) >>=
    (λ cost. number_field MAX_DIGITS (cost.1) >>= (λ slope. alone (slope.1) (Segment (upper.0.0) (lower.0) (cost.0) (slope.0))))) line (upper.2) in
    let cost = bind_some (number_field MAX_DIGITS (lower.0.1))
    (λ cost. number_field MAX_DIGITS (cost.1) >>= (λ slope. alone (slope.1) (Segment (upper.0.0) (lower.0.0) (cost.0) (slope.0)))) line (lower.2) in
    let slope = bind_some (number_field MAX_DIGITS (cost.0.1)) (λ slope. alone (slope.1) (Segment (upper.0.0) (lower.0.0) (cost.0.0) (slope.0))) line (cost.2) in
    let end = alone_takes (slope.0.1) (Segment (upper.0.0) (lower.0.0) (cost.0.0) (slope.0.0)) line (slope.2) in
    let upper_is = number_field_takes limit fields (upper.0) (upper.1) in
    let lower_is = number_field_takes limit (upper.0.1) (lower.0) (lower.1) in
    let cost_is = number_field_takes limit (lower.0.1) (cost.0) (cost.1) in
    let slope_is = number_field_takes limit (cost.0.1) (slope.0) (slope.1) in
    subst (λ l. IsLine (codes "SEGMENT") fields l) (end.1) (record {
      text = ap (λ x. codes "SEGMENT" ++ x) (
          upper_is.text ∙ ap (λ x. spaced (decimal (upper.0.0)) x) (
          lower_is.text ∙ ap (λ x. spaced (decimal (lower.0.0)) x) (
          cost_is.text ∙ ap (λ x. spaced (decimal (cost.0.0)) x) (
          slope_is.text ∙ ap (λ x. spaced (decimal (slope.0.0)) x) (end.0)))));
      fits = (upper_is.small, lower_is.small, cost_is.small, slope_is.small);
    })

segment_again : (upper lower cost slope : ℕ) → IsWritable (Segment upper lower cost slope) →
    segment_from (spaced (decimal upper) (spaced (decimal lower) (spaced (decimal cost) (spaced (decimal slope) []))))
    ≡ Some (Segment upper lower cost slope)
unfolding segment_from
segment_again upper lower cost slope h =
    rw (
      number_field_again limit upper (spaced (decimal lower) (spaced (decimal cost) (spaced (decimal slope) []))) (h.0) (space _),
      number_field_again limit lower (spaced (decimal cost) (spaced (decimal slope) [])) (h.1) (space _),
      number_field_again limit cost (spaced (decimal slope) []) (h.2) (space _),
      number_field_again limit slope [] (h.3) nothing,
    ) refl

-- ---- an event

event_takes : (fields : List ℕ) (line : CertLine) → event_from fields ≡ Some line → IsLine (codes "EVENT") fields line
unfolding event_from
event_takes fields line e =
    let code = bind_some (code_field fields) (λ code. number_field MAX_DIGITS (code.1) >>= (λ time. bit_field (time.1) >>= (λ moves. alone (moves.1) (Event (code.0) (time.0) (moves.0))))) line e in
    let time = bind_some (number_field MAX_DIGITS (code.0.1)) (λ time. bit_field (time.1) >>= (λ moves. alone (moves.1) (Event (code.0.0) (time.0) (moves.0)))) line (code.2) in
    let moves = bind_some (bit_field (time.0.1)) (λ moves. alone (moves.1) (Event (code.0.0) (time.0.0) (moves.0))) line (time.2) in
    let end = alone_takes (moves.0.1) (Event (code.0.0) (time.0.0) (moves.0.0)) line (moves.2) in
    let code_is = code_field_takes fields (code.0) (code.1) in
    let time_is = number_field_takes limit (code.0.1) (time.0) (time.1) in
    let moves_is = bit_field_takes (time.0.1) (moves.0) (moves.1) in
    subst (λ l. IsLine (codes "EVENT") fields l) (end.1) (record {
      text = ap (λ x. codes "EVENT" ++ x) (
          code_is.text ∙ ap (λ x. spaced (code.0.0) x) (
          time_is.text ∙ ap (λ x. spaced (decimal (time.0.0)) x) (
          moves_is ∙ ap (λ x. spaced (bit_text (moves.0.0)) x) (end.0))));
      fits = (code_is.code_is, time_is.small);
    })

event_again : (code : List ℕ) (time : ℕ) (moves : Bool) → IsWritable (Event code time moves) →
    event_from (spaced code (spaced (decimal time) (spaced (bit_text moves) []))) ≡ Some (Event code time moves)
unfolding event_from
event_again code time moves h =
    rw (
      code_field_again code (spaced (decimal time) (spaced (bit_text moves) [])) (h.0) (space _),
      number_field_again limit time (spaced (bit_text moves) []) (h.1) (space _),
      bit_field_again moves [] nothing,
    ) refl

-- ---- an activity

numbers_in_nothing : (room : ℕ) → numbers_in room [] ≡ Some []
numbers_in_nothing room = refl

record AreTaken (room : ℕ) (fields ns : List ℕ) : Type 0 where
  text : fields ≡ numbers ns
  small : AreSmall ns
  few : length ns ≤ room

numbers_take : (room : ℕ) (fields ns : List ℕ) → numbers_in room fields ≡ Some ns → AreTaken room fields ns
numbers_take room [] ns e = subst (λ xs. AreTaken room [] xs) (same_Some [] ns e) (record { text = refl; small = tt; few = omega arith })
numbers_take zero (b ∷ bs) ns e = absurd cc
numbers_take (suc room) (b ∷ bs) ns e =
    let first = bind_some (number_field MAX_DIGITS (b ∷ bs)) (λ number. numbers_in room (number.1) >>= (λ others. Some (number.0 ∷ others))) ns e in
    let others = bind_some (numbers_in room (first.0.1)) (λ others. Some (first.0.0 ∷ others)) ns (first.2) in
    let first_is = number_field_takes limit (b ∷ bs) (first.0) (first.1) in
    let others_are = numbers_take room (first.0.1) (others.0) (others.1) in
    subst (λ xs. AreTaken (suc room) (b ∷ bs) xs) (same_Some _ _ (others.2)) (record {
      text = first_is.text ∙ ap (λ rest. spaced (decimal (first.0.0)) rest) (others_are.text);
      small = (first_is.small, others_are.small);
      few = omega (arith, others_are.few);
    })

numbers_behind : (ns : List ℕ) → IsBehind (numbers ns)
numbers_behind [] = nothing
numbers_behind (n ∷ ns) = space _

numbers_again : (room : ℕ) (ns : List ℕ) → AreSmall ns → length ns ≤ room → numbers_in room (numbers ns) ≡ Some ns
numbers_again room [] small few = numbers_in_nothing room
numbers_again zero (n ∷ ns) small few = absurd (omega arith)
numbers_again (suc room) (n ∷ ns) small few = rw (number_field_again limit n (numbers ns) (small.0) (numbers_behind ns), numbers_again room ns (small.1) (omega arith)) refl

flows_take : (fields flows : List ℕ) → flows_of fields ≡ Some flows → AreTaken MAX_FLOWS fields flows
unfolding flows_of
flows_take fields flows e = numbers_take MAX_FLOWS fields flows e

flows_again : (flows : List ℕ) → AreSmall flows → length flows ≤ MAX_FLOWS → flows_of (numbers flows) ≡ Some flows
unfolding flows_of
flows_again flows small few = numbers_again MAX_FLOWS flows small few

act_takes : (fields : List ℕ) (line : CertLine) → act_from fields ≡ Some line → IsLine (codes "ACT") fields line
unfolding act_from
act_takes fields line e =
    let made = λ (code : List ℕ) (duration : ℕ) (flows : List ℕ). cond (ltb (length flows) 2) None (Some (Act code duration flows)) in
    let code = bind_some (code_field fields) (λ code. number_field MAX_DIGITS (code.1) >>= (λ duration. flows_of (duration.1) >>= (λ flows. made (code.0) (duration.0) flows))) line e in
    let duration = bind_some (number_field MAX_DIGITS (code.0.1)) (λ duration. flows_of (duration.1) >>= (λ flows. made (code.0.0) (duration.0) flows)) line (code.2) in
    let flows = bind_some (flows_of (duration.0.1)) (λ flows. made (code.0.0) (duration.0.0) flows) line (duration.2) in
    let enough = unless_takes (ltb (length (flows.0)) 2) (Some (Act (code.0.0) (duration.0.0) (flows.0))) line (flows.2) in
    let same : Act (code.0.0) (duration.0.0) (flows.0) ≡ line = same_Some _ _ (enough.1) in
    let code_is = code_field_takes fields (code.0) (code.1) in
    let duration_is = number_field_takes limit (code.0.1) (duration.0) (duration.1) in
    let flows_are = flows_take (duration.0.1) (flows.0) (flows.1) in
    subst (λ l. IsLine (codes "ACT") fields l) same (record {
      text = ap (λ x. codes "ACT" ++ x) (
          code_is.text ∙ ap (λ x. spaced (code.0.0) x) (
          duration_is.text ∙ ap (λ x. spaced (decimal (duration.0.0)) x) (flows_are.text)));
      fits = (code_is.code_is, duration_is.small, flows_are.small, ltb-false _ _ (enough.0), flows_are.few);
    })

act_again : (code : List ℕ) (duration : ℕ) (flows : List ℕ) → IsWritable (Act code duration flows) → act_from (spaced code (spaced (decimal duration) (numbers flows))) ≡ Some (Act code duration flows)
unfolding act_from
act_again code duration flows h =
    rw (
      code_field_again code (spaced (decimal duration) (numbers flows)) (h.0) (space _),
      number_field_again limit duration (numbers flows) (h.1) (numbers_behind flows),
      flows_again flows (h.2) (h.4),
    ) (unless_again (ltb (length flows) 2) (Some (Act code duration flows)) (le-ltb _ _ (h.3)))

-- ---- the complete line

line_with_takes : (word fields : List ℕ) (line : CertLine) → line_with word fields ≡ Some line → IsLine word fields line
line_with_takes word fields line =
    let reads = λ (name : List ℕ). IsLine name fields line in
    let by = one_word spelling IsWritable in
    either reads word (codes "ACT") _ _ line (act_takes fields line)
    (either reads word (codes "EVENT") _ _ line (event_takes fields line)
    (either reads word (codes "SEGMENT") _ _ line (segment_takes fields line)
    (either reads word (codes "CLOSE") _ _ line (by (codes "CLOSE") fields Close line refl tt)
    (either reads word (codes "STEP") _ _ line (step_takes fields line)
    (either reads word (codes "CERT") _ _ line (head_takes fields line)
    (either reads word (codes "NORMAL") _ _ line (by (codes "NORMAL") fields Normal line refl tt)
    (either reads word (codes "CRASH") _ _ line (by (codes "CRASH") fields Crash line refl tt)
    (either reads word (codes "END") _ _ line (by (codes "END") fields End line refl tt)
    (no_name reads word line)))))))))

-- a line that is read has this text
pub line_takes : (bytes : List ℕ) (line : CertLine) → line_of bytes ≡ Some line → (bytes ≡ spelling line) × IsWritable line
unfolding line_of
line_takes bytes line e =
    let spelled = line_with_takes (take (run_len 32 bytes) bytes) (drop (run_len 32 bytes) bytes) line e in
    (sym (take-append-drop (run_len 32 bytes) bytes) ∙ spelled.text, spelled.fits)

-- the text of a line is read as this line
pub line_again : (line : CertLine) → IsWritable line → line_of (spelling line) ≡ Some line
unfolding line_of
line_again (Head version project events activities) h = head_again version project events activities h
line_again Normal h = refl
line_again (Step code) h = step_again code h
line_again Crash h = refl
line_again (Segment upper lower cost slope) h = segment_again upper lower cost slope h
line_again (Event code time moves) h = event_again code time moves h
line_again (Act code duration flows) h = act_again code duration flows h
line_again Close h = refl
line_again End h = refl

-- what a call that reads gave
pub read_spelled : (found : Option CertLine) (bytes : List ℕ) → found ≡ line_of bytes → IfSome found (λ line. (bytes ≡ spelling line) × IsWritable line)
read_spelled None bytes e = tt
read_spelled (Some line) bytes e = line_takes bytes line (sym e)

pub read_again : (found : Option CertLine) (bytes : List ℕ) (line : CertLine) → found ≡ line_of bytes → IsWritable line → bytes ≡ spelling line → found ≡ Some line
read_again found bytes line e fits is = e ∙ ap line_of is ∙ line_again line fits
