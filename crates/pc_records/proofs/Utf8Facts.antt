-- UTF-8 both ways: the fields of a UTF-8 deck are UTF-8, and so is the text of records whose fields are.
use Rattle.std.proofs.Common.{◌≡◌, ◌==◌, ◌⊎◌, ◌||◌, ◌+◌, ◌<◌, Bool, true, false, ℕ, zero, suc, List, [], ◌∷◌, ◌++◌, drop, length, length-append}
use Rattle.std.proofs.Common.{get_or, nat_eq, Option, Some, None, IsUtf8, All, refl, sym, subst, inl, inr, if◌then◌else◌, append_assoc, arith}
use Rattle.std.specs.List.{list_any, starts_with}
use Rattle.std.proofs.lemmas.Bool.{and_parts, cases_Bool, eqb-true}
use Rattle.std.proofs.lemmas.List.{append-nil, drop_at, get_or_at, take_at}
use Rattle.std.proofs.lemmas.List.Elements.{All-cons, All-head, All-nil, All-push, All-tail}
use Rattle.std.proofs.lemmas.Str.{IsCharBoundary-after_ascii, IsCharBoundary-before_ascii, IsUtf8-append, IsUtf8-drop, IsUtf8-encode, IsUtf8-nil, IsUtf8-past_char, IsUtf8-take, encode_ascii}
use lib.Utf8.{encode, low_scalar}
use Rattle.csv.specs.Machine.{Read, after_end, ends_at_end, field_after, fields_after, in_field, is_end, next_record, start_field, start_record, step}
use Rattle.csv.specs.Reading.{default_config, is_bom, records_from, records_next, strip_bom}
use Rattle.csv.specs.Writing.{default_writer, escaped, field_text, fields_text, is_blank, needs_byte, quoted, row_body}
use Rattle.csv.specs.declared.parser.Action.{Action}
use Rattle.csv.specs.declared.parser.Action.TheVariants as act
use Rattle.csv.specs.declared.parser.State.{State}
use Rattle.csv.specs.declared.parser.State.TheVariants as st
use Rattle.pc_records.specs.Deck.{deck_records, mark, without_mark}
use Rattle.pc_records.specs.Text.{record_text, records_text}

-- if a byte of ASCII is in a text, the text may be split before it and after it
split_ascii : (front rest : List ℕ) (c : ℕ) → c < 128 → IsUtf8 (front ++ c ∷ rest) → IsUtf8 front × IsUtf8 rest
split_ascii front rest c small u =
    let at : get_or (front ++ c ∷ rest) (length front) 0 ≡ c = get_or_at front c rest 0 (length front) refl in
    let within : length front < length (front ++ c ∷ rest) = omega (arith, length-append front (c ∷ rest)) in
    let low : get_or (front ++ c ∷ rest) (length front) 0 < 128 = omega arith in
    let before = IsUtf8-take _ (length front) u (IsCharBoundary-before_ascii _ (length front) within low) in
    let behind = IsUtf8-drop _ (length front + 1) u (IsCharBoundary-after_ascii _ (length front) u within low) in
    let one : (front ++ c ∷ []) ++ rest ≡ front ++ c ∷ rest = append_assoc front (c ∷ []) rest in
    let past : drop (length front + 1) (front ++ c ∷ rest) ≡ rest =
    subst (λ (xs : List ℕ). drop (length front + 1) xs ≡ rest) one (drop_at (front ++ c ∷ []) rest (length front + 1) (length-append front (c ∷ []))) in
    (subst IsUtf8 (take_at front (c ∷ rest) (length front) refl) before, subst IsUtf8 past behind)

-- and a byte of ASCII may go between two texts
pub join_ascii : (c : ℕ) (rest : List ℕ) → c < 128 → IsUtf8 rest → IsUtf8 (c ∷ rest)
join_ascii c rest small u = IsUtf8-append (c ∷ []) rest (subst IsUtf8 (encode_ascii c small) (IsUtf8-encode c (low_scalar c (omega arith)))) u

-- no comment is being read: `csv`'s defaults know none
abbrev is_in_record : State → Bool
is_in_record st.InComment = false
is_in_record st.StartRecord = true
is_in_record st.StartField = true
is_in_record st.InField = true
is_in_record st.InQuoted = true
is_in_record st.AfterQuote = true
is_in_record st.InEscape = true
is_in_record st.AfterCr = true

-- a byte that does not join the field at hand is one of ASCII
record Joins (c : ℕ) (q : State × Action) : Type 0 where
  goes_on : is_in_record q.0 ≡ true
  ascii : (q.1 ≡ act.Copy) ⊎ (c < 128)

if-Joins : (c : ℕ) (b : Bool) (p q : State × Action) → (b ≡ true → Joins c p) → (b ≡ false → Joins c q) → Joins c (if b then p else q)
if-Joins c true p q f g = f refl
if-Joins c false p q f g = g refl

same-ascii : (c d : ℕ) → d < 128 → (c == d) ≡ true → c < 128
same-ascii c d small same = let e = eqb-true c d same in omega arith

or-ascii : (c d e : ℕ) → d < 128 → e < 128 → ((c == d) || (c == e)) ≡ true → c < 128
or-ascii c d e small low either = elim (cases_Bool (c == d)) [
  | inl same ↦ same-ascii c d small same
  | inr other ↦ same-ascii c e low (rw other at either)
]

in_field-Joins : (c : ℕ) → Joins c (in_field default_config c)
in_field-Joins c =
    if-Joins c (c == 44) (st.StartField, act.EndField) _ (λ e. record { goes_on = refl; ascii = inr (same-ascii c 44 (omega arith) e) }) (λ _.
    if-Joins c ((c == 13) || (c == 10)) (after_end default_config.terminator c, act.EndRecord) (st.InField, act.Copy)
    (λ e. record { goes_on = after (c == 13); ascii = inr (or-ascii c 13 10 (omega arith) (omega arith) e) })
    (λ _. record { goes_on = refl; ascii = inl refl }))
  where
    after : (b : Bool) → is_in_record (if b then st.AfterCr else st.StartRecord) ≡ true
    after true = refl
    after false = refl

start_field-Joins : (c : ℕ) → Joins c (start_field default_config c)
start_field-Joins c =
    if-Joins c (c == 34) (st.InQuoted, act.Skip) (in_field default_config c)
    (λ e. record { goes_on = refl; ascii = inr (same-ascii c 34 (omega arith) e) })
    (λ _. in_field-Joins c)

start_record-Joins : (c : ℕ) → Joins c (start_record default_config c)
start_record-Joins c =
    if-Joins c ((c == 13) || (c == 10)) (st.StartRecord, act.Skip) (start_field default_config c)
    (λ e. record { goes_on = refl; ascii = inr (or-ascii c 13 10 (omega arith) (omega arith) e) })
    (λ _. start_field-Joins c)

step-Joins : (s : State) (c : ℕ) → is_in_record s ≡ true → Joins c (step default_config s c)
step-Joins st.StartRecord c in' = start_record-Joins c
step-Joins st.StartField c in' = start_field-Joins c
step-Joins st.InField c in' = in_field-Joins c
step-Joins st.InQuoted c in' =
    if-Joins c (c == 34) (st.AfterQuote, act.Skip) (st.InQuoted, act.Copy)
    (λ e. record { goes_on = refl; ascii = inr (same-ascii c 34 (omega arith) e) })
    (λ _. record { goes_on = refl; ascii = inl refl })
step-Joins st.InEscape c in' = record { goes_on = refl; ascii = inl refl }
step-Joins st.AfterQuote c in' =
    if-Joins c (c == 34) (st.InQuoted, act.Copy) (in_field default_config c)
    (λ _. record { goes_on = refl; ascii = inl refl })
    (λ _. in_field-Joins c)
step-Joins st.InComment c in' = cc
step-Joins st.AfterCr c in' =
    if-Joins c (c == 10) (st.StartRecord, act.Skip) (start_record default_config c)
    (λ e. record { goes_on = refl; ascii = inr (same-ascii c 10 (omega arith) e) })
    (λ _. start_record-Joins c)

-- a record that was read in a text: its fields and what is left are text
record IsText (p : Read) : Type 0 where
  fields : All IsUtf8 p.0
  goes_on : is_in_record p.1 ≡ true
  rest : IsUtf8 p.2

next_record-text : (s : State) (fields : List (List ℕ)) (field xs : List ℕ) (p : Read) → is_in_record s ≡ true → All IsUtf8 fields
    → IsUtf8 (field ++ xs) → next_record default_config s fields field xs ≡ Some p → IsText p
unfolding next_record
next_record-text s fields field [] p in' all u e = by (ends_at_end s) e
  where
    last : Read
    last = (fields ++ field ∷ [], st.StartRecord, [])

    by : (b : Bool) → (if b then Some last else None) ≡ Some p → IsText p
    by false e = absurd (none_some last e)
      where
        none_some : (q : Read) → None ≡ Some p → ⊥
        none_some q e = cc e
    by true e =
        let is : last ≡ p = cc e in
        subst IsText is (record { fields = All-push IsUtf8 fields field all (subst IsUtf8 (append-nil field) u); goes_on = refl; rest = IsUtf8-nil })
next_record-text s fields field (c ∷ rest) p in' all u e =
    by (step default_config s c) (step-Joins s c in') e (λ t fs f. next_record-text t fs f rest p)
  where
    by : (q : State × Action) → Joins c q
        → (if is_end q.1 then Some (fields_after q.1 fields field, q.0, rest) else next_record default_config q.0 (fields_after q.1 fields field) (field_after q.1 c field) rest) ≡ Some p
        → ((t : State) (fs : List (List ℕ)) (f : List ℕ) → is_in_record t ≡ true → All IsUtf8 fs → IsUtf8 (f ++ rest) → next_record default_config t fs f rest ≡ Some p → IsText p)
        → IsText p
    by (t, act.Copy) joins e more = more t fields (field ++ c ∷ []) joins.goes_on all (subst IsUtf8 (sym (append_assoc field (c ∷ []) rest)) u) e
    by (t, act.Skip) joins e more = elim joins.ascii [
      | inl copy ↦ cc copy
      | inr small ↦
          let parts = split_ascii field rest c small u in
          more t fields field joins.goes_on all (IsUtf8-append field rest parts.0 parts.1) e
    ]
    by (t, act.EndField) joins e more = elim joins.ascii [
      | inl copy ↦ cc copy
      | inr small ↦
          let parts = split_ascii field rest c small u in
          more t (fields ++ field ∷ []) [] joins.goes_on (All-push IsUtf8 fields field all parts.0) parts.1 e
    ]
    by (t, act.EndRecord) joins e more = elim joins.ascii [
      | inl copy ↦ cc copy
      | inr small ↦
          let parts = split_ascii field rest c small u in
          let is : (fields ++ field ∷ [], t, rest) ≡ p = cc e in
          subst IsText is (record { fields = All-push IsUtf8 fields field all parts.0; goes_on = joins.goes_on; rest = parts.1 })
    ]

-- the records of a text are text
records_from-text : (n : ℕ) (s : State) (xs : List ℕ) → is_in_record s ≡ true → IsUtf8 xs → All (All IsUtf8) (records_from default_config n s xs)
unfolding records_from
records_from-text zero s xs in' u = All-nil (All IsUtf8)
records_from-text (suc n) s xs in' u =
    by (next_record default_config s [] [] xs) (λ p. next_record-text s [] [] xs p in' (All-nil IsUtf8) u) (records_from-text n)
  where
    by : (o : Option Read) → ((p : Read) → o ≡ Some p → IsText p)
        → ((t : State) (ys : List ℕ) → is_in_record t ≡ true → IsUtf8 ys → All (All IsUtf8) (records_from default_config n t ys))
        → All (All IsUtf8) (records_next (records_from default_config n) o)
    by None text more = All-nil (All IsUtf8)
    by (Some p) text more =
        let read = text p refl in
        All-cons (All IsUtf8) p.0 _ read.fields (more p.1 p.2 read.goes_on read.rest)

-- a text without the mark in front is text
past_mark : (a b c : ℕ) (rest : List ℕ) → is_bom a b c ≡ true → IsUtf8 (a ∷ b ∷ c ∷ rest) → IsUtf8 rest
unfolding encode
past_mark a b c rest is u =
    let parts = and_parts _ _ is in
    let front = and_parts _ _ parts.0 in
    IsUtf8-past_char (a ∷ b ∷ c ∷ rest) rest 0xFEFF u (rw (eqb-true a 0xEF front.0, eqb-true b 0xBB front.1, eqb-true c 0xBF parts.1) refl)

strip_bom-text : (xs : List ℕ) → IsUtf8 xs → IsUtf8 (strip_bom xs)
unfolding strip_bom
strip_bom-text [] u = u
strip_bom-text (a ∷ []) u = u
strip_bom-text (a ∷ b ∷ []) u = u
strip_bom-text (a ∷ b ∷ c ∷ rest) u = by (is_bom a b c) refl
  where
    by : (test : Bool) → is_bom a b c ≡ test → IsUtf8 (if test then rest else a ∷ b ∷ c ∷ rest)
    by true is = past_mark a b c rest is u
    by false other = u

without_mark-text : (xs : List ℕ) → IsUtf8 xs → IsUtf8 (without_mark xs)
without_mark-text xs u = by (starts_with nat_eq xs mark) refl
  where
    whole : (ys : List ℕ) → IsUtf8 ys → starts_with nat_eq ys mark ≡ true → IsUtf8 (drop 3 ys)
    whole [] v is = IsUtf8-nil
    whole (a ∷ []) v is = IsUtf8-nil
    whole (a ∷ b ∷ []) v is = IsUtf8-nil
    whole (a ∷ b ∷ c ∷ rest) v is =
        let first = and_parts _ _ is in
        let second = and_parts _ _ first.1 in
        let third = and_parts _ _ second.1 in
        past_mark a b c rest (rw (← eqb-true 0xEF a first.0, ← eqb-true 0xBB b second.0, ← eqb-true 0xBF c third.0) refl) v

    by : (test : Bool) → starts_with nat_eq xs mark ≡ test → IsUtf8 (if test then drop 3 xs else xs)
    by true is = whole xs u is
    by false other = u

-- the fields of a deck that is text are text
pub deck_records-text : (bytes : List ℕ) → IsUtf8 bytes → All (All IsUtf8) (deck_records bytes)
deck_records-text bytes u =
    let plain = strip_bom-text (without_mark bytes) (without_mark-text bytes u) in
    records_from-text (length (strip_bom (without_mark bytes)) + 1) st.StartRecord _ refl plain

-- quotes that are written twice leave text text
escaped-text : (front xs : List ℕ) → IsUtf8 (front ++ xs) → IsUtf8 (front ++ escaped default_writer xs)
unfolding escaped
escaped-text front [] u = u
escaped-text front (b ∷ rest) u = by (b == 34) refl (λ before. escaped-text before rest)
  where
    by : (test : Bool) → (b == 34) ≡ test → ((before : List ℕ) → IsUtf8 (before ++ rest) → IsUtf8 (before ++ escaped default_writer rest))
        → IsUtf8 (front ++ (if test then 34 ∷ b ∷ escaped default_writer rest else b ∷ escaped default_writer rest))
    by true is more =
        let small : b < 128 = same-ascii b 34 (omega arith) is in
        let parts = split_ascii front rest b small u in
        let twice = IsUtf8-append front (34 ∷ b ∷ []) parts.0 (join_ascii 34 (b ∷ []) (omega arith) (join_ascii b [] small IsUtf8-nil)) in
        subst IsUtf8 (append_assoc front (34 ∷ b ∷ []) _) (more (front ++ 34 ∷ b ∷ []) (IsUtf8-append _ rest twice parts.1))
    by false other more = subst IsUtf8 (append_assoc front (b ∷ []) _) (more (front ++ b ∷ []) (subst IsUtf8 (sym (append_assoc front (b ∷ []) rest)) u))

field_text-text : (field : List ℕ) → IsUtf8 field → IsUtf8 (field_text default_writer field)
field_text-text field u = by (list_any (needs_byte default_writer) field)
  where
    by : (needs : Bool) → IsUtf8 (if needs then quoted default_writer field else field)
    by true = join_ascii 34 _ (omega arith) (IsUtf8-append _ (34 ∷ []) (escaped-text [] field u) (join_ascii 34 [] (omega arith) IsUtf8-nil))
    by false = u

fields_text-text : (fields : List (List ℕ)) → All IsUtf8 fields → IsUtf8 (fields_text default_writer fields)
unfolding fields_text
fields_text-text [] all = IsUtf8-nil
fields_text-text (field ∷ rest) all =
    join_ascii 44 _ (omega arith) (IsUtf8-append _ _ (field_text-text field (All-head IsUtf8 field rest all)) (fields_text-text rest (All-tail IsUtf8 field rest all)))

row_body-text : (fields : List (List ℕ)) → All IsUtf8 fields → IsUtf8 (row_body default_writer fields)
row_body-text [] all = IsUtf8-nil
row_body-text (field ∷ rest) all = IsUtf8-append _ _ (field_text-text field (All-head IsUtf8 field rest all)) (fields_text-text rest (All-tail IsUtf8 field rest all))

-- the text of a record of text is text
pub record_text-text : (fields : List (List ℕ)) → All IsUtf8 fields → IsUtf8 (record_text fields)
unfolding record_text
record_text-text fields all = IsUtf8-append _ _ (row_body-text fields all) (IsUtf8-append _ _ (blank (is_blank default_writer fields)) (join_ascii 10 [] (omega arith) IsUtf8-nil))
  where
    blank : (b : Bool) → IsUtf8 (if b then 34 ∷ 34 ∷ [] else [])
    blank true = join_ascii 34 _ (omega arith) (join_ascii 34 [] (omega arith) IsUtf8-nil)
    blank false = IsUtf8-nil

-- the text of records of text is text
pub records_text-text : (rows : List (List (List ℕ))) → All (All IsUtf8) rows → IsUtf8 (records_text rows)
records_text-text [] all = IsUtf8-nil
records_text-text (row ∷ rows) all =
    IsUtf8-append _ _ (record_text-text row (All-head (All IsUtf8) row rows all)) (records_text-text rows (All-tail (All IsUtf8) row rows all))
