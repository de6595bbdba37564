-- How many records a deck has, and how the records that are left follow from the next one.
use Rattle.std.proofs.Common.{◌≡◌, ◌≤◌, ◌<◌, ◌+◌, ◌∙◌, ℕ, Bool, true, false, zero, suc, List, [], ◌∷◌, ◌++◌, drop, length}
use Rattle.std.proofs.Common.{nat_eq, Option, Some, None, refl, sym, ap, subst, unwrap_or, ◌==◌, ◌&&◌, if◌then◌else◌, arith}
use Rattle.std.proofs.lemmas.List.{length-drop}
use Rattle.std.specs.List.{starts_with}
use Rattle.csv.specs.Machine.{Read, after_end, ends_at_end, ends_with, field_after, fields_after, in_field, is_byte, is_end, next_record, start_field, start_record, step}
use Rattle.csv.specs.Reading.{default_config, is_bom, records_from, records_next, strip_bom}
use Rattle.csv.specs.declared.parser.Action.{Action}
use Rattle.csv.specs.declared.parser.Action.TheVariants as act
use Rattle.csv.specs.declared.parser.Config.{Config}
use Rattle.csv.specs.declared.parser.State.{State}
use Rattle.csv.specs.declared.parser.State.TheVariants as st
use Rattle.csv.specs.declared.parser.Terminator.{Terminator}
use Rattle.csv.specs.declared.parser.Terminator.TheVariants as term
use Rattle.pc_records.specs.Deck.{deck_records, mark, without_mark}
use Rattle.pc_records.specs.inside.Reading.{records_after}

-- a byte that ends a record leaves the reader between two records
abbrev EndsBetween : State × Action → Type 0
EndsBetween q = is_end q.1 ≡ true → ends_at_end q.0 ≡ false

if-EndsBetween : (b : Bool) (p q : State × Action) → EndsBetween p → EndsBetween q → EndsBetween (if b then p else q)
if-EndsBetween true p q f g = f
if-EndsBetween false p q f g = g

if-between : (b : Bool) (s t : State) → ends_at_end s ≡ false → ends_at_end t ≡ false → ends_at_end (if b then s else t) ≡ false
if-between true s t f g = f
if-between false s t f g = g

after_end-between : (t : Terminator) (c : ℕ) → ends_at_end (after_end t c) ≡ false
after_end-between term.CRLF c = if-between (c == 13) st.AfterCr st.StartRecord refl refl
after_end-between (term.Any t) c = refl

in_field-EndsBetween : (cfg : Config) (c : ℕ) → EndsBetween (in_field cfg c)
in_field-EndsBetween cfg c =
    if-EndsBetween (c == cfg.delimiter) (st.StartField, act.EndField) _ (λ e. cc e) (
    if-EndsBetween (ends_with cfg.terminator c) (after_end cfg.terminator c, act.EndRecord) (st.InField, act.Copy)
    (λ _. after_end-between cfg.terminator c)
    (λ e. cc e))

start_field-EndsBetween : (cfg : Config) (c : ℕ) → EndsBetween (start_field cfg c)
start_field-EndsBetween cfg c =
    if-EndsBetween (cfg.quoting && (c == cfg.quote)) (st.InQuoted, act.Skip) (in_field cfg c) (λ e. cc e) (in_field-EndsBetween cfg c)

start_record-EndsBetween : (cfg : Config) (c : ℕ) → EndsBetween (start_record cfg c)
start_record-EndsBetween cfg c =
    if-EndsBetween (ends_with cfg.terminator c) (st.StartRecord, act.Skip) _ (λ _. refl) (
    if-EndsBetween (is_byte cfg.comment c) (st.InComment, act.Skip) (start_field cfg c) (λ e. cc e) (start_field-EndsBetween cfg c))

step-EndsBetween : (cfg : Config) (s : State) (c : ℕ) → EndsBetween (step cfg s c)
step-EndsBetween cfg st.StartRecord c = start_record-EndsBetween cfg c
step-EndsBetween cfg st.StartField c = start_field-EndsBetween cfg c
step-EndsBetween cfg st.InField c = in_field-EndsBetween cfg c
step-EndsBetween cfg st.InQuoted c =
    if-EndsBetween (cfg.quoting && (c == cfg.quote)) (st.AfterQuote, act.Skip) _ (λ e. cc e) (
    if-EndsBetween (cfg.quoting && is_byte cfg.escape c) (st.InEscape, act.Skip) (st.InQuoted, act.Copy) (λ e. cc e) (λ e. cc e))
step-EndsBetween cfg st.InEscape c = λ e. cc e
step-EndsBetween cfg st.AfterQuote c =
    if-EndsBetween (cfg.quoting && cfg.double_quote && (c == cfg.quote)) (st.InQuoted, act.Copy) (in_field cfg c) (λ e. cc e) (in_field-EndsBetween cfg c)
step-EndsBetween cfg st.InComment c =
    if-EndsBetween (c == 10) (st.StartRecord, act.Skip) (st.InComment, act.Skip) (λ _. refl) (λ e. cc e)
step-EndsBetween cfg st.AfterCr c =
    if-EndsBetween (c == 10) (st.StartRecord, act.Skip) (start_record cfg c) (λ _. refl) (start_record-EndsBetween cfg c)

-- what a record leaves: a state between two records, and fewer bytes
record Leaves (s : State) (xs : List ℕ) (p : Read) : Type 0 where
  between : ends_at_end p.1 ≡ false
  fewer : ends_at_end s ≡ false → length p.2 < length xs
  no_more : length p.2 + 1 ≤ length xs + 1

some-inj : {A : Type 0} (a b : A) → Some a ≡ Some b → a ≡ b
some-inj a b e = ap (λ o. unwrap_or o a) e

next_record-leaves : (cfg : Config) (s : State) (fields : List (List ℕ)) (field xs : List ℕ) (p : Read)
    → next_record cfg s fields field xs ≡ Some p → Leaves s xs p
unfolding next_record
next_record-leaves cfg s fields field [] p e = at_end (ends_at_end s) refl e
  where
    at_end : (b : Bool) → ends_at_end s ≡ b → (if b then Some (fields ++ (field ∷ []), st.StartRecord, []) else None) ≡ Some p → Leaves s [] p
    at_end true b e =
        let last : Read = (fields ++ (field ∷ []), st.StartRecord, []) in
        subst (λ (q : Read). Leaves s [] q) (some-inj last p e) (record { between = refl; fewer = λ f. cc (sym b ∙ f); no_more = omega arith })
    at_end false b e = cc e
next_record-leaves cfg s fields field (c ∷ rest) p e =
    by (is_end (step cfg s c).1) refl e (next_record-leaves cfg (step cfg s c).0 (fields_after (step cfg s c).1 fields field) (field_after (step cfg s c).1 c field) rest p)
  where
    by : (b : Bool) → is_end (step cfg s c).1 ≡ b
        → (if b then Some (fields_after (step cfg s c).1 fields field, (step cfg s c).0, rest)
        else next_record cfg (step cfg s c).0 (fields_after (step cfg s c).1 fields field) (field_after (step cfg s c).1 c field) rest) ≡ Some p
        → (next_record cfg (step cfg s c).0 (fields_after (step cfg s c).1 fields field) (field_after (step cfg s c).1 c field) rest ≡ Some p → Leaves (step cfg s c).0 rest p)
        → Leaves s (c ∷ rest) p
    by true b e more =
        let here : Read = (fields_after (step cfg s c).1 fields field, (step cfg s c).0, rest) in
        subst (λ (q : Read). Leaves s (c ∷ rest) q) (some-inj here p e) (record { between = step-EndsBetween cfg s c b; fewer = λ f. omega arith; no_more = omega arith })
    by false b e more =
        let later = more e in
        let bound = later.no_more in
        record { between = later.between; fewer = λ f. omega arith; no_more = omega arith }

-- a reader between two records reads them all in as many steps as there are bytes, and one
records_from-steps : (cfg : Config) (n m : ℕ) (s : State) (xs : List ℕ) → ends_at_end s ≡ false → length xs < n → length xs < m
    → records_from cfg n s xs ≡ records_from cfg m s xs
unfolding records_from
records_from-steps cfg zero m s xs b ln lm = absurd (omega arith)
records_from-steps cfg (suc n) zero s xs b ln lm = absurd (omega arith)
records_from-steps cfg (suc n) (suc m) s xs b ln lm = by (next_record cfg s [] [] xs) refl (records_from-steps cfg n m)
  where
    by : (o : Option Read) → next_record cfg s [] [] xs ≡ o
        → ((t : State) (ys : List ℕ) → ends_at_end t ≡ false → length ys < n → length ys < m → records_from cfg n t ys ≡ records_from cfg m t ys)
        → records_next (records_from cfg n) o ≡ records_next (records_from cfg m) o
    by None e more = refl
    by (Some p) e more =
        let left = next_record-leaves cfg s [] [] xs p e in
        let fewer = left.fewer b in
        ap (λ rest. p.0 ∷ rest) (more p.1 p.2 left.between (omega arith) (omega arith))

-- one step of reading
records_from-step : (cfg : Config) (n : ℕ) (s : State) (xs : List ℕ) (o : Option Read) → next_record cfg s [] [] xs ≡ o
    → records_from cfg (n + 1) s xs ≡ records_next (records_from cfg n) o
unfolding records_from
records_from-step cfg n s xs o e =
    let more : n + 1 ≡ suc n = omega arith in
    ap (λ k. records_from cfg k s xs) more ∙ ap (records_next (records_from cfg n)) e

-- the records that are left begin with the next one
pub records_after-next : (s : State) (xs : List ℕ) (p : Read) → ends_at_end s ≡ false → next_record default_config s [] [] xs ≡ Some p
    → records_after s (Some xs) ≡ p.0 ∷ records_after p.1 (Some p.2)
records_after-next s xs p b e =
    let left = next_record-leaves default_config s [] [] xs p e in
    let fewer = left.fewer b in
    records_from-step default_config (length xs) s xs (Some p) e
    ∙ ap (λ rest. p.0 ∷ rest) (records_from-steps default_config (length xs) (length p.2 + 1) p.1 p.2 left.between (omega arith) (omega arith))

-- where there is no next one, none is left
pub records_after-none : (s : State) (xs : List ℕ) → next_record default_config s [] [] xs ≡ None → records_after s (Some xs) ≡ []
records_after-none s xs e = records_from-step default_config (length xs) s xs None e

-- after a record the reader is between two
pub next_record-between : (s : State) (xs : List ℕ) (p : Read) → next_record default_config s [] [] xs ≡ Some p → ends_at_end p.1 ≡ false
next_record-between s xs p e = (next_record-leaves default_config s [] [] xs p e).between

-- as many steps give at most as many records
length-records_from : (cfg : Config) (n : ℕ) (s : State) (xs : List ℕ) → length (records_from cfg n s xs) ≤ n
unfolding records_from
length-records_from cfg zero s xs = omega arith
length-records_from cfg (suc n) s xs = by (next_record cfg s [] [] xs) (length-records_from cfg n)
  where
    by : (o : Option Read) → ((t : State) (ys : List ℕ) → length (records_from cfg n t ys) ≤ n) → length (records_next (records_from cfg n) o) ≤ suc n
    by None more = omega arith
    by (Some p) more = let rest = more p.1 p.2 in omega arith

if-shorter : {A : Type 0} (b : Bool) (xs ys : List A) (n : ℕ) → length xs ≤ n → length ys ≤ n → length (if b then xs else ys) ≤ n
if-shorter true xs ys n f g = f
if-shorter false xs ys n f g = g

length-strip_bom : (xs : List ℕ) → length (strip_bom xs) ≤ length xs
unfolding strip_bom
length-strip_bom [] = omega arith
length-strip_bom (a ∷ []) = omega arith
length-strip_bom (a ∷ b ∷ []) = omega arith
length-strip_bom (a ∷ b ∷ c ∷ rest) = if-shorter (is_bom a b c) rest (a ∷ b ∷ c ∷ rest) (length (a ∷ b ∷ c ∷ rest)) (omega arith) (omega arith)

length-without_mark : (xs : List ℕ) → length (without_mark xs) ≤ length xs
length-without_mark xs =
    let dropped = length-drop 3 xs in
    if-shorter (starts_with nat_eq xs mark) (drop 3 xs) xs (length xs) (omega arith) (omega arith)

-- a deck has at most one record more than it has bytes
pub length-deck_records : (bytes : List ℕ) → length (deck_records bytes) ≤ length bytes + 1
length-deck_records bytes =
    let unmarked = length-without_mark bytes in
    let stripped = length-strip_bom (without_mark bytes) in
    let count = length-records_from default_config (length (strip_bom (without_mark bytes)) + 1) st.StartRecord (strip_bom (without_mark bytes)) in
    omega arith
