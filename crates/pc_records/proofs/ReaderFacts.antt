-- What a read of a record does to the records that a reader has left.
use Rattle.std.proofs.Common.{◌≡◌, ◌∙◌, Bor, ℕ, List, [], ◌∷◌, Option, Some, None, true, false, refl, inl, not, Bool}
use Rattle.std.specs.Prelude.{IsSome}
use Rattle.csv.specs.Machine.{ends_at_end}
use Rattle.csv.specs.Reading.{ReadRecord, Reached, default_config, is_flexible, reader_state, took_first}
use Rattle.csv.specs.declared.parser.State.{State}
use Rattle.csv.proofs.ReadFacts.{rows-end, rows-more}
use Rattle.pc_records.specs.inside.Reading.{ByteReader, GivesRecords, unread_bytes, records_after}
use Rattle.pc_records.proofs.DeckFacts.{next_record-between, records_after-next, records_after-none}

-- the bytes that are left are known
some-known : (o : Option (List ℕ)) → IsSome o → (xs : List ℕ) × (o ≡ Some xs)
some-known None h = cc h
some-known (Some xs) h = (xs, refl)

is-known : (o : Option (List ℕ)) (xs : List ℕ) → o ≡ Some xs → IsSome o
is-known None xs e = cc e
is-known (Some ys) xs e = refl

-- what a read that found a record leaves
pub record Found (old new : ByteReader) (fields : List (List ℕ)) : Type 0 where
  pub gives : records_after (reader_state old) (unread_bytes old) ≡ fields ∷ records_after (reader_state new) (unread_bytes new)
  pub known : IsSome (unread_bytes new)
  pub between : ends_at_end (reader_state new) ≡ false

-- the record that a read found, by what was reached
reached-found : (s : State) (xs : List ℕ) (f : List (List ℕ)) (s2 : State) (ys : List ℕ) → ends_at_end s ≡ false
    → Reached default_config s xs (f ∷ []) s2 ys
    → (records_after s (Some xs) ≡ f ∷ records_after s2 (Some ys)) × (ends_at_end s2 ≡ false)
unfolding Reached
reached-found s xs f s2 ys b h =
    let p = h.0 in
    (rw (h.2, ← h.3.0, ← h.3.1) (records_after-next s xs p b h.1), rw (← h.3.0) (next_record-between s xs p h.1))

pub read-found : (old new : ByteReader) (fields : List (List ℕ)) → GivesRecords old
    → ReadRecord (λ (bytes : Bor (List ℕ)). Some bytes.now) old new true fields → Found old new fields
unfolding Reached
read-found old new fields g r =
    let xs = some-known (unread_bytes old) g.known in
    let more = rows-more (λ (bytes : Bor (List ℕ)). Some bytes.now) old new fields default_config old.state xs.0 xs.0 [] g.config xs.1 (refl, refl) r in
    let one = reached-found old.state xs.0 fields new.state more.0 g.between more.2 in
    record { gives = rw (xs.1, more.1) one.0; known = is-known _ more.0 more.1; between = one.1 }

-- a reader that found a record continues
pub read-going : (old new : ByteReader) (fields : List (List ℕ)) → GivesRecords old
    → ReadRecord (λ (bytes : Bor (List ℕ)). Some bytes.now) old new true fields → took_first new ≡ true → is_flexible new ≡ is_flexible old
    → GivesRecords new
read-going old new fields g r first flexible =
    let found = read-found old new fields g r in
    record {
      untrimmed = r.3 ∙ g.untrimmed;
      ready = inl first;
      config = r.2 ∙ g.config;
      flexible = flexible ∙ g.flexible;
      known = found.known;
      between = found.between;
    }

-- a reader that found no record had none left
pub read-none : (old new : ByteReader) (fields : List (List ℕ)) → GivesRecords old
    → ReadRecord (λ (bytes : Bor (List ℕ)). Some bytes.now) old new false fields → records_after (reader_state old) (unread_bytes old) ≡ []
read-none old new fields g r =
    let xs = some-known (unread_bytes old) g.known in
    rw (xs.1) (records_after-none old.state xs.0 (rows-end (λ (bytes : Bor (List ℕ)). Some bytes.now) old new fields default_config xs.0 g.config xs.1 r))

pub true-from_not : (b : Bool) → not b ≡ false → b ≡ true
true-from_not true e = refl
true-from_not false e = cc e
