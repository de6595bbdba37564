-- Dates that are made one after the other.
use Rattle.std.proofs.Common.{◌≡◌, ℕ, ◌+◌, ◌-◌, ◌<◌, ◌⊎◌, ◌&&◌, true, false, int_le, ℤ, pos, neg_ℤ, ◌/◌, inl, inr, refl, List, []}
use Rattle.std.proofs.Common.{◌∷◌, ◌++◌, length, slice_index, slice_index_or, sym, ap, ◌∙◌, subst, ⊎_elim, arith, length-append}
use Rattle.std.proofs.lemmas.List.{get_or_append_left, get_or-append_right}
use Rattle.std.proofs.lemmas.Bool.{cases_Bool}
use Rattle.std.proofs.lemmas.Int.{ints}
use Rattle.std.proofs.Math.Nat.{eq-or-lt_of_le}
use Rattle.pc_days.specs.Calendar.{no_date, text_of_day}
use Rattle.pc_days.specs.Dates.{IsAfterSixths, IsPrintedDay, IsRoundedUp}
use Rattle.pc_days.proofs.Sixths.{after_sixths, after_sixths-only}
use Rattle.pc_reports.specs.Times.{IsDate, AreDates, date_of, day_after}

-- the dates of the first times
pub record AreDatesTo (start : ℤ) (times : List ℕ) (count : ℕ) (dates : List (List ℕ)) : Type 0 where
  pub one_each : length dates ≡ count
  pub each : (e : ℕ) → e < count → IsDate start (slice_index times e) (slice_index_or dates e [])

-- below n + 1 is n or below n
last_or_below : (n i : ℕ) → i < n + 1 → (i ≡ n) ⊎ (i < n)
last_or_below n i below = eq-or-lt_of_le (omega (arith, below))

-- the last element
last_date : (dates : List (List ℕ)) (text : List ℕ) (i : ℕ) → length dates ≡ i → slice_index_or (dates ++ text ∷ []) i [] ≡ text
last_date dates text i count =
    let none : i - i ≡ 0 = omega arith in
    get_or-append_right dates (text ∷ []) i i [] count (omega arith) ∙ ap (λ k. slice_index_or (text ∷ []) k []) none

-- the date of the next time
pub dates_more : (start : ℤ) (times : List ℕ) (i : ℕ) (dates more : List (List ℕ)) (text : List ℕ) → AreDatesTo start times i dates →
    more ≡ dates ++ text ∷ [] → IsDate start (slice_index times i) text → AreDatesTo start times (i + 1) more
dates_more start times i dates more text so_far pushed is = record {
  one_each = omega (arith, so_far.one_each, subst (λ (l : List (List ℕ)). length l ≡ length dates + 1) (sym pushed) (length-append dates (text ∷ [])));
  each = λ e below. ⊎_elim
      (λ here. subst (λ (l : List (List ℕ)). IsDate start (slice_index times e) (slice_index_or l e [])) (sym pushed)
      (subst (λ (t : List ℕ). IsDate start (slice_index times e) t) (sym (ap (λ k. slice_index_or (dates ++ text ∷ []) k []) here ∙ last_date dates text i so_far.one_each))
      (subst (λ (k : ℕ). IsDate start (slice_index times k) text) (sym here) is)))
      (λ before. subst (λ (l : List (List ℕ)). IsDate start (slice_index times e) (slice_index_or l e [])) (sym pushed)
      (subst (λ (t : List ℕ). IsDate start (slice_index times e) t) (sym (get_or_append_left dates (text ∷ []) [] e (omega (arith, so_far.one_each, before)))) (so_far.each e before)))
      (last_or_below i e below);
}

-- the date of each time
pub dates_all : (start : ℤ) (times : List ℕ) (i : ℕ) (dates : List (List ℕ)) → AreDatesTo start times i dates → i ≡ length times → AreDates start times dates
dates_all start times i dates so_far whole = record {
  one_each = so_far.one_each ∙ whole;
  each = λ e below. so_far.each e (omega arith);
}

-- sixths of a day, rounded up to complete days
rounded : (n : ℕ) → IsRoundedUp (pos n) (pos ((n + 5) / 6))
rounded n = (omega (arith, ints), omega (arith, ints))

-- the day that is so long after the start
pub after-day : (start : ℤ) (n : ℕ) → IsAfterSixths start (pos n) (day_after start n)
after-day start n = after_sixths start (pos ((n + 5) / 6)) (pos n) (rounded n)

-- and no other
pub only-day : (start : ℤ) (n : ℕ) (day : ℤ) → IsAfterSixths start (pos n) day → day ≡ day_after start n
only-day start n day after = after_sixths-only start (pos ((n + 5) / 6)) (pos n) day (rounded n) after

-- the days that are printed are those that pass the two tests
is_printed : (day : ℤ) → IsPrintedDay day → (int_le (neg_ℤ (pos 25_567)) day && int_le day (pos 2_932_896)) ≡ true
is_printed day there = grind (arith, ints, there.0, there.1)

is_past : (day : ℤ) → (IsPrintedDay day → ⊥) → (int_le (neg_ℤ (pos 25_567)) day && int_le day (pos 2_932_896)) ≡ false
is_past day none =
    elim (cases_Bool (int_le (neg_ℤ (pos 25_567)) day && int_le day (pos 2_932_896))) [
      | inl is ↦ absurd (none (grind (arith, ints), grind (arith, ints)))
      | inr isnt ↦ isnt
    ]

-- a printed day is written as its date
pub date_of-printed : (start : ℤ) (n : ℕ) (day : ℤ) → IsAfterSixths start (pos n) day → IsPrintedDay day → text_of_day day ≡ date_of start n
unfolding date_of
date_of-printed start n day after there =
    let same = only-day start n day after in
    rw (is_printed (day_after start n) (subst IsPrintedDay same there)) (ap text_of_day same)

-- a day past those by ten hyphens
pub date_of-past : (start : ℤ) (n : ℕ) → ((day : ℤ) → IsAfterSixths start (pos n) day → IsPrintedDay day → ⊥) → no_date ≡ date_of start n
unfolding date_of
date_of-past start n none = rw (is_past (day_after start n) (none (day_after start n) (after-day start n))) refl
