-- The amounts to go that were seen, by account and day.
use Rattle.std.proofs.Common.{◌≡◌, ℕ, [], ◌+◌, ◌<◌, List, length, Some, None, Bool, true, false, get_or, ℤ, refl, sym, ap, ◌∙◌, subst, below_more, arith}
use Rattle.std.specs.Prelude.{pos}
use Rattle.std.proofs.lemmas.List.{get_or_default}
use Rattle.std.specs.BTreeMap.{BTreeMap, get, is_at, Updates}
use Rattle.std.specs.Cmp.{Equal-is}
use Rattle.std.specs.Map.{lookup}
use Rattle.std.specs.Ordering.{nat_cmp, int_cmp, ordering_then}
use Rattle.std.specs.declared.cmp.Ordering.{Ordering}
use Rattle.std.proofs.lemmas.Map.Lookups.{exact_pairs, exact_signed, exact_unsigned}
use Rattle.pc_model.specs.Greatest.{IsFirst}
use Rattle.pc_accounts.specs.declared.book.MoneyRow.{MoneyRow}
use Rattle.pc_accounts.specs.Amounts.{money_at}
use Rattle.pc_accounts.specs.Second.{Repeats, IsRepeated}

-- the map from an account and a day to a row
abbrev pub Seen : Type 0
Seen = BTreeMap (ℕ × ℤ) ℕ

-- its order: by account, and then by day
abbrev pub key_cmp : ℕ × ℤ → ℕ × ℤ → Ordering
key_cmp x y = ordering_then (nat_cmp x.0 y.0) (int_cmp x.1 y.1)

-- a test for: two rows have one account and one day
abbrev pub key_eq : ℕ × ℤ → ℕ × ℤ → Bool
key_eq x y = is_at (key_cmp x) y

-- the account and the day of row k
abbrev pub key_of : List MoneyRow → ℕ → ℕ × ℤ
key_of togos k = ((money_at togos k).account, (money_at togos k).day)

-- the map has exactly each of the first n rows, under its account and its day
pub record IsSeen (togos : List MoneyRow) (n : ℕ) (seen : Seen) : Type 0 where
  pub each : (k : ℕ) → k < n → get key_cmp seen (key_of togos k) ≡ Some k
  pub only : (q : ℕ × ℤ) (k : ℕ) → get key_cmp seen q ≡ Some k → (k < n) × (key_of togos k ≡ q)

key_equal : (p q : ℕ × ℤ) → key_eq p q ≡ true → p ≡ q
key_equal p q same = exact_pairs nat_cmp int_cmp exact_unsigned exact_signed p q ((Equal-is (key_cmp p q)).0 same)

-- a row whose account and day were not there
pub IsSeen-more : (togos : List MoneyRow) (i : ℕ) (seen new : Seen) → IsSeen togos i seen → get key_cmp seen (key_of togos i) ≡ None →
    Updates key_cmp seen new (key_of togos i) (Some i) → IsSeen togos (i + 1) new
IsSeen-more togos i seen new so_far absent puts = record {
  each = below_more _ _ (λ k lt. earlier k lt (key_eq (key_of togos i) (key_of togos k)) refl) puts.1;
  only = λ q k is. from q k is (key_eq (key_of togos i) q) refl;
}
  where
    earlier : (k : ℕ) → k < i → (t : Bool) → key_eq (key_of togos i) (key_of togos k) ≡ t → get key_cmp new (key_of togos k) ≡ Some k
    earlier k lt true e =
        let same = key_equal (key_of togos i) (key_of togos k) e in
        let none : get key_cmp seen (key_of togos k) ≡ None = sym (ap (get key_cmp seen) same) ∙ absent in
        let some = so_far.each k lt in
        cc
    earlier k lt false e = puts.2 (key_of togos k) e ∙ so_far.each k lt

    from : (q : ℕ × ℤ) (k : ℕ) → get key_cmp new q ≡ Some k → (t : Bool) → key_eq (key_of togos i) q ≡ t → (k < i + 1) × (key_of togos k ≡ q)
    from q k is true e =
        let same = key_equal (key_of togos i) q e in
        let here : get key_cmp new q ≡ Some i = sym (ap (get key_cmp new) same) ∙ puts.1 in
        let row : k ≡ i = let some : Some k ≡ Some i = sym is ∙ here in cc in
        (omega arith, ap (key_of togos) row ∙ same)
    from q k is false e =
        let (lt, at) = so_far.only q k (sym (puts.2 q e) ∙ is) in
        (omega arith, at)

-- the rows that were seen repeat none
repeats_key : (togos : List MoneyRow) (k j : ℕ) → Repeats togos k j → key_of togos k ≡ key_of togos j
repeats_key togos k j r = let a = r.account in let b = r.day in cc

pub none_repeated : (togos : List MoneyRow) (i : ℕ) (seen : Seen) → IsSeen togos i seen → (k j : ℕ) → k < i → Repeats togos k j → ⊥
none_repeated togos i seen so_far k j lt r =
    let here = so_far.each k lt in
    let there = so_far.each j (omega (arith, r.later)) in
    let same = ap (get key_cmp seen) (repeats_key togos k j r) in
    let row : k ≡ j = let some : Some k ≡ Some j = sym here ∙ same ∙ there in cc in
    omega (arith, r.later)

-- the first row whose account and day were there, and the only row that they were there for
pub first_repeated : (togos : List MoneyRow) (i first : ℕ) (seen : Seen) → IsSeen togos i seen → i < length togos →
    get key_cmp seen (key_of togos i) ≡ Some first → IsFirst (IsRepeated togos) i × IsFirst (Repeats togos i) first
first_repeated togos i first seen so_far within found =
    let (lt, at) = so_far.only (key_of togos i) first found in
    let account : (money_at togos first).account ≡ (money_at togos i).account = ap (λ (p : ℕ × ℤ). p.0) at in
    let day : (money_at togos first).day ≡ (money_at togos i).day = ap (λ (p : ℕ × ℤ). p.1) at in
    let repeats : Repeats togos i first = record { later = lt; account = sym account; day = sym day } in (
      record {
        holds = (within, (first, repeats));
        first = λ k earlier (known, (j, r)). none_repeated togos i seen so_far k j earlier r;
      },
      record {
        holds = repeats;
        first = λ j earlier r. let here = so_far.each j (omega arith) in let same = ap (get key_cmp seen) (repeats_key togos i j r) in
            let row : j ≡ first = let some : Some j ≡ Some first = sym here ∙ sym same ∙ found in cc in absurd (omega arith);
      },
    )

-- the same by the row as it is read
row_key : (togos : List MoneyRow) (i : ℕ) (row : MoneyRow) → i < length togos → row ≡ get_or togos i row → key_of togos i ≡ (row.account, row.day)
row_key togos i row within is =
    let same : money_at togos i ≡ row = get_or_default togos i (record { account = 0; day = pos 0; amount = 0 }) row within ∙ sym is in
    ap (λ (r : MoneyRow). (r.account, r.day)) same

pub IsSeen-none : (togos : List MoneyRow) (seen : Seen) → seen.entries ≡ [] → IsSeen togos 0 seen
IsSeen-none togos seen empty = record {
  each = λ k lt. absurd (omega arith);
  only = λ q k is. let none : get key_cmp seen q ≡ None = ap (λ (es : List ((ℕ × ℤ) × ℕ)). lookup (is_at (key_cmp q)) es) empty in absurd cc;
}

pub seen_step : (togos : List MoneyRow) (i : ℕ) (row : MoneyRow) (seen new : Seen) → IsSeen togos i seen → i < length togos →
    row ≡ get_or togos i row → get key_cmp seen (row.account, row.day) ≡ None → Updates key_cmp seen new (row.account, row.day) (Some i) →
    IsSeen togos (i + 1) new
seen_step togos i row seen new so_far within is absent puts =
    let key = row_key togos i row within is in
    IsSeen-more togos i seen new so_far (ap (get key_cmp seen) key ∙ absent) (subst (λ (q : ℕ × ℤ). Updates key_cmp seen new q (Some i)) (sym key) puts)

pub seen_twice : (togos : List MoneyRow) (i first : ℕ) (row : MoneyRow) (seen : Seen) → IsSeen togos i seen → i < length togos →
    row ≡ get_or togos i row → get key_cmp seen (row.account, row.day) ≡ Some first →
    IsFirst (IsRepeated togos) i × IsFirst (Repeats togos i) first
seen_twice togos i first row seen so_far within is found =
    first_repeated togos i first seen so_far within (ap (get key_cmp seen) (row_key togos i row within is) ∙ found)
