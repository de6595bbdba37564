-- How the passes over charges and amounts to go find what a book says.
use Rattle.std.proofs.Common.{◌≡◌, ◌≢◌, ℕ, ◌+◌, ◌*◌, ◌<◌, ◌≤◌, inl, inr, ⊎_elim, Bool, true, false, cond, ◌&&◌, ◌==◌, List, length, get_or, set, take, Option}
use Rattle.std.proofs.Common.{Some, None, refl, sym, ap, ◌∙◌, ℤ, get_or-set_same, get_or-set_other, subst, length-set, below_more, Fits, w64, arith}
use Rattle.std.specs.Prelude.{int_le, int_lt, pos, slice_index, sum, if◌then◌else◌}
use Rattle.std.proofs.lemmas.Bool.{cases_eq, eq-eqb, ne_eqb}
use Rattle.std.proofs.lemmas.Int.{ints}
use Rattle.std.proofs.Math.Seq.{take-length}
use Rattle.std.proofs.lemmas.List.{get_or_default}
use Rattle.std.proofs.lemmas.List.Sums.{sum_by-set, get_or-le-sum_by}
use Rattle.pc_model.specs.declared.limits.TheConstants.{MAX_COST, MAX_CHARGES}
use Rattle.pc_accounts.specs.declared.book.AcctRow.{AcctRow}
use Rattle.pc_accounts.specs.declared.book.MoneyRow.{MoneyRow}
use Rattle.pc_accounts.specs.declared.book.Entry.{Entry}
use Rattle.pc_accounts.specs.Amounts.{money_at, budget_of, actual_of, IsDue, IsToGo, AreEntriesOf, AreMoney}
use Rattle.pc_accounts.specs.inside.Parts.{AreActuals, LatestBelow, AreLatest, AreMade, option_at, later_row, entry_from}
use Rattle.pc_accounts.proofs.PartLaws.{part_more}
use Rattle.pc_accounts.proofs.DayLaws.{le-from_test, test-from_le, lt-from_test, le-from_no_test}

-- one charge more
actual_more : (charges : List MoneyRow) (as_of : ℤ) (a i : ℕ) → i < length charges →
    actual_of (take (i + 1) charges) as_of a
    ≡ actual_of (take i charges) as_of a + cond (((money_at charges i).account == a) && int_le (money_at charges i).day as_of)
    (money_at charges i).amount 0
actual_more charges as_of a i h =
    part_more (λ (row : MoneyRow). row.amount) (λ (row : MoneyRow). (row.account == a) && int_le row.day as_of) charges i
    (record { account = 0; day = pos 0; amount = 0 }) h

due : (a account : ℕ) (late : Bool) (amount : ℕ) → account ≡ a → late ≡ true → cond ((account == a) && late) amount 0 ≡ amount
due a account late amount same on = rw (eq-eqb account a same, on) refl

apart : (a account : ℕ) (late : Bool) (amount : ℕ) → account ≢ a → cond ((account == a) && late) amount 0 ≡ 0
apart a account late amount ne = rw (ne_eqb account a ne) refl

not_due : (test late : Bool) (amount : ℕ) → late ≡ false → cond (test && late) amount 0 ≡ 0
not_due true late amount off = rw off refl
not_due false late amount off = refl

-- a charge that counts is added to its account
pub AreActuals-due : (accounts : ℕ) (charges : List MoneyRow) (as_of : ℤ) (i : ℕ) (actuals : List ℕ) → AreMoney accounts charges →
    AreActuals accounts charges as_of i actuals → i < length charges → int_le (money_at charges i).day as_of ≡ true →
    AreActuals accounts charges as_of (i + 1)
    (set actuals (money_at charges i).account (slice_index actuals (money_at charges i).account + (money_at charges i).amount))
AreActuals-due accounts charges as_of i actuals money so_far within on = record {
  one_each = length-set actuals account _ ∙ so_far.one_each;
  each = λ a lt. ⊎_elim (λ e. here a lt e) (λ ne. there a lt ne) (cases_eq account a);
  together = let known : account < length actuals = omega (arith, money.known i within, so_far.one_each) in
      omega (arith, sum_by-set (λ (n : ℕ). n) actuals account (slice_index actuals account + amount) 0 known, so_far.together, money.small i within);
}
  where
    account : ℕ
    account = (money_at charges i).account

    amount : ℕ
    amount = (money_at charges i).amount

    here : (a : ℕ) → a < accounts → account ≡ a → slice_index (set actuals account (slice_index actuals account + amount)) a ≡ actual_of (take (i + 1) charges) as_of a
    here a lt e =
        let known : account < length actuals = omega (arith, money.known i within, so_far.one_each) in
        let put = get_or-set_same actuals account (slice_index actuals account + amount) 0 known in
        omega (
          arith,
          ap (slice_index (set actuals account (slice_index actuals account + amount))) e,
          ap (slice_index actuals) e,
          put,
          so_far.each a lt,
          actual_more charges as_of a i within,
          due a account (int_le (money_at charges i).day as_of) amount e on,
        )

    there : (a : ℕ) → a < accounts → account ≢ a → slice_index (set actuals account (slice_index actuals account + amount)) a ≡ actual_of (take (i + 1) charges) as_of a
    there a lt ne =
        let other : a ≢ account = λ e. ne (sym e) in
        omega (
          arith,
          get_or-set_other actuals account a (slice_index actuals account + amount) 0 other,
          so_far.each a lt,
          actual_more charges as_of a i within,
          apart a account (int_le (money_at charges i).day as_of) amount ne,
        )

-- the same by the row and the sum as they are read
pub actuals_step : (accounts : ℕ) (charges : List MoneyRow) (as_of : ℤ) (i : ℕ) (actuals : List ℕ) (row : MoneyRow) (sum : ℕ) →
    AreMoney accounts charges → AreActuals accounts charges as_of i actuals → i < length charges → row ≡ get_or charges i row →
    int_le row.day as_of ≡ true → sum ≡ get_or actuals row.account sum →
    AreActuals accounts charges as_of (i + 1) (set actuals row.account (sum + row.amount))
actuals_step accounts charges as_of i actuals row sum money so_far within is on read =
    let same : money_at charges i ≡ row = get_or_default charges i (record { account = 0; day = pos 0; amount = 0 }) row within ∙ sym is in
    let known : row.account < length actuals = omega (arith, money.known i within, so_far.one_each, ap (λ (r : MoneyRow). r.account) same) in
    let value : slice_index actuals row.account ≡ sum = get_or_default actuals row.account 0 sum known ∙ sym read in
    let on_row : int_le (money_at charges i).day as_of ≡ true = ap (λ (r : MoneyRow). int_le r.day as_of) same ∙ on in
    let put = AreActuals-due accounts charges as_of i actuals money so_far within on_row in
    let moved = subst (λ (r : MoneyRow). AreActuals accounts charges as_of (i + 1) (set actuals r.account (slice_index actuals r.account + r.amount))) same put in
    subst (λ (n : ℕ). AreActuals accounts charges as_of (i + 1) (set actuals row.account (n + row.amount))) value moved

-- and one that does not count changes nothing
pub AreActuals-late : (accounts : ℕ) (charges : List MoneyRow) (as_of : ℤ) (i : ℕ) (actuals : List ℕ) →
    AreActuals accounts charges as_of i actuals → i < length charges → int_le (money_at charges i).day as_of ≡ false →
    AreActuals accounts charges as_of (i + 1) actuals
AreActuals-late accounts charges as_of i actuals so_far within off = record {
  one_each = so_far.one_each;
  each = λ a lt. omega (
    arith,
    so_far.each a lt,
    actual_more charges as_of a i within,
    not_due ((money_at charges i).account == a) (int_le (money_at charges i).day as_of) (money_at charges i).amount off,
  );
  together = omega (arith, so_far.together);
}

pub actuals_skip : (accounts : ℕ) (charges : List MoneyRow) (as_of : ℤ) (i : ℕ) (actuals : List ℕ) (row : MoneyRow) →
    AreActuals accounts charges as_of i actuals → i < length charges → row ≡ get_or charges i row → int_le row.day as_of ≡ false →
    AreActuals accounts charges as_of (i + 1) actuals
actuals_skip accounts charges as_of i actuals row so_far within is off =
    let same : money_at charges i ≡ row = get_or_default charges i (record { account = 0; day = pos 0; amount = 0 }) row within ∙ sym is in
    AreActuals-late accounts charges as_of i actuals so_far within (ap (λ (r : MoneyRow). int_le r.day as_of) same ∙ off)

-- an account's sum leaves capacity for one charge more
actual_fits : (accounts : ℕ) (charges : List MoneyRow) (as_of : ℤ) (i a : ℕ) (actuals : List ℕ) → AreActuals accounts charges as_of i actuals → a < accounts → slice_index actuals a ≤ i * MAX_COST
actual_fits accounts charges as_of i a actuals so_far lt =
    let known : a < length actuals = omega (arith, so_far.one_each) in
    omega (arith, so_far.together, get_or-le-sum_by (λ (n : ℕ). n) actuals a 0 known)

pub charge_fits : (accounts : ℕ) (charges : List MoneyRow) (as_of : ℤ) (i : ℕ) (actuals : List ℕ) (row : MoneyRow) (sum : ℕ) →
    length charges ≤ MAX_CHARGES → AreMoney accounts charges → AreActuals accounts charges as_of i actuals → i < length charges →
    row ≡ get_or charges i row → sum ≡ get_or actuals row.account sum → Fits w64 (sum + row.amount)
charge_fits accounts charges as_of i actuals row sum few money so_far within is read =
    let same : money_at charges i ≡ row = get_or_default charges i (record { account = 0; day = pos 0; amount = 0 }) row within ∙ sym is in
    let known : row.account < length actuals = omega (arith, money.known i within, so_far.one_each, ap (λ (r : MoneyRow). r.account) same) in
    let value : slice_index actuals row.account ≡ sum = get_or_default actuals row.account 0 sum known ∙ sym read in
    omega (arith, few, value, actual_fits accounts charges as_of i row.account actuals so_far (omega (arith, so_far.one_each)), money.small i within, ap (λ (r : MoneyRow). r.amount) same)

-- the row that counts among one row more
LatestBelow-more : (togos : List MoneyRow) (as_of : ℤ) (a i : ℕ) (best : Option ℕ) → IsDue togos as_of a i →
    LatestBelow togos as_of a i best → LatestBelow togos as_of a (i + 1) (Some (later_row togos best i))
LatestBelow-more togos as_of a i None here none =
    (omega arith, here, below_more _ _ (λ k lt is. absurd (none k lt is)) (λ is. omega (arith, ints)))
LatestBelow-more togos as_of a i (Some best) here (lt, is, most) = of_test (int_lt (money_at togos i).day (money_at togos best).day) refl
  where
    of_test : (b : Bool) → int_lt (money_at togos i).day (money_at togos best).day ≡ b → LatestBelow togos as_of a (i + 1) (Some (if b then best else i))
    of_test true e =
        let less = lt-from_test (money_at togos i).day (money_at togos best).day e in
        (omega arith, is, below_more _ _ most (λ same. omega (arith, ints)))
    of_test false e =
        let more = le-from_no_test (money_at togos i).day (money_at togos best).day e in
        (omega arith, here, below_more _ _ (λ k low at. let before = most k low at in omega (arith, ints)) (λ same. omega (arith, ints)))

LatestBelow-skip : (togos : List MoneyRow) (as_of : ℤ) (a i : ℕ) (best : Option ℕ) → (IsDue togos as_of a i → ⊥) → LatestBelow togos as_of a i best → LatestBelow togos as_of a (i + 1) best
LatestBelow-skip togos as_of a i None not_here none = below_more _ _ none not_here
LatestBelow-skip togos as_of a i (Some best) not_here (lt, is, most) =
    (omega arith, is, below_more _ _ most (λ here. absurd (not_here here)))

pub AreLatest-due : (accounts : ℕ) (togos : List MoneyRow) (as_of : ℤ) (i : ℕ) (latest : List (Option ℕ)) → AreMoney accounts togos →
    AreLatest accounts togos as_of i latest → i < length togos → int_le (money_at togos i).day as_of ≡ true →
    AreLatest accounts togos as_of (i + 1)
    (set latest (money_at togos i).account (Some (later_row togos (option_at latest (money_at togos i).account) i)))
AreLatest-due accounts togos as_of i latest money so_far within on = record {
  one_each = length-set latest account _ ∙ so_far.one_each;
  each = λ a lt. ⊎_elim (λ e. here a lt e) (λ ne. there a lt ne) (cases_eq account a);
}
  where
    account : ℕ
    account = (money_at togos i).account

    row : Option ℕ
    row = Some (later_row togos (option_at latest account) i)

    here : (a : ℕ) → a < accounts → account ≡ a → LatestBelow togos as_of a (i + 1) (option_at (set latest account row) a)
    here a lt e =
        let known : account < length latest = omega (arith, money.known i within, so_far.one_each) in
        let is : IsDue togos as_of a i = record { in_rows = within; account = e; due = le-from_test (money_at togos i).day as_of on } in
        let put = get_or-set_same latest account row None known in
        rw (← e, put) (LatestBelow-more togos as_of account i (option_at latest account)
        (record { in_rows = within; account = refl; due = le-from_test (money_at togos i).day as_of on })
        (so_far.each account (omega (arith, money.known i within))))

    there : (a : ℕ) → a < accounts → account ≢ a → LatestBelow togos as_of a (i + 1) (option_at (set latest account row) a)
    there a lt ne =
        let other : a ≢ account = λ e. ne (sym e) in
        rw (get_or-set_other latest account a row None other) (LatestBelow-skip togos as_of a i (option_at latest a) (λ is. ne is.account) (so_far.each a lt))

-- the same by the row as it is read
pub latest_step : (accounts : ℕ) (togos : List MoneyRow) (as_of : ℤ) (i : ℕ) (latest : List (Option ℕ)) (row : MoneyRow) (best : Option ℕ) →
    AreMoney accounts togos → AreLatest accounts togos as_of i latest → i < length togos → row ≡ get_or togos i row →
    int_le row.day as_of ≡ true → best ≡ get_or latest row.account best →
    AreLatest accounts togos as_of (i + 1) (set latest row.account (Some (later_row togos best i)))
latest_step accounts togos as_of i latest row best money so_far within is on read =
    let same : money_at togos i ≡ row = get_or_default togos i (record { account = 0; day = pos 0; amount = 0 }) row within ∙ sym is in
    let known : row.account < length latest = omega (arith, money.known i within, so_far.one_each, ap (λ (r : MoneyRow). r.account) same) in
    let value : option_at latest row.account ≡ best = get_or_default latest row.account None best known ∙ sym read in
    let on_row : int_le (money_at togos i).day as_of ≡ true = ap (λ (r : MoneyRow). int_le r.day as_of) same ∙ on in
    let put = AreLatest-due accounts togos as_of i latest money so_far within on_row in
    let moved = subst (λ (r : MoneyRow). AreLatest accounts togos as_of (i + 1) (set latest r.account (Some (later_row togos (option_at latest r.account) i)))) same put in
    subst (λ (o : Option ℕ). AreLatest accounts togos as_of (i + 1) (set latest row.account (Some (later_row togos o i)))) value moved

pub AreLatest-late : (accounts : ℕ) (togos : List MoneyRow) (as_of : ℤ) (i : ℕ) (latest : List (Option ℕ)) →
    AreLatest accounts togos as_of i latest → int_le (money_at togos i).day as_of ≡ false → AreLatest accounts togos as_of (i + 1) latest
AreLatest-late accounts togos as_of i latest so_far off = record {
  one_each = so_far.one_each;
  each = λ a lt. LatestBelow-skip togos as_of a i (option_at latest a) (λ is. let on = test-from_le (money_at togos i).day as_of is.due in cc) (so_far.each a lt);
}

pub latest_skip : (accounts : ℕ) (togos : List MoneyRow) (as_of : ℤ) (i : ℕ) (latest : List (Option ℕ)) (row : MoneyRow) →
    AreLatest accounts togos as_of i latest → i < length togos → row ≡ get_or togos i row → int_le row.day as_of ≡ false →
    AreLatest accounts togos as_of (i + 1) latest
latest_skip accounts togos as_of i latest row so_far within is off =
    let same : money_at togos i ≡ row = get_or_default togos i (record { account = 0; day = pos 0; amount = 0 }) row within ∙ sym is in
    AreLatest-late accounts togos as_of i latest so_far (ap (λ (r : MoneyRow). int_le r.day as_of) same ∙ off)

-- the amount that counts of all amounts to go is what is to go
to_go_is : (togos : List MoneyRow) (as_of : ℤ) (a budget actual : ℕ) (o : Option ℕ) → LatestBelow togos as_of a (length togos) o → IsToGo togos as_of a (entry_from togos budget actual o)
to_go_is togos as_of a budget actual None none = inr (λ k is. none k is.in_rows is, refl)
to_go_is togos as_of a budget actual (Some k) (lt, is, most) =
    inl (k, is, (λ j at. most j at.in_rows at), refl)

-- entries that are made of all rows say what they should
pub entries_of : (accounts : List AcctRow) (charges togos : List MoneyRow) (as_of : ℤ) (actuals : List ℕ) (latest : List (Option ℕ))
    (entries : List Entry) → AreActuals (length accounts) charges as_of (length charges) actuals →
    AreLatest (length accounts) togos as_of (length togos) latest → AreMade accounts togos actuals latest (length accounts) entries →
    AreEntriesOf accounts charges togos as_of entries
entries_of accounts charges togos as_of actuals latest entries sums choices made = record {
  one_each = made.one_each;
  each = λ a lt. rw (made.each a lt) (record {
    budget = refl;
    actual = sums.each a lt ∙ ap (λ (rows : List MoneyRow). actual_of rows as_of a) (take-length charges);
    to_go = to_go_is togos as_of a (budget_of accounts a) (slice_index actuals a) (option_at latest a) (choices.each a lt);
  });
}
