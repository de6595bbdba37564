-- Long climbs end on loops, and each row of a loop is the end of one.
use Rattle.std.proofs.Common.{◌≡◌, ◌≢◌, ℕ, zero, suc, ◌+◌, ◌-◌, ◌*◌, ◌<◌, ◌≤◌, ◌++◌, ◌∷◌, [], below_more, List, length, Option, Some, None, refl, sym, ap, ◌∙◌, arith}
use Rattle.std.specs.Prelude.{unwrap_or, slice_index}
use Rattle.pc_wbs.specs.declared.tree.ItemRow.{ItemRow}
use Rattle.pc_wbs.specs.Climb.{parent_of, AreInRange, climb, HasLevel, IsOnLoop}
use Rattle.std.proofs.lemmas.List.{length_push, get_or_push, get_or_append_left}
use Rattle.pc_wbs.specs.Refusal.{IsLooped, IsLoopFrom}
use Rattle.std.proofs.Math.Nat.{zero-mul}
use Rattle.pc_wbs.proofs.Pigeon.{Repeats, repeats}
use Rattle.pc_wbs.proofs.ClimbLaws.{climb-add, climb-more, climb-lower, climb-range}

-- where a climb is after i steps
abbrev place : List ItemRow → ℕ → ℕ → ℕ
place rows x i = unwrap_or (climb rows i x) 0

place-is : (o : Option ℕ) (z : ℕ) → o ≡ Some z → o ≡ Some (unwrap_or o 0)
place-is None z h = cc
place-is (Some y) z h = refl

climb-place : (rows : List ItemRow) (x i z : ℕ) → climb rows i x ≡ Some z → climb rows i x ≡ Some (place rows x i)
climb-place rows x i z h = place-is (climb rows i x) z h

-- a climb of at least as many steps as there are rows reaches some row twice
repeated : (rows : List ItemRow) (steps x y : ℕ) → AreInRange rows → x < length rows → length rows ≤ steps → climb rows steps x ≡ Some y → Repeats (length rows) (place rows x)
repeated rows steps x y r lt long h = repeats (length rows) (place rows x) small
  where
    small : (i : ℕ) → i ≤ length rows → place rows x i < length rows
    small i le =
        let z = climb-lower rows i steps x y (omega arith) h in
        climb-range rows i x (place rows x i) r lt (climb-place rows x i z.0 z.1)

-- so it ends on a loop
pub IsOnLoop-end : (rows : List ItemRow) (steps x y : ℕ) → AreInRange rows → x < length rows → length rows ≤ steps → climb rows steps x ≡ Some y → IsOnLoop rows y
IsOnLoop-end rows steps x y r lt long h = around (repeated rows steps x y r lt long h)
  where
    around : Repeats (length rows) (place rows x) → IsOnLoop rows y
    around (i, (j, (before, within, e))) =
        let zi = climb-lower rows i steps x y (omega arith) h in
        let zj = climb-lower rows j steps x y (omega arith) h in
        let at_i : climb rows i x ≡ Some (place rows x i) = climb-place rows x i zi.0 zi.1 in
        let at_j : climb rows j x ≡ Some (place rows x i) = climb-place rows x j zj.0 zj.1 ∙ ap Some (sym e) in
        let from_i = climb-add rows i (steps - i) steps x (place rows x i) (omega arith) at_i in
        let from_j = climb-add rows j (steps - j) steps x (place rows x i) (omega arith) at_j in
        let end : climb rows (steps - j) (place rows x i) ≡ Some y = sym from_j ∙ h in
        let on = climb-add rows (steps - j) (j - i - 1 + 1) (steps - i) (place rows x i) y (omega arith) end in
        (j - i - 1, sym on ∙ sym from_i ∙ h)

-- from a row of a loop, complete rounds lead back
rounds : (rows : List ItemRow) (k x m : ℕ) → climb rows (k + 1) x ≡ Some x → climb rows (m * (k + 1)) x ≡ Some x
rounds rows k x zero h = rw (zero-mul (k + 1)) refl
rounds rows k x (suc m) h =
    climb-add rows (k + 1) (m * (k + 1)) (suc m * (k + 1)) x x (omega arith) h ∙ rounds rows k x m h

-- and any climb leads somewhere
pub climb-loop : (rows : List ItemRow) (x steps : ℕ) → IsOnLoop rows x → (z : ℕ) × (climb rows steps x ≡ Some z)
climb-loop rows x steps (k, h) =
    climb-lower rows steps (steps * (k + 1)) x x (omega arith) (rounds rows k x steps h)

-- each row of a loop is the end of a climb of any length
pub end-IsOnLoop : (rows : List ItemRow) (x steps : ℕ) → AreInRange rows → x < length rows → IsOnLoop rows x → (z : ℕ) × ((z < length rows) × (climb rows steps z ≡ Some x))
end-IsOnLoop rows x steps r lt (k, h) =
    let back = steps * (k + 1) - steps in
    let z = climb-loop rows x (steps * (k + 1) - steps) (k, h) in
    let on = climb-add rows (steps * (k + 1) - steps) steps (steps * (k + 1)) x z.0 (omega arith) z.1 in
    (z.0, (climb-range rows (steps * (k + 1) - steps) x z.0 r lt z.1, sym on ∙ rounds rows k x steps h))

-- a loop has at most as many rows as there are
pub IsOnLoop-short : (rows : List ItemRow) (x : ℕ) → AreInRange rows → x < length rows → IsOnLoop rows x → (k : ℕ) × ((k < length rows) × (climb rows (k + 1) x ≡ Some x))
IsOnLoop-short rows x r lt (k, h) =
    let z = climb-loop rows x (length rows) (k, h) in
    short (repeated rows (length rows) x z.0 r lt (omega arith) z.1)
  where
    short : Repeats (length rows) (place rows x) → (d : ℕ) × ((d < length rows) × (climb rows (d + 1) x ≡ Some x))
    short (i, (j, (before, within, e))) =
        let zi = climb-loop rows x i (k, h) in
        let zj = climb-loop rows x j (k, h) in
        let at_i : climb rows i x ≡ Some (place rows x i) = climb-place rows x i zi.0 zi.1 in
        let at_j : climb rows j x ≡ Some (place rows x i) = climb-place rows x j zj.0 zj.1 ∙ ap Some (sym e) in
        let back = climb-add rows i (i * (k + 1) - i) (i * (k + 1)) x (place rows x i) (omega arith) at_i in
        let far = climb-add rows j (i * (k + 1) - i) (i * (k + 1) + (j - i - 1 + 1)) x (place rows x i) (omega arith) at_j in
        let on = climb-add rows (i * (k + 1)) (j - i - 1 + 1) (i * (k + 1) + (j - i - 1 + 1)) x x refl (rounds rows k x i h) in
        (j - i - 1, (omega arith, sym on ∙ far ∙ sym back ∙ rounds rows k x i h))

-- a row with a level is on no loop
pub HasLevel-no_loop : (rows : List ItemRow) (x level : ℕ) → HasLevel rows x level → IsOnLoop rows x → ⊥
HasLevel-no_loop rows x level (k, (top, (h, t, l))) on =
    let z = climb-loop rows x (k + 1) on in
    let over = climb-more rows k x top h in
    let is = z.1 in
    cc

-- a walk round the loop: the rows that were passed, each reached by that many steps, and none is the first again
pub record IsOnTheWay (rows : List ItemRow) (start steps : ℕ) (found : List ℕ) (here : ℕ) : Type 0 where
  pub so_many : length found ≡ steps
  pub now : climb rows steps start ≡ Some here
  pub inside : here < length rows
  pub passed : (k : ℕ) → k < steps → climb rows k start ≡ Some (slice_index found k)
  pub away : (k : ℕ) → k < steps → climb rows (k + 1) start ≢ Some start

pub IsOnTheWay-more : (rows : List ItemRow) (start steps : ℕ) (found : List ℕ) (here parent : ℕ) → AreInRange rows →
    IsOnTheWay rows start steps found here → parent_of rows here ≡ Some parent → (parent ≡ start → ⊥) →
    IsOnTheWay rows start (steps + 1) (found ++ here ∷ []) parent
IsOnTheWay-more rows start steps found here parent r h e away = record {
  so_many = length_push found here ∙ ap (λ n. n + 1) h.so_many;
  now = climb-more rows steps start here h.now ∙ e;
  inside = r here parent h.inside e;
  passed = below_more _ _ (λ k lt. h.passed k lt ∙ ap Some (sym (get_or_append_left found (here ∷ []) 0 k (omega (arith, h.so_many))))) (h.now ∙ ap Some (sym (last steps h.so_many)));
  away = below_more _ _ h.away (λ back. let on = climb-more rows steps start here h.now in away cc);
}
  where
    last : (n : ℕ) → length found ≡ n → slice_index (found ++ here ∷ []) n ≡ here
    last n is = get_or_push found here 0 n is

-- back at the start the walk is the loop
pub IsLoopFrom-walked : (rows : List ItemRow) (start steps : ℕ) (found : List ℕ) (here : ℕ) → IsOnTheWay rows start steps found here →
    parent_of rows here ≡ Some start → IsLoopFrom rows start (found ++ here ∷ [])
IsLoopFrom-walked rows start steps found here h e = record {
  some = omega (arith, length_push found here);
  starts = let first = all 0 (omega arith) in cc;
  steps = λ k lt. let a = all k (omega (arith, length_push found here, h.so_many)) in
      let b = all (k + 1) (omega (arith, length_push found here, h.so_many)) in let over = climb-more rows k start (slice_index loop k) a in
      sym over ∙ b;
  closes = λ k is. let at : k ≡ steps = omega (arith, length_push found here, h.so_many) in ap (λ n. parent_of rows n) (last k (h.so_many ∙ sym at)) ∙ e;
  once = λ j k lt within same. apart j k lt (omega (arith, within, length_push found here, h.so_many)) same;
}
  where
    loop : List ℕ
    loop = found ++ here ∷ []

    last : (n : ℕ) → length found ≡ n → slice_index (found ++ here ∷ []) n ≡ here
    last n is = get_or_push found here 0 n is

    all : (k : ℕ) → k < steps + 1 → climb rows k start ≡ Some (slice_index (found ++ here ∷ []) k)
    all = below_more _ _ (λ k lt. h.passed k lt ∙ ap Some (sym (get_or_append_left found (here ∷ []) 0 k (omega (arith, h.so_many))))) (h.now ∙ ap Some (sym (last steps h.so_many)))

    apart : (j k : ℕ) → j < k → k < steps + 1 → slice_index (found ++ here ∷ []) j ≡ slice_index (found ++ here ∷ []) k → ⊥
    apart j k lt within same =
        let rest = steps - k in
        let round = climb-more rows steps start here h.now ∙ e in
        let by_k = climb-add rows k (steps - k + 1) (steps + 1) start (slice_index (found ++ here ∷ []) k) (omega arith) (all k within) in
        let by_j = climb-add rows j (steps - k + 1) (j + (steps - k) + 1) start (slice_index (found ++ here ∷ []) j) (omega arith) (all j (omega arith)) in
        let back = by_j ∙ ap (λ n. climb rows (steps - k + 1) n) same ∙ sym by_k ∙ round in
        h.away (j + (steps - k)) (omega arith) back

-- a walk of as many steps as there are rows has returned
pub not_for_ever : (rows : List ItemRow) (start steps : ℕ) (found : List ℕ) (here : ℕ) → AreInRange rows → IsLooped rows start → length rows ≤ steps → IsOnTheWay rows start steps found here → ⊥
not_for_ever rows start steps found here r on long h =
    let short = IsOnLoop-short rows start r on.0 on.1 in
    h.away short.0 (omega (arith, short.1.0)) short.1.1

-- on the way each row has a parent
pub loop-parent : (rows : List ItemRow) (start steps : ℕ) (found : List ℕ) (here : ℕ) → IsLooped rows start → IsOnTheWay rows start steps found here → (z : ℕ) × (parent_of rows here ≡ Some z)
loop-parent rows start steps found here on h =
    let z = climb-loop rows start (steps + 1) on.1 in
    (z.0, sym (climb-more rows steps start here h.now) ∙ z.1)
