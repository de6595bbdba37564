-- Rows have one result: they are a tree, or one refusal holds of them.
use Rattle.std.proofs.Common.{◌≡◌, ◌≢◌, ℕ, zero, suc, ◌+◌, ◌-◌, ◌<◌, List, length, Some, refl, sym, ap, ◌∙◌, ⊎_elim, add-one, arith}
use Rattle.std.specs.Prelude.{slice_index}
use Rattle.std.proofs.lemmas.Bool.{cases_order}
use Rattle.std.proofs.lemmas.Grind.{same_number_lists}
use Rattle.pc_model.proofs.Walks.WalkLaws.{first_unique}
use Rattle.pc_wbs.specs.declared.tree.ItemRow.{ItemRow}
use Rattle.pc_wbs.specs.declared.error.TreeError.{TreeError}
use Rattle.pc_wbs.specs.declared.error.TreeError.TheVariants.{NoTop, SecondTop, Loop, TooDeep, OutOfMemory}
use Rattle.pc_wbs.specs.Climb.{parent_of, IsOnlyTop, HasLevel, IsTree}
use Rattle.pc_wbs.specs.Refusal.{IsSecondTop, IsLoopFrom, IsLooped, IsTooDeep, IsTreeError}
use Rattle.pc_wbs.proofs.ClimbLaws.{HasLevel-same}
use Rattle.pc_wbs.proofs.OrderLaws.{HasNoLoop-tree}

not_second : (rows : List ItemRow) (x y : ℕ) → IsSecondTop rows x → IsSecondTop rows y → x < y → ⊥
not_second rows x y h g lt =
    let f = h.earlier in
    let first = g.earlier in
    let here = first.1.1.1 x lt h.is_top in
    let there = first.1.1.1 f.0 (omega (arith, f.1.0)) f.1.1.0 in
    omega (arith, f.1.0)

IsSecondTop-same : (rows : List ItemRow) (x y : ℕ) → IsSecondTop rows x → IsSecondTop rows y → x ≡ y
IsSecondTop-same rows x y h g =
    ⊎_elim (λ same. same) (λ apart. ⊎_elim (λ lt. absurd (not_second rows x y h g lt)) (λ gt. absurd (not_second rows y x g h gt)) apart) (cases_order x y)

-- two lists of one loop agree as far as both go
loops_agree : (rows : List ItemRow) (x : ℕ) (l m : List ℕ) → IsLoopFrom rows x l → IsLoopFrom rows x m → (k : ℕ) → k < length l → k < length m → slice_index l k ≡ slice_index m k
loops_agree rows x l m h g zero a b = h.starts ∙ sym g.starts
loops_agree rows x l m h g (suc k) a b =
    let same = loops_agree rows x l m h g k (omega arith) (omega arith) in
    let on = h.steps k (omega arith) in
    let by = g.steps k (omega arith) in
    let next = ap (λ n. parent_of rows n) same in
    let both : Some (slice_index l (k + 1)) ≡ Some (slice_index m (k + 1)) = sym on ∙ next ∙ by in
    let is : slice_index l (k + 1) ≡ slice_index m (k + 1) = cc in
    rw add-one at is

-- and none of them ends before the other
not_shorter : (rows : List ItemRow) (x : ℕ) (l m : List ℕ) → IsLoopFrom rows x l → IsLoopFrom rows x m → length l < length m → ⊥
not_shorter rows x l m h g lt =
    let last = length l - 1 in
    let some = h.some in
    let same = loops_agree rows x l m h g (length l - 1) (omega arith) (omega arith) in
    let back = h.closes (length l - 1) (omega arith) in
    let on = g.steps (length l - 1) (omega arith) in
    let next = ap (λ n. parent_of rows n) same in
    let both : Some x ≡ Some (slice_index m (length l - 1 + 1)) = sym back ∙ next ∙ on in
    let is : slice_index m (length l - 1 + 1) ≡ x = cc in
    g.once 0 (length l - 1 + 1) (omega arith) (omega arith) (g.starts ∙ sym is)

IsLoopFrom-same : (rows : List ItemRow) (x : ℕ) (l m : List ℕ) → IsLoopFrom rows x l → IsLoopFrom rows x m → l ≡ m
IsLoopFrom-same rows x l m h g =
    let lengths : length l ≡ length m =
    ⊎_elim (λ same. same) (λ apart. ⊎_elim (λ lt. absurd (not_shorter rows x l m h g lt))
    (λ gt. absurd (not_shorter rows x m l g h gt)) apart) (cases_order (length l) (length m)) in
    same_number_lists l m lengths (λ k lt. loops_agree rows x l m h g k lt (omega arith))

two_tops : (rows : List ItemRow) (top item : ℕ) → IsOnlyTop rows top → IsSecondTop rows item → ⊥
two_tops rows top item h g =
    let f = g.earlier in
    let here = h.only item g.is_top.0 g.is_top.1 in
    let there = h.only f.0 f.1.1.0.0 f.1.1.0.1 in
    omega (arith, f.1.0)

-- of a tree no refusal holds
pub IsTree-not_refused : (rows : List ItemRow) (e : TreeError) → IsTree rows → IsTreeError rows e → e ≡ OutOfMemory
IsTree-not_refused rows NoTop t no_top =
    let top = t.top.1.is_top in
    absurd (no_top t.top.0 top.0 top.1)
IsTree-not_refused rows (SecondTop item) t h = absurd (two_tops rows t.top.0 item t.top.1 h)
IsTree-not_refused rows (Loop loop) t h = absurd (HasNoLoop-tree rows t h.1.0 h.1.1.0.holds.1)
IsTree-not_refused rows (TooDeep item level) t h =
    let deep = h.2.holds in
    let own = t.levels item deep.0 in
    let same = HasLevel-same rows item deep.1.0 own.0 deep.1.1.0 own.1.0 in
    absurd (omega (arith, deep.1.1.1, own.1.1))
IsTree-not_refused rows OutOfMemory t h = refl

-- and of other rows only one, except for out of memory
pub IsRefusal-same : (rows : List ItemRow) (e f : TreeError) → e ≢ OutOfMemory → f ≢ OutOfMemory → IsTreeError rows e → IsTreeError rows f → e ≡ f
IsRefusal-same rows OutOfMemory f he hf h g = absurd (he refl)
IsRefusal-same rows e OutOfMemory he hf h g = absurd (hf refl)
IsRefusal-same rows NoTop NoTop he hf h g = refl
IsRefusal-same rows NoTop (SecondTop item) he hf h g = absurd (h item g.is_top.0 g.is_top.1)
IsRefusal-same rows NoTop (Loop loop) he hf h g = absurd (h g.0.0 g.0.1.is_top.0 g.0.1.is_top.1)
IsRefusal-same rows NoTop (TooDeep item level) he hf h g = absurd (h g.0.0 g.0.1.is_top.0 g.0.1.is_top.1)
IsRefusal-same rows (SecondTop item) NoTop he hf h g = absurd (g item h.is_top.0 h.is_top.1)
IsRefusal-same rows (SecondTop item) (SecondTop other) he hf h g = ap (λ n. SecondTop n) (IsSecondTop-same rows item other h g)
IsRefusal-same rows (SecondTop item) (Loop loop) he hf h g = absurd (two_tops rows g.0.0 item g.0.1 h)
IsRefusal-same rows (SecondTop item) (TooDeep other level) he hf h g = absurd (two_tops rows g.0.0 item g.0.1 h)
IsRefusal-same rows (Loop loop) NoTop he hf h g = absurd (g h.0.0 h.0.1.is_top.0 h.0.1.is_top.1)
IsRefusal-same rows (Loop loop) (SecondTop item) he hf h g = absurd (two_tops rows h.0.0 item h.0.1 g)
IsRefusal-same rows (Loop loop) (Loop other) he hf h g =
    let same = first_unique (IsLooped rows) h.1.0 g.1.0 h.1.1.0 g.1.1.0 in
    let moved : IsLoopFrom rows h.1.0 other = rw same g.1.1.1 in
    ap (λ l. Loop l) (IsLoopFrom-same rows h.1.0 loop other h.1.1.1 moved)
IsRefusal-same rows (Loop loop) (TooDeep item level) he hf h g = absurd (g.1 h.1.0 h.1.1.0.holds)
IsRefusal-same rows (TooDeep item level) NoTop he hf h g = absurd (g h.0.0 h.0.1.is_top.0 h.0.1.is_top.1)
IsRefusal-same rows (TooDeep item level) (SecondTop other) he hf h g = absurd (two_tops rows h.0.0 other h.0.1 g)
IsRefusal-same rows (TooDeep item level) (Loop loop) he hf h g = absurd (h.1 g.1.0 g.1.1.0.holds)
IsRefusal-same rows (TooDeep item level) (TooDeep other deep) he hf h g =
    let same : item ≡ other = first_unique (IsTooDeep rows) item other h.2 g.2 in
    let moved : HasLevel rows item deep = rw same g.3 in
    let levels : level ≡ deep = HasLevel-same rows item level deep h.3 moved in
    ap (λ n. TooDeep n level) same ∙ ap (λ n. TooDeep other n) levels
