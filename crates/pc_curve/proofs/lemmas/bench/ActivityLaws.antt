-- The draws of one activity, counted from those before it.
use Rattle.std.proofs.Common.{◌≡◌, ℕ, ◌+◌, ◌-◌, ◌*◌, ◌%◌, ◌≤◌, List, ◌++◌, ap, ◌∙◌, append_assoc, add-one, sym, arith}
use Rattle.std.specs.Prelude.{if◌then◌else◌, nat_le}
use Rattle.pc_edges.specs.Texts.{texts_to}
use Rattle.pc_model.specs.Sums.{sum_to}
use Rattle.pc_curve.specs.declared.bench.deck.BenchActivity.{BenchActivity}
use Rattle.pc_curve.specs.bench.Draws.{drawn}
use Rattle.pc_curve.specs.bench.Deck.{activity_line}
use Rattle.pc_curve.specs.bench.Recipe.{activity, begins_at, draws_to, ends_at, bench_last_event, own_draw}

-- an activity of these ends and draws
abbrev activity_of : ℕ → ℕ → ℕ → ℕ → ℕ → ℕ → BenchActivity
activity_of from to x y z w = record {
  from = from;
  to = to;
  normal = (to - from) * (1 + x % 20);
  crash = y % ((to - from) * (1 + x % 20) + 1);
  slope = 1 + z % 9;
  cost = 10 + w % 90;
}

-- the next of its own draws
pub own-next : (n i k x : ℕ) → x ≡ drawn n ((draws_to n (i - 1) + ((if nat_le i (bench_last_event n) then 0 else 2) + k)) + 1) → x ≡ own_draw n i (k + 1)
own-next n i k x is = is ∙ ap (drawn n) (omega arith)

-- with its ends and its own draws it is the activity
pub drawn-activity : (n i from to x y z w : ℕ) → from ≡ begins_at n i → to ≡ ends_at n i
    → x ≡ own_draw n i 1 → y ≡ own_draw n i 2 → z ≡ own_draw n i 3 → w ≡ own_draw n i 4
    → activity_of from to x y z w ≡ activity n i
drawn-activity n i from to x y z w begins ends one two three four =
    ap (λ v. activity_of v to x y z w) begins
    ∙ (ap (λ v. activity_of (begins_at n i) v x y z w) ends
    ∙ (ap (λ v. activity_of (begins_at n i) (ends_at n i) v y z w) one
    ∙ (ap (λ v. activity_of (begins_at n i) (ends_at n i) (own_draw n i 1) v z w) two
    ∙ (ap (λ v. activity_of (begins_at n i) (ends_at n i) (own_draw n i 1) (own_draw n i 2) v w) three
    ∙ ap (λ v. activity_of (begins_at n i) (ends_at n i) (own_draw n i 1) (own_draw n i 2) (own_draw n i 3) v) four))))

-- the cards of the first k activities
abbrev cards_to : ℕ → ℕ → List ℕ
cards_to n k = texts_to k (λ k. activity_line (k + 1) (activity n (k + 1)))

-- one card more
pub one-card-more : (n k : ℕ) (old here there : List ℕ) (a : BenchActivity) → here ≡ old ++ cards_to n k → there ≡ here ++ activity_line (k + 1) a
    → a ≡ activity n (k + 1) → there ≡ old ++ cards_to n (k + 1)
one-card-more n k old here there a so_far more is =
    more ∙ (ap (λ text. text ++ activity_line (k + 1) a) so_far
    ∙ (append_assoc old (cards_to n k) (activity_line (k + 1) a)
    ∙ (ap (λ (b : BenchActivity). old ++ (cards_to n k ++ activity_line (k + 1) b)) is
    ∙ ap (λ m. old ++ cards_to n m) (sym (add-one k)))))

-- no activity costs more
pub cost-small : (n i : ℕ) → (activity n i).cost ≤ 99
cost-small n i = omega arith

-- what the first k activities cost
abbrev costs_to : ℕ → ℕ → ℕ
costs_to n k = sum_to k (λ k. (activity n (k + 1)).cost)

-- what one activity more adds to the costs
pub one-cost-more : (n k costs : ℕ) (a : BenchActivity) → costs ≡ costs_to n k → a ≡ activity n (k + 1) → costs + a.cost ≡ costs_to n (k + 1)
one-cost-more n k costs a so_far is =
    ap (λ c. c + a.cost) so_far ∙ (ap (λ (b : BenchActivity). costs_to n k + b.cost) is ∙ ap (costs_to n) (sym (add-one k)))
