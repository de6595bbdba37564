-- A network has one text of figures.
use Rattle.std.proofs.Common.{◌≡◌, ℕ, ◌+◌, ◌-◌, ◌≤◌, List, length, refl, sym, ap, ◌∙◌, subst, arith}
use Rattle.pc_model.specs.Schedule.{AreTerms}
use Rattle.pc_model.proofs.Schedules.Shortest.{shortest_below_schedule}
use Rattle.pc_model.proofs.Sums.{sum_to-same}
use Rattle.pc_model.proofs.Walks.WalkLaws.{greatest_unique}
use Rattle.pc_laws.specs.Curve.{Breakpoint}
use Rattle.pc_crash.specs.Priced.{PricedNetwork}
use Rattle.pc_curve.specs.Points.{curve_in}
use Rattle.pc_curve.proofs.OneTextLaws.{one_cost, one_points}
use Rattle.pc_curve.specs.declared.bench.figures.CurveFigures.{CurveFigures}
use Rattle.pc_curve.specs.bench.Figures.{HasBreaks, IsFiguresOf, IsSumOfCosts}
use Rattle.pc_curve.specs.bench.Report.{IsBenchText, bench_text}

one_number : (net : PricedNetwork) (shortest longest m n : ℕ) → HasBreaks (curve_in net) shortest longest m → HasBreaks (curve_in net) shortest longest n → m ≡ n
one_number net shortest longest m n p q =
    p.count ∙ (ap (λ (ps : List Breakpoint). length ps) (one_points net shortest longest p.points q.points p.breaks q.breaks) ∙ sym q.count)

one_sum : (net : PricedNetwork) (shortest longest m n : ℕ) → shortest ≤ longest → IsSumOfCosts (curve_in net) shortest longest m → IsSumOfCosts (curve_in net) shortest longest n → m ≡ n
one_sum net shortest longest m n ordered p q =
    p.total ∙ (sum_to-same (longest - shortest + 1) (λ k. p.costs (longest - k)) (λ k. q.costs (longest - k))
    (λ k lt. one_cost net (longest - k) (p.costs (longest - k)) (q.costs (longest - k))
    (p.least (longest - k) (omega (arith, lt, ordered)) (omega arith))
    (q.least (longest - k) (omega (arith, lt, ordered)) (omega arith)))
    ∙ sym q.total)

abbrev make_figures : ℕ → ℕ → ℕ → ℕ → ℕ → ℕ → CurveFigures
make_figures a b c d e f = record { longest = a; longest_cost = b; shortest = c; shortest_cost = d; breaks = e; sum = f }

same_figures : {a b c d e f g h i j k l : ℕ} → a ≡ b → c ≡ d → e ≡ f → g ≡ h → i ≡ j → k ≡ l → make_figures a c e g i k ≡ make_figures b d f h j l
same_figures p q r s t u = rw (p, q, r, s, t, u) refl

one_figures : (net : PricedNetwork) (f g : CurveFigures) → AreTerms net.network net.terms → IsFiguresOf net f → IsFiguresOf net g → f ≡ g
one_figures net f g terms p q =
    let long = greatest_unique _ f.longest g.longest p.all_normal q.all_normal in
    let short = greatest_unique _ f.shortest g.shortest p.all_crash q.all_crash in
    let (durations, times, schedule, costs) = q.longest_cost.reached in
    let ordered = shortest_below_schedule net.network net.terms g.shortest g.longest terms q.all_crash (durations, times, schedule) in
    same_figures long
    (one_cost net g.longest f.longest_cost g.longest_cost (subst (λ (n : ℕ). curve_in net n f.longest_cost) long p.longest_cost) q.longest_cost)
    short
    (one_cost net g.shortest f.shortest_cost g.shortest_cost (subst (λ (n : ℕ). curve_in net n f.shortest_cost) short p.shortest_cost) q.shortest_cost)
    (one_number net g.shortest g.longest f.breaks g.breaks
    (subst (λ (s : ℕ). HasBreaks (curve_in net) s g.longest f.breaks) short (subst (λ (l : ℕ). HasBreaks (curve_in net) f.shortest l f.breaks) long p.breaks)) q.breaks)
    (one_sum net g.shortest g.longest f.sum g.sum ordered
    (subst (λ (s : ℕ). IsSumOfCosts (curve_in net) s g.longest f.sum) short (subst (λ (l : ℕ). IsSumOfCosts (curve_in net) f.shortest l f.sum) long p.sum)) q.sum)

pub one_bench_text : (n : ℕ) (net : PricedNetwork) (text other : List ℕ) → AreTerms net.network net.terms → IsBenchText n net text → IsBenchText n net other → text ≡ other
one_bench_text n net text other terms p q = p.is ∙ (ap (bench_text n) (one_figures net p.figures q.figures terms p.right q.right) ∙ sym q.is)
