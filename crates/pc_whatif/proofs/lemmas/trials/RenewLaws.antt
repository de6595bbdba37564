-- The passes over the network, from span to span.
use Rattle.std.proofs.Common.{◌≡◌, ℕ, ◌<◌, List, length, take, sym, ◌∙◌, ap, subst, arith}
use Rattle.pc_cells.specs.Spans.{Cells}
use Rattle.pc_cells.specs.inside.Spans.{with_span}
use Rattle.pc_model.specs.Network.{Network}
use Rattle.pc_times.specs.Picked.{IsPickedWalk}
use Rattle.pc_times.specs.Times.{AreEarly}
use Rattle.pc_times.specs.inside.Times.{AreTails}
use Rattle.pc_times.specs.declared.TheConstants.{MAX_TIME}
use Rattle.pc_whatif.specs.declared.trials.Spans.{Spans}
use Rattle.pc_whatif.specs.inside.trials.Laid.{AreAtMost, AreRenewed, IsLaidIn, span_list}
use Rattle.pc_whatif.proofs.lemmas.trials.LaidLaws.{IsPut, put}

-- the region r1, where the early times are written
pub record HasEarly (spans : Spans) (r0 r1 : Cells) : Type 0 where
  pub laid : IsLaidIn r1 spans
  pub expected : span_list r1 0 ≡ span_list r0 0

-- and the region r2, where the tails are written too
pub record HasTails (spans : Spans) (r0 r2 : Cells) (times sums : List ℕ) : Type 0 where
  pub laid : IsLaidIn r2 spans
  pub expected : span_list r2 0 ≡ span_list r0 0
  pub early : span_list r2 2 ≡ times
  pub tails : span_list r2 3 ≡ sums

-- the early times are written
module _ (net : Network) (spans : Spans) (r0 r1 : Cells) (early : List ℕ) (laid : IsLaidIn r0 spans) (size2 : length (span_list r0 2) ≡ net.events)
    (one_early : length early ≡ net.events) (written : r1 ≡ with_span r0 2 early) where
  first : IsPut r0 r1 2 early
  first = put r0 r1 2 early written (omega (arith, laid.count)) (one_early ∙ sym size2)

  pub has-early : HasEarly spans r0 r1
  has-early = record { laid = first.laid spans laid; expected = first.off 0 (λ e. omega (arith, e)) }

  -- and then the tails
  module _ (r2 : Cells) (tails : List ℕ) (size3 : length (span_list r0 3) ≡ net.events) (one_tail : length tails ≡ net.events)
      (also : r2 ≡ with_span r1 3 tails) where
    second : IsPut r1 r2 3 tails
    second = put r1 r2 3 tails also (omega (arith, has-early.laid.count)) (one_tail ∙ sym (ap length (first.off 3 (λ e. omega (arith, e))) ∙ size3))

    pub has-tails : HasTails spans r0 r2 early tails
    has-tails = record {
      laid = second.laid spans has-early.laid;
      expected = second.off 0 (λ e. omega (arith, e)) ∙ has-early.expected;
      early = second.off 2 (λ e. omega (arith, e)) ∙ first.at;
      tails = second.at;
    }

    -- and last the path
    module _ (r3 : Cells) (path_cells : List ℕ) (size4 : length (span_list r0 4) ≡ net.events) (one_place : length path_cells ≡ net.events)
        (last : r3 ≡ with_span r2 4 path_cells) where
      third : IsPut r2 r3 4 path_cells
      third =
          put r2 r3 4 path_cells last (omega (arith, has-tails.laid.count))
          (one_place ∙ sym (ap length (second.off 4 (λ e. omega (arith, e)) ∙ first.off 4 (λ e. omega (arith, e))) ∙ size4))

      early-3 : span_list r3 2 ≡ early
      early-3 = third.off 2 (λ e. omega (arith, e)) ∙ has-tails.early

      tails-3 : span_list r3 3 ≡ tails
      tails-3 = third.off 3 (λ e. omega (arith, e)) ∙ has-tails.tails

      pub renewed : (path_len : ℕ) → AreEarly net (span_list r0 0) early → AreTails net (span_list r0 0) tails → IsPickedWalk net (span_list r0 0) (take path_len path_cells)
          → path_len < net.events → AreAtMost MAX_TIME early → AreAtMost MAX_TIME tails → AreRenewed net spans r0 r3 path_len
      renewed path_len are_early are_tails picked short small_early small_tails = record {
        laid = third.laid spans has-tails.laid;
        expected = third.off 0 (λ e. omega (arith, e)) ∙ has-tails.expected;
        variances = third.off 1 (λ e. omega (arith, e)) ∙ second.off 1 (λ e. omega (arith, e)) ∙ first.off 1 (λ e. omega (arith, e));
        early = subst (AreEarly net (span_list r0 0)) (sym early-3) are_early;
        tails = subst (AreTails net (span_list r0 0)) (sym tails-3) are_tails;
        path = subst (λ ys. IsPickedWalk net (span_list r0 0) (take path_len ys)) (sym third.at) picked;
        path_cells = ap length third.at ∙ one_place;
        short = short;
        free = third.free ∙ second.free ∙ first.free;
        small_early = subst (AreAtMost MAX_TIME) (sym early-3) small_early;
        small_tails = subst (AreAtMost MAX_TIME) (sym tails-3) small_tails;
      }
