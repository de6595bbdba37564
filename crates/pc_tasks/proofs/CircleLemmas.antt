-- The wide arrows are a network without loose ends, and not too large.
use Rattle.std.proofs.Common.{◌≡◌, ℕ, ◌+◌, ◌*◌, Bool, List, ◌++◌, length, map, sym, subst, arith}
use Rattle.std.specs.List.{range_with_len}
use Rattle.std.proofs.lemmas.List.{length-append, length-map}
use Rattle.std.proofs.lemmas.List.FromFn.{length-map-range_with_len}
use Rattle.pc_model.specs.declared.Arc.{Arc}
use Rattle.pc_model.specs.Network.{Network}
use Rattle.pc_net.specs.Firmness.{IsFirm}
use Rattle.pc_net.specs.Refusals.{IsNetError}
use Rattle.pc_net.specs.declared.refusal.NetError.TheVariants as net
use Rattle.pc_project.specs.declared.placed.AfterRow.{AfterRow}
use Rattle.pc_tasks.specs.network.Arrows.{after_arc, first_arc, last_arc, last_event, task_arc, wide_arrows, wide_links}

pub length-wide : (n : ℕ) (afters : List AfterRow) → length (wide_arrows n afters).arcs ≡ n + (length afters + (n + n))
length-wide n afters =
    omega (
      arith,
      length-append (map task_arc (range_with_len 0 n)) (wide_links n afters),
      length-map-range_with_len task_arc 0 n,
      length-append (map after_arc afters) (map first_arc (range_with_len 0 n) ++ map (last_arc n) (range_with_len 0 n)),
      length-map afters after_arc,
      length-append (map first_arc (range_with_len 0 n)) (map (last_arc n) (range_with_len 0 n)),
      length-map-range_with_len first_arc 0 n,
      length-map-range_with_len (last_arc n) 0 n,
    )

-- a network of the events of n tasks
abbrev pub between : ℕ → List Arc → Network
between n arcs = record { events = 2 * n + 2; start = 0; end = last_event n; arcs = arcs }

module _ (n : ℕ) (afters : List AfterRow) (arcs : List Arc) (are : arcs ≡ (wide_arrows n afters).arcs) (firm : IsFirm (wide_arrows n afters)) where
  firm_between : IsFirm (between n arcs)
  firm_between = subst (λ a. IsFirm (between n a)) (sym are) firm

  pub not_entered : (a : ℕ) → IsNetError (between n arcs) (net.StartEntered a) → ⊥
  not_entered a refused = firm_between.not_entered (a, refused.holds.0, refused.holds.1)

  pub not_left : (a : ℕ) → IsNetError (between n arcs) (net.EndLeft a) → ⊥
  not_left a refused = firm_between.not_left (a, refused.1.holds.0, refused.1.holds.1)

  pub none_dangles : (event : ℕ) (entered : Bool) → IsNetError (between n arcs) (net.Dangling event entered) → ⊥
  none_dangles event entered refused = firm_between.none_dangles event refused.first.holds.0 refused.first.holds.1
