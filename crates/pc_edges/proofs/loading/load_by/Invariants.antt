use Rattle.std.proofs.Common.{◌≡◌, ℕ, ◌-◌, ◌≤◌, List, vec_len}
use Rattle.std.specs.Io.KnownBytes.{Consumes}
use Rattle.pc_edges.specs.Pulls.{CameIn}
use Rattle.pc_edges.proofs.loading.load_by.Given as goal

pub record Kept (P Q R S : Type 0) : Type 0 where
  pub within : P
  pub taken : Q
  pub no_fault : R
  pub came : S

abbrev pub invariant-loop-n : goal.invariant-loop-n
invariant-loop-n g l =
    let s = g.S.Source in
    Kept (vec_len l.bytes ≤ l.limit) (Consumes (s.left l.fn.source) (s.left l.source) l.bytes.items) (s.faults l.source ≡ s.faults l.fn.source)
    ((pieces : List (List ℕ)) × CameIn s.left s.faults s.pulls pieces l.bytes.items l.fn.source l.source)

abbrev pub decreases-loop-n : goal.decreases-loop-n
decreases-loop-n g l = l.limit - vec_len l.bytes
