-- What a source that was read to its end shows about where the reading stopped.
use Rattle.std.proofs.Common.{ℕ, ◌<◌, List, ◌++◌, length, length-append, Option, ◌↔◌, arith}
use Rattle.std.specs.Io.KnownBytes.{Consumes}
use Rattle.std.proofs.KnownBytes.{Consumes-trans}
use Rattle.pc_edges.specs.Pulls.{IsReadWithin}
use Rattle.pc_edges.specs.inside.Loading.{LoadsWithin}
use Rattle.pc_edges.proofs.PullLaws.{CameIn-consumes}

module _ {X TooLong : Type 0} {limit room : ℕ} {left : X → Option (List ℕ)} {faults : X → ℕ} {pulls : X → Option ℕ} {old new : X}
    (is : LoadsWithin TooLong limit room left faults pulls old new) where
  pub stops_within : IsReadWithin limit room left faults pulls old new
  stops_within = record {
    before = is.before;
    pieces = is.pieces;
    front = is.front;
    last = is.last;
    came = is.came;
    within = is.within;
    pulled = is.pulled;
    short = is.short;
    once = is.once;
  }

  -- what was taken is longer than the limit if and only if TooLong is returned
  pub long_only : (bytes : List ℕ) × Consumes (left old) (left new) bytes × (TooLong ↔ (limit < length bytes))
  long_only =
      let all = length-append is.front is.last in
      let came = CameIn-consumes left faults pulls is.pieces is.front old is.before is.came in
      (is.front ++ is.last, Consumes-trans _ _ _ _ _ came is.pulled, (λ long. omega (arith, is.long long, all), λ more. is.only (omega (arith, more, all))))
