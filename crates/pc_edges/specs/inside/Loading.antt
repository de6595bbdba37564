-- The result of reading a source to its end.
-- Here is what no clause of a top call and no law reaches.
use Rattle.std.specs.Prelude.{◌≡◌, ℕ, ◌+◌, ◌<◌, ◌≤◌, List, length, Option, Vec, vec_len, Result, IfOk, OnOk, IsErrOf}
use Rattle.std.specs.Io.KnownBytes.{Consumes, IsAtEnd}
use Rattle.pc_edges.specs.Faults.{Rose}
use Rattle.pc_edges.specs.Pulls.{CameIn, TakesPulls}
use Rattle.pc_edges.specs.declared.loading.LoadError.{LoadError}
use Rattle.pc_edges.specs.declared.loading.LoadError.TheVariants as error

-- the bytes are all that the source had left, at most `limit`, and no fault was counted; ReadFault is returned only if
-- the count of faults rose, and the count never decreases
pub record HasLoaded {X A : Type 0} (result : Result (Vec ℕ A) LoadError) (limit : ℕ) (left : X → Option (List ℕ)) (faults : X → ℕ) (old new : X) : Type 0 where
  pub all : IfOk result (λ v. Consumes (left old) (left new) v.items)
  pub end : OnOk result (IsAtEnd (left new))
  pub within : IfOk result (λ v. vec_len v ≤ limit)
  pub no_fault : OnOk result (faults new ≡ faults old)
  pub fault : IsErrOf result error.ReadFault → Rose (faults old) (faults new)
  pub count : faults old ≤ faults new

-- reading stopped as `IsReadWithin` says, and TooLong is returned if and only if the last pull passed the limit
pub record LoadsWithin {X : Type 0} (TooLong : Type 0) (limit room : ℕ) (left : X → Option (List ℕ)) (faults : X → ℕ) (pulls : X → Option ℕ) (old new : X) : Type 0 where
  pub before : X
  pub pieces : List (List ℕ)
  pub front : List ℕ
  pub last : List ℕ
  pub came : CameIn left faults pulls pieces front old before
  pub within : length front ≤ limit
  pub pulled : Consumes (left before) (left new) last
  pub short : length last ≤ room
  pub once : TakesPulls 1 (pulls before) (pulls new)
  pub long : TooLong → limit < length front + length last
  pub only : limit < length front + length last → TooLong
