-- What a source or a sink was before a call, and what it is after it.
use Rattle.std.specs.Prelude.{◌≡◌, ℕ, ◌<◌, ◌≤◌, List, length, Option, None, IfSome}
use Rattle.std.specs.Io.KnownBytes.{Consumes, IsAtEnd}
use Rattle.pc_edges.specs.Faults.{Rose}
use Rattle.pc_edges.specs.Writes.{Wrote, Stopped}

-- a source or a sink at the beginning and the end of a call; if it reports its bytes: of a source those that it has left,
-- of a sink those that it has taken; its count of faults; and of a source its count of pulls, if that is reported
pub record Side (X : Type 0) : Type 0 where
  pub bytes : X → Option (List ℕ)
  pub faults : X → ℕ
  pub pulls : X → Option ℕ
  pub old : X
  pub new : X

-- a source or a sink, by the words of its trait
abbrev pub side : {X : Type 0} → (X → Option (List ℕ)) → (X → ℕ) → X → X → Side X
side bytes faults old new = record { bytes = bytes; faults = faults; pulls = λ _. None; old = old; new = new }

-- a source that counts its pulls, by the words of its trait
abbrev pub pulled_side : {X : Type 0} → (X → Option (List ℕ)) → (X → ℕ) → (X → Option ℕ) → X → X → Side X
pulled_side bytes faults pulls old new = record { bytes = bytes; faults = faults; pulls = pulls; old = old; new = new }

-- its count of faults rose
abbrev pub HadFault : {X : Type 0} → Side X → Type 0
HadFault s = Rose (s.faults s.old) (s.faults s.new)

-- its count of faults did not rise
abbrev pub HadNoFault : {X : Type 0} → Side X → Type 0
HadNoFault s = HadFault s → ⊥

-- nothing was read from it, or written on it
abbrev pub IsUntouched : {X : Type 0} → Side X → Type 0
IsUntouched s = s.new ≡ s.old

-- the bytes that the source had left have P, if it reports them
abbrev pub OfBytes : {X : Type 0} → Side X → (List ℕ → Type 0) → Type 0
OfBytes s P = IfSome (s.bytes s.old) P

-- the source has nothing left
abbrev pub IsReadToEnd : {X : Type 0} → Side X → Type 0
IsReadToEnd s = IsAtEnd (s.bytes s.new)

-- more than `limit` bytes were taken from the source
abbrev pub TookMoreThan : {X : Type 0} → ℕ → Side X → Type 0
TookMoreThan limit s = (bytes : List ℕ) × Consumes (s.bytes s.old) (s.bytes s.new) bytes × (limit < length bytes)

-- at most `most` bytes were taken from the source
abbrev pub TookAtMost : {X : Type 0} → ℕ → Side X → Type 0
TookAtMost most s = (bytes : List ℕ) × Consumes (s.bytes s.old) (s.bytes s.new) bytes × (length bytes ≤ most)

-- the sink took the complete text, and no fault occurred
abbrev pub Took : {X : Type 0} → Side X → List ℕ → Type 0
Took s text = Wrote (s.bytes s.old) (s.bytes s.new) (s.faults s.old) (s.faults s.new) text

-- a fault of the sink occurred when it had taken a front of the text
abbrev pub TookFront : {X : Type 0} → Side X → List ℕ → Type 0
TookFront s text = Stopped (s.bytes s.old) (s.bytes s.new) (s.faults s.old) (s.faults s.new) text
