-- What is inside a page.
use Rattle.std.specs.Prelude.{ℕ, ◌≤◌, ⊤, List, [], Option, None, Some, Vec, vec_len, vec_capacity}

-- the bytes that were put and not pushed yet; a page without a buffer has none
abbrev pub pending_in : {A : Type 0} → Option (Vec ℕ A) → List ℕ
pending_in None = []
pending_in (Some bytes) = bytes.items

-- the buffer, if there is one, holds this many bytes without allocating
abbrev pub HasRoomFor : {A : Type 0} → ℕ → Option (Vec ℕ A) → Type 0
HasRoomFor room None = ⊤
HasRoomFor room (Some bytes) = (vec_len bytes ≤ room) × (room ≤ vec_capacity bytes)
