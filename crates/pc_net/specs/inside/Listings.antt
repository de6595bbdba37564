-- For each event the places at which it occurs, one event after another in one list.
use Rattle.std.specs.Prelude.{◌≡◌, ℕ, ◌+◌, ◌<◌, ◌≤◌, List, length, slice_index, slice_range}
use Rattle.pc_model.specs.Greatest.{places}
use Rattle.pc_net.specs.declared.listing.Listing.{Listing}

-- the items of the first events: event x has its places in xs, from one of `starts` up to the next
pub record AreListed (xs : List ℕ) (events : ℕ) (items starts : List ℕ) : Type 0 where
  pub starts_len : length starts ≡ events + 1
  pub last : slice_index starts events ≡ length items
  pub rises : (x : ℕ) → x < events → slice_index starts x ≤ slice_index starts (x + 1)
  pub within : (x : ℕ) → x < events → slice_index starts (x + 1) ≤ length items
  pub part : (x : ℕ) → x < events → slice_range items (slice_index starts x) (slice_index starts (x + 1)) ≡ places x 0 xs

-- the listing has for each event its places in xs
abbrev pub IsListing : List ℕ → ℕ → Listing → Type 0
IsListing xs events listing = AreListed xs events listing.items.items listing.starts.items

-- the part of the items that belongs to event x is within them
pub record HasPart (listing : Listing) (x : ℕ) : Type 0 where
  pub known : x + 1 < length listing.starts.items
  pub rises : slice_index listing.starts.items x ≤ slice_index listing.starts.items (x + 1)
  pub within : slice_index listing.starts.items (x + 1) ≤ length listing.items.items

-- that part
abbrev pub part_of : Listing → ℕ → List ℕ
part_of listing x = slice_range listing.items.items (slice_index listing.starts.items x) (slice_index listing.starts.items (x + 1))
