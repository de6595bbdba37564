-- The activities at an event, by their links.
use Rattle.std.proofs.Common.{◌≡◌, ◌<◌, ℕ, List, length, slice_index, subst, arith}
use Rattle.std.proofs.lemmas.List.{get_or-map, length-map}
use Rattle.pc_model.specs.Greatest.{StandsBelow}
use Rattle.pc_model.specs.inside.Greatest.{IsListed}
use Rattle.pc_crash.specs.declared.link_table.Link.{Link}
use Rattle.pc_crash.specs.inside.Links.{activities_of, link_at}

pub links_count : (links : List Link) → length (activities_of links) ≡ length links
links_count links = length-map links (λ (link : Link). link.activity)

-- the k-th of the activities is that of the k-th link
pub activity_at : (links : List Link) (k : ℕ) → k < length links → slice_index (activities_of links) k ≡ (link_at links k).activity
activity_at links k below = get_or-map (λ (link : Link). link.activity) links k (record { activity = 0; other = 0 }) 0 below

-- what holds of the listed activities holds of that of each link
pub link_listed : (P : ℕ → Type 0) (n : ℕ) (links : List Link) → IsListed P n (activities_of links) → (k : ℕ) → k < length links →
    ((link_at links k).activity < n) × P (link_at links k).activity
link_listed P n links listed k below =
    let (known, holds) = listed.each k (omega (arith, links_count links)) in
    (omega (arith, activity_at links k below), subst P (activity_at links k below) holds)

-- and each of them has a link
pub link_stands : (P : ℕ → Type 0) (n : ℕ) (links : List Link) → IsListed P n (activities_of links) → (a : ℕ) → a < n → P a →
    StandsBelow (activities_of links) (length links) a
link_stands P n links listed a known holds =
    let (k, below, is) = listed.every a known holds in
    (k, omega (arith, links_count links), is)
