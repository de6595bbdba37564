-- The ends of a step by its direction, and where labels may cross an activity.
use Rattle.std.proofs.Common.{◌≡◌, ℕ, ◌-◌, ◌<◌, ◌⊎◌, List, length, refl, sym, ◌∙◌, ap, inl, inr, arith}
use Rattle.pc_model.specs.inside.Greatest.{IsListed}
use Rattle.pc_model.specs.Greatest.{StandsBelow}
use Rattle.pc_model.specs.Walk.{from_of, to_of}
use Rattle.pc_model.specs.Network.{IsInRange}
use Rattle.pc_crash.specs.Priced.{PricedNetwork}
use Rattle.pc_crash.specs.declared.link_table.Link.{Link}
use Rattle.pc_crash.specs.inside.Links.{activities_of, link_at}
use Rattle.pc_laws.specs.Stair.{unit_length}
use Rattle.pc_flow.specs.board.Sheets.{Sheet, rank_of, flow_of}
use Rattle.pc_flow.specs.inside.board.Sheets.{slot_of}
use Rattle.pc_flow.specs.inside.board.Labelling.{IsFor}
use Rattle.pc_flow.specs.declared.search.way.Way.{Way}
use Rattle.pc_flow.specs.declared.search.way.Way.TheVariants.{Along, Against}
use Rattle.pc_flow.specs.inside.search.Ways.{by_way, near_in, far_in, CanFlow, AreLinks}
use Rattle.pc_flow.specs.inside.search.Searches.{stair_at, gap_at, next_at, last_at, lesser_at, greater_at, MayCross, IsQuiet, IsSettledActivity}
use Rattle.pc_flow.specs.inside.search.Growing.{IsAt}
use Rattle.pc_flow.proofs.lemmas.search.LinkLaws.{link_listed, link_stands}

-- the ends of a step over an activity with these events
pub near-looked : (net : PricedNetwork) (way : Way) (a from to near : ℕ) → from ≡ from_of net.network.arcs a → to ≡ to_of net.network.arcs a
    → near ≡ by_way way from to → near_in net way a ≡ near
near-looked net way a from to near begins ends is = sym (is ∙ ap (λ e. by_way way e to) begins ∙ ap (by_way way (from_of net.network.arcs a)) ends)

pub far-looked : (net : PricedNetwork) (way : Way) (a from to far : ℕ) → from ≡ from_of net.network.arcs a → to ≡ to_of net.network.arcs a
    → far ≡ by_way way to from → far_in net way a ≡ far
far-looked net way a from to far begins ends is = sym (is ∙ ap (λ e. by_way way e from) ends ∙ ap (by_way way (to_of net.network.arcs a)) begins)

-- labels may cross an activity only one way
pub one-way : (net : PricedNetwork) (s : Sheet) (a : ℕ) (way other : Way) → MayCross net s way a → MayCross net s other a → way ≡ other
one-way net s a Along Along may also = refl
one-way net s a Along Against may also = absurd (omega (arith, may.near, also.far))
one-way net s a Against Along may also = absurd (omega (arith, may.near, also.far))
one-way net s a Against Against may also = refl

module _ (net : PricedNetwork) (s : Sheet) (a near far : ℕ) where
  -- the events at the two ends are those of the network
  pub near-known : (way : Way) → IsInRange net.network → IsFor net.network s → a < length net.network.arcs → near_in net way a ≡ near → near < s.events
  near-known Along range fits known at = omega (arith, at, range.from_in a known, fits.events)
  near-known Against range fits known at = omega (arith, at, range.to_in a known, fits.events)

  pub far-known : (way : Way) → IsInRange net.network → IsFor net.network s → a < length net.network.arcs → far_in net way a ≡ far → far < s.events
  far-known Along range fits known at = omega (arith, at, range.to_in a known, fits.events)
  far-known Against range fits known at = omega (arith, at, range.from_in a known, fits.events)

  -- labels come from an event that has one and lead to one that has none
  pub near-labelled : (way : Way) → near_in net way a ≡ near → MayCross net s way a → 0 < rank_of s near
  near-labelled way at may = omega (arith, ap (rank_of s) at, may.near)

  pub far-none : (way : Way) → far_in net way a ≡ far → MayCross net s way a → rank_of s far ≡ 0
  far-none way at may = omega (arith, ap (rank_of s) at, may.far)

  -- and if more can flow, they may do so
  pub may-cross : (way : Way) → near_in net way a ≡ near → far_in net way a ≡ far → 0 < rank_of s near → rank_of s far ≡ 0 → CanFlow s way a
      → MayCross net s way a
  may-cross way begins ends labelled none flows = record {
    near = omega (arith, ap (rank_of s) begins, labelled);
    far = omega (arith, ap (rank_of s) ends, none);
    flows = flows;
  }

  -- they may not where both ends have a label, where none has, or where no more can flow to the one that has none
  pub quiet-both : (way : Way) → near_in net way a ≡ near → far_in net way a ≡ far → 0 < rank_of s near → 0 < rank_of s far → IsQuiet net s a
  quiet-both Along begins ends near_some far_some Along may = omega (arith, may.far, ap (rank_of s) ends, far_some)
  quiet-both Along begins ends near_some far_some Against may = omega (arith, may.far, ap (rank_of s) begins, near_some)
  quiet-both Against begins ends near_some far_some Along may = omega (arith, may.far, ap (rank_of s) begins, near_some)
  quiet-both Against begins ends near_some far_some Against may = omega (arith, may.far, ap (rank_of s) ends, far_some)

  pub quiet-neither : (way : Way) → near_in net way a ≡ near → far_in net way a ≡ far → rank_of s near ≡ 0 → rank_of s far ≡ 0 → IsQuiet net s a
  quiet-neither Along begins ends near_none far_none Along may = omega (arith, may.near, ap (rank_of s) begins, near_none)
  quiet-neither Along begins ends near_none far_none Against may = omega (arith, may.near, ap (rank_of s) ends, far_none)
  quiet-neither Against begins ends near_none far_none Along may = omega (arith, may.near, ap (rank_of s) ends, far_none)
  quiet-neither Against begins ends near_none far_none Against may = omega (arith, may.near, ap (rank_of s) begins, near_none)

  pub quiet-dry : (way : Way) → far_in net way a ≡ far → rank_of s far ≡ 0 → (CanFlow s way a → ⊥) → IsQuiet net s a
  quiet-dry Along ends none dry other may = dry (λ is. cc)
  quiet-dry Against ends none dry Along may = omega (arith, may.near, ap (rank_of s) ends, none)
  quiet-dry Against ends none dry Against may = dry may.flows

-- an activity with a label at both ends is settled
pub settled-both : (net : PricedNetwork) (s : Sheet) (a : ℕ) → 0 < rank_of s (from_of net.network.arcs a) → 0 < rank_of s (to_of net.network.arcs a)
    → IsSettledActivity net s a
settled-both net s a from to Along may = absurd (omega (arith, may.far, to))
settled-both net s a from to Against may = absurd (omega (arith, may.far, from))

-- if its flow and its gap do not change, an activity is settled as before
module _ (net : PricedNetwork) (s t : Sheet) (a : ℕ) (flow : flow_of t a ≡ flow_of s a) (gap : gap_at net t a ≡ gap_at net s a) where
  pub lesser-kept : (way : Way) → lesser_at net t way a ≡ lesser_at net s way a
  lesser-kept way = ap (λ x. by_way way (unit_length (stair_at net a) x) (gap_at net t a)) flow ∙ ap (by_way way (next_at net s a)) gap

  pub greater-kept : (way : Way) → greater_at net t way a ≡ greater_at net s way a
  greater-kept way = ap (λ x. by_way way x (last_at net t a)) gap ∙ ap (λ x. by_way way (gap_at net s a) (unit_length (stair_at net a) (x - 1))) flow

  pub settled-kept : ((way : Way) → MayCross net t way a → MayCross net s way a) → (0 < slot_of s a → 0 < slot_of t a) → IsSettledActivity net s a
      → IsSettledActivity net t a
  settled-kept was slot settled way may =
      let before = settled way (was way may) in
      (slot before.0, omega (arith, before.1, lesser-kept way, greater-kept way))

-- an activity with a step that leads to an event is at that event
pub far-at : (net : PricedNetwork) (way : Way) (a e : ℕ) → far_in net way a ≡ e → IsAt net e a
far-at net Along a e at = inr at
far-at net Against a e at = inl at

-- what is listed at an event are links there
pub links-listed : (net : PricedNetwork) (here there : ℕ → ℕ) (e : ℕ) (links : List Link)
    → IsListed (λ a. here a ≡ e) (length net.network.arcs) (activities_of links)
    → ((k : ℕ) → k < length links → (link_at links k).other ≡ there (link_at links k).activity) → AreLinks net here there e links
links-listed net here there e links listed others = record {
  known = λ k below. (link_listed (λ a. here a ≡ e) (length net.network.arcs) links listed k below).0;
  here = λ k below. (link_listed (λ a. here a ≡ e) (length net.network.arcs) links listed k below).1;
  there = λ k below. sym (others k below);
}

-- an activity at an event has one of the links there
pub links-at : (net : PricedNetwork) (e : ℕ) (outs ins : List Link) → IsListed (λ a. from_of net.network.arcs a ≡ e) (length net.network.arcs) (activities_of outs)
    → IsListed (λ a. to_of net.network.arcs a ≡ e) (length net.network.arcs) (activities_of ins) → (a : ℕ) → a < length net.network.arcs → IsAt net e a
    → StandsBelow (activities_of outs) (length outs) a ⊎ StandsBelow (activities_of ins) (length ins) a
links-at net e outs ins begun ended a known at = elim at [
  | inl from ↦ inl (link_stands (λ b. from_of net.network.arcs b ≡ e) (length net.network.arcs) outs begun a known from)
  | inr to ↦ inr (link_stands (λ b. to_of net.network.arcs b ≡ e) (length net.network.arcs) ins ended a known to)
]
