-- How far the flow of an activity may change if it stops now, in terms of the data that were read.
use Rattle.std.proofs.Common.{◌≡◌, ℕ, List, ◌+◌, ◌-◌, ◌^◌, ◌<◌, ◌≤◌, length, sym, ap, subst, arith}
use Rattle.pc_model.specs.declared.Knee.{Knee}
use Rattle.pc_laws.specs.Stair.{Stair, IsFalling, IsSameStair, full_reach, unit_length, IsOnStair}
use Rattle.pc_laws.proofs.Stairs.SameStair.{same-full_reach, same-unit, same-on_stair, on_same-stair, same-falling}
use Rattle.pc_flow.specs.inside.stair.Rows.{stair}
use Rattle.pc_crash.specs.Priced.{PricedNetwork}
use Rattle.pc_flow.specs.board.Sheets.{Sheet, flow_of}
use Rattle.pc_flow.specs.declared.search.way.Way.TheVariants.{Along, Against}
use Rattle.pc_flow.specs.inside.search.Searches.{stair_at, gap_at, IsSeen, IsOnStairs, StopsAfterFall, HasRoomAlong, HasRoomAgainst}

module _ (net : PricedNetwork) (s : Sheet) (a crash : ℕ) (knees : List Knee) (known : a < length net.network.arcs)
    (seen : IsSeen net a crash knees)
    (stairs : IsOnStairs net s) where
  abbrev here : Stair
  here = stair knees crash

  same : IsSameStair here (stair_at net a)
  same = record { count = seen.bends.count; knee = seen.bends.at; rise = seen.bends.rise; crash = seen.lasts }

  pub seen-reach : full_reach here < 2 ^ 64
  seen-reach = omega (arith, same-full_reach here (stair_at net a) same, stairs.reach a known)

  pub seen-falling : IsFalling here
  seen-falling = same-falling here (stair_at net a) same (stairs.falling a known)

  -- the gap may be as long as the next unit's arc: this room leads to a flow on the staircase
  pub room-along : (room flow : ℕ) → flow ≡ flow_of s a → 0 < room → flow + room < 2 ^ 64
      → ((gap : ℕ) → IsOnStair here gap flow → unit_length here flow ≡ gap → IsOnStair here gap (flow + room))
      → StopsAfterFall net s a Along 0 → HasRoomAlong net s a room
  room-along room flow is some small on stops = record {
    some = some;
    small = omega (arith, small, is);
    on = subst (λ f. IsOnStair (stair_at net a) (gap_at net s a) (f + room)) is (on_same-stair here (stair_at net a) same (gap_at net s a) (flow + room)
        (on (gap_at net s a) seen-on (omega (arith, stops, same-unit here (stair_at net a) same flow, ap (unit_length (stair_at net a)) is))));
  } where
    seen-on : IsOnStair here (gap_at net s a) flow
    seen-on = subst (λ f. IsOnStair here (gap_at net s a) f) (sym is) (same-on_stair here (stair_at net a) same (gap_at net s a) (flow_of s a) (stairs.on a known))

  -- or as long as the last unit's arc
  pub room-against : (room flow : ℕ) → flow ≡ flow_of s a → 0 < room → room ≤ flow
      → ((gap : ℕ) → IsOnStair here gap flow → unit_length here (flow - 1) ≡ gap → IsOnStair here gap (flow - room))
      → StopsAfterFall net s a Against 0 → HasRoomAgainst net s a room
  room-against room flow is some within on stops = record {
    some = some;
    within = omega (arith, within, is);
    on = subst (λ f. IsOnStair (stair_at net a) (gap_at net s a) (f - room)) is (on_same-stair here (stair_at net a) same (gap_at net s a) (flow - room)
        (on (gap_at net s a) seen-on (omega (arith, stops, same-unit here (stair_at net a) same (flow - 1), ap (λ f. unit_length (stair_at net a) (f - 1)) is))));
  } where
    seen-on : IsOnStair here (gap_at net s a) flow
    seen-on = subst (λ f. IsOnStair here (gap_at net s a) f) (sym is) (same-on_stair here (stair_at net a) same (gap_at net s a) (flow_of s a) (stairs.on a known))
