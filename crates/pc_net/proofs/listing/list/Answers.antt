use Rattle.std.proofs.Common.{◌≡◌, ℕ, ◌<◌, ◌++◌, length, slice_index, refl, subst, arith}
use Rattle.std.proofs.lemmas.List.{get_or_read}
use Rattle.pc_model.specs.Greatest.{places}
use Rattle.pc_net.specs.inside.Listings.{AreListed}
use Rattle.pc_net.specs.inside.Sides.{events_of}
use Rattle.pc_net.proofs.SideLaws.{length-events_of}
use Rattle.pc_net.proofs.ListingLaws.{AreListed-start, AreListed-push, IsFollowed-start, IsFollowed-step, IsFollowed-end}
use Rattle.pc_net.proofs.listing.list.Goals as goal

pub events-init : goal.events-init
events-init c = rw (c.in_ok-push.ensures.items, c.requires.no_starts, c.requires.no_items) (AreListed-start _)

pub chain-init : goal.chain-init
chain-init c =
    rw c.deref-head-items.ensures.value (IsFollowed-start _ _ _ _ (c.in_ok-chains.ensures.head c.events.head-index (omega (arith, c.in_ok-chains.ensures.heads_len))))

pub index-requires : goal.index-requires
index-requires c = omega (arith, c.in_ok-chains.ensures.nexts_len, length-events_of c.args.side c.args.arcs.now)

pub chain-smaller : goal.chain-smaller
chain-smaller c =
    let xs = events_of c.args.side c.args.arcs.now in
    let chains = c.in_ok-chains.chains in
    let below : c.chain.at < length xs = omega (arith, length-events_of c.args.side c.args.arcs.now) in
    let read : c.index.result.now ≡ slice_index chains.nexts.items c.chain.at = get_or_read chains.nexts.items c.chain.at _ (omega (arith, c.in_ok-chains.ensures.nexts_len)) c.index.ensures 0 in
    let step = IsFollowed-step xs c.args.events c.events.head-index c.chain.at c.index.result.now chains.heads.items chains.nexts.items c.events.items.items
    c.chain.items.items c.in_ok-chains.ensures c.chain.invariant below read in
    omega (arith, step.1)

pub chain-preserved : goal.chain-preserved
chain-preserved c =
    let xs = events_of c.args.side c.args.arcs.now in
    let chains = c.in_ok-chains.chains in
    let below : c.chain.at < length xs = omega (arith, length-events_of c.args.side c.args.arcs.now) in
    let read : c.index.result.now ≡ slice_index chains.nexts.items c.chain.at = get_or_read chains.nexts.items c.chain.at _ (omega (arith, c.in_ok-chains.ensures.nexts_len)) c.index.ensures 0 in
    let step = IsFollowed-step xs c.args.events c.events.head-index c.chain.at c.index.result.now chains.heads.items chains.nexts.items c.events.items.items
    c.chain.items.items c.in_ok-chains.ensures c.chain.invariant below read in
    rw c.in_ok-push-2.ensures.items step.0

pub events-preserved : goal.events-preserved
events-preserved c =
    let xs = events_of c.args.side c.args.arcs.now in
    let x = c.events.head-index in
    let more : c.chain.items.items ≡ c.events.items.items ++ places x 0 xs =
    IsFollowed-end xs x c.chain.at c.events.items.items c.chain.items.items c.chain.invariant
    (omega (arith, length-events_of c.args.side c.args.arcs.now)) in
    let pushed = AreListed-push xs x c.events.items.items c.events.starts.items (places x 0 xs) c.events.invariant refl in
    let count : c.len.result ≡ length c.chain.items.items = omega (arith, c.len.ensures, c.chain.items.ok.0) in
    rw (c.in_ok-push-3.ensures.items, count, more) pushed

pub returns : goal.returns
returns c =
    let all : c.events.head-index ≡ c.args.events = omega (arith, c.in_ok-chains.ensures.heads_len) in
    subst (λ (n : ℕ). AreListed (events_of c.args.side c.args.arcs.now) n c.events.items.items c.events.starts.items) all c.events.invariant
