use Rattle.std.proofs.Common.{◌≡◌, ℕ, ◌+◌, ◌<◌, List, length, take, set, arith}
use Rattle.std.proofs.lemmas.List.{length-take-le, length-set, take_more_set}
use Rattle.pc_model.specs.Greatest.{IsFirst}
use Rattle.pc_model.specs.Network.{Network}
use Rattle.pc_model.specs.Walk.{to_of}
use Rattle.pc_times.specs.inside.Passes.{HasBoundedWalks, HasNoSlack}
use Rattle.pc_times.specs.Times.{AreEarly}
use Rattle.pc_times.specs.inside.Times.{AreTails}
use Rattle.pc_times.proofs.PickedLaws.{IsPickedTo, picked_to_start, picked_to_next, end_when_none_without_slack, picked_at_end}
use Rattle.pc_times.proofs.TimesLaws.{has_bounded_walks}
use Rattle.pc_times.proofs.path.critical_path_into.Goals as goal

-- one more activity is appended to the walk
put_next : (net : Network) (lengths times tails path : List ℕ) (count event a put next : ℕ) → HasBoundedWalks net lengths → AreEarly net lengths times → AreTails net lengths tails
    → length path ≡ net.events → count < length path → IsPickedTo net lengths times tails (take count path) event →
    IsFirst (HasNoSlack net lengths times tails event) a → put ≡ a → next ≡ to_of net.arcs a
    → (count + 1 < length path) × IsPickedTo net lengths times tails (take (count + 1) (set path count put)) next
put_next net lengths times tails path count event a put next walks early late places within picked first is at =
    let grown = picked_to_next net lengths times tails walks.ranged early late (take count path) event a picked first in
    let same : IsPickedTo net lengths times tails (take (count + 1) (set path count put)) next = rw (take_more_set path count put within, is, at) grown in
    let size : length (take (count + 1) (set path count put)) ≡ count + 1 = length-take-le (count + 1) (set path count put) (omega (arith, length-set path count put)) in
    (omega (arith, walks.short _ _ _ same.in_range same.walked), same)

pub loop-a-init : goal.loop-a-init
loop-a-init c =
    let net = c.facts.ensures in
    let walks = has_bounded_walks c.args.net.now net.ordered.0 c.args.lengths.now net.in_range net.sound net.ordered.1 (omega arith) c.requires.lengths in
    record {
      places = c.requires.places;
      within = omega (arith, net.in_range.start_in, c.requires.places);
      picked = rw c.start-event.ensures.start (picked_to_start _ _ _ _ walks.ranged c.requires.times c.requires.tails walks.sound);
    }

pub first_without_slack-requires-clause-walks : goal.first_without_slack-requires-clause-walks
first_without_slack-requires-clause-walks c =
    let net = c.facts.ensures in
    has_bounded_walks c.args.net.now net.ordered.0 c.args.lengths.now net.in_range net.sound net.ordered.1 (omega arith) c.requires.lengths

pub bounds-path-count : goal.bounds-path-count
bounds-path-count c = c.loop-a.invariant.within

pub loop-a-smaller : goal.loop-a-smaller
loop-a-smaller c = omega (arith, c.loop-a.invariant.within, c.loop-a.invariant.places)

pub loop-a-preserved : goal.loop-a-preserved
loop-a-preserved c =
    let net = c.facts.ensures in
    let walks = has_bounded_walks c.args.net.now net.ordered.0 c.args.lengths.now net.in_range net.sound net.ordered.1 (omega arith) c.requires.lengths in
    let next =
    put_next c.args.net.now c.args.lengths.now c.args.times.now c.args.tails.now c.loop-a.path c.loop-a.count c.loop-a.event c.in-Some.a
    c.from.result c.to-event.result walks c.requires.times c.requires.tails
    c.loop-a.invariant.places c.loop-a.invariant.within c.loop-a.invariant.picked c.in-Some.ensures.found c.from.ensures c.to-event.ensures.event in
    record {
      places = omega (arith, length-set c.loop-a.path c.loop-a.count c.from.result, c.loop-a.invariant.places);
      within = omega (arith, length-set c.loop-a.path c.loop-a.count c.from.result, next.0);
      picked = next.1;
    }

pub returns-clause-picked : goal.returns-clause-picked
returns-clause-picked c =
    let range = c.facts.ensures.in_range in
    let at_end = end_when_none_without_slack _ _ _ _ range c.requires.times c.requires.tails _ _ c.loop-a.invariant.picked c.in_default.ensures.none in
    picked_at_end _ _ _ _ range c.requires.times c.requires.tails _ _ c.loop-a.invariant.picked at_end

pub returns-clause-short : goal.returns-clause-short
returns-clause-short c = omega (arith, c.loop-a.invariant.within, c.loop-a.invariant.places)
