-- No activity ends after the project.
use Rattle.std.proofs.Common.{ℕ, ◌+◌, ◌<◌, ◌≤◌, List, ◌++◌, length, slice_index, refl, arith}
use Rattle.pc_model.specs.Network.{Network, IsEarly, IsInRange, IsSound}
use Rattle.pc_model.specs.Walk.{from_of, to_of, walk_sum}
use Rattle.pc_model.proofs.Walks.EarlyLaws.{early_fits}
use Rattle.pc_model.proofs.Walks.WalkLaws.{IsWalk-append, walk_sum-append}
use Rattle.pc_times.specs.Times.{AreEarly}

-- no event is reached later than the end
pub early_until_end : (net : Network) (lengths : List ℕ) (e n m : ℕ) → IsSound net → e < net.events → IsEarly net lengths e n → IsEarly net lengths net.end m → n ≤ m
early_until_end net lengths e n m sound known early end =
    let (walk, walked, sums) = early.attained in
    let (rest, led) = sound.reaches e known in
    let most = end.bound (walk_sum lengths (walk ++ rest)) (walk ++ rest, IsWalk-append net.arcs net.start e net.end walk rest walked led, refl) in
    let both = walk_sum-append lengths walk rest in
    omega arith

-- so no activity that begins at the earliest ends later
pub ends_within : (net : Network) (lengths times : List ℕ) (a : ℕ) → IsSound net → IsInRange net → AreEarly net lengths times →
    a < length net.arcs → slice_index times (from_of net.arcs a) + slice_index lengths a ≤ slice_index times net.end
ends_within net lengths times a sound range early known =
    let begin = early.each (from_of net.arcs a) (range.from_in a known) in
    let finish = early.each (to_of net.arcs a) (range.to_in a known) in
    let fits = early_fits net lengths a known (slice_index times (from_of net.arcs a)) (slice_index times (to_of net.arcs a)) begin finish in
    let within = early_until_end net lengths (to_of net.arcs a) (slice_index times (to_of net.arcs a)) (slice_index times net.end) sound
    (range.to_in a known) finish (early.each net.end range.end_in) in
    omega arith
