-- A search on another board: what stays where some of the lists and counts are others.
use Rattle.std.proofs.Common.{◌≡◌, ◌≤◌, sym, subst}
use Rattle.pc_crash.specs.Priced.{PricedNetwork}
use Rattle.pc_flow.specs.board.Sheets.{Sheet}
use Rattle.pc_flow.specs.inside.board.Labelling.{AreStoredTimes}
use Rattle.pc_flow.specs.inside.search.Searches.{IsWaitingList, IsOnStairs, HaveLengths, IsPricedBoard, AreLed, IsSearch}

-- board s with the activities of board t that wait
abbrev pub with_list : Sheet → Sheet → Sheet
with_list s t = record s { activities = t.activities; waiting = t.waiting; slot = t.slot; len = t.len }

pub waiting-kept : (s t : Sheet) → t ≡ with_list t s → IsWaitingList s → IsWaitingList t
waiting-kept s t same waiting =
    subst IsWaitingList (sym same) (record {
      few = waiting.few;
      range = waiting.range;
      placed = waiting.placed;
      within = waiting.within;
      listed = waiting.listed;
    })

-- board s with the flows of board t and the lengths of their arcs
abbrev pub with_lengths : Sheet → Sheet → Sheet
with_lengths s t = record s { flow = t.flow; up = t.up; down = t.down }

pub lengths-kept : (net : PricedNetwork) (s t : Sheet) → t ≡ with_lengths t s → HaveLengths net s → HaveLengths net t
lengths-kept net s t same lengths =
    subst (λ v. HaveLengths net v) (sym same) (λ a known. record { up = (lengths a known).up; down = (lengths a known).down })

-- board s with the list, the counts and the falls of board t
abbrev pub recounted : Sheet → Sheet → Sheet
recounted s t = record s { waiting = t.waiting; slot = t.slot; due = t.due; fallen = t.fallen; head = t.head; len = t.len }

-- where labels and flows stay, a search is one still if its list, its times and its gaps are right
pub search-recounted : (net : PricedNetwork) (s t : Sheet) → IsSearch net s → t.head ≤ s.count → AreStoredTimes (recounted s t)
    → IsWaitingList (recounted s t) → IsOnStairs net (recounted s t) → AreLed net (recounted s t) → IsSearch net (recounted s t)
search-recounted net s t search scanned times waiting stairs led = record {
  in_range = search.in_range;
  few = search.few;
  fits = record { events = search.fits.events; activities = search.fits.activities };
  ranked = record {
    some = search.ranked.some;
    few = search.ranked.few;
    scanned = scanned;
    range = search.ranked.range;
    placed = search.ranked.placed;
    within = search.ranked.within;
    queued = search.ranked.queued;
  };
  start = search.start;
  back = record { known = search.back.known; labelled = search.back.labelled; before = search.back.before };
  steps = record { known = search.steps.known; apart = search.steps.apart; along = search.steps.along; against = search.steps.against };
  times = times;
  joined = record {
    along_from = search.joined.along_from;
    along_to = search.joined.along_to;
    against_from = search.joined.against_from;
    against_to = search.joined.against_to;
  };
  waiting = waiting;
  stairs = stairs;
  lengths = λ a known. record { up = (search.lengths a known).up; down = (search.lengths a known).down };
  led = led;
}

-- board s with the list and the counts of board t
abbrev pub listed_as : Sheet → Sheet → Sheet
listed_as s t = record (recounted s t) { fallen = s.fallen }

-- where the falls stay too, it is a board for the network
pub board-relisted : (net : PricedNetwork) (s t : Sheet) → IsSearch net s → IsPricedBoard net (listed_as s t)
board-relisted net s t search = record {
  in_range = search.in_range;
  fits = record { events = search.fits.events; activities = search.fits.activities };
  times = record { deep = search.times.deep; fits = search.times.fits };
  stairs = record {
    falling = search.stairs.falling;
    reach = search.stairs.reach;
    ahead = search.stairs.ahead;
    on = search.stairs.on;
    small = search.stairs.small;
  };
  lengths = λ a known. record { up = (search.lengths a known).up; down = (search.lengths a known).down };
}

-- and a search, if the list is right
pub search-relisted : (net : PricedNetwork) (s t : Sheet) → IsSearch net s → t.head ≤ s.count → IsWaitingList (listed_as s t)
    → IsSearch net (listed_as s t)
search-relisted net s t search scanned waiting =
    let board : IsPricedBoard net (listed_as s t) = board-relisted net s t search in
    search-recounted net s (listed_as s t) search scanned board.times waiting board.stairs
    (record { along = search.led.along; against = search.led.against })
