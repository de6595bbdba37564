-- The order in which the lines of a certificate come.
use Rattle.std.specs.Prelude.{◌-◌, ◌==◌, ◌&&◌, ◌||◌, nat_lt, length, Option, Some, None, if◌then◌else◌}
use Rattle.pc_cert.specs.declared.line.CertLine.{CertLine}
use Rattle.pc_cert.specs.declared.line.CertLine.TheVariants.{Head, Normal, Step, Crash, Segment, Event, Act, Close, End}
use Rattle.pc_cert.specs.declared.place.Place.{Place}
use Rattle.pc_cert.specs.declared.place.Place.TheVariants.{Start, AfterHead, NormalWalk, CrashWalk, InSegment, Between, Ended}

-- the place after this line, or none where this line is not allowed at this place
abbrev pub next : Place → CertLine → Option Place
-- the first line is CERT
next Start (Head version project events activities) =
    Some (AfterHead (record { version = version; events = events; activities = activities }))
-- then comes NORMAL
next (AfterHead shape) Normal = Some (NormalWalk shape shape.events)
-- the steps of the normal walk, at most as many as there are events, and CRASH
next (NormalWalk shape steps) (Step code) = if nat_lt 0 steps then Some (NormalWalk shape (steps - 1)) else None
next (NormalWalk shape steps) Crash = Some (CrashWalk shape shape.events)
-- the steps of the crash walk, at most as many as there are events, and the first SEGMENT
next (CrashWalk shape steps) (Step code) = if nat_lt 0 steps then Some (CrashWalk shape (steps - 1)) else None
next (CrashWalk shape steps) (Segment upper lower cost slope) = Some (InSegment shape shape.events shape.activities)
-- in a segment all events come,
next (InSegment shape events activities) (Event code time moves) =
    if nat_lt 0 events then Some (InSegment shape (events - 1) activities) else None
-- then all activities, each with two flows in version 1, and with two to six in version 2,
next (InSegment shape events activities) (Act code duration flows) =
    if events == 0 && (nat_lt 0 activities && (shape.version == 2 || length flows == 2)) then Some (InSegment shape events (activities - 1)) else None
-- and then CLOSE
next (InSegment shape events activities) Close = if events == 0 && activities == 0 then Some (Between shape) else None
-- after a segment comes another one, or END
next (Between shape) (Segment upper lower cost slope) = Some (InSegment shape shape.events shape.activities)
next (Between shape) End = Some Ended
-- no other line is allowed anywhere
next place line = None
