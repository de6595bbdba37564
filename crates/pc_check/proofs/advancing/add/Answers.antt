use Rattle.pc_check.proofs.advancing.add.Goals as goal

pub begin_segment-requires : goal.begin_segment-requires
begin_segment-requires c = c.requires.safe

pub add_event-requires-clause-safe : goal.add_event-requires-clause-safe
add_event-requires-clause-safe c = c.requires.safe

pub returns-in-Crash-clause-safe : goal.returns-in-Crash-clause-safe
returns-in-Crash-clause-safe c = c.requires.safe

pub returns-in-Segment-clause-safe : goal.returns-in-Segment-clause-safe
returns-in-Segment-clause-safe c = c.begin_segment.ensures.safe

pub returns-in-Event-clause-safe : goal.returns-in-Event-clause-safe
returns-in-Event-clause-safe c = c.add_event.ensures.safe

pub returns-in-Close-clause-safe : goal.returns-in-Close-clause-safe
returns-in-Close-clause-safe c = c.requires.safe

pub returns-in_default-clause-safe : goal.returns-in_default-clause-safe
returns-in_default-clause-safe c = c.requires.safe
