use Rattle.pc_project.proofs.project.Project.priced.Goals as goal

pub with_codes-requires-clause-terms : goal.with_codes-requires-clause-terms
with_codes-requires-clause-terms c = rw c.deref.ensures.value c.self.invariant.terms

pub with_codes-requires-clause-limits : goal.with_codes-requires-clause-limits
with_codes-requires-clause-limits c = rw c.deref.ensures.value c.self.invariant.limits

pub with_codes-requires-clause-pieces : goal.with_codes-requires-clause-pieces
with_codes-requires-clause-pieces c = rw (c.deref.ensures.value, c.deref-2.ensures.value) c.self.invariant.pieces

pub with_codes-requires-clause-piece_limits : goal.with_codes-requires-clause-piece_limits
with_codes-requires-clause-piece_limits c = rw c.deref-2.ensures.value c.self.invariant.piece_limits

pub with_codes-requires-clause-events : goal.with_codes-requires-clause-events
with_codes-requires-clause-events c =
    rw (c.of-codes.ensures.events, c.event_codes.ensures.codes) (record { one_each = c.self.invariant.event_codes; once = c.self.invariant.events_differ })

pub with_codes-requires-clause-activities : goal.with_codes-requires-clause-activities
with_codes-requires-clause-activities c =
    rw (c.of-codes.ensures.activities, c.act_names.ensures.codes) (record { one_each = c.self.invariant.activity_codes; once = c.self.invariant.activities_differ })
