use Rattle.std.proofs.Common.{refl}
use Rattle.pc_crash.proofs.InsideLaws.{terms-laid}
use Rattle.pc_crash.proofs.crash_net.CrashNet.with_codes.Goals as goal

pub invariant_of-result : goal.invariant_of-result
invariant_of-result c =
    let net = c.args.net.now in
    let layout = c.in_ok-laid_out.field-0 in
    let terms = terms-laid net.arcs c.args.terms.now c.args.pieces.now layout.rows.items layout.knees.items c.in_ok-laid_out.ensures.laid in
    let pieces = c.in_ok-from_slice.ensures.items in
    record {
      whole = record {
        in_range = c.in_ok-laid_out.ensures.in_range;
        sound = c.in_ok-laid_out.ensures.sound;
        terms = rw terms c.requires.terms;
        limits = rw terms c.requires.limits;
        pieces = rw (terms, pieces) c.requires.pieces;
        piece_limits = rw pieces c.requires.piece_limits;
        events = c.requires.events;
        activities = c.requires.activities;
      };
      laid = rw (terms, pieces, c.in_ok-laid_out.ensures.laid.one_each) c.in_ok-laid_out.ensures.laid;
      linked = c.in_ok-linked.ensures;
    }

pub laid_out-requires-clause-terms : goal.laid_out-requires-clause-terms
laid_out-requires-clause-terms c = c.requires.terms

pub laid_out-requires-clause-limits : goal.laid_out-requires-clause-limits
laid_out-requires-clause-limits c = c.requires.limits

pub laid_out-requires-clause-pieces : goal.laid_out-requires-clause-pieces
laid_out-requires-clause-pieces c = c.requires.pieces

pub returns-clause-network : goal.returns-clause-network
returns-clause-network c = refl

pub returns-clause-terms : goal.returns-clause-terms
returns-clause-terms c =
    let layout = c.in_ok-laid_out.field-0 in
    terms-laid c.args.net.now.arcs c.args.terms.now c.args.pieces.now layout.rows.items layout.knees.items c.in_ok-laid_out.ensures.laid

pub returns-clause-pieces : goal.returns-clause-pieces
returns-clause-pieces c = c.in_ok-from_slice.ensures.items
