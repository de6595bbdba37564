use Rattle.std.proofs.Common.{sym, subst, arith}
use Rattle.pc_flow.specs.inside.search.Growing.{HasLookedAgain}
use Rattle.pc_flow.proofs.lemmas.search.AgainLaws.{search-pruned, room-pruned, looks-lost, again-anew, again-lost}
use Rattle.pc_flow.proofs.board.board.Board.look_again.Goals as goal

pub seek_lost-requires-clause-search : goal.seek_lost-requires-clause-search
seek_lost-requires-clause-search g c =
    search-pruned c.args.net.now c.args.self.now c.prune-gone.new.self c.prune-gone.result c.requires.search c.prune-gone.ensures

pub seek_lost-requires-clause-room : goal.seek_lost-requires-clause-room
seek_lost-requires-clause-room g c =
    room-pruned c.args.net.now c.args.self.now c.prune-gone.new.self c.prune-gone.result c.requires.search c.prune-gone.ensures

pub seek_lost-requires-clause-unlabelled : goal.seek_lost-requires-clause-unlabelled
seek_lost-requires-clause-unlabelled g c = c.prune-gone.ensures.sorted.lost_none

pub returns-then-gone-head-clause-again : goal.returns-then-gone-head-clause-again
returns-then-gone-head-clause-again g c =
    subst (λ v. HasLookedAgain c.args.net.now c.args.self.now v) (sym c.scan_anew.ensures)
    (again-anew c.args.net.now c.args.self.now c.prune-gone.new.self c.prune-gone.result c.requires.search c.prune-gone.ensures)

pub returns-else-gone-head-clause-counted : goal.returns-else-gone-head-clause-counted
returns-else-gone-head-clause-counted g c =
    omega (
      arith,
      c.seek_lost.ensures.counted,
      looks-lost c.args.net.now c.args.self.now c.prune-gone.new.self c.prune-gone.result c.requires.search c.prune-gone.ensures
          (c.each_activity_stands_once.ensures.begin_at_most c.args.net.now.network)
          (c.each_activity_stands_once.ensures.end_at_most c.args.net.now.network),
    )

pub returns-else-gone-head-clause-again : goal.returns-else-gone-head-clause-again
returns-else-gone-head-clause-again g c =
    again-lost c.args.net.now c.args.self.now c.prune-gone.new.self c.prune-gone.result c.requires.search c.prune-gone.ensures
    c.seek_lost.new.self c.requires.settled c.seek_lost.ensures.goes_on
