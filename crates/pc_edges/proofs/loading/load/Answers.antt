use Rattle.pc_edges.specs.declared.loading.TheConstants.{STREAM_ROOM}
use Rattle.pc_edges.proofs.LoadingLaws.{long_only, stops_within}
use Rattle.pc_edges.proofs.PullLaws.{IsReadWithin_none}
use Rattle.pc_edges.proofs.loading.load.Goals as goal

pub returns-in_default-clause-stops : goal.returns-in_default-clause-stops
returns-in_default-clause-stops g c = IsReadWithin_none c.args.limit STREAM_ROOM g.S.Source.left g.S.Source.faults g.S.Source.pulls c.args.source.now

pub returns-clause-too_long : goal.returns-clause-too_long
returns-clause-too_long g c = long_only c.load_by.ensures.loads

pub returns-clause-stops : goal.returns-clause-stops
returns-clause-stops g c = stops_within c.load_by.ensures.loads
