use Rattle.std.proofs.Common.{arith, ◌∙◌}
use Rattle.std.proofs.lemmas.List.{get_or_read}
use Rattle.pc_cells.proofs.RegionLaws.{region-count, region-room, region-used}
use Rattle.pc_cells.proofs.region.Region.used.Goals as goal

pub index-requires : goal.index-requires
index-requires c =
    omega (arith, region-count c.self.inside c.args.self.now c.self.view_is c.self.invariant, c.self.invariant.room, c.self.inside.starts.ok.0)

pub returns-clause-used : goal.returns-clause-used
returns-clause-used c =
    get_or_read c.self.inside.starts.items c.self.inside.count _
    (omega (arith, region-count c.self.inside c.args.self.now c.self.view_is c.self.invariant, c.self.invariant.room))
    c.index.ensures 0
    ∙ region-used c.self.inside c.args.self.now c.self.view_is c.self.invariant

pub returns-clause-within : goal.returns-clause-within
returns-clause-within c =
    omega (
      arith,
      get_or_read c.self.inside.starts.items c.self.inside.count _
          (omega (arith, region-count c.self.inside c.args.self.now c.self.view_is c.self.invariant, c.self.invariant.room))
          c.index.ensures 0,
      region-room c.self.inside c.args.self.now c.self.view_is c.self.invariant,
    )
