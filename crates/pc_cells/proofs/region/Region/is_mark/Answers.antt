use Rattle.std.proofs.Common.{◌≡◌, arith, ◌∙◌, sym}
use Rattle.std.specs.Prelude.{slice_index}
use Rattle.std.proofs.lemmas.List.{get_or_read}
use Rattle.std.proofs.lemmas.Bool.{eq-eqb, eqb-true, leb-true}
use Rattle.pc_cells.proofs.RegionLaws.{region-mark, region-marked, region-length, region-count}
use Rattle.pc_cells.proofs.region.Region.is_mark.Goals as goal

pub index-requires : goal.index-requires
index-requires c =
    omega (arith, region-count c.self.inside c.args.self.now c.self.view_is c.self.invariant, c.self.invariant.room, c.self.inside.starts.ok.0)

pub returns-then-m-self : goal.returns-then-m-self
returns-then-m-self c =
    let read : c.index.result.now ≡ slice_index c.self.inside.starts.items c.args.m.spans =
    get_or_read c.self.inside.starts.items c.args.m.spans _
    (omega (arith, region-count c.self.inside c.args.self.now c.self.view_is c.self.invariant, c.self.invariant.room))
    c.index.ensures 0 in (
      λ same. region-mark c.self.inside c.args.self.now c.self.view_is c.self.invariant c.args.m (omega arith) (sym read ∙ eqb-true c.index.result.now c.args.m.cells same),
      λ is. eq-eqb c.index.result.now c.args.m.cells (read ∙ region-marked c.self.inside c.args.self.now c.self.view_is c.self.invariant c.args.m is),
    )

pub returns-else-m-self : goal.returns-else-m-self
returns-else-m-self c = (
  λ known. absurd (omega (arith, leb-true c.args.m.spans c.self.inside.count known)),
  λ is. absurd (omega (arith, is.known, region-length c.self.inside c.args.self.now c.self.view_is c.self.invariant)),
)
