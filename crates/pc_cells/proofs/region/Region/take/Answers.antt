use Rattle.std.proofs.Common.{◌≡◌, ◌+◌, ◌-◌, ℕ, arith, ap, ◌∙◌, refl}
use Rattle.std.specs.Vec.{with_items, with_item}
use Rattle.pc_cells.specs.declared.region.RegionFull.{RegionFull}
use Rattle.pc_cells.specs.inside.Spans.{free_of}
use Rattle.pc_cells.proofs.RegionLaws.{region-count, region-room, region-capacity, region-end, region-free, vector-filled, starts-room, HasOneMore, one_more}
use Rattle.pc_cells.proofs.region.Region.take.Goals as goal

abbrev full : ℕ → ℕ → RegionFull
full need free = record { need = need; free = free }

pub index-place-requires : goal.index-place-requires
index-place-requires c =
    omega (arith, region-count c.self.inside c.args.self.now c.self.view_is c.self.invariant, c.self.invariant.room, c.self.inside.starts.ok.0)

pub returns-then-free-len-clause-there_is_room : goal.returns-then-free-len-clause-there_is_room
returns-then-free-len-clause-there_is_room c =
    let free : c.len.result - c.index-place.result.now ≡ free_of c.args.self.now =
    region-free c.self.inside c.args.self.now c.self.view_is c.self.invariant c.index-place.result.now c.len.result c.index-place.ensures (c.len.ensures ∙ c.self.inside.cells.ok.0) in
    (λ never. cc, λ room. absurd (omega (arith, c.if-free-len.true)))

pub returns-then-free-len-clause-full : goal.returns-then-free-len-clause-full
returns-then-free-len-clause-full c =
    ap (λ n. full c.args.len n) (
    region-free c.self.inside c.args.self.now c.self.view_is c.self.invariant c.index-place.result.now c.len.result c.index-place.ensures (c.len.ensures ∙ c.self.inside.cells.ok.0)
    )

pub overflow_add-self : goal.overflow_add-self
overflow_add-self c =
    omega (arith, region-count c.self.inside c.args.self.now c.self.view_is c.self.invariant, c.self.invariant.few)

pub index_mut-requires : goal.index_mut-requires
index_mut-requires c =
    omega (
      arith,
      starts-room c.self.inside c.args.self.now c.self.view_is c.self.invariant c.index-place.result.now c.args.len c.requires
          (region-end c.self.inside c.args.self.now c.self.view_is c.self.invariant c.index-place.result.now c.index-place.ensures)
          (omega (
            arith,
            c.if-free-len.false,
            c.len.ensures,
            c.self.inside.cells.ok.0,
            region-room c.self.inside c.args.self.now c.self.view_is c.self.invariant,
            region-capacity c.self.inside c.args.self.now c.self.view_is c.self.invariant,
            region-end c.self.inside c.args.self.now c.self.view_is c.self.invariant c.index-place.result.now c.index-place.ensures,
            c.requires,
          )),
      c.self.inside.starts.ok.0,
    )

pub returns-clause-there_is_room : goal.returns-clause-there_is_room
returns-clause-there_is_room c =
    let free : c.len.result - c.index-place.result.now ≡ free_of c.args.self.now =
    region-free c.self.inside c.args.self.now c.self.view_is c.self.invariant c.index-place.result.now c.len.result c.index-place.ensures (c.len.ensures ∙ c.self.inside.cells.ok.0) in
    (λ is. omega (arith, c.if-free-len.false), λ room. refl)

-- the fields when the cells of the span are filled and the next start follows them
taken : (c : goal.After-self-3-1) → HasOneMore (record {
  cells = with_items c.self.inside.cells c.fill_range.new.cells;
  starts = with_item c.self.inside.starts (c.self.inside.count + 1) (c.index-place.result.now + c.args.len);
  count = c.self.inside.count + 1;
}) c.args.self.now c.index-place.result.now c.args.len
taken c =
    let r = c.self.inside in
    let now = c.args.self.now in
    let place = c.index-place.result.now in
    let last = region-end r now c.self.view_is c.self.invariant place c.index-place.ensures in
    one_more r _ now c.self.view_is c.self.invariant place c.args.len c.requires last
    (omega (
      arith,
      c.if-free-len.false,
      c.len.ensures,
      r.cells.ok.0,
      region-room r now c.self.view_is c.self.invariant,
      region-capacity r now c.self.view_is c.self.invariant,
      last,
      c.requires,
    ))
    (
    vector-filled r.cells c.deref_mut.result.now c.fill_range.new.cells place (place + c.args.len) 0
    c.deref_mut.ensures.value c.deref_mut.ensures.len c.fill_range.ensures
    )
    refl refl

pub invariant_of-self : goal.invariant_of-self
invariant_of-self c = (taken c).laid

pub returns-clause-span : goal.returns-clause-span
returns-clause-span c = (taken c).span

pub returns-clause-taken : goal.returns-clause-taken
returns-clause-taken c = (taken c).taken
