use Rattle.std.proofs.Common.{length, ap, arith}
use Rattle.pc_crash.proofs.InsideLaws.{rows-each}
use Rattle.pc_crash.proofs.MoveLaws.{part_movable, row_room, view_after, whole_after}
use Rattle.pc_crash.proofs.crash_net.CrashNet.set_term.Goals as goal

pub index-requires : goal.index-requires
index-requires c = omega (arith, rows-each c.self.inside c.self.invariant, ap (λ n. length n.network.arcs) c.self.view_is)

pub overflow_cast-first : goal.overflow_cast-first
overflow_cast-first c = omega (arith, row_room c.self.inside c.args.self.now c.self.view_is c.self.invariant c.args.a c.requires.activity c.index.result.now c.index.ensures)

pub overflow_cast-knees : goal.overflow_cast-knees
overflow_cast-knees c = omega (arith, row_room c.self.inside c.args.self.now c.self.view_is c.self.invariant c.args.a c.requires.activity c.index.result.now c.index.ensures)

pub overflow_add-knees : goal.overflow_add-knees
overflow_add-knees c = omega (arith, row_room c.self.inside c.args.self.now c.self.view_is c.self.invariant c.args.a c.requires.activity c.index.result.now c.index.ensures)

pub offset_bounds-deref_mut-first : goal.offset_bounds-deref_mut-first
offset_bounds-deref_mut-first c = omega (arith, row_room c.self.inside c.args.self.now c.self.view_is c.self.invariant c.args.a c.requires.activity c.index.result.now c.index.ensures)

pub move_knees-requires : goal.move_knees-requires
move_knees-requires c =
    part_movable c.self.inside c.args.self.now c.self.view_is c.self.invariant c.args.a c.requires.activity c.index.result.now c.index.ensures
    c.args.term c.requires.terms c.requires.limits c.requires.pieces c.deref_mut.result.now c.deref_mut.ensures.value

pub invariant_of-self : goal.invariant_of-self
invariant_of-self c =
    whole_after c.self.inside c.args.self.now c.self.view_is c.self.invariant c.args.a c.requires.activity c.index.result.now c.index.ensures
    c.args.term c.requires.terms c.requires.limits c.requires.pieces c.deref_mut.result.now c.deref_mut.ensures.value
    c.index_mut.result.now c.index_mut.ensures.value c.move_knees.new.knees c.move_knees.ensures

pub returns : goal.returns
returns c =
    view_after c.self.inside c.args.self.now c.self.view_is c.self.invariant c.args.a c.requires.activity c.index.result.now c.index.ensures
    c.args.term c.requires.terms c.requires.limits c.requires.pieces c.deref_mut.result.now c.deref_mut.ensures.value
    c.index_mut.result.now c.index_mut.ensures.value c.move_knees.new.knees c.move_knees.ensures

pub slice_bounds-knees-count : goal.slice_bounds-knees-count
slice_bounds-knees-count c = omega arith

pub index_mut-requires : goal.index_mut-requires
index_mut-requires c = omega (arith, rows-each c.self.inside c.self.invariant, ap (λ n. length n.network.arcs) c.self.view_is)
