use Rattle.std.proofs.Common.{◌≡◌, true, false, refl, arith}
use Rattle.pc_flow.specs.inside.Solvers.{course_of}
use Rattle.pc_flow.proofs.CourseLaws.{falls, slope-most, cost-lower}
use Rattle.pc_flow.proofs.NextLaws.{not_ended, between-mid, listed-mid, on_course-after, next-after, same-after, further-after, slope-fits, counted-after}
use Rattle.pc_flow.proofs.solver.Solver.next_segment.Goals as goal

pub returns-then-has_ended-clause-ended : goal.returns-then-has_ended-clause-ended
returns-then-has_ended-clause-ended g c = ((λ is. c.has_ended.ensures.0 c.if-has_ended.true), (λ ended. refl))

pub descend-requires-clause-falls : goal.descend-requires-clause-falls
descend-requires-clause-falls g c = falls (course_of c.self.inside) c.self.invariant.on_course

pub search_on-labelling-requires-clause-between : goal.search_on-labelling-requires-clause-between
search_on-labelling-requires-clause-between g c =
    between-mid (course_of c.self.inside) c.self.invariant.on_course c.descend.new.board c.descend.ensures

pub search_on-labelling-requires-clause-listed : goal.search_on-labelling-requires-clause-listed
search_on-labelling-requires-clause-listed g c =
    listed-mid (course_of c.self.inside) c.self.invariant.on_course c.descend.new.board c.descend.ensures

pub overflow_mul-self : goal.overflow_mul-self
overflow_mul-self g c = omega (arith, cost-lower (course_of c.self.inside) c.self.invariant.on_course)

pub overflow_add-self : goal.overflow_add-self
overflow_add-self g c = omega (arith, cost-lower (course_of c.self.inside) c.self.invariant.on_course)

pub overflow_add-self-2 : goal.overflow_add-self-2
overflow_add-self-2 g c =
    let decides = rw (← c.self.view_is) at c.has_ended.ensures in
    let going = not_ended _ (course_of c.self.inside) decides c.if-has_ended.false in
    omega (
      arith,
      slope-fits (course_of c.self.inside) c.self.invariant.on_course c.descend.new.board c.descend.ensures c.search_on-labelling.new.board
          _ _ c.search_on-labelling.ensures.searched going,
    )

pub invariant_of-self : goal.invariant_of-self
invariant_of-self g c =
    let decides = rw (← c.self.view_is) at c.has_ended.ensures in
    let going = not_ended _ (course_of c.self.inside) decides c.if-has_ended.false in
    record {
      on_course = on_course-after (course_of c.self.inside) c.self.invariant.on_course c.descend.new.board c.descend.ensures c.search_on-labelling.new.board _ _
          c.search_on-labelling.ensures.searched going;
    }

pub returns-clause-same : goal.returns-clause-same
returns-clause-same g c =
    let decides = rw (← c.self.view_is) at c.has_ended.ensures in
    let going = not_ended _ (course_of c.self.inside) decides c.if-has_ended.false in
    rw (← c.self.view_is)
    (same-after (course_of c.self.inside) c.self.invariant.on_course c.descend.new.board c.descend.ensures c.search_on-labelling.new.board _ _ c.search_on-labelling.ensures.searched going)

pub returns-clause-next : goal.returns-clause-next
returns-clause-next g c =
    let decides = rw (← c.self.view_is) at c.has_ended.ensures in
    let going = not_ended _ (course_of c.self.inside) decides c.if-has_ended.false in
    λ is. rw (← c.self.view_is)
    (next-after (course_of c.self.inside) c.self.invariant.on_course c.descend.new.board c.descend.ensures c.search_on-labelling.new.board _ _ c.search_on-labelling.ensures.searched going)

pub returns-clause-ended : goal.returns-clause-ended
returns-clause-ended g c =
    let going = not_ended _ c.args.self.now c.has_ended.ensures c.if-has_ended.false in
    ((λ (is : true ≡ false). cc), (λ ended. absurd (going ended)))

pub returns-clause-counted : goal.returns-clause-counted
returns-clause-counted g c =
    let decides = rw (← c.self.view_is) at c.has_ended.ensures in
    let going = not_ended _ (course_of c.self.inside) decides c.if-has_ended.false in
    rw (← c.self.view_is)
    (counted-after (course_of c.self.inside) c.self.invariant.on_course c.descend.new.board c.descend.ensures c.search_on-labelling.new.board _ _ c.search_on-labelling.ensures.searched going _ _
    c.search_on-labelling.ensures.counted)

pub returns-clause-further : goal.returns-clause-further
returns-clause-further g c =
    let decides = rw (← c.self.view_is) at c.has_ended.ensures in
    let going = not_ended _ (course_of c.self.inside) decides c.if-has_ended.false in
    rw (← c.self.view_is)
    (further-after (course_of c.self.inside) c.self.invariant.on_course c.descend.new.board c.descend.ensures c.search_on-labelling.new.board _ _ c.search_on-labelling.ensures.searched going)

pub returns-then-has_ended-clause-gentle : goal.returns-then-has_ended-clause-gentle
returns-then-has_ended-clause-gentle g c = rw (← c.self.view_is) (slope-most _ c.self.invariant.on_course)

pub returns-clause-gentle : goal.returns-clause-gentle
returns-clause-gentle g c =
    let decides = rw (← c.self.view_is) at c.has_ended.ensures in
    let going = not_ended _ (course_of c.self.inside) decides c.if-has_ended.false in
    slope-most _ (on_course-after (course_of c.self.inside) c.self.invariant.on_course c.descend.new.board c.descend.ensures c.search_on-labelling.new.board _ _
    c.search_on-labelling.ensures.searched going)
