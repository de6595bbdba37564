use Rattle.std.proofs.Common.{◌≡◌, ℕ, ◌<◌, [], List, length, get_or, refl, sym, ◌∙◌, ap, subst, arith}
use Rattle.std.proofs.lemmas.List.{get_or_read}
use Rattle.arrayvec.specs.ArrayVec.{ArrayVec}
use Rattle.pc_model.specs.declared.PieceRow.{PieceRow}
use Rattle.pc_model.specs.Pieces.{pieces_of, units_of}
use Rattle.pc_model.specs.Schedule.{term_at}
use Rattle.pc_crash.specs.inside.Groups.{AreGroups}
use Rattle.pc_crash.specs.inside.KneeLists.{knee_list}
use Rattle.pc_crash.specs.inside.Laid.{AreLaid, IsRising}
use Rattle.pc_crash.proofs.KneeListLaws.{IsRising-from_slopes, length-knee_list, units-most}
use Rattle.pc_crash.proofs.LaidLaws.{AreLaid-push}
use Rattle.pc_crash.proofs.price_table.laid_out.Goals as goal

-- a group that was read has the pieces of its activity
group-read : (pieces : List PieceRow) (groups : List (ArrayVec PieceRow)) (group : ArrayVec PieceRow) (items : List PieceRow) (n a : ℕ) →
    AreGroups pieces n groups → a < n → items ≡ group.items → group ≡ get_or groups a group → items ≡ pieces_of pieces a
group-read pieces groups group items n a all inside is read =
    is ∙ ap (λ (g : ArrayVec PieceRow). g.items) (get_or_read groups a group (omega (arith, all.one_each)) read (record { items = [] })) ∙ all.each a inside

pub push_knees-requires-clause-rising : goal.push_knees-requires-clause-rising
push_knees-requires-clause-rising c =
    let terms = c.args.terms.now in
    let pieces = c.args.pieces.now in
    let a = c.loop-a.a in
    let inside : a < length terms = omega (arith, c.activities-a-end.ensures.activities, c.requires.terms.one_each) in
    let group = group-read pieces c.in_ok-groups.groups.items c.index.result.now c.as_slice-group.result.now (length terms) a c.in_ok-groups.ensures
    inside c.as_slice-group.ensures.value c.index.ensures in
    subst (IsRising (term_at terms a).slope) (sym group) (IsRising-from_slopes (term_at terms a) (pieces_of pieces a) (λ k below. c.requires.pieces.rising a k inside below))

pub push_knees-requires-clause-units : goal.push_knees-requires-clause-units
push_knees-requires-clause-units c =
    let terms = c.args.terms.now in
    let pieces = c.args.pieces.now in
    let a = c.loop-a.a in
    let inside : a < length terms = omega (arith, c.activities-a-end.ensures.activities, c.requires.terms.one_each) in
    let group = group-read pieces c.in_ok-groups.groups.items c.index.result.now c.as_slice-group.result.now (length terms) a c.in_ok-groups.ensures
    inside c.as_slice-group.ensures.value c.index.ensures in
    omega (arith, ap units_of group, units-most terms pieces a c.requires.pieces inside (c.requires.terms.ordered a inside), c.requires.limits.short a inside)

pub loop-a-preserved : goal.loop-a-preserved
loop-a-preserved c =
    let terms = c.args.terms.now in
    let pieces = c.args.pieces.now in
    let a = c.loop-a.a in
    let inside : a < length terms = omega (arith, c.activities-a-end.ensures.activities, c.requires.terms.one_each) in
    let group = group-read pieces c.in_ok-groups.groups.items c.index.result.now c.as_slice-group.result.now (length terms) a c.in_ok-groups.ensures
    inside c.as_slice-group.ensures.value c.index.ensures in
    rw (c.in_ok-push.ensures.items, c.in_ok-push_knees.ensures)
    (AreLaid-push c.args.net.now.arcs terms pieces a c.loop-a.rows.items c.loop-a.knees.items (knee_list (term_at terms a) c.as_slice-group.result.now) _ c.loop-a.invariant inside
    (λ i. record { from = c.from.ensures.event i; to = c.to.ensures.event i })
    refl
    (omega arith)
    (omega (arith, length-knee_list (term_at terms a) c.as_slice-group.result.now))
    (omega (arith, c.as_slice-group.ensures.fits))
    (ap (knee_list (term_at terms a)) group))

pub returns-clause-sound : goal.returns-clause-sound
returns-clause-sound c = c.activities-a-end.ensures.sound

pub returns-clause-in_range : goal.returns-clause-in_range
returns-clause-in_range c = c.activities-a-end.ensures.in_range

pub returns-clause-laid : goal.returns-clause-laid
returns-clause-laid c =
    let all : c.loop-a.a ≡ length c.args.terms.now = omega (arith, c.activities-a-end.ensures.activities, c.requires.terms.one_each) in
    subst (λ n. AreLaid c.args.net.now.arcs c.args.terms.now c.args.pieces.now n c.loop-a.rows.items c.loop-a.knees.items) all c.loop-a.invariant

pub index-requires : goal.index-requires
index-requires c = omega (arith, c.in_ok-groups.ensures.one_each, c.activities-a-end.ensures.activities, c.requires.terms.one_each)
