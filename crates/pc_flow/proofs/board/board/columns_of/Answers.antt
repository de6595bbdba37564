use Rattle.pc_flow.proofs.lemmas.board.TakenLaws.{columns-taken}
use Rattle.pc_flow.proofs.board.board.columns_of.Goals as goal

pub returns : goal.returns
returns c =
    columns-taken c.args.events c.args.activities
    c.args.region.now c.take_free.new.self c.take_free-2.new.self c.take_free-3.new.self c.take_free-4.new.self c.take_free-5.new.self
    c.take_free-6.new.self c.take_free-7.new.self c.take_free-8.new.self c.take_free-9.new.self c.take_free-10.new.self
    c.take_free-11.new.self c.take_free-12.new.self c.take_free-13.new.self c.take_free-14.new.self
    c.take_free.result c.take_free-2.result c.take_free-3.result c.take_free-4.result c.take_free-5.result c.take_free-6.result
    c.take_free-7.result c.take_free-8.result c.take_free-9.result c.take_free-10.result c.take_free-11.result
    c.take_free-12.result c.take_free-13.result c.take_free-14.result
    c.take_free.ensures.taken c.take_free-2.ensures.taken c.take_free-3.ensures.taken c.take_free-4.ensures.taken c.take_free-5.ensures.taken c.take_free-6.ensures.taken
    c.take_free-7.ensures.taken c.take_free-8.ensures.taken c.take_free-9.ensures.taken c.take_free-10.ensures.taken c.take_free-11.ensures.taken c.take_free-12.ensures.taken
    c.take_free-13.ensures.taken c.take_free-14.ensures.taken
