use Rattle.std.specs.List.{range_with_len}
use Rattle.pc_tasks.proofs.lemmas.network.Outer.{ends, wide_outer, wide_is_firm, joined_in_range}
use Rattle.pc_tasks.proofs.lemmas.network.Cycles.{read_first_cycle, draw_cycle}
use Rattle.pc_tasks.proofs.network.wide_arrows_have_the_cycles.Goals as goal

pub returns-clause-range : goal.returns-clause-range
returns-clause-range c n afters among = joined_in_range n afters among (ends n (range_with_len 0 n) (range_with_len 0 n)) (wide_outer n)

pub returns-clause-firm : goal.returns-clause-firm
returns-clause-firm c n afters among some = wide_is_firm n afters among some

pub returns-clause-first : goal.returns-clause-first
returns-clause-first c n afters walk among found = read_first_cycle n afters among (ends n (range_with_len 0 n) (range_with_len 0 n)) (wide_outer n) walk found

pub returns-clause-drawn : goal.returns-clause-drawn
returns-clause-drawn c n afters tasks among cycle = draw_cycle n afters among (ends n (range_with_len 0 n) (range_with_len 0 n)) (wide_outer n) tasks cycle
