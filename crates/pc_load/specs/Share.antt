-- The share of a spread amount up to a time, and its part between two times.
use Rattle.std.specs.Prelude.{ℕ, ◌+◌, ◌-◌, ◌*◌, ◌/◌, nat_le, if◌then◌else◌}
use Rattle.pc_load.specs.declared.spread.Spread.{Spread}

-- the share up to a time: nothing up to the beginning; the complete amount from the end on; and between them as much of
-- the amount as the time since the beginning is of the length, rounded down
abbrev pub share : Spread → ℕ → ℕ
share s time =
    if nat_le time s.begin then 0
    else if nat_le (s.begin + s.length) time then s.amount
    else (s.amount * (time - s.begin) / s.length)

-- the part between two times: the share by the later one less the share by the earlier one
abbrev pub part : Spread → ℕ → ℕ → ℕ
part s from to = share s to - share s from
