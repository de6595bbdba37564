-- What a title is: at most 80 bytes, none below 0x20 and none 0x7F.
-- Here is what no clause of a top call and no law reaches.
use Rattle.std.specs.Prelude.{ℕ, ◌&&◌, nat_le, List, length, Option, Some, None, if◌then◌else◌}
use Rattle.pc_text.specs.Title.{is_title_shape}

-- the title in a field, if it has a title's shape and at most 80 bytes
abbrev pub title_of : List ℕ → Option (List ℕ)
title_of field = if is_title_shape field && nat_le (length field) 80 then Some field else None
