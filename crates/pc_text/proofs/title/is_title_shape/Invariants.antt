use Rattle.std.proofs.Common.{◌≡◌, ◌&&◌, drop}
use Rattle.pc_text.specs.Title.{is_title_shape}
use Rattle.pc_text.proofs.title.is_title_shape.Given as goal

abbrev pub invariant-loop-byte : goal.invariant-loop-byte
invariant-loop-byte l = is_title_shape l.field ≡ (l.is_shape && is_title_shape (drop l.byte-index l.field))
