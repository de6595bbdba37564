use Rattle.std.proofs.Common.{◌≡◌, ◌^◌, ◌<◌, drop}
use Rattle.std.specs.List.{list_all}
use Rattle.std.specs.Char.{is_ascii_digit}
use Rattle.pc_text.specs.Number.{value_after}
use Rattle.pc_text.proofs.number.value_of.Given as goal

abbrev pub invariant-loop-byte : goal.invariant-loop-byte
invariant-loop-byte l =
    (l.number < 10 ^ l.byte-index)
    × ((value_after l.number (drop l.byte-index l.word) ≡ value_after 0 l.word)
    × (list_all is_ascii_digit (drop l.byte-index l.word) ≡ list_all is_ascii_digit l.word))
