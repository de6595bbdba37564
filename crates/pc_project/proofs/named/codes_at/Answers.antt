use Rattle.std.proofs.Common.{◌≡◌, ℕ, ◌<◌, ◌+◌, List, [], ◌∷◌, ◌++◌, ◌∙◌, get_or, length, take}
use Rattle.std.proofs.lemmas.List.{get_or_default, get_or_read}
use Rattle.pc_model.specs.Codes.{text_at}
use Rattle.pc_project.specs.Records.{codes_at}
use Rattle.pc_project.proofs.LoopLaws.{map_take_more}
use Rattle.pc_project.proofs.named.codes_at.Goals as goal

-- one more code that was read
codes_more : (codes : List (List ℕ)) (numbers : List ℕ) (i : ℕ) (code : List ℕ) (picked : List (List ℕ)) → i < length numbers → get_or numbers i 0 < length codes →
    code ≡ get_or codes (get_or numbers i 0) code → picked ≡ codes_at codes (take i numbers) → picked ++ code ∷ [] ≡ codes_at codes (take (i + 1) numbers)
codes_more codes numbers i code picked within known is before =
    map_take_more (text_at codes) numbers i (get_or numbers i 0) code picked within (get_or_default numbers i 0 (get_or numbers i 0) within) before
    (get_or_read codes (get_or numbers i 0) code known is [])

pub loop-number-preserved : goal.loop-number-preserved
loop-number-preserved c =
    c.in_ok-push.ensures.items
    ∙ codes_more c.args.codes.now c.args.numbers.now c.loop-number.number-index c.index-codes-number.result c.loop-number.picked.items c.loop-number-test.true
    (c.requires c.loop-number.number-index 0 c.loop-number-test.true) c.index-codes-number.is c.loop-number.invariant
