-- A line that comes again at the front of a piece.
use Rattle.std.proofs.Common.{◌≡◌, ℕ, ◌+◌, ◌<◌, ◌≤◌, List, [], ◌∷◌, ◌++◌, length, take, drop, set, Option, Some, None, sym, ap, subst, ◌∙◌, arith, append_assoc, length-append, length-take-le}
use Rattle.std.specs.Prelude.{IsSome}
use Rattle.std.proofs.lemmas.List.{take-append-drop, take-append-le, take_all, length-drop, length-set, take_more_set}
use Rattle.pc_cert.specs.declared.line.CertLine.{CertLine}
use Rattle.pc_text.specs.Fields.{run_len, Lacks}
use Rattle.pc_cert.specs.inside.Reading.{line_of}
use Rattle.pc_text.proofs.FieldLemmas.{run_len-before}
use Rattle.pc_cert.proofs.LineLaws.{line_takes}
use Rattle.pc_cert.proofs.LineLengths.{spelling_lacks_end}
use Rattle.pc_cert.specs.inside.Known.{AreCells, IsAgain}

-- the piece begins with the stored bytes of the line
pub comes_again : (line : Option CertLine) (cells piece : List ℕ) (len : ℕ) → AreCells cells len line → len ≤ length piece → take len piece ≡ take len cells → 0 < len → IsAgain line piece len
comes_again line cells piece len are within same some =
    let kept = are.kept some in
    let text = kept.text in
    let front : take len piece ≡ text ++ 10 ∷ [] = same ∙ kept.whole in
    let long : length (take len piece) ≡ len = length-take-le len piece within in
    let longer : length (take len piece) ≡ length text + 1 = ap length front ∙ length-append text (10 ∷ []) in
    let whole : piece ≡ text ++ 10 ∷ drop len piece =
    sym (take-append-drop len piece) ∙ ap (λ t. t ++ drop len piece) front ∙ append_assoc text (10 ∷ []) (drop len piece) in
    let run : run_len 10 piece ≡ length text = ap (run_len 10) whole ∙ run_len-before 10 text (drop len piece) kept.no_end in
    let before : take (run_len 10 piece) piece ≡ text =
    ap (λ n. take n piece) run ∙ ap (λ t. take (length text) t) whole ∙ take-append-le (length text) text (10 ∷ drop len piece) (omega arith) ∙ take_all (length text) text (omega arith) in
    record { within = within; ends = omega (arith, run, long, longer); read = ap line_of before ∙ kept.read }

-- bytes that spell a line have no end of a line in them
no_end_in : (line : Option CertLine) (text : List ℕ) → IsSome line → line ≡ line_of text → Lacks 10 text
no_end_in (Some line) text some is =
    let spelled = line_takes text line (sym is) in
    subst (λ t. Lacks 10 t) (sym (spelled.0)) (spelling_lacks_end line (spelled.1))
no_end_in None text some is = absurd cc

-- the cells have the bytes of a line, and its end after them
pub kept_cells : (line : Option CertLine) (text part cells : List ℕ) → part ≡ text → length cells ≡ 64 → length text < 64 → IsSome line →
    line ≡ line_of text → AreCells (set (part ++ drop (length text) cells) (length text) 10) (length text + 1) line
kept_cells line text part cells same room short some is =
    let whole = part ++ drop (length text) cells in
    let long : length whole ≡ 64 = omega (arith, length-append part (drop (length text) cells), length-drop (length text) cells, ap length same) in
    let front : take (length text) whole ≡ text =
    take-append-le (length text) part (drop (length text) cells) (omega (arith, ap length same)) ∙ take_all (length text) part (omega (arith, ap length same)) ∙ same in
    record {
      room = length-set whole (length text) 10 ∙ long;
      within = omega (arith, short);
      kept = λ _. record {
        text = text;
        no_end = no_end_in line text some is;
        read = sym is;
        whole = take_more_set whole (length text) 10 (omega (arith, long, short)) ∙ ap (λ t. t ++ 10 ∷ []) front;
      };
    }
