-- Lines that are put on a page many at a time.
use Rattle.std.proofs.Common.{◌≡◌, ℕ, ◌+◌, ◌≤◌, List, [], ◌++◌, length, take, drop, sym, ap, ◌∙◌, subst, arith}
use Rattle.std.proofs.Common.{append_assoc, append-nil, length-drop, length-take-le, take-add, take-take, take_at, drop_at}
use Rattle.std.proofs.lemmas.Slice.{take-put_mid}
use borrow.Rule.Slice.PartMut.{put_mid, same_len_mid}
use Rattle.pc_edges.specs.inside.page.Puts.{Desk, Adds}
use Rattle.pc_edges.proofs.lemmas.page.PageLaws.{Adds-nil, Adds-then, Adds-as}
use Rattle.pc_certify.specs.inside.fast.Gathers.{Gathers, IsPlaced}

-- nothing was put
pub Gathers-nil : (d : Desk) (lines : List ℕ) → Gathers d lines d lines []
Gathers-nil d lines = record { front = []; put = Adds-nil d; rest = sym (append-nil lines) }

-- the same text under another name
pub Gathers-as : {d e : Desk} {before after text other : List ℕ} → text ≡ other → Gathers d before e after text → Gathers d before e after other
Gathers-as {d} {e} {before} {after} {text} {other} is g = subst (Gathers d before e after) is g

-- one text after another
pub Gathers-then : {d e f : Desk} {before middle after x y : List ℕ} → Gathers d before e middle x → Gathers e middle f after y → Gathers d before f after (x ++ y)
Gathers-then {d} {e} {f} {before} {middle} {after} {x} {y} g h = record {
  front = g.front ++ h.front;
  put = Adds-then g.put h.put;
  rest =
      append_assoc g.front h.front after
      ∙ ap (λ t. g.front ++ t) h.rest
      ∙ sym (append_assoc g.front middle y)
      ∙ ap (λ t. t ++ y) g.rest
      ∙ append_assoc before x y;
}

-- if the buffer was empty before, and what it has now is put, the text was put
pub Gathers-all : {d e f : Desk} {before after text : List ℕ} → before ≡ [] → Gathers d before e after text → Adds e f after → Adds d f text
Gathers-all {d} {e} {f} {before} {after} {text} none g put = Adds-as text (g.rest ∙ ap (λ l. l ++ text) none) (Adds-then g.put put)

-- a line is written over cells, only a front of which counts
pub placed : (cells word line : List ℕ) (at k n : ℕ) → at + k ≤ length cells → length word ≡ k → n ≤ k → take n word ≡ line → length line ≡ n → IsPlaced cells at line (put_mid at k cells word)
placed cells word line at k n fits long few is size = record {
  size = same_len_mid at k cells word (omega (arith, long, length-take-le k (drop at cells) (omega (arith, length-drop at cells))));
  bytes =
      ap (λ m. take (at + m) written) size
      ∙ sym (take-take (at + n) (at + k) written (omega (arith, few)))
      ∙ ap (take (at + n)) (take-put_mid at k cells word (at + k) (omega (arith, long)) (omega (arith, fits)))
      ∙ take-add at n (take at cells ++ word)
      ∙ (λ i. take_at (take at cells) word at front i ++ take n (drop_at (take at cells) word at front i))
      ∙ ap (λ l. take at cells ++ l) is;
} where
  written : List ℕ
  written = put_mid at k cells word

  front : length (take at cells) ≡ at
  front = length-take-le at cells (omega (arith, fits))
