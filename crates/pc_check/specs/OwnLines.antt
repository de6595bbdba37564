-- How many lines a certificate has, by the upper end of its own first segment.
use Rattle.std.specs.Prelude.{◌≡◌, ℕ, suc, ◌+◌, ◌*◌, ◌≤◌, max, List, [], ◌∷◌, ◌++◌, length, Option, None}
use Rattle.pc_edges.specs.Pulls.{TakesPulls}
use Rattle.pc_cert.specs.declared.line.CertLine.{CertLine}
use Rattle.pc_cert.specs.declared.line.CertLine.TheVariants.{Segment}
use Rattle.pc_cert.specs.declared.line.TheConstants.{MAX_LINE}
use Rattle.pc_cert.specs.declared.place.Place.{Place}
use Rattle.pc_cert.specs.Text.{text_of, LeadTo}
use Rattle.pc_crash.specs.Priced.{PricedNetwork}
use Rattle.pc_check.specs.Failures.{failure_of}

-- how many lines come before the first SEGMENT line: those of the header and the walks
abbrev pub lines_before : List CertLine → ℕ
lines_before [] = 0
lines_before (Segment upper lower cost slope ∷ lines) = 0
lines_before (line ∷ lines) = suc (lines_before lines)

-- the upper end of the first segment, or 0 if none has begun
abbrev pub first_upper_in_lines : List CertLine → ℕ
first_upper_in_lines [] = 0
first_upper_in_lines (Segment upper lower cost slope ∷ lines) = upper
first_upper_in_lines (line ∷ lines) = first_upper_in_lines lines

-- the most lines of a header and two walks of at most n steps each
abbrev pub most_lines_before : ℕ → ℕ
most_lines_before n = 3 + (n + n)

-- the most lines of the segments below an upper end, with n events and m activities: of as many segments as it is long, or of one where
-- it is 0
abbrev pub most_segment_lines : ℕ → ℕ → ℕ → ℕ
most_segment_lines n m upper = max upper 1 * (n + m + 2)

-- the lines are few: header and walks, after them as many segments as the first upper end is long, or one if that is 0, and END
pub record AreFew (n m : ℕ) (lines : List CertLine) : Type 0 where
  pub head : lines_before lines ≤ most_lines_before n
  pub all : length lines ≤ lines_before lines + (most_segment_lines n m (first_upper_in_lines lines) + 1)

-- the most bytes that may come of a text with this first upper end: those of the header and the walks, of the segments, and of two lines
-- more, which are END and the one that fails
abbrev pub bytes_below : PricedNetwork → ℕ → ℕ
bytes_below net upper =
    (most_lines_before net.network.events + (most_segment_lines net.network.events (length net.network.arcs) upper + 2)) * MAX_LINE

-- the text begins with lines none of which fails, and there were at most as many pulls as bytes may come with their
-- first upper end
pub record KeepsToOwnLines (net : PricedNetwork) (text : List ℕ) (pulls pulls_after : Option ℕ) : Type 0 where
  pub place : Place
  pub lines : List CertLine
  pub rest : List ℕ
  pub led : LeadTo place lines
  pub none : failure_of net lines ≡ None
  pub whole : text ≡ text_of lines ++ rest
  pub turns : TakesPulls (bytes_below net (first_upper_in_lines lines)) pulls pulls_after
