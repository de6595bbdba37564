-- The lines of a certificate, and the text of each.
use Rattle.std.specs.Prelude.{ℕ, ◌^◌, ◌<◌, ◌≤◌, List, [], ◌∷◌, ◌++◌, length, decimal, codes, if◌then◌else◌}
use Rattle.pc_text.specs.Fields.{spaced, IsCode}
use Rattle.pc_cert.specs.declared.line.CertLine.{CertLine}
use Rattle.pc_cert.specs.declared.line.CertLine.TheVariants.{Head, Normal, Step, Crash, Segment, Event, Act, Close, End}
use Rattle.pc_cert.specs.declared.number.TheConstants.{MAX_DIGITS}
use Rattle.pc_cert.specs.declared.flows.TheConstants.{MAX_FLOWS}

-- each of the numbers after a space
abbrev pub numbers : List ℕ → List ℕ
numbers [] = []
numbers (n ∷ ns) = spaced (decimal n) (numbers ns)

-- the text of a line, without its end
abbrev pub spelling : CertLine → List ℕ
spelling (Head version project events activities) =
    codes "CERT" ++ spaced (decimal version) (spaced project (spaced (decimal events) (spaced (decimal activities) [])))
spelling Normal = codes "NORMAL"
spelling (Step code) = codes "STEP" ++ spaced code []
spelling Crash = codes "CRASH"
spelling (Segment upper lower cost slope) =
    codes "SEGMENT" ++ spaced (decimal upper) (spaced (decimal lower) (spaced (decimal cost) (spaced (decimal slope) [])))
spelling (Event code time moves) = codes "EVENT" ++ spaced code (spaced (decimal time) (spaced (if moves then codes "1" else codes "0") []))
spelling (Act code duration flows) = codes "ACT" ++ spaced code (spaced (decimal duration) (numbers flows))
spelling Close = codes "CLOSE"
spelling End = codes "END"

-- a number of at most 18 digits
abbrev pub IsSmall : ℕ → Type 0
IsSmall n = n < 10 ^ MAX_DIGITS

-- each of the numbers is one of at most 18 digits
abbrev pub AreSmall : List ℕ → Type 0
AreSmall [] = Unit {0}
AreSmall (n ∷ ns) = IsSmall n × AreSmall ns

-- the line can be written: codes are codes, numbers have at most 18 digits, the version is 1 or 2, and an
-- activity has two to six flows
abbrev pub IsWritable : CertLine → Type 0
IsWritable (Head version project events activities) = ((1 ≤ version) × (version ≤ 2)) × IsCode project × IsSmall events × IsSmall activities
IsWritable (Step code) = IsCode code
IsWritable (Segment upper lower cost slope) = IsSmall upper × IsSmall lower × IsSmall cost × IsSmall slope
IsWritable (Event code time moves) = IsCode code × IsSmall time
IsWritable (Act code duration flows) =
    IsCode code × IsSmall duration × AreSmall flows × (2 ≤ length flows) × (length flows ≤ MAX_FLOWS)
IsWritable other = Unit {0}
