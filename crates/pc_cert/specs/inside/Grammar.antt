-- The order in which the lines of a certificate come.
-- Here is what no clause of a top call and no law reaches.
use Rattle.pc_cert.specs.declared.line.CertLine.{CertLine}
use Rattle.pc_cert.specs.declared.line.CertLine.TheVariants.{Event, Act}

-- a row of a segment: the line of an event or of an activity
abbrev pub IsRow : CertLine → Type 0
IsRow (Event code time moves) = Unit {0}
IsRow (Act code duration flows) = Unit {0}
IsRow other = ⊥
