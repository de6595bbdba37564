-- The kinds of cards, of decks of every sort, and their words.
use Rattle.std.specs.Prelude.{ℕ, List, codes}
use Rattle.pc_faults.specs.declared.kind.Kind.{Kind}
use Rattle.pc_faults.specs.declared.kind.Kind.TheVariants.{Project, AsOf, Terms, Wbs, Event, Act, Task, After, Piece, Acct, Charge, ToGo, Status, Res, Load, End}

-- the word that names a kind
abbrev pub word_of : Kind → List ℕ
word_of Project = codes "PROJECT"
word_of AsOf = codes "ASOF"
word_of Terms = codes "TERMS"
word_of Wbs = codes "WBS"
word_of Event = codes "EVENT"
word_of Act = codes "ACT"
word_of Task = codes "TASK"
word_of After = codes "AFTER"
word_of Piece = codes "PIECE"
word_of Acct = codes "ACCT"
word_of Charge = codes "CHARGE"
word_of ToGo = codes "TOGO"
word_of Status = codes "STATUS"
word_of Res = codes "RES"
word_of Load = codes "LOAD"
word_of End = codes "END"
