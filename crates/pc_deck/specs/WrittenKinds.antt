-- How the cards of each kind are written: the fields after the word of the kind, in order; and what a card is in another record.
use Rattle.std.specs.Prelude.{[], ◌∷◌, decimal}
use Rattle.pc_days.specs.Calendar.{text_of_day}
use Rattle.pc_faults.specs.declared.kind.Kind.{Kind}
use Rattle.pc_faults.specs.declared.kind.Kind.TheVariants.{Project, AsOf, Terms, Wbs, Event, Act, Task, After, Piece, Acct, Charge, ToGo, Status, Res, Load, End}
use Rattle.pc_cards.specs.Entry.{Written}
use Rattle.pc_cards.specs.Forms.{code_text, letter_text, number_text}
use Rattle.pc_deck.specs.Kinds.{CardOf}
use Rattle.pc_deck.specs.Titled.{written_titled}
use Rattle.pc_deck.specs.Money.{written_money}

abbrev pub written_of : (kind : Kind) → Written (CardOf kind)
written_of Project = record {
  written = λ project. project.code ∷ project.start ∷ project.end ∷ text_of_day project.start_day ∷ decimal project.unit_days
      ∷ number_text project.directed ∷ project.title ∷ decimal project.version ∷ [];
  at_row = λ row project. record project { row = row };
}
written_of AsOf = record { written = λ card. text_of_day card.day ∷ []; at_row = λ row card. record card { row = row } }
written_of Terms = record {
  written = λ terms. decimal terms.overhead ∷ decimal terms.target ∷ decimal terms.bonus ∷ decimal terms.penalty ∷ [];
  at_row = λ row terms. record terms { row = row };
}
written_of Wbs = record {
  written = λ item. item.code ∷ code_text item.parent ∷ item.title ∷ [];
  at_row = λ row item. record item { row = row };
}
written_of Event = record { written = written_titled; at_row = λ row event. record event { row = row } }
written_of Act = record {
  written = λ act. act.code ∷ act.from ∷ act.to ∷ act.item
      ∷ decimal act.opt ∷ decimal act.likely ∷ decimal act.pess ∷ decimal act.normal ∷ decimal act.crash
      ∷ decimal act.cost ∷ decimal act.slope ∷ act.title ∷ [];
  at_row = λ row act. record act { row = row };
}
written_of Task = record {
  written = λ task. task.code ∷ task.item
      ∷ decimal task.opt ∷ decimal task.likely ∷ decimal task.pess ∷ decimal task.normal ∷ decimal task.crash
      ∷ decimal task.cost ∷ decimal task.slope ∷ task.title ∷ [];
  at_row = λ row task. record task { row = row };
}
written_of After = record { written = λ after. after.task ∷ after.before ∷ []; at_row = λ row after. record after { row = row } }
written_of Piece = record {
  written = λ piece. piece.activity ∷ decimal piece.units ∷ decimal piece.slope ∷ [];
  at_row = λ row piece. record piece { row = row };
}
written_of Acct = record {
  written = λ account. account.code ∷ account.item ∷ decimal account.budget ∷ account.title ∷ [];
  at_row = λ row account. record account { row = row };
}
written_of Charge = record { written = written_money; at_row = λ row charge. record charge { row = row } }
written_of ToGo = record { written = written_money; at_row = λ row togo. record togo { row = row } }
written_of Status = record {
  written = λ status. status.activity ∷ letter_text status.finished ∷ text_of_day status.day ∷ [];
  at_row = λ row status. record status { row = row };
}
written_of Res = record { written = written_titled; at_row = λ row resource. record resource { row = row } }
written_of Load = record {
  written = λ load. load.activity ∷ load.resource ∷ decimal load.quantity ∷ [];
  at_row = λ row load. record load { row = row };
}
written_of End = record { written = λ card. []; at_row = λ row card. tt }
