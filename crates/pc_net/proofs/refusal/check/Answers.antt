use Rattle.pc_net.proofs.refusal.check.Goals as goal

pub returns-clause-firm : goal.returns-clause-firm
returns-clause-firm c = record {
  not_entered = λ entered. c.in_default.ensures entered.0 (entered.1, entered.2);
  not_left = λ left. c.in_default-leaving_end.ensures left.0 (left.1, left.2);
  none_dangles = λ e known dangles. c.in_default-dangling.ensures e (known, dangles);
}
