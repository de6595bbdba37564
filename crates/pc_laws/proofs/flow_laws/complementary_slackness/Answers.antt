use Rattle.pc_laws.proofs.flow_laws.complementary_slackness.Goals as goal
use Rattle.pc_laws.proofs.Flows.Duality.{tight_schedule, tight_promise, tight_least}

pub returns : goal.returns
returns c = record {
  schedule = λ net terms knees f g T value priced flows tight. tight_schedule net terms knees priced f g value flows T tight;
  balanced = λ net terms knees f g T value priced flows tight. tight_promise net terms knees priced f g value flows T tight;
  least = λ net terms knees f g T value priced flows tight. tight_least net terms knees priced f g value flows T tight;
}
