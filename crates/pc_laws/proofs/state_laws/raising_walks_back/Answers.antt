use Rattle.std.proofs.Common.{refl}
use Rattle.pc_model.specs.Walk.{from_of, to_of}
use Rattle.pc_laws.proofs.state_laws.raising_walks_back.Goals as goal
use Rattle.pc_laws.proofs.States.Raising.{raising_begins, raising_forward, raising_backward}

pub returns : goal.returns
returns c = record {
  begins = raising_begins;
  along = λ net terms knees st room f next_f g next_g a l raising step more.
      raising_forward net terms knees st room f next_f g next_g a (to_of net.arcs a) l step raising refl more;
  against = λ net terms knees st room f next_f g next_g a l raising step less.
      raising_backward net terms knees st room f next_f g next_g a (from_of net.arcs a) l step raising refl less;
}
