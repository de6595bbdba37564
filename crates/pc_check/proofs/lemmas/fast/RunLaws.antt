-- Lines of one piece that are taken one after the other.
use Rattle.std.proofs.Common.{◌≡◌, ℕ, ◌+◌, ◌-◌, ◌^◌, ◌<◌, ◌≤◌, zero, suc, List, ◌++◌, length, take, drop, None, refl, sym, ap, subst, ◌∙◌, arith, append_assoc}
use Rattle.std.proofs.Math.Seq.{take-add}
use Rattle.std.proofs.lemmas.List.{length-drop, drop-drop}
use Rattle.pc_cert.specs.inside.Reader.{CertReading, ReadsAs}
use Rattle.pc_check.specs.inside.fast.Along.{TakesAlong}
use Rattle.pc_check.specs.inside.Checking.{Checking, ChecksAs}

-- lines that are this many bytes of the piece were taken, or nothing has changed, and more may be taken
pub record IsRun (piece : List ℕ) (used : ℕ) (before after : CertReading) (old new : Checking) : Type 0 where
  pub within : used ≤ length piece
  pub same : used ≡ 0 → new ≡ old
  pub same_reader : used ≡ 0 → after ≡ before
  pub takes : 0 < used → TakesAlong piece used before after old new
  pub net : new.net ≡ old.net
  pub none : new.fail ≡ None
  pub place : after.place ≡ new.kept.place
  pub going : after.malformed ≡ None
  pub alike : after.lines ≡ new.kept.lines
  pub few : new.kept.lines < 2 ^ 63

-- nothing is taken yet
pub begun : (piece : List ℕ) (reader : CertReading) (checker : Checking) → checker.fail ≡ None → reader.place ≡ checker.kept.place →
    reader.malformed ≡ None → reader.lines ≡ checker.kept.lines → checker.kept.lines < 2 ^ 63 → IsRun piece 0 reader reader checker checker
begun piece reader checker none place going alike few = record {
  within = omega arith;
  same = λ _. refl;
  same_reader = λ _. refl;
  takes = λ some. absurd (omega arith);
  net = refl;
  none = none;
  place = place;
  going = going;
  alike = alike;
  few = few;
}

-- lines, and lines after them
joined : {piece : List ℕ} {before between after : CertReading} {old mid new : Checking} (n m : ℕ) → TakesAlong piece n before between old mid →
    TakesAlong (drop n piece) m between after mid new → TakesAlong piece (n + m) before after old new
joined {piece} {before} {between} {after} {old} {mid} {new} n m one two = record {
  taken = one.taken ++ two.taken;
  within = omega (arith, one.within, two.within, length-drop n piece);
  going = two.going;
  nothing = two.nothing;
  reads = λ lines text h.
      let text_is : (text ++ take n piece) ++ take m (drop n piece) ≡ text ++ take (n + m) piece =
      append_assoc text (take n piece) (take m (drop n piece)) ∙ ap (λ t. text ++ t) (sym (take-add n m piece)) in
      subst (λ ls. ReadsAs after ls (text ++ take (n + m) piece)) (append_assoc lines one.taken two.taken)
      (subst (λ t. ReadsAs after ((lines ++ one.taken) ++ two.taken) t) text_is (two.reads (lines ++ one.taken) (text ++ take n piece) (one.reads lines text h)));
  stands = λ lines h. subst (λ ls. ChecksAs new ls) (append_assoc lines one.taken two.taken) (two.stands (lines ++ one.taken) (one.stands lines h));
  none = two.none;
  net = two.net ∙ one.net;
  place = two.place;
  alike = two.alike;
  few = two.few;
  left = omega (arith, one.left, two.left);
}

takes_more : {piece : List ℕ} {before between after : CertReading} {old mid new : Checking} (n m : ℕ) →
    (0 < n → TakesAlong piece n before between old mid) → (n ≡ 0 → mid ≡ old) → (n ≡ 0 → between ≡ before) →
    TakesAlong (drop n piece) m between after mid new → TakesAlong piece (n + m) before after old new
takes_more {piece} {before} {between} {after} {old} {mid} {new} zero m takes same same_reader it =
    let all : m ≡ 0 + m = omega arith in
    subst (λ k. TakesAlong piece k before after old new) all (subst (λ r. TakesAlong piece m r after old new) (same_reader refl) (subst (λ k. TakesAlong piece m between after k new) (same refl) it))
takes_more (suc n) m takes same same_reader it = joined (suc n) m (takes (omega arith)) it

-- more lines are taken
pub further : {piece : List ℕ} {used : ℕ} {before between after : CertReading} {old mid new : Checking} (more : ℕ) →
    IsRun piece used before between old mid → 0 < more → TakesAlong (drop used piece) more between after mid new →
    IsRun piece (used + more) before after old new
further {piece} {used} {before} {between} {after} {old} {mid} {new} more h some it = record {
  within = omega (arith, h.within, it.within, length-drop used piece);
  same = λ nothing. absurd (omega (arith, nothing, some));
  same_reader = λ nothing. absurd (omega (arith, nothing, some));
  takes = λ _. takes_more used more h.takes h.same h.same_reader it;
  net = it.net ∙ h.net;
  none = it.none;
  place = it.place;
  going = it.going;
  alike = it.alike;
  few = it.few;
}

-- what is left of the piece after such lines
pub record IsRest (piece rest : List ℕ) (before after : CertReading) (old new : Checking) : Type 0 where
  pub used : ℕ
  pub left : rest ≡ drop used piece
  pub long : used + length rest ≡ length piece
  pub run : IsRun piece used before after old new

pub all_left : (piece : List ℕ) (reader : CertReading) (checker : Checking) → IsRun piece 0 reader reader checker checker → IsRest piece piece reader reader checker checker
all_left piece reader checker h = record { used = 0; left = refl; long = omega arith; run = h }

pub less_left : {piece rest : List ℕ} {before between after : CertReading} {old mid new : Checking} (more : ℕ) →
    IsRest piece rest before between old mid → 0 < more → TakesAlong rest more between after mid new →
    IsRest piece (drop more rest) before after old new
less_left {piece} {rest} {before} {between} {after} {old} {mid} {new} more h some it = record {
  used = h.used + more;
  left = ap (drop more) h.left ∙ drop-drop more h.used piece;
  long = omega (arith, h.long, it.within, length-drop more rest);
  run = further more h.run some (subst (λ t. TakesAlong t more between after mid new) h.left it);
}

-- this many bytes were used
pub used_is : {piece rest : List ℕ} {before after : CertReading} {old new : Checking} → (h : IsRest piece rest before after old new) → h.used ≡ length piece - length rest
used_is {piece} {rest} h = omega (arith, h.long)
