-- Texts that are put on a page one after the other.
--
-- A writer's proof is a chain `p ⨾ q ⨾ r` of what its calls ensure, in the order of its text `a ++ b ++ c`; where the text is
-- `a ++ (b ++ c)`, the chain is `p ▸ q ▸ r`. A piece that the text calls by another name is `Adds-as text equation fact`.
use Rattle.std.proofs.Common.{◌≡◌, ℕ, ◌+◌, List, [], ◌++◌, Option, Bool, true, false, refl, sym, ap, ◌∙◌, subst, arith, append_assoc, append-nil}
use Rattle.std.proofs.lemmas.Bool.{false≢true, true≢false}
use Rattle.std.specs.Io.KnownBytes.{Appends}
use Rattle.std.proofs.KnownBytes.{Appends-nil}
use Rattle.pc_edges.specs.Writes.{Wrote, Stopped}
use Rattle.pc_edges.specs.Texts.{texts_to}
use Rattle.pc_edges.proofs.Writing.{Gathered-as, Gathered-next, Stopped-next, Stopped-before, texts_to-more}
use Rattle.pc_edges.specs.inside.page.Page.{Page, fresh}
use Rattle.pc_edges.specs.inside.page.Puts.{Desk, AddsFrom, Adds}

-- the sink stopped, and nothing was done since
Stopped-since : {a b c : Option (List ℕ)} {s t u : ℕ} {x : List ℕ} → Stopped a b s t x → c ≡ b → u ≡ t → Stopped a c s u x
Stopped-since {a = a} {b = b} {s = s} {u = u} {x = x} h same still = subst (λ (o : Option (List ℕ)). Stopped a o s u x) (sym same) (subst (λ (n : ℕ). Stopped a b s n x) (sym still) h)

-- one text after another, by whether a push had failed before both, between them and after them
AddsFrom-then : (f g h : Bool) (p q r : List ℕ) (o n m : Option (List ℕ)) (s t u : ℕ) (x y : List ℕ) → AddsFrom f g p q o n s t x → AddsFrom g h q r n m t u y → AddsFrom f h p r o m s u (x ++ y)
AddsFrom-then false false false p q r o n m s t u x y a b = Gathered-as _ (append_assoc p x y) (Gathered-next y a b)
AddsFrom-then false false true p q r o n m s t u x y a b = subst (Stopped o m s u) (append_assoc p x y) (Stopped-next y a b)
AddsFrom-then false true true p q r o n m s t u x y a b = subst (Stopped o m s u) (append_assoc p x y) (Stopped-before y (Stopped-since a (b.0) (b.1)))
AddsFrom-then true true true p q r o n m s t u x y a b = (b.0 ∙ a.0, b.1 ∙ a.1)
AddsFrom-then false true false p q r o n m s t u x y a b = absurd b
AddsFrom-then true false false p q r o n m s t u x y a b = absurd a
AddsFrom-then true false true p q r o n m s t u x y a b = absurd a
AddsFrom-then true true false p q r o n m s t u x y a b = absurd b

-- nothing was put
AddsFrom-nil : (f : Bool) (p : List ℕ) (o : Option (List ℕ)) (s : ℕ) → AddsFrom f f p p o o s s []
AddsFrom-nil false p o s = record { pushed = ([], Appends-nil o, append-nil p); no_fault = refl }
AddsFrom-nil true p o s = (refl, refl)

pub Adds-nil : (d : Desk) → Adds d d []
Adds-nil d = record { added = AddsFrom-nil d.page.failed d.page.pending d.taken d.faults; count = omega arith }

-- one text after another
pub Adds-then : {d e f : Desk} {x y : List ℕ} → Adds d e x → Adds e f y → Adds d f (x ++ y)
Adds-then {d = d} {e = e} {f = f} {x = x} {y = y} a b = record {
  added = AddsFrom-then d.page.failed e.page.failed f.page.failed d.page.pending e.page.pending f.page.pending d.taken e.taken f.taken d.faults e.faults f.faults x y a.added b.added;
  count = omega (arith, a.count, b.count);
}

infixl 5 ◌⨾◌
-- the same, as an operator
pub ◌⨾◌ : {d e f : Desk} {x y : List ℕ} → Adds d e x → Adds e f y → Adds d f (x ++ y)
p ⨾ q = Adds-then p q

infixr 6 ◌▸◌
-- the same, with the later texts put together first
pub ◌▸◌ : {d e f : Desk} {x y : List ℕ} → Adds d e x → Adds e f y → Adds d f (x ++ y)
p ▸ q = Adds-then p q

-- the same text under another name
pub Adds-as : {d e : Desk} {x : List ℕ} (text : List ℕ) → x ≡ text → Adds d e x → Adds d e text
Adds-as {d = d} {e = e} text is a = subst (Adds d e) is a

-- one more of the texts of numbers
pub Adds-line : {d e f : Desk} (i : ℕ) (text : ℕ → List ℕ) → Adds d e (texts_to i text) → Adds e f (text i) → Adds d f (texts_to (i + 1) text)
Adds-line i text a b = Adds-as _ (sym (texts_to-more i text)) (Adds-then a b)

-- a text follows what was pending
AddsFrom-behind : (f : Bool) (p q : List ℕ) (o : Option (List ℕ)) (s : ℕ) (x : List ℕ) → q ≡ p ++ x → AddsFrom f f p q o o s s x
AddsFrom-behind false p q o s x is = record { pushed = ([], Appends-nil o, sym is); no_fault = refl }
AddsFrom-behind true p q o s x is = (refl, refl)

-- a text is added to what is pending
pub Adds-behind : (o : Option (List ℕ)) (s : ℕ) (page page' : Page) (x : List ℕ) → page'.failed ≡ page.failed → page'.pending ≡ page.pending ++ x
    → Adds (record { page = page; taken = o; faults = s }) (record { page = page'; taken = o; faults = s }) x
Adds-behind o s page page' x still more = record {
  added = subst (λ (f : Bool). AddsFrom page.failed f page.pending page'.pending o o s s x) (sym still) (AddsFrom-behind page.failed page.pending page'.pending o s x more);
  count = omega arith;
}

-- a page with nothing pending is known by its failure alone
pub emptied : (page : Page) → page.pending ≡ [] → page ≡ record { pending = []; failed = page.failed }
emptied page none = ap (λ (bytes : List ℕ). record { pending = bytes; failed = page.failed }) none

-- ---- the end of a text that began on a fresh page

-- without a failure all of it was pushed
AddsFrom-whole : (f g : Bool) (p q : List ℕ) (o n : Option (List ℕ)) (s t : ℕ) (x : List ℕ) → f ≡ false → p ≡ [] → g ≡ false → q ≡ [] → AddsFrom f g p q o n s t x → Wrote o n s t x
AddsFrom-whole false false p q o n s t x first begun last done a =
    let front = a.pushed.0 in
    let whole : front ≡ x = sym (append-nil front) ∙ ap (λ l. front ++ l) (sym done) ∙ sym a.pushed.2 ∙ ap (λ l. l ++ x) begun in
    record { whole = subst (Appends o n) whole a.pushed.1; no_fault = a.no_fault }
AddsFrom-whole false true p q o n s t x first begun last done a = absurd (true≢false last)
AddsFrom-whole true g p q o n s t x first begun last done a = absurd (true≢false first)

-- at a failure a front of it was pushed
AddsFrom-stopped : (f g : Bool) (p q : List ℕ) (o n : Option (List ℕ)) (s t : ℕ) (x : List ℕ) → f ≡ false → p ≡ [] → g ≡ true → AddsFrom f g p q o n s t x → Stopped o n s t x
AddsFrom-stopped false true p q o n s t x first begun last a = subst (Stopped o n s t) (ap (λ l. l ++ x) begun) a
AddsFrom-stopped false false p q o n s t x first begun last a = absurd (false≢true last)
AddsFrom-stopped true g p q o n s t x first begun last a = absurd (true≢false first)

-- all of it is pushed
pub Adds-whole : {d e : Desk} {x : List ℕ} → d.page ≡ fresh → e.page.pending ≡ [] → e.page.failed ≡ false → Adds d e x → Wrote d.taken e.taken d.faults e.faults x
Adds-whole {d = d} {e = e} {x = x} begun none still a =
    AddsFrom-whole d.page.failed e.page.failed d.page.pending e.page.pending d.taken e.taken d.faults e.faults x
    (ap (λ (p : Page). p.failed) begun) (ap (λ (p : Page). p.pending) begun) still none a.added

-- a push failed
pub Adds-stopped : {d e : Desk} {x : List ℕ} → d.page ≡ fresh → e.page.failed ≡ true → Adds d e x → Stopped d.taken e.taken d.faults e.faults x
Adds-stopped {d = d} {e = e} {x = x} begun failed a =
    AddsFrom-stopped d.page.failed e.page.failed d.page.pending e.page.pending d.taken e.taken d.faults e.faults x
    (ap (λ (p : Page). p.failed) begun) (ap (λ (p : Page). p.pending) begun) failed a.added
