-- What several writes to one sink do, one after the other.
--
-- `Wrote` is the state of a writer after the calls so far; `?` leaves `Stopped`; both together are `Writes`.
use Rattle.std.proofs.Common.{◌≡◌, ℕ, ◌+◌, ◌≤◌, zero, suc, List, [], ◌∷◌, ◌++◌, length, take, Option, Some}
use Rattle.std.proofs.Common.{None, Result, Ok, Err, refl, sym, ap, ◌∙◌, subst, arith, append_assoc, add-one}
use Rattle.std.proofs.Math.Seq.{take-append-add}
use Rattle.std.proofs.lemmas.List.{take_all}
use Rattle.std.proofs.KnownBytes.{Appends-nil, Appends-trans}
use Rattle.std.specs.Prelude.{OnOk, OnErr}
use Rattle.std.specs.Io.KnownBytes.{Appends, Keeps}
use Rattle.pc_edges.specs.Faults.{Rose}
use Rattle.pc_edges.specs.Writes.{Wrote, Stopped}
use Rattle.pc_edges.specs.inside.Writes.{Writes, Gathered}
use Rattle.pc_edges.specs.Texts.{texts_to}

-- ---- counts of faults

-- a count that did not fall and then rose
pub Rose-earlier : (a b c : ℕ) → a ≤ b → Rose b c → Rose a c
Rose-earlier a b c earlier rose = omega arith

-- ---- after calls that answered Ok

-- nothing is written yet
pub Wrote-nil : (a : Option (List ℕ)) (s : ℕ) → Wrote a a s s []
Wrote-nil a s = record { whole = Appends-nil a; no_fault = refl }

-- one text, and then another
pub Wrote-then : {a b c : Option (List ℕ)} {s t u : ℕ} {x y : List ℕ} → Wrote a b s t x → Wrote b c t u y → Wrote a c s u (x ++ y)
Wrote-then {x = x} {y = y} p q = record { whole = Appends-trans _ _ _ x y p.whole q.whole; no_fault = q.no_fault ∙ p.no_fault }

-- the same, where the text has a name
pub Wrote-as : {a b : Option (List ℕ)} {s t : ℕ} {x : List ℕ} (text : List ℕ) → x ≡ text → Wrote a b s t x → Wrote a b s t text
Wrote-as {a = a} {b = b} {s = s} {t = t} text e p = subst (Wrote a b s t) e p

-- ---- after a call that failed

-- a front of the first of two texts is a front of both
pub take-front : (x y : List ℕ) (n : ℕ) → (m : ℕ) × (take m (x ++ y) ≡ take n x)
take-front [] y zero = (0, refl)
take-front [] y (suc n) = (0, refl)
take-front (a ∷ x) y zero = (0, refl)
take-front (a ∷ x) y (suc n) = let r = take-front x y n in (suc r.0, ap (λ l. a ∷ l) r.1)

-- the text continues
pub Stopped-before : {a b : Option (List ℕ)} {s t : ℕ} {x : List ℕ} (rest : List ℕ) → Stopped a b s t x → Stopped a b s t (x ++ rest)
Stopped-before {a = a} {b = b} {x = x} rest p =
    let n = take-front x rest p.front.0 in
    record { front = (n.0, subst (Appends a b) (sym n.1) p.front.1); fault = p.fault }

-- the text was written so far, and the next call failed in it
pub Stopped-after : {a b c : Option (List ℕ)} {s t u : ℕ} {x y : List ℕ} → Wrote a b s t x → Stopped b c t u y → Stopped a c s u (x ++ y)
Stopped-after {a = a} {c = c} {s = s} {u = u} {x = x} {y = y} p q = record {
  front = (length x + q.front.0, subst (Appends a c) (sym (take-append-add x y q.front.0)) (Appends-trans _ _ _ x _ p.whole q.front.1));
  fault = subst (λ n. Rose n u) p.no_fault q.fault;
}

-- ---- what a call that writes ensures

-- an exit by Ok
pub Writes-ok : {A E : Type 0} {v : A} {a b : Option (List ℕ)} {s t : ℕ} {x : List ℕ} → Wrote a b s t x → Writes {A = A} {E = E} (Ok v) a b s t x
Writes-ok {s = s} {t = t} p = record { ok = p; err = tt; count = omega (arith, p.no_fault) }

-- ---- a flush after a text

-- a text is still there where a call keeps what was taken
Appends-kept : (a b c : Option (List ℕ)) (text : List ℕ) → Appends a b text → Keeps b c → Appends a c text
Appends-kept None b c text grown kept = tt
Appends-kept (Some xs) None c text grown kept = absurd grown
Appends-kept (Some xs) (Some ys) None text grown kept = absurd kept
Appends-kept (Some xs) (Some ys) (Some zs) text grown kept = kept ∙ grown

-- the complete text was taken, and then the sink was flushed
pub Writes-flushed : {A E : Type 0} (r : Result A E) {a b c : Option (List ℕ)} {s t u : ℕ} {text : List ℕ} → Wrote a b s t text →
    Keeps b c → OnOk r (u ≡ t) → OnErr r (Rose t u) → t ≤ u → Writes r a c s u text
Writes-flushed (Ok v) {a = a} {b = b} {c = c} {text = text} wrote kept no_fault failed count =
    record { ok = record { whole = Appends-kept a b c text wrote.whole kept; no_fault = no_fault ∙ wrote.no_fault }; err = tt; count = omega (arith, wrote.no_fault, count) }
Writes-flushed (Err e) {a = a} {b = b} {c = c} {u = u} {text = text} wrote kept no_fault failed count =
    let whole : take (length text) text ≡ text = take_all (length text) text (omega arith) in
    record {
      ok = tt;
      err = record {
        front = (length text, subst (Appends a c) (sym whole) (Appends-kept a b c text wrote.whole kept));
        fault = subst (λ n. Rose n u) wrote.no_fault failed;
      };
      count = omega (arith, wrote.no_fault, count);
    }

-- ---- texts that are buffered before they are pushed

-- a text is added to what is pending
pub Gathered-more : {a b : Option (List ℕ)} {s t : ℕ} {p x : List ℕ} (y p' : List ℕ) → p' ≡ p ++ y → Gathered a b p s t x → Gathered a b p' s t (x ++ y)
Gathered-more {p = p} y p' e h =
    let front = h.pushed.0 in
    record { pushed = (front, h.pushed.1, ap (λ l. l ++ y) h.pushed.2 ∙ append_assoc front p y ∙ ap (λ l. front ++ l) (sym e)); no_fault = h.no_fault }

-- some of what is pending, or all of it, is pushed
pub Gathered-then : {a b c : Option (List ℕ)} {s t u : ℕ} {p q x : List ℕ} → Gathered a b p s t x → Gathered b c q t u p → Gathered a c q s u x
Gathered-then {q = q} g h =
    let front = g.pushed.0 in
    let next = h.pushed.0 in
    record {
      pushed = (front ++ next, Appends-trans _ _ _ front next g.pushed.1 h.pushed.1, g.pushed.2 ∙ ap (λ l. front ++ l) h.pushed.2 ∙ sym (append_assoc front next q));
      no_fault = h.no_fault ∙ g.no_fault;
    }

-- the same, where the text has a name
pub Gathered-as : {a b : Option (List ℕ)} {s t : ℕ} {p x : List ℕ} (text : List ℕ) → x ≡ text → Gathered a b p s t x → Gathered a b p s t text
Gathered-as {a = a} {b = b} {s = s} {t = t} {p = p} text e g = subst (Gathered a b p s t) e g

-- pushing what is pending failed
pub Stopped-gathered : {a b c : Option (List ℕ)} {s t u : ℕ} {p x : List ℕ} → Gathered a b p s t x → Stopped b c t u p → Stopped a c s u x
Stopped-gathered {a = a} {c = c} {s = s} {u = u} g h = subst (Stopped a c s u) (sym g.pushed.2) (Stopped-after (record { whole = g.pushed.1; no_fault = g.no_fault }) h)

-- a call that gathers went on
pub Gathered-next : {a b c : Option (List ℕ)} {s t u : ℕ} {p q x : List ℕ} (y : List ℕ) → Gathered a b p s t x → Gathered b c q t u (p ++ y) → Gathered a c q s u (x ++ y)
Gathered-next {p = p} y g h = Gathered-then (Gathered-more y (p ++ y) refl g) h

-- a call that gathers failed
pub Stopped-next : {a b c : Option (List ℕ)} {s t u : ℕ} {p x : List ℕ} (y : List ℕ) → Gathered a b p s t x → Stopped b c t u (p ++ y) → Stopped a c s u (x ++ y)
Stopped-next {p = p} y g h = Stopped-gathered (Gathered-more y (p ++ y) refl g) h

-- ---- loops over lines

-- the lines below i + 1
pub texts_to-more : (i : ℕ) (f : ℕ → List ℕ) → texts_to (i + 1) f ≡ texts_to i f ++ f i
texts_to-more i f = rw add-one refl
