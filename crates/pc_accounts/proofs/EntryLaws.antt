-- Entries: what work is worth, and when two entries are one.
use Rattle.std.proofs.Common.{◌≡◌, ℕ, ◌*◌, ◌/◌, ◌<◌, refl, ap, arith}
use Rattle.std.proofs.lemmas.Nat.{div-add-mod'}
use Rattle.pc_accounts.specs.declared.book.Entry.{Entry}
use Rattle.pc_accounts.specs.Entries.{latest_of}
use Rattle.pc_accounts.specs.inside.Entries.{IsShare}

-- a quotient that is rounded down is a share
pub IsShare-rounded : (entry : Entry) (v : ℕ) → 0 < latest_of entry → v ≡ entry.budget * entry.actual / latest_of entry → IsShare entry v
IsShare-rounded entry v some e =
    let all = div-add-mod' (entry.budget * entry.actual) (latest_of entry) in
    let part = ap (λ (q : ℕ). q * latest_of entry) e in
    record { enough = omega arith; most = omega arith }

-- the entry of these amounts
abbrev entry_with : ℕ → ℕ → ℕ → Entry
entry_with budget actual to_go = record { budget = budget; actual = actual; to_go = to_go }

-- entries of the same amounts are one
pub same_entry : {b c d e f g : ℕ} → b ≡ c → d ≡ e → f ≡ g → entry_with b d f ≡ entry_with c e g
same_entry p q r = rw (p, q, r) refl
