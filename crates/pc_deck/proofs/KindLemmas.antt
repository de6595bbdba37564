-- What holds of every kind of cards.
use Rattle.std.proofs.Common.{◌≡◌, ℕ, ◌≤◌, Bool, true, false, List, [], ◌∷◌, find, Option, Some, if◌then◌else◌, bytes_eq, refl, sym, ap, ◌∙◌, arith}
use Rattle.std.specs.Cmp.Lexicographic.{bytes_decides}
use Rattle.pc_model.specs.Codes.{text_at}
use Rattle.pc_faults.specs.Kinds.{word_of}
use Rattle.pc_faults.specs.declared.kind.Kind.{Kind}
use Rattle.pc_faults.specs.declared.kind.Kind.TheVariants.{Project, Task, After, End}
use Rattle.pc_cards.specs.declared.sort.Sort.{Sort}
use Rattle.pc_cards.specs.declared.sort.Sort.TheVariants.{Plan, Tasks}
use Rattle.pc_cards.specs.Entry.{Limit, unlimited, up_to, growing, limit_at}
use Rattle.pc_deck.specs.Kinds.{entry_of, kinds, kinds_of, kind_of, card_of, has_code_of_its_own, is_same, limit_of}
use Rattle.pc_deck.specs.inside.Kinds.{is_project, is_end}
use Rattle.pc_deck.specs.Within.{IsUpTo}

-- a choice that gave the kind by its test, or by one after it
chosen : (test : Bool) (here kind : Kind) (rest : Option Kind) (field : List ℕ) → (test ≡ true → field ≡ word_of here) →
    (rest ≡ Some kind → field ≡ word_of kind) → (if test then Some here else rest) ≡ Some kind → field ≡ word_of kind
chosen true here kind rest field is behind h = let same : here ≡ kind = cc in is refl ∙ ap word_of same
chosen false here kind rest field is behind h = behind h

among : (some : List Kind) (field : List ℕ) (kind : Kind) → find (λ (k : Kind). bytes_eq field (word_of k)) some ≡ Some kind → field ≡ word_of kind
among [] field kind h = absurd (let h' = h in cc)
among (here ∷ rest) field kind h =
    chosen (bytes_eq field (word_of here)) here kind (find (λ (k : Kind). bytes_eq field (word_of k)) rest) field (λ is. (bytes_decides field (word_of here)).0 is) (among rest field kind) h

-- the first field is the word of the kind that it names
pub word_of-kind : (sort : Sort) (field : List ℕ) (kind : Kind) → kind_of sort field ≡ Some kind → field ≡ word_of kind
word_of-kind sort field kind h = among (kinds_of sort) field kind h

-- the kinds that a plan has
abbrev pub is_planned : Kind → Bool
is_planned Task = false
is_planned After = false
is_planned other = true

-- a kind of a plan is the one that its word names there
pub kind_of-word : (kind : Kind) → is_planned kind ≡ true → kind_of Plan (word_of kind) ≡ Some kind
kind_of-word Task planned = absurd (let planned' = planned in cc)
kind_of-word After planned = absurd (let planned' = planned in cc)
kind_of-word other planned = refl

-- the kind of either sort that a word names
abbrev named : List ℕ → Option Kind
named field = find (λ (k : Kind). bytes_eq field (word_of k)) (Task ∷ After ∷ kinds)

named-word : (kind : Kind) → named (word_of kind) ≡ Some kind
named-word Project = refl
named-word other = refl

pub Some-injective : {A : Type 0} (x y : A) → ◌≡◌ {A = Option A} (Some x) (Some y) → x ≡ y
Some-injective x y h = cc

-- kinds of one word are one
pub same_is : (kind other : Kind) → is_same kind other ≡ true → kind ≡ other
same_is kind other h =
    Some-injective kind other (sym (named-word kind) ∙ (ap named ((bytes_decides (word_of kind) (word_of other)).0 h) ∙ named-word other))

pub same-project : (kind : Kind) → is_project kind ≡ is_same kind Project
same-project Project = refl
same-project other = refl

pub same-end : (kind : Kind) → is_end kind ≡ is_same kind End
same-end Project = refl
same-end other = refl

pub project_is : (kind : Kind) → is_project kind ≡ true → kind ≡ Project
project_is Project h = refl
project_is other h = absurd (let h' = h in cc)

-- a card's own code is its second field
pub own_code : (kind : Kind) → has_code_of_its_own kind ≡ true → (row : ℕ) (fields : List (List ℕ)) → (entry_of kind).code (card_of kind row fields) ≡ text_at fields 1
own_code Project h row fields = absurd (let h' = h in cc)
own_code other h row fields = let h' = h in cc

-- what is no more in version 1 than in version 2
abbrev IsOrdered : Limit → Type 0
IsOrdered unlimited = 0 ≤ 0
IsOrdered (up_to most) = most ≤ most
IsOrdered (growing small large) = small ≤ large

ordered : (kind : Kind) → IsOrdered ((entry_of kind).limit Plan)
ordered Project = omega arith
ordered other = omega arith

up_to_larger : (test : Bool) (small large count : ℕ) → small ≤ large → count ≤ (if test then large else small) → count ≤ large
up_to_larger true small large count ordered few = few
up_to_larger false small large count ordered few = omega (arith, ordered, few)

wider_limit : (limit : Limit) (version count : ℕ) → IsOrdered limit → IsUpTo (limit_at version limit) count → IsUpTo (limit_at 2 limit) count
wider_limit unlimited version count ordered few = tt
wider_limit (up_to most) version count ordered few = few
wider_limit (growing small large) version count ordered few = up_to_larger _ small large count ordered few

-- what is within the limit of a kind is within that of version 2
pub wider : (sort : Sort) (kind : Kind) (version count : ℕ) → IsUpTo (limit_of sort version kind) count → IsUpTo (limit_of sort 2 kind) count
wider Plan kind version count few = wider_limit ((entry_of kind).limit Plan) version count (ordered kind) few
wider Tasks kind version count few = few
