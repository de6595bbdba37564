-- The words ask for one form at most.
use Rattle.std.proofs.Common.{◌≡◌, ℕ, ◌^◌, ◌<◌, List, [], ◌∷◌, Option, Some, None, refl, sym, ap, subst, ◌∙◌, arith, drop, get_or, if◌then◌else◌}
use Rattle.std.specs.Prelude.{IfSome, String, decimal, nat_eq}
use Rattle.std.specs.Cmp.Lexicographic.{pointwise}
use Rattle.std.specs.declared.alloc.Global.{Global}
use Rattle.std.proofs.lemmas.Fmt.{decimal_injective}
use Rattle.pert_cli.specs.declared.forms.Form.{Form}
use Rattle.pert_cli.specs.declared.forms.Form.TheVariants.{Check, Point, Outlook, Bench, Load}
use Rattle.pert_cli.specs.Forms.{IsNumbered, form_words, forms}
use Rattle.pert_cli.specs.Words.{AskFor}

-- the number of a form, where it has one
abbrev number_of : Form → Option ℕ
number_of (Point limit) = Some limit
number_of (Outlook limit) = Some limit
number_of (Bench n) = Some n
number_of (Load days) = Some days
number_of _ = None

abbrev or_0 : Option ℕ → ℕ
or_0 None = 0
or_0 (Some n) = n

-- the form with this number, if it has one
abbrev with_number : ℕ → Form → Form
with_number n (Point limit) = Point n
with_number n (Outlook limit) = Outlook n
with_number n (Bench m) = Bench n
with_number n (Load days) = Load n
with_number n form = form

-- the first of some forms that begins with a word
abbrev first_with : List ℕ → List Form → Form
first_with word [] = Check
first_with word (form ∷ others) = if pointwise nat_eq word (get_or (form_words form) 0 []) then form else first_with word others

-- the form with a word, and with a number where it has one
abbrev form_named : List ℕ → ℕ → Form
form_named word n = with_number n (first_with word forms)

-- a form is the one with its first word
is_named : (form : Form) → form_named (get_or (form_words form) 0 []) (or_0 (number_of form)) ≡ form
is_named Check = refl
is_named _ = refl

-- the words after the first
abbrev number_words : Option ℕ → List (List ℕ)
number_words None = []
number_words (Some n) = decimal n ∷ []

are_numbers : (form : Form) → drop 1 (form_words form) ≡ number_words (number_of form)
are_numbers Check = refl
are_numbers _ = refl

is_small : (form : Form) → IsNumbered form → IfSome (number_of form) (λ n. n < 2 ^ 64)
is_small (Point limit) numbered = omega (arith, numbered)
is_small (Outlook limit) numbered = omega (arith, numbered)
is_small (Bench n) numbered = omega (arith, numbered.1)
is_small (Load days) numbered = omega (arith, numbered.1)
is_small _ numbered = tt

one_number : (number other : Option ℕ) → IfSome number (λ n. n < 2 ^ 64) → IfSome other (λ n. n < 2 ^ 64) → number_words number ≡ number_words other → number ≡ other
one_number None None small also same = refl
one_number None (Some n) small also same = absurd cc
one_number (Some m) None small also same = absurd cc
one_number (Some m) (Some n) small also same = ap Some (decimal_injective m n small also (ap (λ (words : List (List ℕ)). get_or words 0 []) same))

same_words : (form other : Form) → IsNumbered form → IsNumbered other → form_words form ≡ form_words other → form ≡ other
same_words form other numbered also same =
    let name : get_or (form_words form) 0 [] ≡ get_or (form_words other) 0 [] = ap (λ (words : List (List ℕ)). get_or words 0 []) same in
    let behind : number_words (number_of form) ≡ number_words (number_of other) =
    sym (are_numbers form) ∙ (ap (λ (words : List (List ℕ)). drop 1 words) same ∙ are_numbers other) in
    let number : number_of form ≡ number_of other = one_number _ _ (is_small form numbered) (is_small other also) behind in
    sym (is_named form) ∙ (ap (λ n. form_named n (or_0 (number_of form))) name
    ∙ (ap (λ n. form_named (get_or (form_words other) 0 []) (or_0 n)) number ∙ is_named other))

-- two forms for which the words ask are one
pub one_form : (words : List (String Global)) (form other : Form) → AskFor form words → AskFor other words → form ≡ other
one_form words form other asked also = same_words form other asked.numbered also.numbered (sym asked.are ∙ also.are)

-- so what holds of the one holds of the other
pub of_form : (words : List (String Global)) (P : Form → Type 0) (form other : Form) → AskFor form words → AskFor other words → P other → P form
of_form words P form other asked also holds = subst P (one_form words other form also asked) holds
