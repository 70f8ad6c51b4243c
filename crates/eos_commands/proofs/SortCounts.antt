-- How many folds of a sort a front of a list has, with one fold more.
use Rattle.std.proofs.Common.{◌≡◌, ℕ, ◌+◌, ◌<◌, List, [], ◌∷◌, ◌++◌, Option, length, length-append, take, get_or, ap, sym, ◌∙◌, Bool, true, false, cond, refl, arith}
use Rattle.std.specs.List.{filter}
use Rattle.std.proofs.lemmas.List.{take_more}
use Rattle.std.proofs.lemmas.List.Elements.{filter-append}
use Rattle.eos_commands.specs.VerifyingLines.{is_as, count_of}
use Rattle.eos_commands.specs.declared.found.Found.{Found}
use Rattle.eos_commands.specs.declared.found.Likeness.{Likeness}

one : (b : Bool) (f : Found) → length (cond b (f ∷ []) []) ≡ cond b 1 0
one true f = refl
one false f = refl

abbrev counts_as : Option Likeness → Found → Bool
counts_as asked f = is_as asked f.how

count_more : (asked : Option Likeness) (found : List Found) (i : ℕ) (f : Found) → i < length found → f ≡ get_or found i f
    → count_of (take (i + 1) found) asked ≡ count_of (take i found) asked + cond (is_as asked f.how) 1 0
count_more asked found i f lt is =
    let taken : take (i + 1) found ≡ take i found ++ f ∷ [] = take_more found i f lt ∙ ap (λ (x : Found). take i found ++ x ∷ []) (sym is) in
    ap (λ (fs : List Found). length (filter (counts_as asked) fs)) taken ∙ ap length (filter-append (counts_as asked) (take i found) (f ∷ []))
    ∙ length-append (filter (counts_as asked) (take i found)) (filter (counts_as asked) (f ∷ [])) ∙ ap (λ n. count_of (take i found) asked + n) (one (is_as asked f.how) f)

pub counted : (asked : Option Likeness) (found : List Found) (i : ℕ) (f : Found) (before after : ℕ) → i < length found → f ≡ get_or found i f → is_as asked f.how ≡ true
    → before ≡ count_of (take i found) asked → after ≡ before + 1 → after ≡ count_of (take (i + 1) found) asked
counted asked found i f before after lt is holds so_far next =
    next ∙ ap (λ n. n + 1) so_far ∙ ap (λ b. count_of (take i found) asked + cond b 1 0) (sym holds) ∙ sym (count_more asked found i f lt is)

pub passed_by : (asked : Option Likeness) (found : List Found) (i : ℕ) (f : Found) (before after : ℕ) → i < length found → f ≡ get_or found i f → is_as asked f.how ≡ false
    → before ≡ count_of (take i found) asked → after ≡ before → after ≡ count_of (take (i + 1) found) asked
passed_by asked found i f before after lt is other so_far same =
    let none : count_of (take i found) asked ≡ count_of (take i found) asked + 0 = omega arith in
    same ∙ so_far ∙ none ∙ ap (λ b. count_of (take i found) asked + cond b 1 0) (sym other) ∙ sym (count_more asked found i f lt is)
