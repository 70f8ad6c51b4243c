-- How many faults there are, and of which kinds, by their numbers.
use Rattle.std.specs.Prelude.{ℕ, List, [], ◌∷◌, ◌++◌, Option, Some, None, Bool, false, ◌==◌, codes, length, filter, flat_map, if◌then◌else◌}
use Rattle.std.specs.Fmt.{decimal}
use Rattle.eos_verdict.specs.declared.verdict.Verdict.{Verdict}
use Rattle.eos_verdict.specs.declared.verdict.Verdict.TheVariants.{Yes, No}
use Rattle.eos_verdict.specs.VerdictNames.{phase_of, number_of, name_of}

abbrev pub has_number : ℕ → Verdict → Bool
has_number n (Yes counts) = false
has_number n (No fault) = number_of fault == n

abbrev pub first_with : ℕ → List Verdict → Option Verdict
first_with n [] = None
first_with n (v ∷ vs) = if has_number n v then Some v else first_with n vs

abbrev pub kind_named : ℕ → Verdict → List ℕ
kind_named count (Yes counts) = []
kind_named count (No f) = (codes ", " ++ decimal count) ++ ((codes " of " ++ decimal (phase_of f)) ++ ((codes "." ++ decimal (number_of f)) ++ (codes " " ++ name_of f)))

abbrev pub kind_of : ℕ → Option Verdict → List ℕ
kind_of count None = []
kind_of count (Some first) = kind_named count first

abbrev pub kind_text : List Verdict → ℕ → List ℕ
kind_text told n = kind_of (length (filter (has_number n) told)) (first_with n told)

unfoldable pub counts_line : List Verdict → List ℕ
counts_line told =
    (codes "Faults: " ++ decimal (length told))
    ++ (codes " in all" ++ (flat_map (kind_text told) (1 ∷ 2 ∷ 3 ∷ 4 ∷ 5 ∷ 6 ∷ 7 ∷ 8 ∷ 9 ∷ 10 ∷ 11 ∷ 12 ∷ []) ++ codes "\n"))
