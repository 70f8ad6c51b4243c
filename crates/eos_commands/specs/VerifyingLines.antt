-- What is printed of a comparison of folds with logs: a line for each fold that isn't its log's, and then how many there are of each sort.
use Rattle.std.specs.Prelude.{ℕ, List, [], ◌++◌, length, filter, flat_map, nat_lt, ◌==◌, Bool, true, false, is_none, Option, None, Some, string_bytes, codes, if◌then◌else◌}
use Rattle.std.specs.Fmt.{decimal}
use Rattle.eos_commands.specs.declared.found.Likeness.{Likeness}
use Rattle.eos_commands.specs.declared.found.Likeness.TheVariants.{Right, Stale, Forged}
use Rattle.eos_commands.specs.declared.found.Found.{Found}

-- ---- how many there are

abbrev pub is_same : Likeness → Likeness → Bool
is_same Right Right = true
is_same Right Stale = false
is_same Right Forged = false
is_same Stale Right = false
is_same Stale Stale = true
is_same Stale Forged = false
is_same Forged Right = false
is_same Forged Stale = false
is_same Forged Forged = true

-- whether it is as it is asked: so to its log, or without one
abbrev pub is_as : Option Likeness → Option Likeness → Bool
is_as None how = is_none how
is_as (Some asked) None = false
is_as (Some asked) (Some how) = is_same asked how

abbrev pub count_of : List Found → Option Likeness → ℕ
count_of found asked = length (filter (λ f. is_as asked f.how) found)

-- ---- what is printed

-- the line of a fold in the file of this path
abbrev pub line_of : Option Likeness → List ℕ → List ℕ
line_of None path = []
line_of (Some Right) path = []
line_of (Some Stale) path = (codes "stale " ++ path) ++ codes "\n"
line_of (Some Forged) path = (codes "forged " ++ path) ++ codes "\n"

abbrev pub lines_of : List Found → List ℕ
lines_of found = flat_map (λ f. line_of f.how (string_bytes f.path)) found

abbrev pub counts_line : List Found → List ℕ
counts_line found =
    (codes "compared right=" ++ decimal (count_of found (Some Right))) ++ ((codes " stale=" ++ decimal (count_of found (Some Stale)))
    ++ ((codes " forged=" ++ decimal (count_of found (Some Forged))) ++ ((codes " unmatched=" ++ decimal (count_of found None)) ++ codes "\n")))

abbrev pub found_text : List Found → List ℕ
found_text found = lines_of found ++ counts_line found

-- ---- the exit status

-- 1 where a fold isn't its log's; 2 where none was compared; else 0
abbrev pub status_of : List Found → ℕ
status_of found =
    if nat_lt 0 (count_of found (Some Stale)) then 1
    else (if nat_lt 0 (count_of found (Some Forged)) then 1 else (if count_of found (Some Right) == 0 then 2 else 0))
