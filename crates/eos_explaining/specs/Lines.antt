-- The lines of a story: each ends behind its twentieth part, and stands once.
use Rattle.std.specs.Prelude.{◌≡◌, ⊤, ℕ, zero, suc, ◌-◌, List, [], ◌∷◌, ◌++◌, Bool, true, false, ◌==◌, nat_lt, length, filter, bytes_eq, codes, if◌then◌else◌}
use Rattle.std.specs.Fmt.{decimal}
use Rattle.std.specs.List.{list_any, before_first, after_first, position_or_len}

-- ---- parts, which commas part

abbrev pub is_comma : ℕ → Bool
is_comma b = b == 44

abbrev pub commas : List ℕ → ℕ
commas line = length (filter is_comma line)

-- what follows a part, where so many may follow
abbrev pub separator : ℕ → List ℕ
separator left = if left == 0 then codes " " else codes ","

-- so many parts, and then this end, where there are more
abbrev pub terms_before : List ℕ → ℕ → List ℕ → List ℕ
terms_before end zero line = end
terms_before end (suc left) line =
    if nat_lt (position_or_len is_comma line) (length line)
    then before_first is_comma line ++ (separator left ++ terms_before end left (after_first is_comma line))
    else line

-- those behind the twentieth: a line has a part more than commas
abbrev pub terms_behind : List ℕ → ℕ
terms_behind line = commas line - 19

abbrev pub terms_left : List ℕ → List ℕ
terms_left line = (codes ".. and " ++ decimal (terms_behind line)) ++ codes " more"

abbrev pub terms_text : List ℕ → List ℕ
terms_text line = terms_before (terms_left line) 20 line

-- ---- lines, each once

-- the byte at a line's end
abbrev pub is_end : ℕ → Bool
is_end b = b == 10

abbrev pub is_said : List (List ℕ) → List ℕ → Bool
is_said said line = list_any (λ l. bytes_eq l line) said

abbrev pub with_line : List (List ℕ) → List ℕ → List (List ℕ)
with_line said line = if is_said said line then said else said ++ (line ∷ [])

-- and those of these lines that none before says
abbrev pub with_lines : List (List ℕ) → List (List ℕ) → List (List ℕ)
with_lines said [] = said
with_lines said (line ∷ lines) = with_lines (with_line said line) lines

abbrev pub distinct : List (List ℕ) → List (List ℕ)
distinct lines = with_lines [] lines

-- no two of them are the same
abbrev pub AreDistinct : List (List ℕ) → Type 0
AreDistinct [] = ⊤
AreDistinct (line ∷ lines) = (is_said lines line ≡ false) × AreDistinct lines

-- each of them is one of these
abbrev pub AreAmong : List (List ℕ) → List (List ℕ) → Type 0
AreAmong said [] = ⊤
AreAmong said (line ∷ lines) = (is_said said line ≡ true) × AreAmong said lines

-- one behind the other
abbrev pub joined : List (List ℕ) → List ℕ
joined [] = []
joined (line ∷ lines) = line ++ joined lines
