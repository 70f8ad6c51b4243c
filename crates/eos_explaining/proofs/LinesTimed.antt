-- Lines with the times of rows.
use Rattle.std.proofs.Common.{◌≡◌, ◌∙◌, ◌<◌, ◌≤◌, ◌+◌, ℕ, ℤ, List, ◌∷◌, Option, Some, length, map, drop, get_or, slice_get, option_map, refl, sym, ap}
use Rattle.std.proofs.lemmas.List.{drop_more, drop_all}
use Rattle.std.proofs.lemmas.Option.{slice_get_read, slice_get-map}
use Rattle.eos_claims.specs.declared.place.Place.{Place}
use Rattle.eos_story.specs.declared.row.Row.{Row}
use Rattle.eos_explaining.specs.Lines.{with_line, with_lines}
use Rattle.eos_explaining.specs.Told.{told_line, told_lines}

-- each row has its own time
pub time_there : (time_of : Row → Option ℤ) (times : List (Option ℤ)) (all : List Row) (i : ℕ) (row : Row) → times ≡ map time_of all → i < length all → row ≡ get_or all i row → slice_get times i ≡ Some (time_of row)
time_there time_of times all i row same lt is =
    ap (λ (ts : List (Option ℤ)). slice_get ts i) same ∙ (slice_get-map time_of all i ∙ ap (option_map time_of) (slice_get_read all (length all) i row refl lt is))

-- one line more
pub line_more : (place : Option Place) (time_of : Row → Option ℤ) (all : List Row) (i : ℕ) (row : Row) (said now whole : List (List ℕ)) → i < length all → row ≡ get_or all i row
    → now ≡ with_line said (told_line place time_of row) → with_lines said (map (told_line place time_of) (drop i all)) ≡ whole → with_lines now (map (told_line place time_of) (drop (i + 1) all)) ≡ whole
line_more place time_of all i row said now whole lt is grown so =
    let line = told_line place time_of in
    let next : drop i all ≡ row ∷ drop (i + 1) all = drop_more all i row lt ∙ ap (λ (r : Row). r ∷ drop (i + 1) all) (sym is) in
    ap (λ (l : List (List ℕ)). with_lines l (map line (drop (i + 1) all))) grown ∙ (sym (ap (λ (rs : List Row). with_lines said (map line rs)) next) ∙ so)

-- all of them
pub lines_done : (place : Option Place) (time_of : Row → Option ℤ) (all : List Row) (i : ℕ) (said : List (List ℕ)) → length all ≤ i → with_lines said (map (told_line place time_of) (drop i all)) ≡ told_lines place time_of all → said ≡ told_lines place time_of all
lines_done place time_of all i said done so = sym (ap (λ (rs : List Row). with_lines said (map (told_line place time_of) rs)) (drop_all i all done)) ∙ so
