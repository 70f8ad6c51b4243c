-- How all kinds are listed: before each phase an empty line, and for each kind its code, its name, and from the 25th column on its
-- brief, a line or two.
use Rattle.std.specs.Prelude.{◌≡◌, ℕ, zero, suc, ◌-◌, List, [], ◌∷◌, ◌++◌, Bool, true, map, length, codes}
use Rattle.std.specs.Borrow.{Bor}
use Rattle.std.specs.List.{list_all}
use Rattle.eos_text.specs.Adding.{Adds}
use Rattle.eos_text.specs.Catalogue.{page_codes, is_brief}
use Rattle.eos_text.specs.declared.page.Page.{Page}

abbrev pub spaces : ℕ → List ℕ
spaces zero = []
spaces (suc n) = codes " " ++ spaces n

abbrev pub line_text : ℕ → List ℕ → List ℕ
line_text before line = spaces before ++ (line ++ codes "\n")

-- lines, of which the first stands after so many spaces
abbrev pub lines_text : ℕ → List (Bor (List ℕ)) → List ℕ
lines_text before [] = []
lines_text before (line ∷ lines) = line_text before line.now ++ lines_text 24 lines

-- the spaces between a page's name and its brief
abbrev pub spaces_before : Page → ℕ
spaces_before p = (21 - length p.code.now) - length p.name.now

abbrev pub kind_text : Page → List ℕ
kind_text p = codes "  " ++ (p.code.now ++ (codes " " ++ (p.name.now ++ lines_text (spaces_before p) p.brief.now)))

abbrev pub kinds_text : List Page → List ℕ
kinds_text [] = []
kinds_text (p ∷ ps) = kind_text p ++ kinds_text ps

abbrev pub phase_text : List Page → List ℕ
phase_text pages = codes "\n" ++ kinds_text pages

abbrev pub phases_text : List (List Page) → List ℕ
phases_text [] = []
phases_text (pages ∷ more) = phase_text pages ++ phases_text more

abbrev pub all_of : List (List Page) → List Page
all_of [] = []
all_of (pages ∷ more) = pages ++ all_of more

abbrev pub codes_of : List Page → List (List ℕ)
codes_of pages = map (λ (p : Page). p.code.now) pages

abbrev pub have_briefs : List Page → Bool
have_briefs pages = list_all (λ (p : Page). is_brief p.brief.now) pages

-- the pages of all kinds were listed, in their order
pub record AddsKinds (old new : List ℕ) : Type 0 where
  pub phases : List (List Page)
  pub every : codes_of (all_of phases) ≡ page_codes
  pub briefs : have_briefs (all_of phases) ≡ true
  pub adds : Adds old new (phases_text phases)
