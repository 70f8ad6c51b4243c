-- How a page of the catalogue is printed: its code and name, and four sections, each below its heading; and where the rows of a
-- story may show more than the kind, a fifth. The texts are this project's own.
use Rattle.std.specs.Prelude.{ℕ, List, [], ◌∷◌, ◌++◌, codes}
use Rattle.eos_text.specs.declared.case.Case.{Case}
use Rattle.eos_text.specs.declared.page.Page.{Page}

abbrev pub title_text : Page → List ℕ
title_text p = p.code.now ++ (codes " " ++ (p.name.now ++ codes "\n"))

-- a heading, and lines without a last line's end
abbrev pub section_text : List ℕ → List ℕ → List ℕ
section_text heading lines = codes "\n" ++ (heading ++ (codes "\n" ++ (lines ++ codes "\n")))

unfoldable pub sections_text : Page → List ℕ
sections_text p =
    section_text (codes "What it says") p.says.now ++ (section_text (codes "What it means") p.means.now
    ++ (section_text (codes "What makes it happen, the likeliest first") p.causes.now ++ section_text (codes "What to look at") p.next.now))

-- what may be shown, and what it means then
unfoldable pub case_lines : Case → List ℕ
case_lines c = codes "- " ++ (c.when.now ++ (codes ":\n" ++ (c.means.now ++ codes "\n")))

abbrev pub cases_lines : List Case → List ℕ
cases_lines [] = []
cases_lines (c ∷ cs) = case_lines c ++ cases_lines cs

abbrev pub cases_heading : List Case → List ℕ
cases_heading [] = []
cases_heading (c ∷ cs) = codes "\nWhat the rows of its story may show, the first that holds\n"

unfoldable pub cases_text : List Case → List ℕ
cases_text cases = cases_heading cases ++ cases_lines cases

abbrev pub page_text : Page → List ℕ
page_text p = title_text p ++ (sections_text p ++ cases_text p.cases.now)
