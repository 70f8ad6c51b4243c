-- A page that is looked for in a list, and what a list of pages has.
use Rattle.std.specs.Prelude.{◌≡◌, ℕ, List, [], ◌∷◌, Option, Some, None, true, bytes_eq, if◌then◌else◌}
use Rattle.eos_text.specs.Kinds.{codes_of, have_briefs}
use Rattle.eos_text.specs.declared.page.Page.{Page}

-- the first of these with this code
abbrev pub page_in : List Page → List ℕ → Option Page
page_in [] code = None
page_in (p ∷ ps) code = if bytes_eq p.code.now code then Some p else page_in ps code

-- the pages of these codes, each with its brief
pub record ArePages (all : List (List ℕ)) (pages : List Page) : Type 0 where
  pub named : codes_of pages ≡ all
  pub briefs : have_briefs pages ≡ true
