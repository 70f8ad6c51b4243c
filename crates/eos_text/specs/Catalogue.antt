-- Which pages the catalogue has, and of which codes.
use Rattle.std.specs.Prelude.{◌≡◌, ℕ, List, [], ◌∷◌, ◌++◌, Option, Some, None, Bool, true, false, ◌&&◌, nat_lt, nat_le, length, bytes_eq, codes}
use Rattle.std.specs.Borrow.{Bor}
use Rattle.std.specs.List.{list_any}
use Rattle.eos_text.specs.declared.page.Page.{Page}

-- the codes of each phase's kinds of faults, in the order of the pages
unfoldable pub partition_codes : List (List ℕ)
partition_codes =
    codes "1.1" ∷ codes "1.2" ∷ codes "1.3" ∷ codes "1.4" ∷ codes "1.5" ∷ codes "1.6" ∷ codes "1.7" ∷ codes "1.8" ∷ codes "1.9" ∷
    codes "1.10" ∷ codes "1.11" ∷ []

unfoldable pub transaction_log_codes : List (List ℕ)
transaction_log_codes = codes "2.1" ∷ codes "2.2" ∷ codes "2.3" ∷ codes "2.4" ∷ codes "2.5" ∷ []

unfoldable pub decision_codes : List (List ℕ)
decision_codes = codes "3.1" ∷ codes "3.2" ∷ codes "3.3" ∷ codes "3.4" ∷ codes "3.5" ∷ codes "3.6" ∷ codes "3.7" ∷ []

unfoldable pub record_codes : List (List ℕ)
record_codes = codes "4.1" ∷ codes "4.2" ∷ codes "4.3" ∷ codes "4.4" ∷ []

unfoldable pub output_codes : List (List ℕ)
output_codes =
    codes "5.5" ∷ codes "5.6" ∷ codes "5.7" ∷ codes "5.8" ∷ codes "5.9" ∷ codes "5.10" ∷ codes "5.11" ∷ codes "5.12" ∷ []

-- the codes of all kinds of faults
abbrev pub page_codes : List (List ℕ)
page_codes = partition_codes ++ (transaction_log_codes ++ (decision_codes ++ (record_codes ++ output_codes)))

-- this code is one of these
abbrev pub is_one_of : List (List ℕ) → List ℕ → Bool
is_one_of all code = list_any (λ c. bytes_eq c code) all

abbrev pub is_line : List ℕ → Bool
is_line line = nat_lt 0 (length line) && nat_le (length line) 56

-- one line or two
abbrev pub is_brief : List (Bor (List ℕ)) → Bool
is_brief [] = false
is_brief (a ∷ []) = is_line a.now
is_brief (a ∷ b ∷ []) = is_line a.now && is_line b.now
is_brief (a ∷ b ∷ c ∷ more) = false

-- a code that a kind has gives its page, which says in a line or two what the kind is, and another gives none
abbrev pub IsPageOf : List ℕ → Option Page → Type 0
IsPageOf code None = is_one_of page_codes code ≡ false
IsPageOf code (Some page) = (page.code.now ≡ code) × (is_one_of page_codes code ≡ true) × (is_brief page.brief.now ≡ true)
