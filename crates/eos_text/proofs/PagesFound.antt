-- Pages that are found by their codes.
use Rattle.std.proofs.Common.{◌≡◌, ◌++◌, ◌∷◌, [], ℕ, List, Option, Some, None, Bool, Bor, true, false, ◌&&◌, ◌∙◌, ap, append_assoc, refl, sym, subst}
use Rattle.std.proofs.lemmas.Slice.Eq.{bytes_eq-Decides}
use Rattle.std.specs.Option.{option_copied, option_or}
use Rattle.std.specs.Str.{bytes_eq}
use Rattle.eos_text.specs.Catalogue.{page_codes, is_one_of, is_brief, IsPageOf}
use Rattle.eos_text.specs.Kinds.{codes_of, have_briefs}
use Rattle.eos_text.specs.steps.Found.{ArePages, page_in}
use Rattle.eos_text.specs.declared.page.Page.{Page}

-- what is found of a code that is one of these, or isn't
abbrev pub Fits : List ℕ → Bool → Option Page → Type 0
Fits code is None = is ≡ false
Fits code is (Some page) = (page.code.now ≡ code) × (is ≡ true) × (is_brief page.brief.now ≡ true)

both : (a b : Bool) → (a && b) ≡ true → (a ≡ true) × (b ≡ true)
both true b e = (refl, e)
both false b e = cc

pub found_fits : (pages : List Page) (code : List ℕ) → have_briefs pages ≡ true → Fits code (is_one_of (codes_of pages) code) (page_in pages code)
found_fits [] code briefs = refl
found_fits (p ∷ ps) code briefs =
    let two = both (is_brief p.brief.now) (have_briefs ps) briefs in
    elim (bytes_eq p.code.now code) as (λ x. bytes_eq p.code.now code ≡ x → Fits code (is_one_of (codes_of (p ∷ ps)) code) (page_in (p ∷ ps) code)) [
      | true ↦ λ e. rw e ((bytes_eq-Decides p.code.now code).0 e, refl, two.0)
      | false ↦ λ e. rw e (found_fits ps code two.1)
    ] refl

-- those of one list, and then those of another
pub found_in_both : (xs ys : List Page) (code : List ℕ) → page_in (xs ++ ys) code ≡ option_or (page_in xs code) (page_in ys code)
found_in_both [] ys code = refl
found_in_both (x ∷ xs) ys code = elim (bytes_eq x.code.now code) as (λ b. bytes_eq x.code.now code ≡ b → page_in ((x ∷ xs) ++ ys) code ≡ option_or (page_in (x ∷ xs) code) (page_in ys code)) [
  | true ↦ λ e. rw e refl
  | false ↦ λ e. rw e (found_in_both xs ys code)
] refl

pub is_page : (pages : List Page) (code : List ℕ) (page : Option Page) → ArePages page_codes pages → page ≡ page_in pages code → IsPageOf code page
is_page pages code page are e =
    let fits : Fits code (is_one_of page_codes code) page = subst (Fits code (is_one_of page_codes code)) (sym e) (subst (λ (cs : List (List ℕ)). Fits code (is_one_of cs code) (page_in pages code)) are.named (found_fits pages code are.briefs)) in
    by_page code page fits
  where
    by_page : (code : List ℕ) (page : Option Page) → Fits code (is_one_of page_codes code) page → IsPageOf code page
    by_page code None h = h
    by_page code (Some p) h = h

-- the codes and briefs of one list, and then those of another
codes_apart : (xs ys : List Page) → codes_of (xs ++ ys) ≡ codes_of xs ++ codes_of ys
codes_apart [] ys = refl
codes_apart (x ∷ xs) ys = ap (λ (l : List (List ℕ)). x.code.now ∷ l) (codes_apart xs ys)

briefs_apart : (xs ys : List Page) → have_briefs xs ≡ true → have_briefs ys ≡ true → have_briefs (xs ++ ys) ≡ true
briefs_apart [] ys xs_have ys_have = ys_have
briefs_apart (x ∷ xs) ys xs_have ys_have =
    let two = both (is_brief x.brief.now) (have_briefs xs) xs_have in
    rw (two.0, briefs_apart xs ys two.1 ys_have) refl

-- the pages of some codes, and then those of others
pub and_then : {some others : List (List ℕ)} {xs ys : List Page} → ArePages some xs → ArePages others ys → ArePages (some ++ others) (xs ++ ys)
and_then {some} {others} {xs} {ys} a b = record {
  named = codes_apart xs ys ∙ (ap (λ (l : List (List ℕ)). l ++ codes_of ys) a.named ∙ ap (λ (l : List (List ℕ)). some ++ l) b.named);
  briefs = briefs_apart xs ys a.briefs b.briefs;
}

-- one of this list, or else of those that follow it
pub or_found : (code : List ℕ) (xs ys : List Page) (a b r : Option (Bor Page)) → option_copied a ≡ page_in xs code → option_copied b ≡ page_in ys code → r ≡ option_or a b → option_copied r ≡ page_in (xs ++ ys) code
or_found code xs ys a b r e f is = ap option_copied is ∙ (copied a b ∙ (ap (λ (p : Option Page). option_or p (option_copied b)) e ∙ (ap (option_or (page_in xs code)) f ∙ sym (found_in_both xs ys code))))
  where
    copied : (a b : Option (Bor Page)) → option_copied (option_or a b) ≡ option_or (option_copied a) (option_copied b)
    copied None b = refl
    copied (Some p) b = refl

-- five lists, one behind the other
pub behind : (a b c d e : List Page) → ((((a ++ b) ++ c) ++ d) ++ e) ≡ a ++ (b ++ (c ++ (d ++ e)))
behind a b c d e = append_assoc ((a ++ b) ++ c) d e ∙ (append_assoc (a ++ b) c (d ++ e) ∙ append_assoc a b (c ++ (d ++ e)))
