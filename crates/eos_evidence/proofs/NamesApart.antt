-- Names that are walked through from their end, beside the set of those that were passed.
use Rattle.std.proofs.Common.{◌≡◌, List, ℕ, [], ◌∷◌, ◌++◌, Bool, true, false, not, cond, ◌&&◌, ◌||◌, refl, ap, sym, ◌∙◌, append_assoc, bytes_eq}
use Rattle.std.proofs.Math.Bool.{and-false}
use Rattle.std.proofs.lemmas.Bool.{not-false}
use Rattle.std.proofs.lemmas.Map.Text.{is_eq-slice_cmp}
use Rattle.std.specs.Ordering.{nat_cmp, is_eq}
use Rattle.std.specs.Cmp.Lexicographic.{slice_cmp, nat_list_eq_equiv}
use Rattle.eos_evidence.specs.Topics.{is_among, are_unequal}

-- what stands twice at the end stands twice in the whole
twice_at_end : (front rest : List (List ℕ)) → are_unequal rest ≡ false → are_unequal (front ++ rest) ≡ false
twice_at_end [] rest h = h
twice_at_end (x ∷ xs) rest h = ap (λ b. not (is_among x (xs ++ rest)) && b) (twice_at_end xs rest h) ∙ and-false _

pub one_more : (all front : List (List ℕ)) (name : List ℕ) (rest before : List (List ℕ))
    → all ≡ before ++ rest → before ≡ front ++ name ∷ [] → all ≡ front ++ (name ∷ rest)
one_more all front name rest before whole last = whole ∙ ap (λ l. l ++ rest) last ∙ append_assoc front (name ∷ []) rest

-- a name that is among those after it
pub found_again : (all front : List (List ℕ)) (name : List ℕ) (rest before : List (List ℕ)) (b found : Bool)
    → all ≡ before ++ rest → before ≡ front ++ name ∷ [] → found ≡ is_among name rest → b ≡ not found → b ≡ false → false ≡ are_unequal all
found_again all front name rest before b found whole last is added missing =
    let twice : are_unequal (name ∷ rest) ≡ false = ap (λ x. not x && are_unequal rest) (sym is ∙ not-false found (sym added ∙ missing)) in
    sym (ap are_unequal (one_more all front name rest before whole last) ∙ twice_at_end front (name ∷ rest) twice)

-- a name that is not among those after it
pub still_unequal : (name : List ℕ) (rest : List (List ℕ)) (b found : Bool)
    → are_unequal rest ≡ true → found ≡ is_among name rest → b ≡ not found → b ≡ true → are_unequal (name ∷ rest) ≡ true
still_unequal name rest b found so_far is added new =
    ap (λ x. x && are_unequal rest) (sym (ap not is) ∙ sym added ∙ new) ∙ so_far

cond_or : (b c : Bool) → cond b true c ≡ (b || c)
cond_or true c = refl
cond_or false c = refl

-- what the set has afterwards
pub noted_more : (name other : List ℕ) (rest : List (List ℕ)) (before after : Bool)
    → before ≡ is_among other rest → after ≡ cond (is_eq (slice_cmp nat_cmp name other)) true before → after ≡ (bytes_eq other name || is_among other rest)
noted_more name other rest before after is updated =
    let same : is_eq (slice_cmp nat_cmp name other) ≡ bytes_eq other name = is_eq-slice_cmp name other ∙ nat_list_eq_equiv.symm name other in
    updated ∙ cond_or _ before ∙ ap (λ b. b || before) same ∙ ap (λ b. bytes_eq other name || b) is
