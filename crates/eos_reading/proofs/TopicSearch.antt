-- The topics that the applications write, and what is found among them.
use Rattle.std.proofs.Common.{◌≡◌, ℕ, ◌+◌, ◌<◌, true, false, List, [], ◌∷◌, ◌++◌, length, map, take, get_or, flat_map, refl, sym, ap, ◌∙◌, IsPermutation}
use Rattle.std.specs.Borrow.{Bor}
use Rattle.std.specs.Ordering.{nat_cmp, is_eq}
use Rattle.std.specs.Cmp.Lexicographic.{slice_cmp}
use Rattle.std.proofs.lemmas.Grind.{flat_map-append}
use Rattle.std.proofs.lemmas.List.{append-nil, take_more}
use Rattle.std.proofs.lemmas.List.Sorted.{list_any-IsPermutation}
use Rattle.eos_base.specs.Members.{is_found}
use Rattle.eos_base.proofs.Membership.{found_by}
use Rattle.eos_evidence.specs.declared.application.App.{App}
use Rattle.eos_evidence.specs.SpecFields.{outputs_of}
use Rattle.eos_evidence.specs.Topics.{is_internal}
use Rattle.eos_reading.specs.Wanted.{wanted_of}
use Rattle.eos_reading.specs.declared.wanted.Wanted.TheVariants.{Presence, Claims}
use Rattle.eos_reading.specs.Names.{plain_name}

-- what a loop has pushed for the items before its place, one item further
pub pushed_more : {X Y : Type 0} (g : X → List Y) (before after : List Y) (xs : List X) (i : ℕ) (x : X) → i < length xs → x ≡ get_or xs i x
    → before ≡ flat_map g (take i xs) → after ≡ before ++ g x → after ≡ flat_map g (take (i + 1) xs)
pushed_more {Y = Y} g before after xs i x lt is so_far pushed =
    let taken : take (i + 1) xs ≡ take i xs ++ x ∷ [] = take_more xs i x lt ∙ ap (λ y. take i xs ++ y ∷ []) (sym is) in
    let all : flat_map g (take (i + 1) xs) ≡ flat_map g (take i xs) ++ g x =
    ap (flat_map g) taken ∙ (flat_map-append g (take i xs) (x ∷ []) ∙ ap (λ (ys : List Y). flat_map g (take i xs) ++ ys) (append-nil (g x))) in
    pushed ∙ (ap (λ (ys : List Y). ys ++ g x) so_far ∙ sym all)

-- a search among lent names in any order
pub found_in : (apps : List App) (names : List (Bor (List ℕ))) (topic : Bor (List ℕ)) → IsPermutation (outputs_of apps) (map plain_name names)
    → is_found (λ a b. slice_cmp nat_cmp a.now b.now) names topic ≡ is_found (slice_cmp nat_cmp) (outputs_of apps) topic.now
found_in apps names topic p =
    found_by plain_name (slice_cmp nat_cmp) (λ a b. slice_cmp nat_cmp a.now b.now) (λ a b. refl) names topic
    ∙ sym (list_any-IsPermutation (λ y. is_eq (slice_cmp nat_cmp y topic.now)) (outputs_of apps) (map plain_name names) p)

pub wants_claims : (apps : List App) (topic : List ℕ) → is_internal topic ≡ false → is_found (slice_cmp nat_cmp) (outputs_of apps) topic ≡ true → Claims ≡ wanted_of apps topic
wants_claims apps topic e f = rw (e, f) refl

pub wants_presence : (apps : List App) (topic : List ℕ) → is_internal topic ≡ false → is_found (slice_cmp nat_cmp) (outputs_of apps) topic ≡ false → Presence ≡ wanted_of apps topic
wants_presence apps topic e f = rw (e, f) refl
