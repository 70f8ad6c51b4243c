-- What the name of a partition reads as.
use Rattle.std.proofs.Common.{◌≡◌, ℕ, suc, ◌-◌, ◌<◌, ◌≤◌, List, [], ◌∷◌, ◌++◌, Bool, true, false, ◌||◌, None, Some, length, get_or, take, drop, refl, ap, sym, ◌∙◌, arith, drop-cons, take-append-drop, length-drop}
use Rattle.std.proofs.lemmas.List.{take_all}
use Rattle.std.specs.List.{list_any}
use Rattle.eos_evidence.specs.PartitionNames.{is_hyphen, last_split}

no_first : (a b : Bool) → (a || b) ≡ false → a ≡ false
no_first true b h = h
no_first false b h = refl

no_second : (a b : Bool) → (a || b) ≡ false → b ≡ false
no_second true b h = absurd (cc h)
no_second false b h = h

pub split_none : (bytes : List ℕ) → list_any is_hyphen bytes ≡ false → last_split bytes ≡ None
unfolding last_split
split_none [] h = refl
split_none (b ∷ bs) h = rw (split_none bs (no_second (is_hyphen b) (list_any is_hyphen bs) h), no_first (is_hyphen b) (list_any is_hyphen bs) h) refl

-- the last hyphen divides
pub split_there : (before after : List ℕ) → list_any is_hyphen after ≡ false → last_split (before ++ 45 ∷ after) ≡ Some (before, after)
unfolding last_split
split_there [] after h = rw (split_none after h) refl
split_there (b ∷ bs) after h = rw (split_there bs after h) refl

pub split_at : (name : List ℕ) (at : ℕ) → 0 < at → at ≤ length name → get_or name (at - 1) 0 ≡ 45 → list_any is_hyphen (drop at name) ≡ false
    → Some (take (at - 1) name, take (length name - at) (drop at name)) ≡ last_split name
split_at name at above within hyphen none =
    let k : ℕ = at - 1 in
    let next : suc k ≡ at = omega arith in
    let rest : drop k name ≡ 45 ∷ drop at name = drop-cons name k 0 (omega arith) ∙ ap (λ b. b ∷ drop (suc k) name) hyphen ∙ ap (λ n. 45 ∷ drop n name) next in
    let whole : name ≡ take k name ++ 45 ∷ drop at name = sym (take-append-drop k name) ∙ ap (λ l. take k name ++ l) rest in
    let all : take (length name - at) (drop at name) ≡ drop at name = take_all _ _ (omega (arith, length-drop at name)) in
    ap (λ l. Some (take k name, l)) all ∙ sym (ap last_split whole ∙ split_there (take k name) (drop at name) none)
