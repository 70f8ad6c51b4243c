-- What is kept of a claim is the claim.
use Rattle.std.proofs.Common.{◌≡◌, inl, inr, ℕ, suc, ◌+◌, ◌<◌, Bool, true, false, not, cond, List, [], ◌∷◌, length, Option, Some, None, refl, sym, ap, ◌∙◌, arith}
use Rattle.std.specs.Prelude.{option_map, nat_eq}
use Rattle.std.specs.List.{slice_get, position_or_len}
use Rattle.std.specs.Cmp.Lexicographic.{pointwise, bytes_decides}
use Rattle.std.proofs.lemmas.Bool.{cases_lt, lt-ltb, le-ltb}
use Rattle.eos_claims.specs.declared.claim.Claim.{Claim}
use Rattle.eos_reading.specs.NameIndexes.{index_of}
use Rattle.eos_reading.specs.Outputs.{output_at, kept_output, claim_kept}

-- the first that passes stands there, and passes
passes_there : {X : Type 0} (p : X → Bool) (xs : List X) → position_or_len p xs < length xs → (x : X) × (slice_get xs (position_or_len p xs) ≡ Some x) × (p x ≡ true)
passes_there p [] lt = absurd (omega (arith, lt))
passes_there {X} p (x ∷ xs) lt = one (p x) refl lt (λ l. passes_there p xs l)
  where
    one : (b : Bool) → p x ≡ b → cond (not b) (1 + position_or_len p xs) 0 < suc (length xs) → (position_or_len p xs < length xs → (y : X) × (slice_get xs (position_or_len p xs) ≡ Some y) × (p y ≡ true))
        → (y : X) × (slice_get (x ∷ xs) (cond (not b) (1 + position_or_len p xs) 0) ≡ Some y) × (p y ≡ true)
    one true e l later = (x, refl, e)
    one false e l later =
        let w = later (omega (arith, l)) in
        let s : 1 + position_or_len p xs ≡ suc (position_or_len p xs) = omega arith in
        (w.0, ap (λ (n : ℕ). slice_get (x ∷ xs) n) s ∙ w.1, w.2)

place_found : (names : List (List ℕ)) (name : List ℕ) (k : ℕ) → index_of names name ≡ Some k → slice_get names k ≡ Some name
place_found names name k e = elim (cases_lt (position_or_len test names) (length names)) [
  | inl l ↦
      let at : position_or_len test names ≡ k = let f = rw (lt-ltb _ _ l) at e in cc in
      let w = passes_there test names l in
      let same : w.0 ≡ name = (bytes_decides w.0 name).0 w.2 in
      ap (λ (n : ℕ). slice_get names n) (sym at) ∙ (w.1 ∙ ap Some same)
  | inr r ↦ absurd (let f = rw (le-ltb _ _ r) at e in cc)
]
  where
    test : List ℕ → Bool
    test one = pointwise nat_eq one name

pub exact_claim : (topics : List (List ℕ)) (claim : Option Claim) → claim_kept topics (kept_output topics claim) ≡ claim
exact_claim topics None = refl
exact_claim topics (Some c) = by (index_of topics c.topic) refl
  where
    by : (place : Option ℕ) → index_of topics c.topic ≡ place → claim_kept topics (output_at place c) ≡ Some c
    by None e = refl
    by (Some k) e = ap (option_map (λ (name : List ℕ). record { topic = name; partition = c.partition; offset = c.offset; output = c.output; of = c.of })) (place_found topics c.topic k e)
