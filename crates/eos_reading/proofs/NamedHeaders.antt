-- The headers under the five names of a claim say what all headers say of it.
use Rattle.std.proofs.Common.{◌≡◌, ℕ, List, [], ◌∷◌, ◌++◌, Bool, true, false, cond, Option, map, codes, refl, ap, ◌∙◌, subst, inl, inr}
use Rattle.std.specs.Prelude.{flat_map}
use Rattle.std.specs.Bool.{nat_eq}
use Rattle.std.specs.Cmp.Lexicographic.{pointwise}
use Rattle.std.proofs.lemmas.List.{append-nil}
use Rattle.eos_base.specs.Members.{Has}
use Rattle.eos_batch.specs.declared.record.Header.{Header}
use Rattle.eos_claims.specs.Headers.{is_key, values_of, claim_of}
use Rattle.eos_reading.specs.Named.{claim_names, headers_under, named_headers}

abbrev Value : Type 0
Value = Option (List ℕ)

abbrev with_name : List ℕ → Value → Header
with_name name value = record { key = name; value = value }

values_of-append : (key : List ℕ) (xs ys : List Header) → values_of key (xs ++ ys) ≡ values_of key xs ++ values_of key ys
values_of-append key [] ys = refl
values_of-append key (x ∷ xs) ys = go (is_key key x) (values_of-append key xs ys)
  where
    go : (b : Bool) → values_of key (xs ++ ys) ≡ values_of key xs ++ values_of key ys
        → cond b (x.value ∷ values_of key (xs ++ ys)) (values_of key (xs ++ ys)) ≡ cond b (x.value ∷ values_of key xs) (values_of key xs) ++ values_of key ys
    go true e = ap (λ (vs : List Value). x.value ∷ vs) e
    go false e = e

-- those that stand under one name, asked by another
abbrev seen : List ℕ → List Header → List ℕ → List Value
seen key hs name = cond (pointwise nat_eq name key) (values_of name hs) []

seen_so : (key name : List ℕ) (vs : List Value) → values_of key (map (λ (v : Value). record { key = name; value = v }) vs) ≡ cond (pointwise nat_eq name key) vs []
seen_so key name [] = go (pointwise nat_eq name key)
  where
    go : (b : Bool) → ◌≡◌ {A = List Value} [] (cond b [] [])
    go true = refl
    go false = refl
seen_so key name (v ∷ vs) = go (pointwise nat_eq name key) (seen_so key name vs)
  where
    others : List Value
    others = values_of key (map (λ (w : Value). record { key = name; value = w }) vs)

    go : (b : Bool) → others ≡ cond b vs [] → cond b (v ∷ others) others ≡ cond b (v ∷ vs) []
    go true e = ap (λ (ws : List Value). v ∷ ws) e
    go false e = e

seen_all : (key : List ℕ) (hs : List Header) (names : List (List ℕ)) → values_of key (flat_map (headers_under hs) names) ≡ flat_map (seen key hs) names
seen_all key hs [] = refl
seen_all key hs (name ∷ names) =
    values_of-append key (headers_under hs name) (flat_map (headers_under hs) names)
    ∙ (ap (λ (vs : List Value). vs ++ values_of key (flat_map (headers_under hs) names)) (seen_so key name (values_of name hs))
    ∙ ap (λ (vs : List Value). seen key hs name ++ vs) (seen_all key hs names))

module _ (hs : List Header) where
  topic_same : values_of (codes "eo.topic") (named_headers hs) ≡ values_of (codes "eo.topic") hs
  topic_same = seen_all (codes "eo.topic") hs claim_names ∙ append-nil (values_of (codes "eo.topic") hs)

  partition_same : values_of (codes "eo.partition") (named_headers hs) ≡ values_of (codes "eo.partition") hs
  partition_same = seen_all (codes "eo.partition") hs claim_names ∙ append-nil (values_of (codes "eo.partition") hs)

  offset_same : values_of (codes "eo.offset") (named_headers hs) ≡ values_of (codes "eo.offset") hs
  offset_same = seen_all (codes "eo.offset") hs claim_names ∙ append-nil (values_of (codes "eo.offset") hs)

  output_same : values_of (codes "eo.output") (named_headers hs) ≡ values_of (codes "eo.output") hs
  output_same = seen_all (codes "eo.output") hs claim_names ∙ append-nil (values_of (codes "eo.output") hs)

  of_same : values_of (codes "eo.of") (named_headers hs) ≡ values_of (codes "eo.of") hs
  of_same = seen_all (codes "eo.of") hs claim_names ∙ append-nil (values_of (codes "eo.of") hs)

  pub values_same : (name : List ℕ) → Has claim_names name → values_of name (named_headers hs) ≡ values_of name hs
  values_same name (inl e) = subst (λ (n : List ℕ). values_of n (named_headers hs) ≡ values_of n hs) e topic_same
  values_same name (inr (inl e)) = subst (λ (n : List ℕ). values_of n (named_headers hs) ≡ values_of n hs) e partition_same
  values_same name (inr (inr (inl e))) = subst (λ (n : List ℕ). values_of n (named_headers hs) ≡ values_of n hs) e offset_same
  values_same name (inr (inr (inr (inl e)))) = subst (λ (n : List ℕ). values_of n (named_headers hs) ≡ values_of n hs) e output_same
  values_same name (inr (inr (inr (inr (inl e))))) = subst (λ (n : List ℕ). values_of n (named_headers hs) ≡ values_of n hs) e of_same
  values_same name (inr (inr (inr (inr (inr e))))) = absurd e

  pub claim_same : claim_of (named_headers hs) ≡ claim_of hs
  unfolding claim_of
  claim_same = rw (topic_same, partition_same, offset_same, output_same, of_same) refl

under_same : (xs ys : List Header) (names : List (List ℕ)) → ((name : List ℕ) → Has names name → values_of name xs ≡ values_of name ys) → flat_map (headers_under xs) names ≡ flat_map (headers_under ys) names
under_same xs ys [] same = refl
under_same xs ys (name ∷ names) same =
    ap (λ (vs : List Value). map (λ (v : Value). with_name name v) vs ++ flat_map (headers_under xs) names) (same name (inl refl))
    ∙ ap (λ (hs : List Header). headers_under ys name ++ hs) (under_same xs ys names (λ n has. same n (inr has)))

pub named_twice : (hs : List Header) → named_headers (named_headers hs) ≡ named_headers hs
named_twice hs = under_same (named_headers hs) hs claim_names (values_same hs)
