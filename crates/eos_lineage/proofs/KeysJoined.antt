-- Walks that make keys of claims, one after the other and put together.
use Rattle.std.proofs.Common.{◌≡◌, ◌+◌, ◌-◌, ◌*◌, ◌<◌, ◌≤◌, ℕ, zero, suc, List, [], ◌∷◌, ◌++◌, length, map, take, drop, Option, Some, None, refl, sym, subst, ap, ◌∙◌, inl, inr, true, false, Bool, not, arith, cond}
use Rattle.std.specs.Prelude.{IfSome, slice_get, ◌&&◌, ◌==◌}
use Rattle.std.specs.List.{flat_map, filter, list_any}
use Rattle.std.proofs.lemmas.Grind.{flat_map-append}
use Rattle.std.proofs.lemmas.List.Elements.{filter-append}
use Rattle.std.proofs.Math.Seq.{take-add, get_or-append_seam}
use Rattle.std.proofs.lemmas.List.{append_assoc, map-append, get_or_append_left, length-append}
use Rattle.eos_base.specs.declared.partition_name.PartitionName.{PartitionName}
use Rattle.eos_base.proofs.Membership.{append_cases, only}
use Rattle.eos_claims.specs.Outputs.{PlacedClaim, Application}
use Rattle.eos_claims.specs.Candidates.{passes}
use Rattle.eos_lineage.specs.Lineage.{is_note}
use Rattle.eos_lineage.specs.declared.keys.Keys.{Keys}
use Rattle.eos_lineage.specs.steps.Keys.{KeysView, key_at, key_of, plain_keys, no_keys, joined_keys, IsJoined, IsKeyed, HasKeyed, EachKeyed, in_turn}
use Rattle.eos_commits.specs.NameTables.{AreAscending}
use Rattle.eos_lineage.specs.steps.Walks.{one_if}
use Rattle.eos_lineage.proofs.NamePlaces.{place_at}
use Rattle.eos_commits.proofs.NameSearch.{get_has}

-- ---- one after the other

abbrev is_output : PlacedClaim → Bool
is_output c = not (is_note c)

pub keyed_then : (a : Application) (ns : List PartitionName) (u v w : KeysView) (cs ds : List PlacedClaim) → HasKeyed a ns u v cs → HasKeyed a ns v w ds → HasKeyed a ns u w (cs ++ ds)
keyed_then a ns u v w cs ds h k = record {
  keys = k.keys ∙ (ap (λ (ks : List ℕ). ks ++ map (key_of ns) ds) h.keys
      ∙ (append_assoc u.keys (map (key_of ns) cs) (map (key_of ns) ds) ∙ ap (λ (ks : List ℕ). u.keys ++ ks) (sym (map-append (key_of ns) cs ds))));
  outputs =
      let p = h.outputs in
      let q = k.outputs in
      let e : length (filter is_output (cs ++ ds)) ≡ length (filter is_output cs) + length (filter is_output ds)
      = ap length (filter-append is_output cs ds) ∙ length-append (filter is_output cs) (filter is_output ds) in
      omega (arith, p, q, e);
  each = λ c m. elim (append_cases cs ds c m) [ inl x ↦ h.each c x | inr y ↦ k.each c y ];
}

-- ---- one claim

output_one : (c : PlacedClaim) → one_if (not ((c.output == 0) && (c.of == 0))) ≡ length (filter is_output (c ∷ []))
output_one c = go (is_output c)
  where
    go : (b : Bool) → one_if b ≡ length (cond b (c ∷ []) [])
    go true = refl
    go false = refl

pub keyed_one : (a : Application) (ns : List PartitionName) (u v : KeysView) (c : PlacedClaim) (place key n : ℕ) → AreAscending ns → slice_get ns place ≡ Some c.source.partition
    → key ≡ key_at (place * 4294967296 + c.source.offset) c.output c.of → (c.source.offset < 4294967296) × (c.output < 1024) × (c.of < 1024)
    → list_any (passes c.writer c.source) a.commits ≡ true → v.keys ≡ u.keys ++ key ∷ [] → n ≡ u.outputs + one_if (not ((c.output == 0) && (c.of == 0))) → v.outputs ≡ n
    → HasKeyed a ns u v (c ∷ [])
keyed_one a ns u v c place key n up at is fits passed keys count outputs = record {
  keys = keys ∙ ap (λ k. u.keys ++ k ∷ []) (is ∙ ap (λ p. key_at (p * 4294967296 + c.source.offset) c.output c.of) (sym (place_at ns place c.source.partition up at)));
  outputs = outputs ∙ (count ∙ ap (λ m. u.outputs + m) (output_one c));
  each = λ d h. subst (IsKeyed a ns) (only c d h) (record { named = get_has ns place c.source.partition at; offset = fits.0; output = fits.1; of = fits.2; passed = passed });
}

-- ---- put together

pub joined : (a : Application) (ns : List PartitionName) (v w : KeysView) (cs ds : List PlacedClaim) → HasKeyed a ns no_keys v cs → HasKeyed a ns no_keys w ds
    → HasKeyed a ns no_keys (joined_keys v w) (cs ++ ds)
joined a ns v w cs ds h k = keyed_then a ns no_keys v (joined_keys v w) cs ds h (record {
  keys = ap (λ (ks : List ℕ). v.keys ++ ks) k.keys;
  outputs = let q = k.outputs in omega (arith, q);
  each = k.each;
})

abbrev pub Read : Type 0
Read = Option Keys

each_front : (a : Application) (ns : List PartitionName) (claims : ℕ → List PlacedClaim) (rs : List Read) (r : Read) → EachKeyed a ns claims (rs ++ r ∷ []) → EachKeyed a ns claims rs
each_front a ns claims rs r h = λ i d l. subst (λ (x : Read). IfSome x (λ w. HasKeyed a ns no_keys (plain_keys w) (claims i))) (get_or_append_left rs (r ∷ []) d i l) (h i d (omega (arith, l, length-append rs (r ∷ []))))

each_last : (a : Application) (ns : List PartitionName) (claims : ℕ → List PlacedClaim) (rs : List Read) (r : Read) → EachKeyed a ns claims (rs ++ r ∷ [])
    → IfSome r (λ w. HasKeyed a ns no_keys (plain_keys w) (claims (length rs)))
each_last a ns claims rs r h = subst (λ (x : Read). IfSome x (λ w. HasKeyed a ns no_keys (plain_keys w) (claims (length rs)))) (get_or-append_seam rs r [] r) (h (length rs) r (omega (arith, length-append rs (r ∷ []))))

abbrev pub KeyedAll : List Read → Keys → Type 0
KeyedAll rs w = (a : Application) (ns : List PartitionName) (claims : ℕ → List PlacedClaim) → EachKeyed a ns claims rs → HasKeyed a ns no_keys (plain_keys w) (in_turn claims (length rs))

pub one_more : (rs : List Read) (v w : Keys) (r : Read) → KeyedAll rs v → IsJoined (plain_keys v) r (plain_keys w) → KeyedAll (rs ++ r ∷ []) w
one_more rs v w None all e = absurd e
one_more rs v w (Some next) all e = λ a ns claims each.
    let n : suc (length rs) ≡ length (rs ++ Some next ∷ []) = omega (arith, length-append rs (Some next ∷ [])) in
    let both = joined a ns (plain_keys v) (plain_keys next) (in_turn claims (length rs)) (claims (length rs)) (all a ns claims (each_front a ns claims rs (Some next) each)) (each_last a ns claims rs (Some next) each) in
    subst (λ k. HasKeyed a ns no_keys (plain_keys w) (in_turn claims k)) n (subst (λ (u : KeysView). HasKeyed a ns no_keys u (in_turn claims (suc (length rs)))) (sym e) both)

-- ---- chunks

take_all : {X : Type 0} (n : ℕ) (xs : List X) → length xs ≤ n → take n xs ≡ xs
take_all zero [] l = refl
take_all zero (x ∷ xs) l = absurd (omega (arith, l))
take_all (suc n) [] l = refl
take_all (suc n) (x ∷ xs) l = ap (λ ys. x ∷ ys) (take_all n xs (omega (arith, l)))

in_chunks : {X : Type 0} (f : X → List PlacedClaim) (size : ℕ) (xs : List X) (n : ℕ) → in_turn (λ i. flat_map f (take size (drop (i * size) xs))) n ≡ flat_map f (take (n * size) xs)
in_chunks f size xs zero = let e : 0 ≡ 0 * size = omega arith in ap (λ k. flat_map f (take k xs)) e
in_chunks f size xs (suc n) =
    let e : n * size + size ≡ suc n * size = omega arith in
    ap (λ (cs : List PlacedClaim). cs ++ flat_map f (take size (drop (n * size) xs))) (in_chunks f size xs n)
    ∙ (sym (flat_map-append f (take (n * size) xs) (take size (drop (n * size) xs)))
    ∙ ap (flat_map f) (sym (take-add (n * size) size xs) ∙ ap (λ k. take k xs) e))

pub chunks_whole : {X : Type 0} (f : X → List PlacedClaim) (size : ℕ) (xs : List X) (n : ℕ) → length xs ≤ n * size → in_turn (λ i. flat_map f (take size (drop (i * size) xs))) n ≡ flat_map f xs
chunks_whole f size xs n l = in_chunks f size xs n ∙ ap (flat_map f) (take_all (n * size) xs l)

-- where the last one is in a chunk, all are
pub enough : (q size n last : ℕ) → last ≡ n - 1 → last < q * size + size → n ≤ (q + 1) * size
enough q size n last e l = omega (arith, e, l)
