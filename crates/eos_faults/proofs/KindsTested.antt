-- The kinds that stand, one kind further.
use Rattle.std.proofs.Common.{◌≡◌, ℕ, ◌+◌, ◌<◌, List, [], ◌∷◌, ◌++◌, length, take, get_or, map, cond, refl, sym, ap, ◌∙◌, true, false, Bool, if◌then◌else◌, append_assoc}
use Rattle.std.specs.List.{filter}
use Rattle.std.proofs.lemmas.List.{take_more}
use Rattle.eos_touch.specs.declared.pair.PairFault.{PairFault}
use Rattle.eos_faults.specs.PartitionPlaces.{Placed}

module _ (f : PairFault → Placed) (stands : PairFault → Bool) where
  abbrev shown_if : Bool → PairFault → List Placed
  shown_if there kind = if there then f kind ∷ [] else []

  kept_push : (kinds : List PairFault) (kind : PairFault) → map f (filter stands (kinds ++ kind ∷ [])) ≡ map f (filter stands kinds) ++ shown_if (stands kind) kind
  kept_push [] kind = go (stands kind)
    where
      go : (b : Bool) → map f (cond b (kind ∷ []) []) ≡ shown_if b kind
      go true = refl
      go false = refl
  kept_push (k ∷ ks) kind = go (stands k) (kept_push ks kind)
    where
      go : (b : Bool) → map f (filter stands (ks ++ kind ∷ [])) ≡ map f (filter stands ks) ++ shown_if (stands kind) kind
          → map f (cond b (k ∷ filter stands (ks ++ kind ∷ [])) (filter stands (ks ++ kind ∷ []))) ≡ map f (cond b (k ∷ filter stands ks) (filter stands ks)) ++ shown_if (stands kind) kind
      go true more = ap (λ z. f k ∷ z) more
      go false more = more

  pub kinds_more : (kinds : List PairFault) (i : ℕ) (d : PairFault) (there : Bool) (first so_far shown : List Placed) → i < length kinds → so_far ≡ first ++ map f (filter stands (take i kinds)) → there ≡ stands (get_or kinds i d)
      → shown ≡ so_far ++ (if there then f (get_or kinds i d) ∷ [] else []) → shown ≡ first ++ map f (filter stands (take (i + 1) kinds))
  kinds_more kinds i d there first so_far shown lt is tested more =
      let kind = get_or kinds i d in
      let old = map f (filter stands (take i kinds)) in
      more ∙ (ap (λ z. so_far ++ shown_if z kind) tested ∙ (ap (λ z. z ++ shown_if (stands kind) kind) is ∙ (append_assoc first old (shown_if (stands kind) kind)
      ∙ ap (λ z. first ++ z) (sym (ap (λ ks. map f (filter stands ks)) (take_more kinds i d lt) ∙ kept_push (take i kinds) kind)))))
