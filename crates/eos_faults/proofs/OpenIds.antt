-- Producer ids, and which of them are left open.
use Rattle.std.proofs.Common.{◌≡◌, ℕ, ◌+◌, ◌<◌, ℤ, pos, List, [], ◌∷◌, ◌++◌, length, take, get_or, Option, Some, cond, refl, sym, subst, ap, ◌∙◌, true, false, Bool, if◌then◌else◌, append_assoc}
use Rattle.std.specs.Prelude.{is_some}
use Rattle.std.specs.List.{flat_map}
use Rattle.std.specs.Ordering.{int_cmp, int_eq, is_eq}
use Rattle.std.specs.BTreeMap.{BTreeMap, get}
use Rattle.std.proofs.lemmas.Bool.Decides.{Decides-int_eq}
use Rattle.std.proofs.lemmas.List.{append-nil, take_more}
use Rattle.eos_base.specs.Members.{Has}
use Rattle.eos_touch.specs.declared.touch.Touch.{Touch}
use Rattle.eos_touch.specs.declared.fault.PartitionFaultKind.TheVariants.{OpenAtEnd}
use Rattle.eos_faults.specs.PartitionPlaces.{Placed, is_left_open}
use Rattle.eos_faults.specs.steps.Found.{open_of}
use Rattle.eos_faults.specs.steps.Walks.{AreIdsOf}

-- with the touch of an id that is in the list
pub ids_kept : (old new : BTreeMap ℤ Touch) (ids : List ℤ) (p : ℤ) (t : Touch) → ((id : ℤ) → get int_cmp new id ≡ cond (is_eq (int_cmp p id)) (Some t) (get int_cmp old id))
    → Has ids p → AreIdsOf old ids → AreIdsOf new ids
ids_kept old new ids p t put has are id h = go (int_eq p id) refl (subst (λ o. is_some o ≡ true) (put id) h)
  where
    go : (b : Bool) → int_eq p id ≡ b → is_some (cond b (Some t) (get int_cmp old id)) ≡ true → Has ids id
    go true e k = subst (Has ids) ((Decides-int_eq p id).0 e) has
    go false e k = are id k

-- an id that isn't left open
pub not_open : (last : ℤ → Option Touch) (next : ℕ) (id : ℤ) (o : Option Touch) (b : Bool) (shown : List Placed) → o ≡ last id → b ≡ is_left_open o → b ≡ false → shown ≡ shown ++ open_of last next id
not_open last next id o b shown touch is closed =
    let e : is_left_open (last id) ≡ false = sym (ap is_left_open touch) ∙ (sym is ∙ closed) in
    sym (ap (λ c. shown ++ (if c then (next, OpenAtEnd id) ∷ [] else [])) e ∙ append-nil shown)

flat_push : (f : ℤ → List Placed) (ids : List ℤ) (id : ℤ) → flat_map f (ids ++ id ∷ []) ≡ flat_map f ids ++ f id
flat_push f [] id = append-nil (f id)
flat_push f (x ∷ xs) id = ap (λ z. f x ++ z) (flat_push f xs id) ∙ sym (append_assoc (f x) (flat_map f xs) (f id))

-- one id more
pub open_more : (f : ℤ → List Placed) (ids : List ℤ) (i : ℕ) (first so_far shown : List Placed) → i < length ids → so_far ≡ first ++ flat_map f (take i ids) → shown ≡ so_far ++ f (get_or ids i (pos 0))
    → shown ≡ first ++ flat_map f (take (i + 1) ids)
open_more f ids i first so_far shown lt is more =
    let here = f (get_or ids i (pos 0)) in
    more ∙ (ap (λ z. z ++ here) is ∙ (append_assoc first (flat_map f (take i ids)) here
    ∙ ap (λ z. first ++ z) (sym (ap (flat_map f) (take_more ids i (pos 0) lt) ∙ flat_push f (take i ids) (get_or ids i (pos 0))))))
