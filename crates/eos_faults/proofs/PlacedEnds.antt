-- What the end of a front shows.
use Rattle.std.proofs.Common.{◌≡◌, ◌≢◌, ℤ, List, [], ◌∷◌, Option, Some, None, refl, sym, subst, ap, ◌∙◌, inl, inr, ◌⊎◌, true, false, Bool, if◌then◌else◌}
use Rattle.std.specs.List.{flat_map}
use Rattle.std.specs.Option.{option_or}
use Rattle.std.specs.Ordering.{int_eq}
use Rattle.std.proofs.lemmas.Bool.Decides.{Decides-int_eq, not_from_Decides}
use Rattle.eos_base.specs.Members.{Has}
use Rattle.eos_base.proofs.Membership.{append_cases, flat_has, has_flat, only, if_has, has_if}
use Rattle.eos_batch.specs.declared.batch.Batch.{Batch}
use Rattle.eos_touch.specs.declared.touch.Touch.{Touch}
use Rattle.eos_touch.specs.Touches.{touch_of, touch_in, touches_of, last_of, last_touch}
use Rattle.eos_touch.specs.Front.{records_in}
use Rattle.eos_touch.specs.declared.fault.PartitionFaultKind.TheVariants.{OpenAtEnd}
use Rattle.eos_fold.specs.Standing.{IsOpen}
use Rattle.eos_faults.specs.PartitionPlaces.{Placed, is_left_open, open_by, left_open}

-- ---- producer ids that are left open

pub open_is : (t : Option Touch) → is_left_open t ≡ true → IsOpen t
open_is None e = absurd cc
open_is (Some t) e = e

pub is_open_there : (t : Option Touch) → IsOpen t → is_left_open t ≡ true
is_open_there None h = absurd h
is_open_there (Some t) h = h

-- an id with a touch has a batch
record Touched (id : ℤ) (bs : List Batch) : Type 0 where
  batch : Batch
  has : Has bs batch
  touch : Touch
  is : touch_of batch ≡ Some (id, touch)

touched : (id : ℤ) (bs : List Batch) (t : Touch) → Has (touches_of id bs) t → Touched id bs
touched id [] t h = absurd h
touched id (b ∷ bs) t h = go (touch_of b) refl (append_cases (touch_in id (touch_of b)) (touches_of id bs) t h) (touched id bs t)
  where
    later : Touched id bs → Touched id (b ∷ bs)
    later r = record { batch = r.batch; has = inr r.has; touch = r.touch; is = r.is }

    here : (x : ℤ × Touch) → touch_of b ≡ Some x → (c : Bool) → int_eq x.0 id ≡ c → Has (if c then x.1 ∷ [] else []) t → Touched id (b ∷ bs)
    here x e true q h =
        let same : x.0 ≡ id = (Decides-int_eq x.0 id).0 q in
        record { batch = b; has = inl refl; touch = x.1; is = e ∙ ap (λ (z : ℤ). Some (z, x.1)) same }
    here x e false q h = absurd h

    go : (o : Option (ℤ × Touch)) → touch_of b ≡ o → Has (touch_in id (touch_of b)) t ⊎ Has (touches_of id bs) t → (Has (touches_of id bs) t → Touched id bs) → Touched id (b ∷ bs)
    go None e (inl h) more = absurd (subst (λ o. Has (touch_in id o) t) e h)
    go (Some x) e (inl h) more = here x e (int_eq x.0 id) refl (subst (λ o. Has (touch_in id o) t) e h)
    go o e (inr h) more = later (more h)

last_has : (ts : List Touch) (t : Touch) → last_of ts ≡ Some t → Has ts t
last_has [] t e = absurd cc
last_has (s ∷ ts) t e = go (last_of ts) refl e (last_has ts t)
  where
    inside : (a b : Touch) → Some a ≡ Some b → a ≡ b
    inside a b e = cc

    go : (o : Option Touch) → last_of ts ≡ o → last_of (s ∷ ts) ≡ Some t → (last_of ts ≡ Some t → Has ts t) → Has (s ∷ ts) t
    go None q e more = inl (inside s t (subst (λ o. option_or o (Some s) ≡ Some t) q e))
    go (Some r) q e more = inr (more (q ∙ subst (λ o. option_or o (Some s) ≡ Some t) q e))

-- of an open id
open_touched : (id : ℤ) (bs : List Batch) → IsOpen (last_touch id bs) → Touched id bs
open_touched id bs h = go (last_touch id bs) refl h
  where
    go : (o : Option Touch) → last_touch id bs ≡ o → IsOpen o → Touched id bs
    go None e h = absurd h
    go (Some t) e h = touched id bs t (last_has (touches_of id bs) t e)

pub record OpenThere (bs : List Batch) (x : Placed) : Type 0 where
  pub producer : ℤ
  pub left : IsOpen (last_touch producer bs)
  pub is : (records_in bs, OpenAtEnd producer) ≡ x

open_by_has : (bs : List Batch) (x : Placed) (t : Option (ℤ × Touch)) → Has (open_by bs t) x → OpenThere bs x
open_by_has bs x None h = absurd h
open_by_has bs x (Some t) h =
    let r = if_has (is_left_open (last_touch t.0 bs)) ((records_in bs, OpenAtEnd t.0) ∷ []) x h in
    record { producer = t.0; left = open_is (last_touch t.0 bs) r.0; is = only (records_in bs, OpenAtEnd t.0) x r.1 }

pub opens_sound : (bs : List Batch) (x : Placed) → Has (flat_map (left_open bs) bs) x → OpenThere bs x
opens_sound bs x h = let r = flat_has (left_open bs) bs x h in open_by_has bs x (touch_of r.0) r.2

pub opens_whole : (bs : List Batch) (id : ℤ) → IsOpen (last_touch id bs) → Has (flat_map (left_open bs) bs) (records_in bs, OpenAtEnd id)
opens_whole bs id h =
    let r = open_touched id bs h in
    let x : Placed = (records_in bs, OpenAtEnd id) in
    let here = has_if (is_left_open (last_touch id bs)) (x ∷ []) x (is_open_there (last_touch id bs) h) (inl refl) in
    has_flat (left_open bs) bs r.batch x r.has (subst (λ t. Has (open_by bs t) x) (sym r.is) here)

-- ---- the declared end

pub end_sound : (n end : ℤ) (y x : Placed) → Has (if int_eq n end then [] else y ∷ []) x → (n ≢ end) × (y ≡ x)
end_sound n end y x h = go (int_eq n end) refl h
  where
    go : (b : Bool) → int_eq n end ≡ b → Has (if b then [] else y ∷ []) x → (n ≢ end) × (y ≡ x)
    go true q h = absurd h
    go false q h = (not_from_Decides _ (Decides-int_eq n end) q, only y x h)

pub end_whole : (n end : ℤ) (y : Placed) → n ≢ end → Has (if int_eq n end then [] else y ∷ []) y
end_whole n end y other = go (int_eq n end) refl
  where
    go : (b : Bool) → int_eq n end ≡ b → Has (if b then [] else y ∷ []) y
    go true q = absurd (other ((Decides-int_eq n end).0 q))
    go false q = inl refl
