-- What a walk has found at the end of its front is what all places show; in order, each once, it is the list of what stands.
use Rattle.std.proofs.Common.{◌≡◌, ℕ, ℤ, List, [], ◌∷◌, ◌++◌, map, Option, Some, None, refl, sym, subst, ap, ◌∙◌, inl, inr, true, Bool, not}
use Rattle.std.specs.Prelude.{is_some}
use Rattle.std.specs.List.{flat_map}
use Rattle.std.specs.List.Sorted.{IsStrictlySortedBy}
use Rattle.std.specs.Ordering.{int_cmp, is_eq}
use Rattle.std.specs.BTreeMap.{get}
use Rattle.eos_base.specs.Members.{Has}
use Rattle.eos_base.proofs.Membership.{append_cases, append_left, append_right, flat_has, has_flat, map_has, has_map, only, if_has, has_if}
use Rattle.eos_batch.specs.declared.batch.Batch.{Batch}
use Rattle.eos_touch.specs.declared.touch.Touch.{Touch}
use Rattle.eos_touch.specs.declared.fault.PartitionFault.{PartitionFault}
use Rattle.eos_touch.specs.declared.fault.PartitionFaultKind.TheVariants.{OpenAtEnd}
use Rattle.eos_touch.specs.Front.{records_in}
use Rattle.eos_touch.specs.Touches.{last_touch}
use Rattle.eos_evidence.specs.Topics.{is_internal}
use Rattle.eos_fold.specs.declared.stop.Stop.{Stop}
use Rattle.eos_fold.specs.declared.stop.Stop.TheVariants.{AtEnd, NoBatch, Elsewhere}
use Rattle.eos_fold.specs.Standing.{IsOpen, IsStanding, fault_cmp}
use Rattle.eos_base.specs.AllOf.{IsAllOf}
use Rattle.eos_base.proofs.WholeList.{all_by_keys}
use Rattle.eos_faults.specs.declared.walk.Walk.{Walk}
use Rattle.eos_faults.specs.PartitionPlaces.{Placed, at_batches, is_left_open, left_open, at_stop, placed, named, gathered}
use Rattle.eos_faults.specs.steps.Found.{placed_cmp, end_at, open_of, found_at}
use Rattle.eos_faults.specs.steps.Walks.{HasPassed}
use Rattle.eos_faults.proofs.AllPlaced as all
use Rattle.eos_faults.proofs.PlacedEnds.{open_is, is_open_there, opens_sound, opens_whole}
use Rattle.eos_faults.proofs.Ties.{tied_equal}

touched : (o : Option Touch) → IsOpen o → is_some o ≡ true
touched None h = absurd h
touched (Some t) h = refl

module _ (end : ℤ) (bs : List Batch) (ids : List ℤ) (are : (id : ℤ) → is_some (last_touch id bs) ≡ true → Has ids id) where
  abbrev touch : ℤ → Option Touch
  touch id = last_touch id bs

  abbrev next : ℕ
  next = records_in bs

  open_sound : (x : Placed) → Has (flat_map (open_of touch next) ids) x → Has (flat_map (left_open bs) bs) x
  open_sound x h =
      let r = flat_has (open_of touch next) ids x h in
      let k = if_has (is_left_open (touch r.0)) ((next, OpenAtEnd r.0) ∷ []) x r.2 in
      subst (Has (flat_map (left_open bs) bs)) (only (next, OpenAtEnd r.0) x k.1) (opens_whole bs r.0 (open_is (touch r.0) k.0))

  open_whole : (x : Placed) → Has (flat_map (left_open bs) bs) x → Has (flat_map (open_of touch next) ids) x
  open_whole x h =
      let r = opens_sound bs x h in
      let y : Placed = (next, OpenAtEnd r.producer) in
      let here = has_if (is_left_open (touch r.producer)) (y ∷ []) y (is_open_there (touch r.producer) r.left) (inl refl) in
      subst (Has (flat_map (open_of touch next) ids)) r.is (has_flat (open_of touch next) ids r.producer y (are r.producer (touched (touch r.producer) r.left)) here)

  stop_sound : (stop : Stop) (x : Placed) → Has (found_at touch ids end next stop) x → Has (at_stop end bs stop) x
  stop_sound (NoBatch segment byte fault) x h = h
  stop_sound (Elsewhere found) x h = h
  stop_sound AtEnd x h = elim (append_cases (end_at end next) (flat_map (open_of touch next) ids) x h) [
    | inl a ↦ append_left (end_at end next) (flat_map (left_open bs) bs) x a
    | inr b ↦ append_right (end_at end next) (flat_map (left_open bs) bs) x (open_sound x b)
  ]

  stop_whole : (stop : Stop) (x : Placed) → Has (at_stop end bs stop) x → Has (found_at touch ids end next stop) x
  stop_whole (NoBatch segment byte fault) x h = h
  stop_whole (Elsewhere found) x h = h
  stop_whole AtEnd x h = elim (append_cases (end_at end next) (flat_map (left_open bs) bs) x h) [
    | inl a ↦ append_left (end_at end next) (flat_map (open_of touch next) ids) x a
    | inr b ↦ append_right (end_at end next) (flat_map (open_of touch next) ids) x (open_whole x b)
  ]

module _ (sequenced : Bool) (end : ℤ) (bs : List Batch) (walk : Walk) (h : HasPassed sequenced bs walk) (stop : Stop) where
  abbrev ids : List ℤ
  ids = walk.ids.items

  are : (id : ℤ) → is_some (last_touch id bs) ≡ true → Has ids id
  are id some = h.ids id (subst (λ o. is_some o ≡ true) (sym (h.touches id)) some)

  abbrev told : List Placed
  told = found_at (λ id. last_touch id bs) ids end (records_in bs) stop

  found_is : (found : List Placed) → found ≡ walk.shown.items ++ found_at (get int_cmp walk.last) ids end walk.next stop → found ≡ at_batches sequenced [] bs ++ told
  found_is found e =
      e
      ∙ (ap (λ z. z ++ found_at (get int_cmp walk.last) ids end walk.next stop) h.shown
      ∙ (ap (λ (n : ℕ). at_batches sequenced [] bs ++ found_at (get int_cmp walk.last) ids end n stop) h.next
      ∙ (λ i. at_batches sequenced [] bs ++ found_at (λ id. h.touches id i) ids end (records_in bs) stop)))

  pub found_sound : (found : List Placed) → found ≡ walk.shown.items ++ found_at (get int_cmp walk.last) ids end walk.next stop → (x : Placed) → Has found x → Has (placed sequenced end bs stop) x
  found_sound found e x k = elim (append_cases (at_batches sequenced [] bs) told x (subst (λ z. Has z x) (found_is found e) k)) [
    | inl a ↦ append_left (at_batches sequenced [] bs) (at_stop end bs stop) x a
    | inr b ↦ append_right (at_batches sequenced [] bs) (at_stop end bs stop) x (stop_sound end bs ids are stop x b)
  ]

  pub found_whole : (found : List Placed) → found ≡ walk.shown.items ++ found_at (get int_cmp walk.last) ids end walk.next stop → (x : Placed) → Has (placed sequenced end bs stop) x → Has found x
  found_whole found e x k = subst (λ z. Has z x) (sym (found_is found e)) (elim (append_cases (at_batches sequenced [] bs) (at_stop end bs stop) x k) [
    | inl a ↦ append_left (at_batches sequenced [] bs) told x a
    | inr b ↦ append_right (at_batches sequenced [] bs) told x (stop_whole end bs ids are stop x b)
  ])

module _ (topic : List ℕ) (number end : ℤ) (bs : List Batch) (stop : Stop) (found : List Placed)
    (there : (x : Placed) → Has found x → Has (placed (not (is_internal topic)) end bs stop) x) (back : (x : Placed) → Has (placed (not (is_internal topic)) end bs stop) x → Has found x) where
  sound : (f : PartitionFault) → Has (map (named topic number) found) f → IsStanding topic number end bs stop f
  sound f h =
      let r = map_has (named topic number) found f h in
      all.sound topic number end bs stop f (subst (Has (gathered topic number end bs stop)) r.2 (has_map (named topic number) (placed (not (is_internal topic)) end bs stop) r.0 (there r.0 r.1)))

  whole : (f : PartitionFault) → IsStanding topic number end bs stop f → Has (map (named topic number) found) f
  whole f s =
      let r = map_has (named topic number) (placed (not (is_internal topic)) end bs stop) f (all.whole topic number end bs stop f s) in
      subst (Has (map (named topic number) found)) r.2 (has_map (named topic number) found r.0 (back r.0 r.1))

  pub listed : (kept : List Placed) → IsStrictlySortedBy placed_cmp kept → ((x : Placed) → Has kept x → Has found x) → ((x : Placed) → Has found x → (y : Placed) × Has kept y × (is_eq (placed_cmp x y) ≡ true))
      → IsAllOf fault_cmp (IsStanding topic number end bs stop) (map (named topic number) kept)
  listed kept up each every = all_by_keys (named topic number) fault_cmp (IsStanding topic number end bs stop) (tied_equal topic number end bs stop) found kept up each every sound whole
