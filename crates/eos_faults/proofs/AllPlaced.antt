-- What is gathered at the places of a front is what stands in the partition.
use Rattle.std.proofs.Common.{◌≡◌, ℕ, ℤ, pos, List, [], ◌∷◌, refl, sym, subst, inl, inr, Bool, not, if◌then◌else◌, unsigned_abs}
use Rattle.std.specs.List.{flat_map}
use Rattle.std.specs.Ordering.{int_eq}
use Rattle.eos_base.specs.Members.{Has}
use Rattle.eos_base.proofs.Membership.{append_cases, append_left, append_right, map_has, has_map, only}
use Rattle.eos_batch.specs.declared.batch.Batch.{Batch}
use Rattle.eos_touch.specs.Front.{records_in}
use Rattle.eos_touch.specs.declared.fault.PartitionFault.{PartitionFault}
use Rattle.eos_touch.specs.declared.fault.PartitionFaultKind.{PartitionFaultKind}
use Rattle.eos_touch.specs.declared.fault.PartitionFaultKind.TheVariants.{BadBatch, Gap, Pair, End, OpenAtEnd}
use Rattle.eos_evidence.specs.Topics.{is_internal}
use Rattle.eos_fold.specs.declared.stop.Stop.{Stop}
use Rattle.eos_fold.specs.declared.stop.Stop.TheVariants.{AtEnd, NoBatch, Elsewhere}
use Rattle.eos_fold.specs.Standing.{StandsIn, IsStanding}
use Rattle.eos_faults.specs.PartitionPlaces.{Placed, at_batches, left_open, at_stop, placed, named, gathered}
use Rattle.eos_faults.proofs.PlacedBatches.{batches_sound, batches_whole}
use Rattle.eos_faults.proofs.PlacedEnds.{opens_sound, opens_whole, end_sound, end_whole}

module _ (sequenced : Bool) (end : ℤ) (bs : List Batch) where
  abbrev Standing : Stop → Placed → Type 0
  Standing stop x = StandsIn sequenced end bs stop x.0 x.1

  abbrev wrong_end : Placed
  wrong_end = (records_in bs, End (unsigned_abs end))

  stop_sound : (stop : Stop) (x : Placed) → Has (at_stop end bs stop) x → Standing stop x
  stop_sound (NoBatch segment byte fault) x h = subst (Standing (NoBatch segment byte fault)) (only _ x h) (refl, refl)
  stop_sound (Elsewhere found) x h = subst (Standing (Elsewhere found)) (only _ x h) (refl, refl)
  stop_sound AtEnd x h = elim (append_cases (if int_eq (pos (records_in bs)) end then [] else wrong_end ∷ []) (flat_map (left_open bs) bs) x h) [
    | inl a ↦ let r = end_sound (pos (records_in bs)) end wrong_end x a in subst (Standing AtEnd) r.1 (refl, r.0, refl, refl)
    | inr b ↦ let r = opens_sound bs x b in subst (Standing AtEnd) r.is (refl, r.left, refl)
  ]

  all_sound : (stop : Stop) (x : Placed) → Has (placed sequenced end bs stop) x → Standing stop x
  all_sound stop x h = elim (append_cases (at_batches sequenced [] bs) (at_stop end bs stop) x h) [
    | inl a ↦ let r = batches_sound sequenced bs x a in subst (λ (k : PartitionFaultKind). StandsIn sequenced end bs stop x.0 k) (sym r.is) r.stands_there
    | inr b ↦ stop_sound stop x b
  ]

  in_stop : (stop : Stop) (x : Placed) → Has (at_stop end bs stop) x → Has (placed sequenced end bs stop) x
  in_stop stop x h = append_right (at_batches sequenced [] bs) (at_stop end bs stop) x h

  -- at the front's end, for this reason
  at_reason : (stop reason : Stop) (offset : ℕ) (k : PartitionFaultKind) → stop ≡ reason → offset ≡ records_in bs → Has (at_stop end bs reason) (records_in bs, k) → Has (placed sequenced end bs stop) (offset, k)
  at_reason stop reason offset k e o h =
      let there = subst (λ (z : Stop). Has (at_stop end bs z) (records_in bs, k)) (sym e) h in
      in_stop stop (offset, k) (subst (λ (z : ℕ). Has (at_stop end bs stop) (z, k)) (sym o) there)

  all_whole : (stop : Stop) (offset : ℕ) (k : PartitionFaultKind) → StandsIn sequenced end bs stop offset k → Has (placed sequenced end bs stop) (offset, k)
  all_whole stop offset (BadBatch segment byte fault) s = at_reason stop (NoBatch segment byte fault) offset (BadBatch segment byte fault) s.0 s.1 (inl refl)
  all_whole stop offset (Gap found) s = at_reason stop (Elsewhere found) offset (Gap found) s.0 s.1 (inl refl)
  all_whole stop offset (Pair kind producer) s = append_left (at_batches sequenced [] bs) (at_stop end bs stop) (offset, Pair kind producer) (batches_whole sequenced bs offset kind producer s)
  all_whole stop offset (End declared) s =
      let here = append_left (if int_eq (pos (records_in bs)) end then [] else wrong_end ∷ []) (flat_map (left_open bs) bs) wrong_end (end_whole (pos (records_in bs)) end wrong_end s.1) in
      at_reason stop AtEnd offset (End declared) s.0 s.3 (subst (λ (z : ℕ). Has (at_stop end bs AtEnd) (records_in bs, End z)) (sym s.2) here)
  all_whole stop offset (OpenAtEnd producer) s =
      at_reason stop AtEnd offset (OpenAtEnd producer) s.0 s.2
      (append_right (if int_eq (pos (records_in bs)) end then [] else wrong_end ∷ []) (flat_map (left_open bs) bs) (records_in bs, OpenAtEnd producer) (opens_whole bs producer s.1))

module _ (topic : List ℕ) (number end : ℤ) (bs : List Batch) (stop : Stop) where
  pub sound : (f : PartitionFault) → Has (gathered topic number end bs stop) f → IsStanding topic number end bs stop f
  sound f h =
      let r = map_has (named topic number) (placed (not (is_internal topic)) end bs stop) f h in
      subst (IsStanding topic number end bs stop) r.2 (record { of_topic = refl; of_number = refl; stands = all_sound (not (is_internal topic)) end bs stop r.0 r.1 })

  pub whole : (f : PartitionFault) → IsStanding topic number end bs stop f → Has (gathered topic number end bs stop) f
  whole f s =
      let x : Placed = (f.offset, f.kind) in
      let here = has_map (named topic number) (placed (not (is_internal topic)) end bs stop) x (all_whole (not (is_internal topic)) end bs stop f.offset f.kind s.stands) in
      let is : named topic number x ≡ f = let t = s.of_topic in let n = s.of_number in λ i. record { topic = sym t i; partition = sym n i; offset = f.offset; kind = f.kind } in
      subst (Has (gathered topic number end bs stop)) is here
