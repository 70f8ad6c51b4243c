-- What a batch shows after those before it.
use Rattle.std.proofs.Common.{◌≡◌, ℕ, ℤ, List, [], ◌∷◌, ◌++◌, Option, Some, None, refl, sym, subst, ap, ◌∙◌, inl, inr, true, Bool, append_assoc}
use Rattle.std.specs.List.{filter}
use Rattle.std.proofs.lemmas.List.{append-nil}
use Rattle.eos_base.specs.Members.{Has}
use Rattle.eos_base.proofs.Membership.{append_cases, append_left, append_right, map_has, has_map, filter_has, has_filter}
use Rattle.eos_batch.specs.declared.batch.Batch.{Batch}
use Rattle.eos_batch.specs.Offsets.{offset_of}
use Rattle.eos_touch.specs.declared.touch.Touch.{Touch}
use Rattle.eos_touch.specs.declared.pair.PairFault.{PairFault}
use Rattle.eos_touch.specs.declared.pair.PairFault.TheVariants.{FirstSequence, Sequence, ZombieEpoch, EpochWhileOpen, NoBump, MixedProducer, MarkerKind}
use Rattle.eos_touch.specs.Pair.{stands}
use Rattle.eos_touch.specs.Touches.{touch_of, last_touch}
use Rattle.eos_touch.specs.declared.fault.PartitionFaultKind.TheVariants.{Pair}
use Rattle.eos_fold.specs.Standing.{StandsAtTouch}
use Rattle.eos_faults.specs.PartitionPlaces.{Placed, pair_kinds, placed_at, by_touch, at_batch, at_batches}

is_kind : (k : PairFault) → Has pair_kinds k
is_kind FirstSequence = inl refl
is_kind Sequence = inr (inl refl)
is_kind ZombieEpoch = inr (inr (inl refl))
is_kind EpochWhileOpen = inr (inr (inr (inl refl)))
is_kind NoBump = inr (inr (inr (inr (inl refl))))
is_kind MixedProducer = inr (inr (inr (inr (inr (inl refl)))))
is_kind MarkerKind = inr (inr (inr (inr (inr (inr (inl refl))))))

module _ (sequenced : Bool) where
  -- a pair of touches that stands there
  pub record PairThere (before : List Batch) (b : Batch) (x : Placed) : Type 0 where
    pub kind : PairFault
    pub producer : ℤ
    pub next : Touch
    pub touch : touch_of b ≡ Some (producer, next)
    pub wrong : stands sequenced (last_touch producer before) next kind ≡ true
    pub is : placed_at (offset_of b) producer kind ≡ x

  by_touch_has : (before : List Batch) (b : Batch) (x : Placed) (t : Option (ℤ × Touch)) → touch_of b ≡ t → Has (by_touch sequenced before (offset_of b) t) x → PairThere before b x
  by_touch_has before b x None e h = absurd h
  by_touch_has before b x (Some t) e h =
      let m = map_has (placed_at (offset_of b) t.0) (filter (stands sequenced (last_touch t.0 before) t.1) pair_kinds) x h in
      let f = filter_has (stands sequenced (last_touch t.0 before) t.1) pair_kinds m.0 m.1 in
      record { kind = m.0; producer = t.0; next = t.1; touch = e; wrong = f.1; is = m.2 }

  has_by_touch : (before : List Batch) (b : Batch) (p : ℤ) (next : Touch) (kind : PairFault) → touch_of b ≡ Some (p, next) → stands sequenced (last_touch p before) next kind ≡ true
      → Has (at_batch sequenced before b) (placed_at (offset_of b) p kind)
  has_by_touch before b p next kind e w =
      let here = has_map (placed_at (offset_of b) p) (filter (stands sequenced (last_touch p before) next) pair_kinds) kind (has_filter (stands sequenced (last_touch p before) next) pair_kinds kind (is_kind kind) w) in
      subst (λ t. Has (by_touch sequenced before (offset_of b) t) (placed_at (offset_of b) p kind)) (sym e) here

  -- ---- along the front

  record Shown (front bs : List Batch) (x : Placed) : Type 0 where
    before : List Batch
    here : Batch
    later : List Batch
    parts : front ++ bs ≡ before ++ here ∷ later
    shows : Has (at_batch sequenced before here) x

  shown : (front bs : List Batch) (x : Placed) → Has (at_batches sequenced front bs) x → Shown front bs x
  shown front [] x h = absurd h
  shown front (b ∷ bs) x h = elim (append_cases (at_batch sequenced front b) (at_batches sequenced (front ++ b ∷ []) bs) x h) [
    | inl a ↦ record { before = front; here = b; later = bs; parts = refl; shows = a }
    | inr k ↦
        let r = shown (front ++ b ∷ []) bs x k in
        record { before = r.before; here = r.here; later = r.later; parts = sym (append_assoc front (b ∷ []) bs) ∙ r.parts; shows = r.shows }
  ]

  shows_at : (front before later : List Batch) (b : Batch) (x : Placed) → Has (at_batch sequenced (front ++ before) b) x → Has (at_batches sequenced front (before ++ b ∷ later)) x
  shows_at front [] later b x h = append_left (at_batch sequenced front b) (at_batches sequenced (front ++ b ∷ []) later) x (subst (λ z. Has (at_batch sequenced z b) x) (append-nil front) h)
  shows_at front (c ∷ cs) later b x h = append_right (at_batch sequenced front c) (at_batches sequenced (front ++ c ∷ []) (cs ++ b ∷ later)) x
      (shows_at (front ++ c ∷ []) cs later b x (subst (λ z. Has (at_batch sequenced z b) x) (sym (append_assoc front (c ∷ []) cs)) h))

  pub record TouchThere (batches : List Batch) (x : Placed) : Type 0 where
    pub kind : PairFault
    pub producer : ℤ
    pub is : x.1 ≡ Pair kind producer
    pub stands_there : StandsAtTouch sequenced batches x.0 kind producer

  pub batches_sound : (batches : List Batch) (x : Placed) → Has (at_batches sequenced [] batches) x → TouchThere batches x
  batches_sound batches x h =
      let r = shown [] batches x h in
      let t = by_touch_has r.before r.here x (touch_of r.here) refl r.shows in
      record {
        kind = t.kind;
        producer = t.producer;
        is = sym (ap (λ (z : Placed). z.1) t.is);
        stands_there = record { before = r.before; here = r.here; after = r.later; next = t.next; parts = r.parts; at = sym (ap (λ (z : Placed). z.0) t.is); touch = t.touch; wrong = t.wrong };
      }

  pub batches_whole : (batches : List Batch) (offset : ℕ) (kind : PairFault) (producer : ℤ) → StandsAtTouch sequenced batches offset kind producer → Has (at_batches sequenced [] batches) (offset, Pair kind producer)
  batches_whole batches offset kind producer s =
      let shown = shows_at [] s.before s.after s.here (placed_at (offset_of s.here) producer kind) (has_by_touch s.before s.here producer s.next kind s.touch s.wrong) in
      let there = subst (λ z. Has (at_batches sequenced [] z) (placed_at (offset_of s.here) producer kind)) (sym s.parts) shown in
      subst (λ (z : ℕ). Has (at_batches sequenced [] batches) (placed_at z producer kind)) (sym s.at) there
