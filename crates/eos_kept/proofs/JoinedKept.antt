-- Fronts of two lists of segments, and what is kept of both.
use Rattle.std.proofs.Common.{◌≡◌, ◌≢◌, ℕ, ◌+◌, inr, Bool, List, [], ◌∷◌, ◌++◌, length, None, refl, sym, ap, subst, ◌∙◌, arith}
use Rattle.std.proofs.lemmas.List.{append-nil, length-append}
use Rattle.std.proofs.lemmas.Grind.{flat_map-append}
use Rattle.eos_batch.specs.declared.batch.Batch.{Batch}
use Rattle.eos_batch.specs.declared.marker.Marker.{Marker}
use Rattle.eos_batch.specs.declared.record.Record.{Record}
use Rattle.eos_batch.specs.Marker.{markers_of}
use Rattle.eos_evidence.specs.declared.segment.Segment.{Segment}
use Rattle.eos_touch.specs.Front.{records_in, ContinuesFrom}
use Rattle.eos_touch.proofs.Continuity.{records_in-append}
use Rattle.eos_fold.specs.declared.stop.Stop.{Stop}
use Rattle.eos_fold.specs.declared.stop.Stop.TheVariants.{AtEnd, NoBatch, Elsewhere}
use Rattle.eos_fold.specs.Fronts.{base_of, IsSegmentFront, GoesOn, IsFront}
use Rattle.eos_fold.specs.Sums.{BeginsAt, AreChecked, is_checked}
use Rattle.eos_fold.proofs.JoinedFronts.{front_goes, front_stops, other_name, markers_of-append}
use Rattle.eos_reading.specs.Epochs.{epoch_entries, epoch_behind, entries_behind}
use Rattle.eos_reading.specs.Kept.{kept_in, kept_of}
use Rattle.eos_reading.proofs.EpochLists.{entries_both}
use Rattle.eos_kept.specs.declared.run.Run.{Run}
use Rattle.eos_kept.specs.Runs.{IsRunOf}
use Rattle.eos_kept.proofs.JoinedRuns.{same_run}
use Rattle.eos_kept.specs.declared.front.Front.{Front}
use Rattle.eos_kept.specs.declared.sizes.Sizes.{Sizes}
use Rattle.eos_kept.specs.Sizes.{AreSized}
use Rattle.eos_kept.specs.Kept.{KeepsFront, IsFrontOf, SameFront, KeptView, IsKept}
use Rattle.eos_kept.specs.Passing.{GoesAlong, data_count, HoldsEach}

begins_more : (xs ys : List Segment) (n : ℕ) → BeginsAt xs n → BeginsAt (xs ++ ys) n
begins_more [] ys n h = absurd h
begins_more (x ∷ xs) ys n h = h

checked_more : (xs ys : List Segment) (b : Bool) → AreChecked xs b → AreChecked (xs ++ ys) b
checked_more [] ys b h = absurd h
checked_more (x ∷ xs) ys b h = h

-- the first front ends before its segments do
pub stops_before : (xs ys : List Segment) (bs : List Batch) (f : Front) → f.stop ≢ AtEnd → IsFrontOf xs bs f → IsFrontOf (xs ++ ys) bs f
stops_before xs ys bs f ne h = record {
  begins = begins_more xs ys f.begin h.begins;
  sequenced = checked_more xs ys f.run.sequenced h.sequenced;
  front = front_stops f.begin xs ys bs f.stop ne h.front;
  keeps = h.keeps;
  epochs = h.epochs;
}

-- the same, with another stop
pub keeps_same : (bs : List Batch) (f g : Front) → g.begin ≡ f.begin → g.next ≡ f.next → g.batches ≡ f.batches → g.markers ≡ f.markers → g.run ≡ f.run → KeepsFront bs f → KeepsFront bs g
keeps_same bs f g begin next counted markers run h = record {
  counted = counted ∙ h.counted;
  next = next ∙ (h.next ∙ ap (λ (n : ℕ). n + records_in bs) (sym begin));
  fits = let e = h.fits in omega (arith, next, e);
  markers = ap (λ m. m.items) markers ∙ h.markers;
  run = subst (λ (r : Run). IsRunOf bs r) (sym run) h.run;
}

pub same_along : (bs : List Batch) (f g : Front) → g.begin ≡ f.begin → g.next ≡ f.next → g.batches ≡ f.batches → g.markers ≡ f.markers → g.run ≡ f.run → GoesAlong bs f → GoesAlong bs g
same_along bs f g begin next counted markers run h = record {
  keeps = keeps_same bs f g begin next counted markers run h.keeps;
  continuous = subst (λ (n : ℕ). ContinuesFrom n bs) (sym begin) h.continuous;
}

-- ---- whatever the segments are

-- the same with more room
along_still : (bs : List Batch) (f g : Front) → SameFront f g → GoesAlong bs f → GoesAlong bs g
along_still bs f g s h = record {
  keeps = record {
    next = s.next ∙ (h.keeps.next ∙ ap (λ (n : ℕ). n + records_in bs) (sym s.begin));
    fits = let e = h.keeps.fits in let n = s.next in omega (arith, n, e);
    counted = s.batches ∙ h.keeps.counted;
    markers = s.markers ∙ h.keeps.markers;
    run = same_run bs f.run g.run s.run h.keeps.run;
  };
  continuous = subst (λ (n : ℕ). ContinuesFrom n bs) (sym s.begin) h.continuous;
}

pub each_still : {K : Type 0} (f g : Front) (ks ls : List K) → SameFront f g → ls ≡ ks → HoldsEach f ks → HoldsEach g ls
each_still f g ks ls s e h = record { batches = h.batches; along = along_still h.batches f g s h.along; each = ap length e ∙ h.each }

-- with another stop
pub each_stopped : {K : Type 0} (f g : Front) (ks ls : List K) → g.begin ≡ f.begin → g.next ≡ f.next → g.batches ≡ f.batches → g.markers ≡ f.markers → g.run ≡ f.run → ls ≡ ks → HoldsEach f ks → HoldsEach g ls
each_stopped f g ks ls begin next counted markers run e h = record { batches = h.batches; along = same_along h.batches f g begin next counted markers run h.along; each = ap length e ∙ h.each }

continues-append : (n : ℕ) (xs ys : List Batch) → ContinuesFrom n xs → ContinuesFrom (n + records_in xs) ys → ContinuesFrom n (xs ++ ys)
continues-append n [] ys h k = let z : n + 0 ≡ n = omega arith in subst (λ (m : ℕ). ContinuesFrom m ys) z k
continues-append n (x ∷ xs) ys h k =
    let z : n + (length x.records + records_in xs) ≡ n + length x.records + records_in xs = omega arith in
    (h.0, continues-append (n + length x.records) xs ys h.1 (subst (λ (m : ℕ). ContinuesFrom m ys) z k))

data_count-append : (bs cs : List Batch) → data_count (bs ++ cs) ≡ data_count bs + data_count cs
data_count-append [] cs = omega arith
data_count-append (b ∷ bs) cs = let e = data_count-append bs cs in omega (arith, e)

-- what is known of the batches of both
keeps_both : (bs cs : List Batch) (f g r : Front) → g.begin ≡ f.next → r.begin ≡ f.begin → r.next ≡ g.next → r.batches ≡ f.batches + g.batches → r.markers.items ≡ f.markers.items ++ g.markers.items → IsRunOf (bs ++ cs) r.run
    → KeepsFront bs f → KeepsFront cs g → KeepsFront (bs ++ cs) r
keeps_both bs cs f g r joint begin next counted markers run h k = record {
  next = let a = records_in-append bs cs in let p = h.next in let q = k.next in omega (arith, a, p, q, next, joint, begin);
  fits = let e = k.fits in omega (arith, next, e);
  counted = let l = length-append bs cs in let p = h.counted in let q = k.counted in omega (arith, counted, l, p, q);
  markers = markers ∙ (ap (λ (ms : List Marker). ms ++ g.markers.items) h.markers ∙ (ap (λ (ms : List Marker). markers_of bs ++ ms) k.markers ∙ sym (markers_of-append bs cs)));
  run = run;
}

-- the second goes on where the first ends
pub along_both : (bs cs : List Batch) (f g r : Front) → g.begin ≡ f.next → r.begin ≡ f.begin → r.next ≡ g.next → r.batches ≡ f.batches + g.batches → r.markers.items ≡ f.markers.items ++ g.markers.items → IsRunOf (bs ++ cs) r.run
    → GoesAlong bs f → GoesAlong cs g → GoesAlong (bs ++ cs) r
along_both bs cs f g r joint begin next counted markers run h k = record {
  keeps = keeps_both bs cs f g r joint begin next counted markers run h.keeps k.keeps;
  continuous = subst (λ (n : ℕ). ContinuesFrom n (bs ++ cs)) (sym begin) (continues-append f.begin bs cs h.continuous (subst (λ (n : ℕ). ContinuesFrom n cs) (joint ∙ h.keeps.next) k.continuous));
}

pub each_both : {K : Type 0} (f g r : Front) (ks ls ms : List K) → ms ≡ ks ++ ls → ((bs cs : List Batch) → GoesAlong bs f → GoesAlong cs g → GoesAlong (bs ++ cs) r) → HoldsEach f ks → HoldsEach g ls → HoldsEach r ms
each_both f g r ks ls ms e along h k = record {
  batches = h.batches ++ k.batches;
  along = along h.batches k.batches h.along k.along;
  each = let m = ap length e in let l = length-append ks ls in let d = data_count-append h.batches k.batches in let p = h.each in let q = k.each in omega (arith, m, l, d, p, q);
}

-- ---- of segments

-- a segment of another name comes
pub stops_between : (xs ys : List Segment) (bs cs : List Batch) (f g r : Front) → f.stop ≡ AtEnd → g.begin ≢ f.next → r.begin ≡ f.begin → r.next ≡ f.next → r.batches ≡ f.batches → r.stop ≡ Elsewhere g.begin → r.markers ≡ f.markers → r.epochs ≡ f.epochs → r.run ≡ f.run
    → IsFrontOf xs bs f → IsFrontOf ys cs g → IsFrontOf (xs ++ ys) bs r
stops_between xs ys bs cs f g r end ne begin next counted stop markers epochs run h k = record {
  begins = subst (λ (n : ℕ). BeginsAt (xs ++ ys) n) (sym begin) (begins_more xs ys f.begin h.begins);
  sequenced = subst (λ (x : Run). AreChecked (xs ++ ys) x.sequenced) (sym run) (checked_more xs ys f.run.sequenced h.sequenced);
  front =
      let a : IsFront f.begin xs bs AtEnd = subst (λ (st : Stop). IsFront f.begin xs bs st) end h.front in
      let b : IsFront (f.begin + records_in bs) ys [] (Elsewhere g.begin) = other_name (f.begin + records_in bs) ys g.begin k.begins (λ e. ne (e ∙ sym h.keeps.next)) in
      let both = front_goes f.begin xs ys bs [] (Elsewhere g.begin) a b in
      subst (λ (n : ℕ). IsFront n (xs ++ ys) bs r.stop) (sym begin) (subst (λ (st : Stop). IsFront f.begin (xs ++ ys) bs st) (sym stop) (subst (λ (ds : List Batch). IsFront f.begin (xs ++ ys) ds (Elsewhere g.begin)) (append-nil bs) both));
  keeps = keeps_same bs f r begin next counted markers run h.keeps;
  epochs = ap (λ es. es.items) epochs ∙ h.epochs;
}

-- the second goes on where the first ends
pub goes_on : (xs ys : List Segment) (bs cs : List Batch) (f g r : Front) → f.stop ≡ AtEnd → g.begin ≡ f.next → r.begin ≡ f.begin → r.next ≡ g.next → r.batches ≡ f.batches + g.batches → r.stop ≡ g.stop → r.markers.items ≡ f.markers.items ++ g.markers.items
    → r.epochs.items ≡ f.epochs.items ++ entries_behind (epoch_behind None f.epochs.items) g.epochs.items → r.run.sequenced ≡ f.run.sequenced → IsRunOf (bs ++ cs) r.run → IsFrontOf xs bs f → IsFrontOf ys cs g → IsFrontOf (xs ++ ys) (bs ++ cs) r
goes_on xs ys bs cs f g r end joint begin next counted stop markers epochs sequenced run h k = record {
  begins = subst (λ (n : ℕ). BeginsAt (xs ++ ys) n) (sym begin) (begins_more xs ys f.begin h.begins);
  sequenced = subst (λ (b : Bool). AreChecked (xs ++ ys) b) (sym sequenced) (checked_more xs ys f.run.sequenced h.sequenced);
  front =
      let a : IsFront f.begin xs bs AtEnd = subst (λ (st : Stop). IsFront f.begin xs bs st) end h.front in
      let b : IsFront (f.begin + records_in bs) ys cs g.stop = subst (λ (n : ℕ). IsFront n ys cs g.stop) (joint ∙ h.keeps.next) k.front in
      subst (λ (n : ℕ). IsFront n (xs ++ ys) (bs ++ cs) r.stop) (sym begin) (subst (λ (st : Stop). IsFront f.begin (xs ++ ys) (bs ++ cs) st) (sym stop) (front_goes f.begin xs ys bs cs g.stop a b));
  keeps = keeps_both bs cs f g r joint begin next counted markers run h.keeps k.keeps;
  epochs = epochs ∙ entries_both bs cs f.epochs.items g.epochs.items h.epochs k.epochs;
}

alone : (at : ℕ) (st : Stop) (bs : List Batch) → GoesOn st bs (λ os. IsFront at [] os st) bs st
alone at AtEnd bs = ([], sym (append-nil bs), (refl, refl))
alone at (NoBatch s b f) bs = (refl, refl)
alone at (Elsewhere n) bs = (refl, refl)

-- one segment
pub of_one : (x : Segment) (bs : List Batch) (f : Front) → f.begin ≡ base_of x → f.run.sequenced ≡ is_checked x → IsSegmentFront f.begin x.bytes bs f.stop → KeepsFront bs f → f.epochs.items ≡ epoch_entries None bs → IsFrontOf (x ∷ []) bs f
of_one x bs f begins checked front keeps epochs = record {
  begins = sym begins;
  sequenced = checked;
  front = inr (sym begins, bs, f.stop, front, alone (f.begin + records_in bs) f.stop bs);
  keeps = keeps;
  epochs = epochs;
}

-- ---- what is kept

pub kept_joined : {K : Type 0} (keep : ℕ → Record → K) (bs cs : List Batch) (ks ls ms : List K) → ks ≡ kept_of keep bs → ls ≡ kept_of keep cs → ms ≡ ks ++ ls → ms ≡ kept_of keep (bs ++ cs)
kept_joined {K} keep bs cs ks ls ms e f g = g ∙ (ap (λ (xs : List K). xs ++ ls) e ∙ (ap (λ (xs : List K). kept_of keep bs ++ xs) f ∙ sym (flat_map-append (kept_in keep) bs cs)))

pub kept_before : {K : Type 0} (keep : ℕ → Record → K) (xs ys : List Segment) (v w : KeptView K) (sizes : Sizes) → v.front.stop ≢ AtEnd → (AreSized xs v.sizes → AreSized ys w.sizes → AreSized (xs ++ ys) sizes) → IsKept keep xs v → IsKept keep ys w
    → IsKept keep (xs ++ ys) (record { front = v.front; kept = v.kept; sizes = sizes })
kept_before keep xs ys v w sizes ne sized h k = record { batches = h.batches; front = stops_before xs ys h.batches v.front ne h.front; kept = h.kept; sizes = sized h.sizes k.sizes }

pub kept_between : {K : Type 0} (keep : ℕ → Record → K) (xs ys : List Segment) (v w r : KeptView K) → v.front.stop ≡ AtEnd → w.front.begin ≢ v.front.next → r.front.begin ≡ v.front.begin → r.front.next ≡ v.front.next → r.front.batches ≡ v.front.batches → r.front.stop ≡ Elsewhere w.front.begin
    → r.front.markers ≡ v.front.markers → r.front.epochs ≡ v.front.epochs → r.front.run ≡ v.front.run → r.kept ≡ v.kept → (AreSized xs v.sizes → AreSized ys w.sizes → AreSized (xs ++ ys) r.sizes) → IsKept keep xs v → IsKept keep ys w → IsKept keep (xs ++ ys) r
kept_between keep xs ys v w r end ne begin next counted stop markers epochs run kept sized h k = record {
  batches = h.batches;
  front = stops_between xs ys h.batches k.batches v.front w.front r.front end ne begin next counted stop markers epochs run h.front k.front;
  kept = kept ∙ h.kept;
  sizes = sized h.sizes k.sizes;
}

pub kept_on : {K : Type 0} (keep : ℕ → Record → K) (xs ys : List Segment) (v w r : KeptView K) → ((bs cs : List Batch) → IsFrontOf xs bs v.front → IsFrontOf ys cs w.front → IsFrontOf (xs ++ ys) (bs ++ cs) r.front) → r.kept ≡ v.kept ++ w.kept
    → (AreSized xs v.sizes → AreSized ys w.sizes → AreSized (xs ++ ys) r.sizes) → IsKept keep xs v → IsKept keep ys w → IsKept keep (xs ++ ys) r
kept_on keep xs ys v w r front kept sized h k = record {
  batches = h.batches ++ k.batches;
  front = front h.batches k.batches h.front k.front;
  kept = kept_joined keep h.batches k.batches v.kept w.kept r.kept h.kept k.kept kept;
  sizes = sized h.sizes k.sizes;
}
