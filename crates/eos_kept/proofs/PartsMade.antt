-- A partition, made of the front of its segments and of what is kept of its records.
use Rattle.std.proofs.Common.{◌≡◌, ◌↔◌, ℕ, ℤ, List, [], ◌∷◌, map, not, Option, Some, None, refl, sym, ap, subst, ◌∙◌, arith}
use Rattle.std.specs.Prelude.{All}
use Rattle.eos_base.specs.Members.{Has}
use Rattle.eos_batch.specs.declared.batch.Batch.{Batch}
use Rattle.eos_batch.specs.declared.marker.Marker.{Marker}
use Rattle.eos_batch.specs.declared.record.Record.{Record}
use Rattle.eos_evidence.specs.declared.segment.Segment.{Segment}
use Rattle.eos_evidence.specs.declared.ends.End.{End}
use Rattle.eos_evidence.specs.Topics.{is_internal}
use Rattle.eos_touch.specs.declared.fault.PartitionFault.{PartitionFault}
use Rattle.eos_touch.specs.declared.fault.PartitionFaultKind.{PartitionFaultKind}
use Rattle.eos_touch.specs.declared.fault.PartitionFaultKind.TheVariants.{Pair}
use Rattle.eos_touch.specs.Front.{records_in as counted_in, ContinuesFrom}
use Rattle.eos_fold.specs.Heads.{DataHead}
use Rattle.eos_fold.specs.declared.item.Item.{Item}
use Rattle.eos_fold.specs.Items.{items_of}
use Rattle.eos_fold.specs.declared.fault.Fault.{Fault}
use Rattle.eos_fold.specs.Faults.{IsLeastOf}
use Rattle.eos_fold.specs.Settling.{data_in}
use Rattle.eos_fold.specs.BatchesWhole.{StandsInWhole, IsLeastOpen}
use Rattle.eos_fold.specs.declared.close.Close.{Close}
use Rattle.eos_fold.specs.Standing.{IsPartitionFault, AreOf}
use Rattle.eos_fold.specs.Sums.{AreChecked}
use Rattle.eos_fold.specs.Stops.{kind_at_stop}
use Rattle.eos_fold.specs.Parts.{AreCloses}
use Rattle.eos_fold.proofs.ClosesRead.{closes_read}
use Rattle.eos_fold.proofs.LeastInWhole.{touch_answer, kind_answer, none_answer}
use Rattle.eos_fold.proofs.RisingItems.{items_rise}
use Rattle.eos_fold.proofs.SteadyFronts.{IsSteady, front_steady}
use Rattle.eos_kept.specs.Runs.{heads_of, IsRunOf}
use Rattle.eos_kept.specs.declared.front.Front.{Front}
use Rattle.eos_kept.specs.declared.sizes.Sizes.{Sizes}
use Rattle.eos_kept.specs.Kept.{KeptView, IsKept}
use Rattle.eos_kept.specs.Sizes.{AreSized}
use Rattle.eos_claims.specs.Headers.{claim_of}
use Rattle.eos_reading.specs.declared.wanted.Wanted.{Wanted}
use Rattle.eos_reading.specs.declared.wanted.Wanted.TheVariants as wants
use Rattle.eos_reading.specs.Wanted.{wanted_item}
use Rattle.eos_reading.specs.Outputs.{KeptOutput, kept_output, claim_kept}
use Rattle.eos_reading.specs.Records.{record_of, wanted_record, ReadsBack}
use Rattle.eos_reading.proofs.ExactClaims.{exact_claim}
use Rattle.eos_reading.proofs.ClaimHeaders.{back}
use Rattle.eos_kept.specs.declared.records.Records.{Records}
use Rattle.eos_reading.specs.declared.epoch.EpochEntry.{EpochEntry}
use Rattle.eos_kept.specs.Parts.{HasBatches, HasEpochs, IsWantedPart}
use Rattle.eos_kept.specs.steps.Made.{AreKept}
use Rattle.eos_kept.specs.steps.Closes.{closes_under}
use Rattle.eos_kept.specs.steps.Fronts.{AreRead, IsWholeFront, AreWhole, IsChecked, IsApart}
use Rattle.eos_kept.specs.declared.kept_run.KeptRun.{KeptRun}
use Rattle.eos_kept.specs.declared.kept_run.KeptRun.TheVariants.{Presence, Claims, Texts}
use Rattle.eos_kept.specs.Items.{items_under}
use Rattle.eos_kept.specs.Records.{output_record, records_in, SaysClaim}
use Rattle.eos_kept.specs.KeptRuns.{IsKeptRun, HasClaims}
use Rattle.eos_kept.proofs.ItemsWanted.{items_wanted}
use Rattle.eos_kept.proofs.RecordsKept.{kept_records, kept_all, closes_told}
use Rattle.eos_kept.proofs.RecordsSaid.{wanted_said}

-- ---- the least fault

module _ (topic : List ℕ) (number end : ℤ) (segments : List Segment) (bs : List Batch) (f : Front) (h : IsWholeFront segments bs f) (checked : IsChecked topic f) where
  steady : IsSteady 0 bs
  steady = front_steady 0 segments bs f.stop h.front

  pub pair_told : (fault : Fault) (r : PartitionFault) → ((hs : List Batch) → IsRunOf hs f.run → IsLeastOf (StandsInWhole f.run.sequenced hs) (Some fault))
      → r.topic ≡ topic → r.partition ≡ number → r.offset ≡ fault.offset → r.kind ≡ Pair fault.kind fault.producer → IsPartitionFault topic number end bs f.stop (Some r)
  pair_told fault r least = touch_answer topic number end bs f.stop f.run.sequenced steady checked fault r (least bs h.keeps.run)

  next_is : f.next ≡ counted_in bs
  next_is = let n = h.keeps.next in let b = h.begin in omega (arith, n, b)

  pub kind_told : (left : Option ℤ) (kind : PartitionFaultKind) (r : PartitionFault) → ((hs : List Batch) → IsRunOf hs f.run → IsLeastOf (StandsInWhole f.run.sequenced hs) None)
      → ((hs : List Batch) → IsRunOf hs f.run → IsLeastOpen hs left) → Some kind ≡ kind_at_stop f.stop f.next end left
      → r.topic ≡ topic → r.partition ≡ number → r.offset ≡ f.next → r.kind ≡ kind → IsPartitionFault topic number end bs f.stop (Some r)
  kind_told left kind r none least = kind_answer topic number end bs f.stop f.run.sequenced steady checked f.next left kind r (none bs h.keeps.run) (least bs h.keeps.run) next_is

  pub none_told : (left : Option ℤ) → ((hs : List Batch) → IsRunOf hs f.run → IsLeastOf (StandsInWhole f.run.sequenced hs) None)
      → ((hs : List Batch) → IsRunOf hs f.run → IsLeastOpen hs left) → None ≡ kind_at_stop f.stop f.next end left → IsPartitionFault topic number end bs f.stop None
  none_told left none least = none_answer topic number end bs f.stop f.run.sequenced steady checked f.next left (none bs h.keeps.run) (least bs h.keeps.run) next_is

-- ---- the front of all segments

pub checked_as : (topic : List ℕ) (number : ℤ) (segments : List Segment) (f : Front) → AreChecked segments f.run.sequenced → AreOf topic number segments → IsChecked topic f
checked_as topic number [] f c of = absurd c
checked_as topic number (s ∷ ss) f c of = c ∙ ap (λ (t : List ℕ). not (is_internal t)) (of 0 s (omega arith)).0

-- ---- what a part holds

module _ (w : Wanted) (segments : List Segment) (f : Front) (kept : Records) (m : AreWhole w segments f kept) (heads : List DataHead) (are : heads ≡ f.run.heads.list) where
  all_heads : heads ≡ heads_of (data_in m.batches)
  all_heads = are ∙ m.whole.keeps.run.heads

  continues : ContinuesFrom 0 m.batches
  continues = (front_steady 0 segments m.batches f.stop m.whole.front).continuous

  items_told : items_under heads 0 (records_in kept) ≡ map (wanted_item w) (items_of (data_in m.batches))
  items_told =
      ap (λ (hs : List DataHead). items_under hs 0 (records_in kept)) all_heads
      ∙ (ap (λ (rs : List Record). items_under (heads_of (data_in m.batches)) 0 rs) m.wanted
      ∙ items_wanted w (data_in m.batches))

  pub part_made : (end : End) (closes : List Close) (markers : List Marker) (fault : Option PartitionFault) → AreCloses (closes_under heads) closes → markers ≡ f.markers.items
      → IsPartitionFault end.topic end.partition end.end m.batches f.stop fault
      → IsWantedPart w end segments (record { topic = end.topic; number = end.partition; end = end.end; segments = []; items = items_under heads 0 (records_in kept); closes = closes; markers = markers }) fault
  part_made end closes markers fault are_closes marked least = record {
    log = record { topic = end.topic; number = end.partition; end = end.end; segments = segments; items = items_of (data_in m.batches); closes = closes; markers = markers };
    of = record {
      batches = m.batches;
      stop = f.stop;
      front = m.whole.front;
      log = record {
        of_topic = refl;
        of_number = refl;
        until = refl;
        of_segments = refl;
        items = refl;
        markers = marked ∙ m.whole.keeps.markers;
        closes = subst (λ (all : List Close). (close : Close) → Has closes close ↔ Has all close) (ap closes_under all_heads ∙ (closes_told (data_in m.batches) ∙ closes_read m.batches)) are_closes.members;
      };
      rises = items_rise 0 m.batches continues;
      ascends = are_closes.ascend;
    };
    wanted = ap (λ (xs : List Item). record { topic = end.topic; number = end.partition; end = end.end; segments = []; items = xs; closes = closes; markers = markers }) items_told;
    least = record { batches = m.batches; stop = f.stop; front = m.whole.front; least = least };
  }

  pub batches_told : (count : ℕ) → count ≡ f.batches → HasBatches segments count
  batches_told count e = record { batches = m.batches; stop = f.stop; front = m.whole.front; counted = e ∙ m.whole.keeps.counted }

  pub epochs_told : (entries : List EpochEntry) → entries ≡ f.epochs.items → HasEpochs segments entries
  epochs_told entries e = record { batches = m.batches; stop = f.stop; front = m.whole.front; changes = e ∙ m.whole.epochs }

-- ---- what is kept of segments, taken apart

pub read_of : {K : Type 0} (w : Wanted) (keep : ℕ → Record → K) (f : K → Record) → ((n : ℕ) (r : Record) → f (keep n r) ≡ wanted_record w r)
    → (segments : List Segment) (run : Option (KeptView K)) (front : Option Front) (items : List K) (sizes : Sizes) (kept : Records) → IsApart run front items sizes → records_in kept ≡ map f items → AreKept keep segments run → AreRead w segments front kept
read_of {K} w keep f h segments None front items sizes kept a e k = subst (λ (o : Option Front). AreRead w segments o kept) (sym a.0) (k, e ∙ ap (map f) a.1)
read_of {K} w keep f h segments (Some v) front items sizes kept a e k =
    subst (λ (o : Option Front). AreRead w segments o kept) (sym a.0)
    (k.batches, k.front, e ∙ (ap (map f) a.1 ∙ (ap (map f) k.kept ∙ kept_records keep w f h k.batches)))

pub all_kept : {K : Type 0} (keep : ℕ → Record → K) (P : K → Type 0) → ((n : ℕ) (r : Record) → P (keep n r)) → (segments : List Segment) (v : KeptView K) → IsKept keep segments v → All P v.kept
all_kept {K} keep P h segments v k = subst (λ (xs : List K). All P xs) (sym k.kept) (kept_all keep P h k.batches)

pub sized_of : {K : Type 0} (keep : ℕ → Record → K) (segments : List Segment) (run : Option (KeptView K)) (front : Option Front) (items : List K) (sizes : Sizes) → IsApart run front items sizes → AreKept keep segments run → AreSized segments sizes
sized_of keep segments None front items sizes a k = subst (λ (ss : List Segment). AreSized ss sizes) (sym k) a.2
sized_of keep segments (Some v) front items sizes a k = subst (λ (s : Sizes). AreSized segments s) (sym a.2) k.sizes

pub map_same : {X : Type 0} (xs : List X) → map (λ (x : X). x) xs ≡ xs
map_same [] = refl
map_same {X} (x ∷ xs) = ap (λ (ys : List X). x ∷ ys) (map_same xs)

-- ---- the three kinds of wanting

pub presence_read : (segments : List Segment) (run : Option (KeptView (Unit {0}))) (front : Option Front) (items : List (Unit {0})) (sizes : Sizes) (kept : Records) → IsApart run front items sizes
    → records_in kept ≡ map (λ (one : Unit {0}). record_of None None None) items → AreKept (λ (n : ℕ) (r : Record). tt) segments run → AreRead wants.Presence segments front kept
presence_read = read_of wants.Presence (λ (n : ℕ) (r : Record). tt) (λ (one : Unit {0}). record_of None None None) (λ n r. refl)

module _ (topics : List (List ℕ)) where
  pub outputs_read : (segments : List Segment) (run : Option (KeptView KeptOutput)) (front : Option Front) (items : List KeptOutput) (sizes : Sizes) (kept : Records) → IsApart run front items sizes
      → records_in kept ≡ map (output_record topics) items → AreKept (λ (n : ℕ) (r : Record). kept_output topics (claim_of r.headers)) segments run → AreRead wants.Claims segments front kept
  outputs_read = read_of wants.Claims (λ (n : ℕ) (r : Record). kept_output topics (claim_of r.headers)) (output_record topics) (λ n r. ap (record_of None None) (exact_claim topics (claim_of r.headers)))

pub texts_read : (segments : List Segment) (run : Option (KeptView Record)) (front : Option Front) (items : List Record) (sizes : Sizes) (kept : Records) → IsApart run front items sizes
    → records_in kept ≡ items → AreKept (λ (n : ℕ) (r : Record). wanted_record wants.Texts r) segments run → AreRead wants.Texts segments front kept
texts_read segments run front items sizes kept a e k = read_of wants.Texts (λ (n : ℕ) (r : Record). wanted_record wants.Texts r) (λ (r : Record). r) (λ n r. refl) segments run front items sizes kept a (e ∙ sym (map_same items)) k

-- what is kept of segments has claims that were read
pub run_claims : (topics : List (List ℕ)) (segments : List Segment) (run : KeptRun) → IsKeptRun topics segments run → HasClaims topics run
run_claims topics segments (Presence kept) k = tt
run_claims topics segments (Claims kept) k =
    all_kept (λ (n : ℕ) (r : Record). kept_output topics (claim_of r.headers)) (λ (one : KeptOutput). ReadsBack (claim_kept topics one)) (λ n r. subst ReadsBack (sym (exact_claim topics (claim_of r.headers))) (back r.headers)) segments kept k
run_claims topics segments (Texts kept) k = all_kept (λ (n : ℕ) (r : Record). wanted_record wants.Texts r) SaysClaim (λ n r. wanted_said wants.Texts r) segments kept k
