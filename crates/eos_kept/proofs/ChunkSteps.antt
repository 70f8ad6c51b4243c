-- A segment's front: one chunk more, and the end.
use Rattle.std.proofs.Common.{◌≡◌, ◌≢◌, ◌⊎◌, inl, inr, ℕ, ◌+◌, ◌-◌, None, Bool, List, [], ◌∷◌, ◌++◌, length, take, drop, Err, refl, sym, ap, subst, ◌∙◌, append_assoc, arith}
use Rattle.std.proofs.lemmas.List.{length-append, length-drop, nil_from_length}
use Rattle.std.proofs.lemmas.Grind.{flat_map-append}
use Rattle.eos_batch.specs.declared.batch.Batch.{Batch}
use Rattle.eos_batch.specs.declared.head.BatchHead.{BatchHead}
use Rattle.eos_batch.specs.declared.record.Record.{Record}
use Rattle.eos_batch.specs.declared.fault.BatchFault.{BatchFault}
use Rattle.eos_batch.specs.declared.fault.BatchFault.TheVariants as faults
use Rattle.eos_batch.specs.Offsets.{offset_of}
use Rattle.eos_batch.specs.Reading.{batch_at}
use Rattle.eos_batch.specs.Segment.{Splits}
use Rattle.eos_fold.proofs.MoreBytes.{batch_more, batch_none}
use Rattle.eos_fold.proofs.MoreSplits.{splits_more, splits_join}
use Rattle.eos_evidence.specs.declared.segment.Segment.{Segment}
use Rattle.eos_touch.specs.Front.{records_in}
use Rattle.eos_fold.specs.declared.stop.Stop.{Stop}
use Rattle.eos_fold.specs.declared.stop.Stop.TheVariants.{AtEnd, NoBatch, Elsewhere}
use Rattle.eos_fold.specs.Fronts.{base_of, StopsAt}
use Rattle.eos_fold.specs.Sums.{is_checked}
use Rattle.eos_reading.specs.declared.epoch.EpochEntry.{EpochEntry}
use Rattle.eos_reading.specs.declared.seals.Seal.{Seal}
use Rattle.eos_reading.specs.Epochs.{epoch_entries, epoch_behind}
use Rattle.eos_reading.specs.Heads.{HasHeads}
use Rattle.eos_reading.specs.Kept.{kept_in, kept_of}
use Rattle.eos_reading.specs.Runs as read
use Rattle.eos_reading.specs.Seals.{AreSeals, entries_of}
use Rattle.eos_reading.proofs.EpochLists.{entries_on}
use Rattle.eos_reading.proofs.KeptLists.{taken_back}
use Rattle.eos_reading.proofs.SealSteps.{seals_taken, entries_are}
use Rattle.eos_kept.specs.declared.run.Run.{Run}
use Rattle.eos_kept.specs.declared.front.Front.{Front}
use Rattle.eos_kept.specs.Kept.{KeptView, IsKept}
use Rattle.eos_kept.specs.Sizes.{AreSized}
use Rattle.eos_kept.specs.Passing.{GoesAlong, data_count, HoldsEach}
use Rattle.eos_kept.specs.steps.Passing.{EndsBefore, Passes}
use Rattle.eos_kept.specs.steps.Folding.{FoldView, IsOpenAt, IsFolding, EndsAt, CutsAt}
use Rattle.eos_kept.proofs.PassedHeads.{parted, as_many, left_none, left_next, kept_of-length}
use Rattle.eos_kept.proofs.JoinedKept.{same_along, kept_joined, of_one}

end_elsewhere : (n : ℕ) → AtEnd ≡ Elsewhere n → ⊥
end_elsewhere n e = cc

no_bytes : (rest : List ℕ) (fault : BatchFault) → batch_at rest ≡ Err fault → fault ≢ faults.Truncated → rest ≢ []
no_bytes rest fault e ne none = ne (let both : Err fault ≡ Err faults.Truncated = sym e ∙ (ap batch_at none ∙ batch_none) in cc)

-- why the front ends behind a chunk, or that it may go on
opened : (mid rest fed : List ℕ) (others : List Batch) (hs : List BatchHead) (f g : Front) (place : ℕ) (fault : BatchFault) → HasHeads mid others hs rest → EndsBefore others f.stop f.next → EndsAt place fault f g
    → batch_at rest ≡ Err fault → place + length rest ≡ length fed → IsOpenAt g.stop g place fed mid rest
opened mid rest fed [] hs f g place fault left ends at e n = by_stop at.stop
  where
    same : mid ≡ rest
    same = left_none mid hs rest left

    there : batch_at mid ≡ Err fault
    there = ap batch_at same ∙ e

    number : place + length mid ≡ length fed
    number = let l = ap length same in omega (arith, l, n)

    by_stop : ((f.stop ≢ AtEnd) × (g.stop ≡ f.stop)) ⊎ (((fault ≡ faults.Truncated) × (g.stop ≡ f.stop)) ⊎ ((f.stop ≡ AtEnd) × (fault ≢ faults.Truncated) × (g.stop ≡ NoBatch f.begin place fault))) → IsOpenAt g.stop g place fed mid rest
    by_stop (inl x) = absurd (x.0 ends)
    by_stop (inr (inl x)) = subst (λ (st : Stop). IsOpenAt st g place fed mid rest) (sym (x.1 ∙ ends)) (sym same, there ∙ ap (λ (k : BatchFault). Err k) x.0, number)
    by_stop (inr (inr x)) = subst (λ (st : Stop). IsOpenAt st g place fed mid rest) (sym x.2) ((no_bytes mid fault there x.1, there, sym at.begin, number), x.1)
opened mid rest fed (b ∷ bs) hs f g place fault left ends at e n = by_stop at.stop
  where
    elsewhere : g.stop ≡ f.stop → IsOpenAt g.stop g place fed mid rest
    elsewhere same = subst (λ (st : Stop). IsOpenAt st g place fed mid rest) (sym (same ∙ ends.0)) (b, left_next mid b bs hs rest left, refl, λ q. ends.1 (q ∙ at.next))

    by_stop : ((f.stop ≢ AtEnd) × (g.stop ≡ f.stop)) ⊎ (((fault ≡ faults.Truncated) × (g.stop ≡ f.stop)) ⊎ ((f.stop ≡ AtEnd) × (fault ≢ faults.Truncated) × (g.stop ≡ NoBatch f.begin place fault))) → IsOpenAt g.stop g place fed mid rest
    by_stop (inl x) = elsewhere x.1
    by_stop (inr (inl x)) = elsewhere x.1
    by_stop (inr (inr x)) = absurd (end_elsewhere (offset_of b) (sym x.0 ∙ ends.0))

-- as much is kept as was passed
pub kept_passed : {K : Type 0} (keep : ℕ → Record → K) (bs passed others : List Batch) (kept after : List K) (count : ℕ) → bs ≡ passed ++ others → after ≡ kept ++ kept_of keep bs → count ≡ data_count passed
    → (take (length kept + count) after ≡ kept ++ kept_of keep passed) × (length after ≡ length kept + count + length (kept_of keep others))
kept_passed {K} keep bs passed others kept after count parts is number =
    let all : after ≡ (kept ++ kept_of keep passed) ++ kept_of keep others = is ∙ (ap (λ (cs : List Batch). kept ++ kept_of keep cs) parts ∙ (ap (λ (ks : List K). kept ++ ks) (flat_map-append (kept_in keep) passed others) ∙ sym (append_assoc kept (kept_of keep passed) (kept_of keep others)))) in
    let a = length-append kept (kept_of keep passed) in
    let b = kept_of-length keep passed in
    let c = length-append (kept ++ kept_of keep passed) (kept_of keep others) in
    let d = ap length all in (
      taken_back (kept ++ kept_of keep passed) after (kept_of keep others) (length kept + count) (omega (arith, a, b, number)) all,
      omega (arith, a, b, c, d, number),
    )

-- the leader epochs of the batches that were passed, by the seals of all
pub epochs_passed : (buffer left : List ℕ) (bs passed others : List Batch) (hs : List BatchHead) (seals : List Seal) (before now : ℕ) (es fs : List EpochEntry) → HasHeads buffer (passed ++ others) hs left → AreSeals buffer hs seals → before ≡ length bs
    → now ≡ length (bs ++ passed) → es ≡ epoch_entries None bs → fs ≡ es ++ entries_of (epoch_behind None es) (take (now - before) seals) → fs ≡ epoch_entries None (bs ++ passed)
epochs_passed buffer left bs passed others hs seals before now es fs reads sealed old new are is =
    let p = parted buffer passed others hs left reads in
    let few : now - before ≡ length p.first = let a = length-append bs passed in let b = as_many buffer passed p.first p.mid p.front in omega (arith, old, new, a, b) in
    let of = seals_taken buffer p.first p.more seals (now - before) few (subst (λ (gs : List BatchHead). AreSeals buffer gs seals) p.heads sealed) in
    let same : entries_of (epoch_behind None es) (take (now - before) seals) ≡ epoch_entries (epoch_behind None es) passed =
    entries_are buffer passed p.first p.mid (take (now - before) seals) (epoch_behind None es) p.front of in
    is ∙ (ap (λ (xs : List EpochEntry). es ++ xs) same ∙ entries_on bs passed es are)

pub chunk : {K : Type 0} (keep : ℕ → Record → K) (begin : ℕ) (sequenced : Bool) (fed waiting more buffer : List ℕ) (v w : FoldView K) (front : Front) (hs : List BatchHead) (kept : List K) (seals : List Seal) (taken count : ℕ) (fault : BatchFault)
    → buffer ≡ waiting ++ more → v.front.stop ≡ AtEnd → (run : read.IsRun keep buffer [] hs v.kept kept taken fault) → Passes run.batches v.front front count → front.begin ≡ v.front.begin → front.run.sequenced ≡ v.front.run.sequenced
    → w.kept ≡ take (length v.kept + count) kept → w.place ≡ v.place + taken → AreSeals buffer run.more seals
    → w.epochs ≡ v.epochs ++ entries_of (epoch_behind None v.epochs) (take (front.batches - v.front.batches) seals) → EndsAt w.place fault front w.front → IsFolding keep begin sequenced fed waiting v
    → IsFolding keep begin sequenced (fed ++ more) (drop taken buffer) w
chunk {K} keep begin sequenced fed waiting more buffer v w front hs kept seals taken count fault is end run p begins checked kept_is place sealed epochs at f =
    let o = subst (λ (st : Stop). IsOpenAt st v.front v.place fed f.rest waiting) end f.ends in
    let bytes : buffer ≡ f.rest ++ more = is ∙ ap (λ (xs : List ℕ). xs ++ more) o.0 in
    let before : Splits (fed ++ more) f.batches buffer = subst (λ (xs : List ℕ). Splits (fed ++ more) f.batches xs) (sym bytes) (splits_more fed f.batches f.rest more f.texts) in
    let reads : HasHeads buffer (p.passed ++ p.others) run.more (drop taken buffer) = subst (λ (bs : List Batch). HasHeads buffer bs run.more (drop taken buffer)) p.parts run.reads in
    let q = parted buffer p.passed p.others run.more (drop taken buffer) reads in
    let number : w.place + length (drop taken buffer) ≡ length (fed ++ more) =
    let a = length-drop taken buffer in let b = ap length bytes in let c = length-append f.rest more in let d = length-append fed more in let t = f.taken in let w = ap length is in let s = length-append waiting more in omega (arith, a, b, c, d, w, s, t, place, run.within) in
    record {
      begins = at.begin ∙ (begins ∙ f.begins);
      sequenced_is = ap (λ (r : Run). r.sequenced) at.run ∙ (checked ∙ f.sequenced_is);
      batches = f.batches ++ p.passed;
      rest = q.mid;
      texts = splits_join (fed ++ more) f.batches p.passed buffer q.mid before q.texts;
      along = same_along (f.batches ++ p.passed) front w.front at.begin at.next at.batches at.markers at.run (p.along f.batches f.along);
      epochs_are =
          epochs_passed buffer (drop taken buffer) f.batches p.passed p.others run.more seals v.front.batches front.batches v.epochs w.epochs reads sealed f.along.keeps.counted (p.along f.batches f.along).keeps.counted
          f.epochs_are epochs;
      kept_is = kept_joined keep f.batches p.passed v.kept (kept_of keep p.passed) w.kept f.kept_is refl (kept_is ∙ (kept_passed keep run.batches p.passed p.others v.kept kept count p.parts run.kept_is p.counted).0);
      taken = number;
      ends = opened q.mid (drop taken buffer) (fed ++ more) p.others q.more front w.front w.place fault q.left p.ends at run.ends number;
    }

-- ---- a front that has ended

still : (st : Stop) (f : Front) (place place' : ℕ) (fed more rest waiting left : List ℕ) → st ≢ AtEnd → IsOpenAt st f place fed rest waiting → IsOpenAt st f place' (fed ++ more) (rest ++ more) left
still AtEnd f place place' fed more rest waiting left ne o = absurd (ne refl)
still (NoBatch s b k) f place place' fed more rest waiting left ne o =
    let stays : batch_at rest ≢ Err faults.Truncated = λ q. o.1 (let both : Err k ≡ Err faults.Truncated = sym o.0.1 ∙ q in cc) in
    let there : batch_at (rest ++ more) ≡ Err k = batch_more rest more stays ∙ o.0.1 in (
      (
        no_bytes (rest ++ more) k there o.1,
        there,
        o.0.2,
        let a = length-append rest more in let c = length-append fed more in omega (arith, a, c, o.0.3),
      ),
      o.1,
    )
still (Elsewhere n) f place place' fed more rest waiting left ne o =
    (o.0, (o.1.0, o.1.1 ++ more, o.1.2, ap (λ (xs : List ℕ). xs ++ more) o.1.3 ∙ append_assoc o.1.0 o.1.1 more), o.2, o.3)

pub chunk_behind : {K : Type 0} (keep : ℕ → Record → K) (begin : ℕ) (sequenced : Bool) (fed waiting more buffer : List ℕ) (v w : FoldView K) (taken : ℕ) → v.front.stop ≢ AtEnd → buffer ≡ waiting ++ more → taken ≡ length buffer
    → w.front ≡ v.front → w.epochs ≡ v.epochs → w.kept ≡ v.kept → w.place ≡ v.place + taken → IsFolding keep begin sequenced fed waiting v → IsFolding keep begin sequenced (fed ++ more) (drop taken buffer) w
chunk_behind {K} keep begin sequenced fed waiting more buffer v w taken ne is all front epochs kept place f = subst (λ (x : FoldView K). IsFolding keep begin sequenced (fed ++ more) (drop taken buffer) x) so (record {
  begins = f.begins;
  sequenced_is = f.sequenced_is;
  batches = f.batches;
  rest = f.rest ++ more;
  texts = splits_more fed f.batches f.rest more f.texts;
  along = f.along;
  epochs_are = f.epochs_are;
  kept_is = f.kept_is;
  taken = let a = length-drop taken buffer in let b = ap length is in let c = length-append waiting more in let d = length-append fed more in let t = f.taken in omega (arith, a, all, b, c, d, t);
  ends = still v.front.stop v.front v.place (v.place + taken) fed more f.rest waiting (drop taken buffer) ne f.ends;
})
  where
    so : ◌≡◌ {A = FoldView K} (record { front = v.front; epochs = v.epochs; kept = v.kept; place = v.place + taken }) (record { front = w.front; epochs = w.epochs; kept = w.kept; place = w.place })
    so = cc (front, epochs, kept, place)

-- ---- the first byte and the end

pub chunk_none : {K : Type 0} (keep : ℕ → Record → K) (begin : ℕ) (sequenced : Bool) (v : FoldView K) → v.front.begin ≡ begin → v.front.run.sequenced ≡ sequenced → v.front.stop ≡ AtEnd → GoesAlong [] v.front → v.epochs ≡ [] → v.kept ≡ [] → v.place ≡ 0
    → IsFolding keep begin sequenced [] [] v
chunk_none keep begin sequenced v begins checked stop along epochs kept place = record {
  begins = begins;
  sequenced_is = checked;
  batches = [];
  rest = [];
  texts = refl;
  along = along;
  epochs_are = epochs;
  kept_is = kept;
  taken = omega (arith, place);
  ends = subst (λ (st : Stop). IsOpenAt st v.front v.place [] [] []) (sym stop) (refl, batch_none, omega (arith, place));
}

stops_so : (st : Stop) (f : Front) (place : ℕ) (fed rest waiting : List ℕ) → (st ≡ AtEnd → waiting ≡ []) → IsOpenAt st f place fed rest waiting → StopsAt f.begin f.next fed rest st
stops_so AtEnd f place fed rest waiting none o = sym o.0 ∙ none refl
stops_so (NoBatch s b k) f place fed rest waiting none o = o.0
stops_so (Elsewhere n) f place fed rest waiting none o = o

module _ {K : Type 0} (keep : ℕ → Record → K) (segment : Segment) (waiting : List ℕ) (v : FoldView K) (w : KeptView K) (f : IsFolding keep (base_of segment) (is_checked segment) segment.bytes waiting v)
    (begin : w.front.begin ≡ v.front.begin) (next : w.front.next ≡ v.front.next) (counted : w.front.batches ≡ v.front.batches) (markers : w.front.markers ≡ v.front.markers) (run : w.front.run ≡ v.front.run) (epochs : w.front.epochs.items ≡ v.epochs) (kept : w.kept ≡ v.kept) (sizes : AreSized (segment ∷ []) w.sizes) where
  whole : StopsAt v.front.begin v.front.next segment.bytes f.rest w.front.stop → IsKept keep (segment ∷ []) w
  whole stops =
      let along = same_along f.batches v.front w.front begin next counted markers run f.along in
      let there : StopsAt w.front.begin (w.front.begin + records_in f.batches) segment.bytes f.rest w.front.stop =
      subst (λ (n : ℕ). StopsAt w.front.begin n segment.bytes f.rest w.front.stop) (sym next ∙ along.keeps.next) (subst (λ (n : ℕ). StopsAt n v.front.next segment.bytes f.rest w.front.stop) (sym begin) stops) in
      record {
        batches = f.batches;
        front = of_one segment f.batches w.front (begin ∙ f.begins) (ap (λ (r : Run). r.sequenced) run ∙ f.sequenced_is) (record { rest = f.rest; texts = f.texts; continuous = along.continuous; stops = there }) along.keeps (epochs ∙ f.epochs_are);
        kept = kept ∙ f.kept_is;
        sizes = sizes;
      }

  -- it ended before, or all its bytes are used
  pub ended : w.front.stop ≡ v.front.stop → (v.front.stop ≡ AtEnd → waiting ≡ []) → IsKept keep (segment ∷ []) w
  ended stop none = whole (subst (λ (st : Stop). StopsAt v.front.begin v.front.next segment.bytes f.rest st) (sym stop) (stops_so v.front.stop v.front v.place segment.bytes f.rest waiting none f.ends))

  -- its bytes end in a batch
  pub cut : w.front.stop ≡ NoBatch v.front.begin v.place faults.Truncated → v.front.stop ≡ AtEnd → waiting ≢ [] → IsKept keep (segment ∷ []) w
  cut stop end some =
      let o = subst (λ (st : Stop). IsOpenAt st v.front v.place segment.bytes f.rest waiting) end f.ends in
      whole (subst (λ (st : Stop). StopsAt v.front.begin v.front.next segment.bytes f.rest st) (sym stop) ((λ none. some (o.0 ∙ none)), o.1, refl, o.2))

pub finished : {K : Type 0} (keep : ℕ → Record → K) (segment : Segment) (rest : List ℕ) (waiting : ℕ) (v : FoldView K) (w : KeptView K) → length rest ≡ waiting → IsFolding keep (base_of segment) (is_checked segment) segment.bytes rest v
    → CutsAt v.place waiting v.front w.front → w.front.epochs.items ≡ v.epochs → w.kept ≡ v.kept → w.sizes.segments ≡ 1 → w.sizes.bytes ≡ v.place + waiting → IsKept keep (segment ∷ []) w
finished keep segment rest waiting v w len f c epochs kept one bytes = by_stop c.stop
  where
    sizes : AreSized (segment ∷ []) w.sizes
    sizes = record { counted = one; bytes_are = let t = f.taken in omega (arith, bytes, t, len) }

    by_stop : ((waiting ≡ 0) × (w.front.stop ≡ v.front.stop)) ⊎ (((v.front.stop ≢ AtEnd) × (w.front.stop ≡ v.front.stop)) ⊎ ((v.front.stop ≡ AtEnd) × (waiting ≢ 0) × (w.front.stop ≡ NoBatch v.front.begin v.place faults.Truncated))) → IsKept keep (segment ∷ []) w
    by_stop (inl x) = ended keep segment rest v w f c.begin c.next c.batches c.markers c.run epochs kept sizes x.1 (λ _. nil_from_length rest (len ∙ x.0))
    by_stop (inr (inl x)) = ended keep segment rest v w f c.begin c.next c.batches c.markers c.run epochs kept sizes x.1 (λ e. absurd (x.0 e))
    by_stop (inr (inr x)) = cut keep segment rest v w f c.begin c.next c.batches c.markers c.run epochs kept sizes x.2 x.0 (λ none. x.1 (sym len ∙ ap (λ (xs : List ℕ). length xs) none))

-- of what was folded a value is kept for each data record
pub folded_each : {K : Type 0} (keep : ℕ → Record → K) (begin : ℕ) (sequenced : Bool) (fed rest : List ℕ) (v : FoldView K) → IsFolding keep begin sequenced fed rest v → HoldsEach v.front v.kept
folded_each keep begin sequenced fed rest v f = record { batches = f.batches; along = f.along; each = ap length f.kept_is ∙ kept_of-length keep f.batches }
