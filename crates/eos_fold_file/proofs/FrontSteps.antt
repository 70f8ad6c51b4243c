-- The front of a log that was folded, and the fold of its segment.
use Rattle.std.proofs.Common.{◌≡◌, ℕ, ◌+◌, ◌<◌, ◌≤◌, ◌^◌, true, not, List, [], ◌∷◌, ◌++◌, length, map, take, flat_map, Option, Some, None, pos, refl, sym, ap, subst, ◌∙◌, arith}
use Rattle.std.specs.Prelude.{min, unsigned_abs}
use Rattle.std.specs.List.{list_all}
use Rattle.std.proofs.lemmas.Bool.{le-ltb}
use Rattle.std.proofs.lemmas.Grind.{flat_map-append}
use Rattle.std.proofs.lemmas.List.{length-map}
use Rattle.eos_batch.specs.declared.batch.Batch.{Batch}
use Rattle.eos_batch.specs.declared.fault.BatchFault.{BatchFault}
use Rattle.eos_batch.specs.declared.head.BatchHead.{BatchHead}
use Rattle.eos_batch.specs.declared.record.Record.{Record}
use Rattle.eos_batch.specs.Offsets.{offset_of}
use Rattle.eos_batch.specs.Segment as logs
use Rattle.eos_claims.specs.Headers.{claim_of}
use Rattle.eos_touch.specs.Front.{records_in, ContinuesFrom}
use Rattle.eos_touch.proofs.Continuity.{abs_pos, fits_on}
use Rattle.eos_fold.specs.declared.stop.Stop.{Stop}
use Rattle.eos_fold.specs.declared.stop.Stop.TheVariants.{NoBatch}
use Rattle.eos_fold.specs.Fronts.{StopsAt}
use Rattle.eos_reading.specs.steps.Fed.{WholeView, IsWhole}
use Rattle.eos_reading.specs.Heads.{HasHeads}
use Rattle.eos_reading.specs.Kept.{kept_in, kept_of}
use Rattle.eos_reading.specs.Seals.{AreSeals, entries_of}
use Rattle.eos_reading.proofs.KeptLists.{taken_back}
use Rattle.eos_reading.specs.Outputs.{KeptOutput, kept_output}
use Rattle.eos_reading.specs.Records.{wanted_record}
use Rattle.eos_reading.specs.declared.wanted.Wanted.TheVariants as wants
use Rattle.eos_fold_file.specs.declared.file.FoldFile.{FoldFile}
use Rattle.eos_fold_file.specs.declared.file.FoldKept.{FoldKept}
use Rattle.eos_fold_file.specs.declared.file.FoldKept.TheVariants.{Presence, Claims, Texts}
use Rattle.eos_fold_file.specs.declared.head.FoldHead.{FoldHead}
use Rattle.eos_fold_file.specs.Epochs.{are_entries}
use Rattle.eos_fold_file.specs.Files.{record_count, data_count, size_sum}
use Rattle.eos_fold_file.specs.Folds.{HasFoldHeads, fold_text_of, IsKeptOf, checksums_in}
use Rattle.eos_fold_file.specs.Stops.{is_inside}
use Rattle.eos_wire.specs.Crc.{crc32c_of}
use Rattle.eos_fold_file.specs.Heads.{fold_head}
use Rattle.eos_fold_file.specs.Records.{FoldText, is_placed}
use Rattle.eos_fold_file.specs.Legal.{IsRightStop, IsRightKept, IsRight}
use Rattle.eos_fold_file.specs.declared.front.Front.{Front}
use Rattle.eos_fold_file.specs.declared.pass.Passed.{Passed}
use Rattle.eos_reading.specs.declared.seals.Seal.{Seal}
use Rattle.eos_fold_file.specs.steps.Seals.{checksum_text}
use Rattle.eos_fold_file.specs.steps.Fronts.{stop_of, IsFront}
use Rattle.eos_fold_file.specs.steps.Passing.{AllFit, FollowFrom, EndsBefore, Passes}
use Rattle.eos_fold_file.proofs.EpochEntries.{entries_fit, sizes_are, stop_inside}
use Rattle.eos_reading.proofs.SealSteps.{seals_taken, entries_are}
use Rattle.eos_fold_file.proofs.SealSteps.{checksums_are}
use Rattle.eos_fold_file.proofs.HeadCounts.{kept_counted, records_counted, records_fit, all_possible}
use Rattle.eos_fold_file.proofs.PlacedClaims.{all_placed}
use Rattle.eos_fold_file.proofs.KeptMapped.{texts_kept}

pub heads_fit : (bytes : List ℕ) (bs : List Batch) (hs : List BatchHead) (rest : List ℕ) → HasHeads bytes bs hs rest → AllFit hs
heads_fit bytes [] [] rest s = tt
heads_fit bytes [] (h ∷ hs) rest s = absurd s
heads_fit bytes (b ∷ bs) [] rest s = absurd s
heads_fit bytes (b ∷ bs) (h ∷ hs) rest s =
    let le : offset_of b + length b.records ≤ 2 ^ 63 = fits_on b.base_offset (offset_of b) (length b.records) (abs_pos b.base_offset s.2.counted.first) s.2.counted.last in
    (subst (λ (x : BatchHead). x.offset + x.count ≤ 2 ^ 63) (sym s.4) le, heads_fit s.1 bs hs rest s.5)

-- ---- the batches that were passed, and the others

record Parted (at : ℕ) (bytes : List ℕ) (bs : List Batch) (passed others : List BatchHead) (rest : List ℕ) : Type 0 where
  pub front : List Batch
  pub left : List Batch
  pub parts : bs ≡ front ++ left
  pub mid : List ℕ
  pub heads : HasFoldHeads bytes front (map fold_head passed) mid
  pub real : HasHeads bytes front passed mid
  pub continuous : ContinuesFrom at front
  pub more : HasHeads mid left others rest

parted : (at : ℕ) (bytes : List ℕ) (bs : List Batch) (passed others : List BatchHead) (rest : List ℕ) → HasHeads bytes bs (passed ++ others) rest → FollowFrom at passed → Parted at bytes bs passed others rest
parted at bytes bs [] others rest s f = record { front = []; left = bs; parts = refl; mid = bytes; heads = refl; real = refl; continuous = tt; more = s }
parted at bytes [] (h ∷ hs) others rest s f = absurd s
parted at bytes (b ∷ bs) (h ∷ hs) others rest s f =
    let n : h.count ≡ length b.records = ap (λ (x : BatchHead). x.count) s.4 in
    let o : offset_of b ≡ at = sym (ap (λ (x : BatchHead). x.offset) s.4) ∙ f.0 in
    let p = parted (at + length b.records) s.1 bs hs others rest s.5 (subst (λ (m : ℕ). FollowFrom (at + m) hs) n f.1) in
    record {
      front = b ∷ p.front;
      left = p.left;
      parts = ap (λ (cs : List Batch). b ∷ cs) p.parts;
      mid = p.mid;
      heads = (s.0, s.1, s.2, s.3, ap fold_head s.4, p.heads);
      real = (s.0, s.1, s.2, s.3, s.4, p.real);
      continuous = (abs_pos b.base_offset s.2.counted.first ∙ ap pos o, p.continuous);
      more = p.more;
    }

-- ---- why the front ends

at_end : (begin : ℕ) (bytes mid rest : List ℕ) (next : ℕ) (stop : Option (ℕ × BatchFault)) → mid ≡ rest → logs.StopsAt bytes rest stop → StopsAt begin next bytes mid (stop_of begin None stop) × IsRightStop (stop_of begin None stop)
at_end begin bytes mid rest next None same s = (same ∙ s, tt)
at_end begin bytes mid rest next (Some stop) same s =
    subst (λ (xs : List ℕ). StopsAt begin next bytes xs (NoBatch begin stop.0 stop.1) × IsRightStop (NoBatch begin stop.0 stop.1)) (sym same) ((s.0, s.2, refl, s.1), s.3)

ends : (begin : ℕ) (bytes mid : List ℕ) (left : List Batch) (others : List BatchHead) (rest : List ℕ) (next : ℕ) (found : Option ℕ) (stop : Option (ℕ × BatchFault)) → HasHeads mid left others rest → EndsBefore others next found
    → logs.StopsAt bytes rest stop → StopsAt begin next bytes mid (stop_of begin found stop) × IsRightStop (stop_of begin found stop)
ends begin bytes mid [] [] rest next found stop s e at =
    subst (λ (f : Option ℕ). StopsAt begin next bytes mid (stop_of begin f stop) × IsRightStop (stop_of begin f stop)) (sym e) (at_end begin bytes mid rest next stop s at)
ends begin bytes mid [] (h ∷ hs) rest next found stop s e at = absurd s
ends begin bytes mid (b ∷ bs) [] rest next found stop s e at = absurd s
ends begin bytes mid (b ∷ bs) (h ∷ hs) rest next found stop s e at =
    let o : h.offset ≡ offset_of b = ap (λ (x : BatchHead). x.offset) s.4 in
    subst (λ (f : Option ℕ). StopsAt begin next bytes mid (stop_of begin f stop) × IsRightStop (stop_of begin f stop)) (sym e.0) ((b, (s.0, s.1, s.2, s.3), o, e.1), tt)

-- ---- the front

pub front_is : {K : Type 0} (keep : ℕ → Record → K) (begin : ℕ) (bytes : List ℕ) (v : WholeView K) (seals : List Seal) (p : Passed) (f : Front) (kept : List K) (n : ℕ) → length bytes < 2 ^ 64
    → IsWhole keep bytes v → AreSeals bytes v.heads seals → Passes begin v.heads p → n ≡ length p.heads → f.heads ≡ p.heads → f.epochs ≡ entries_of None (take n seals)
    → f.batches ≡ crc32c_of (flat_map checksum_text (take n seals)) → f.stop ≡ stop_of begin p.found v.stop → f.bytes ≡ v.bytes → kept ≡ take p.records v.kept → IsFront begin bytes (λ bs. kept ≡ kept_of keep bs) f
front_is {K} keep begin bytes v seals p f kept n small folded sealed passes count heads epochs checked stop sized cut =
    let w = parted begin bytes folded.batches passes.passed passes.others folded.rest (subst (λ (hs : List BatchHead). HasHeads bytes folded.batches hs folded.rest) passes.parts folded.heads_are) passes.follow in
    let are : HasFoldHeads bytes w.front p.heads w.mid = subst (λ (hs : List FoldHead). HasFoldHeads bytes w.front hs w.mid) (sym passes.heads_are) w.heads in
    let few : n ≡ length passes.passed = count ∙ (ap length passes.heads_are ∙ length-map passes.passed fold_head) in
    let seals_are : AreSeals bytes passes.passed (take n seals) = seals_taken bytes passes.passed passes.others seals n few (subst (λ (hs : List BatchHead). AreSeals bytes hs seals) passes.parts sealed) in
    let fields = checksums_are bytes w.front passes.passed w.mid (take n seals) w.real seals_are in
    let records : records_in w.front ≡ record_count p.heads = records_counted bytes w.front p.heads w.mid are in
    let end = ends begin bytes w.mid w.left passes.others folded.rest (begin + record_count p.heads) p.found v.stop w.more passes.ends folded.stops in
    let number : p.records ≡ length (kept_of keep w.front) = passes.counted ∙ sym (kept_counted keep bytes w.front p.heads w.mid are) in
    let all : v.kept ≡ kept_of keep w.front ++ kept_of keep w.left = folded.kept_is ∙ (ap (kept_of keep) w.parts ∙ flat_map-append (kept_in keep) w.front w.left) in
    record {
      batches = w.front;
      rest = w.mid;
      heads_are = subst (λ (hs : List FoldHead). HasFoldHeads bytes w.front hs w.mid) (sym heads) are;
      continuous = w.continuous;
      epochs_are = epochs ∙ entries_are bytes w.front passes.passed w.mid (take n seals) None w.real seals_are;
      checked = checked ∙ ap crc32c_of (fields ∙ ap (checksums_in bytes) (sym (heads ∙ passes.heads_are)));
      stops = subst (λ (n : ℕ). StopsAt begin (begin + n) bytes w.mid f.stop) (sym records) (subst (λ (st : Stop). StopsAt begin (begin + record_count p.heads) bytes w.mid st) (sym stop) end.0);
      right = subst IsRightStop (sym stop) end.1;
      kept_is = cut ∙ taken_back (kept_of keep w.front) v.kept (kept_of keep w.left) p.records number all;
      sized = sized ∙ folded.sized small;
    }

-- what is kept of claims, with a copy of the topics
pub claims_front : (asked topics : List (List ℕ)) (outputs kept : List KeptOutput) (begin : ℕ) (bytes : List ℕ) (f : Front) → topics ≡ asked → kept ≡ outputs
    → IsFront begin bytes (λ bs. outputs ≡ kept_of (λ offset r. kept_output asked (claim_of r.headers)) bs) f → IsFront begin bytes (λ bs. IsKeptOf bs (Claims topics kept)) f
claims_front asked topics outputs kept begin bytes f same are h = record {
  batches = h.batches;
  rest = h.rest;
  heads_are = h.heads_are;
  continuous = h.continuous;
  epochs_are = h.epochs_are;
  checked = h.checked;
  stops = h.stops;
  right = h.right;
  kept_is = are ∙ (h.kept_is ∙ ap (λ (ts : List (List ℕ)). kept_of (λ offset r. kept_output ts (claim_of r.headers)) h.batches) (sym same));
  sized = h.sized;
}

-- what is kept of texts, as a fold has it
pub texts_front : (records : List Record) (texts : List FoldText) (begin : ℕ) (bytes : List ℕ) (f : Front) → texts ≡ map fold_text_of records
    → IsFront begin bytes (λ bs. records ≡ kept_of (λ offset r. wanted_record wants.Texts r) bs) f → IsFront begin bytes (λ bs. IsKeptOf bs (Texts texts)) f
texts_front records texts begin bytes f are h = record {
  batches = h.batches;
  rest = h.rest;
  heads_are = h.heads_are;
  continuous = h.continuous;
  epochs_are = h.epochs_are;
  checked = h.checked;
  stops = h.stops;
  right = h.right;
  kept_is = texts_kept h.batches records texts are h.kept_is;
  sized = h.sized;
}

-- ---- the fold is right

kept_right : (k : FoldKept) (bytes : List ℕ) (bs : List Batch) (hs : List FoldHead) (rest : List ℕ) → HasFoldHeads bytes bs hs rest → IsKeptOf bs k → IsRightKept (data_count hs) k
kept_right Presence bytes bs hs rest s h = tt
kept_right (Claims topics outputs) bytes bs hs rest s h =
    (ap length h ∙ kept_counted _ bytes bs hs rest s, ap (list_all (is_placed (length topics))) h ∙ all_placed topics bs)
kept_right (Texts texts) bytes bs hs rest s h = ap length h ∙ kept_counted _ bytes bs hs rest s

pub fold_right : (fold : FoldFile) (begin : ℕ) (bytes : List ℕ) (f : Front) → begin ≡ unsigned_abs fold.base → begin ≤ 2 ^ 63 → length bytes ≤ 2 ^ 30 → fold.bytes ≡ f.bytes → fold.heads ≡ f.heads → fold.epochs ≡ f.epochs
    → fold.stop ≡ f.stop → IsFront begin bytes (λ bs. IsKeptOf bs fold.kept) f → IsRight fold
fold_right fold begin bytes f name le short size heads epochs stop h =
    let are : HasFoldHeads bytes h.batches fold.heads h.rest = subst (λ (hs : List FoldHead). HasFoldHeads bytes h.batches hs h.rest) (sym heads) h.heads_are in
    let count = records_counted bytes h.batches fold.heads h.rest are in
    let fit = records_fit begin bytes h.batches fold.heads h.rest le h.continuous are in
    let bytes_are : fold.bytes ≡ length bytes = size ∙ h.sized in
    let sizes = sizes_are bytes h.batches fold.heads h.rest are in
    let entries : are_entries begin None fold.heads fold.epochs ≡ true =
    ap (are_entries begin None fold.heads) (epochs ∙ h.epochs_are) ∙ entries_fit begin bytes h.batches fold.heads h.rest None are h.continuous in
    let stopped : StopsAt begin (begin + record_count fold.heads) bytes h.rest fold.stop =
    subst (λ (n : ℕ). StopsAt begin (begin + n) bytes h.rest fold.stop) count (subst (λ (st : Stop). StopsAt begin (begin + records_in h.batches) bytes h.rest st) (sym stop) h.stops) in
    let inside : is_inside begin (begin + record_count fold.heads) (size_sum fold.heads) fold.bytes fold.stop ≡ true =
    ap (λ (n : ℕ). is_inside begin (begin + record_count fold.heads) (size_sum fold.heads) n fold.stop) bytes_are
    ∙ stop_inside begin (begin + record_count fold.heads) (size_sum fold.heads) bytes h.rest fold.stop sizes stopped in
    record {
      sizes = ap not (le-ltb (min fold.bytes (2 ^ 63)) (size_sum fold.heads) (omega (arith, bytes_are, sizes, short)));
      changes = subst (λ (at : ℕ). are_entries at None fold.heads fold.epochs ≡ true) name entries;
      inside = subst (λ (at : ℕ). is_inside at (at + record_count fold.heads) (size_sum fold.heads) fold.bytes fold.stop ≡ true) name inside;
      heads = all_possible bytes h.batches fold.heads h.rest are;
      offsets = ap not (le-ltb (2 ^ 63) (unsigned_abs fold.base + record_count fold.heads) (omega (arith, fit, count, name)));
      kept = kept_right fold.kept bytes h.batches fold.heads h.rest are h.kept_is;
      stop = subst IsRightStop (sym stop) h.right;
    }
