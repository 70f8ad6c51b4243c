-- A fold of a segment, taken as what is kept of the segment.
use Rattle.std.proofs.Common.{◌≡◌, ℕ, ◌+◌, not, List, [], ◌∷◌, length, map, refl, sym, ap, subst, ◌∙◌, arith}
use Rattle.std.specs.Prelude.{⊤, All, unsigned_abs}
use Rattle.std.proofs.lemmas.List.Elements.{All-map, All-weaker}
use Rattle.eos_batch.specs.declared.batch.Batch.{Batch}
use Rattle.eos_batch.specs.declared.record.Record.{Record}
use Rattle.eos_evidence.specs.declared.segment.Segment.{Segment}
use Rattle.eos_evidence.specs.Topics.{is_internal}
use Rattle.eos_touch.specs.Front.{records_in, ContinuesFrom}
use Rattle.eos_fold.specs.declared.stop.Stop.{Stop}
use Rattle.eos_fold.specs.Fronts.{base_of, StopsAt, IsSegmentFront}
use Rattle.eos_fold.specs.Sums.{is_checked}
use Rattle.eos_reading.specs.Kept.{kept_of}
use Rattle.eos_reading.specs.declared.wanted.Wanted.{Wanted}
use Rattle.eos_reading.specs.declared.wanted.Wanted.TheVariants as wants
use Rattle.eos_reading.specs.Wanted.{wanted_headers}
use Rattle.eos_reading.specs.Records.{wanted_record, ReadsBack}
use Rattle.eos_fold_file.specs.Records.{FoldText}
use Rattle.eos_fold_file.specs.declared.file.FoldFile.{FoldFile}
use Rattle.eos_fold_file.specs.declared.file.FoldKept.{FoldKept}
use Rattle.eos_fold_file.specs.declared.file.FoldKept.TheVariants as kinds
use Rattle.eos_fold_file.specs.declared.head.FoldHead.{FoldHead}
use Rattle.eos_fold_file.specs.Batches.{HaveHeads}
use Rattle.eos_fold_file.specs.Files.{wanted_in}
use Rattle.eos_fold_file.specs.Folds.{fold_text_of, IsFoldOf, IsAskedAs}
use Rattle.eos_kept.specs.declared.front.Front.{Front}
use Rattle.eos_kept.specs.declared.sizes.Sizes.{Sizes}
use Rattle.eos_kept.specs.Kept.{IsFrontOf, KeptView, IsKept}
use Rattle.eos_kept.specs.Passing.{GoesAlong, data_count}
use Rattle.eos_kept.specs.Sizes.{AreSized}
use Rattle.eos_kept.proofs.JoinedKept.{of_one}
use Rattle.eos_kept.proofs.PassedHeads.{kept_of-length}
use Rattle.eos_kept.specs.declared.kept_run.KeptRun.{KeptRun}
use Rattle.eos_kept.specs.declared.kept_run.KeptRun.TheVariants as runs
use Rattle.eos_kept.specs.Records.{SaysClaim}
use Rattle.eos_kept.specs.KeptRuns.{IsKeptRun, HasClaims, wanted_by}
use Rattle.eos_fold_file.specs.steps.Heads.{AreFrom}
use Rattle.eos_fold_file.specs.steps.Kept.{topics_in, text_record}
use Rattle.eos_fold_file.proofs.KeptMapped.{of_map}
use Rattle.eos_fold_file.proofs.HeadsPassed.{from_any, from_segment, fold_splits}

-- ---- the batches

pub any_from : (f : FoldFile) (begin : ℕ) (heads : List FoldHead) (bs : List Batch) → begin ≡ unsigned_abs f.base → heads ≡ f.heads → HaveHeads (unsigned_abs f.base) f.heads bs → AreFrom begin heads bs
any_from f begin heads bs e h have =
    subst (λ (n : ℕ). AreFrom n heads bs) (sym e) (subst (λ (hs : List FoldHead). AreFrom (unsigned_abs f.base) hs bs) (sym h) (from_any (unsigned_abs f.base) f.heads bs have))

pub segment_from : (segment : Segment) (f : FoldFile) (begin : ℕ) (heads : List FoldHead) (is : IsFoldOf segment f) → begin ≡ unsigned_abs f.base → heads ≡ f.heads → AreFrom begin heads is.batches
segment_from segment f begin heads is e h =
    let name : base_of segment ≡ begin = sym (e ∙ ap unsigned_abs is.base) in
    subst (λ (hs : List FoldHead). AreFrom begin hs is.batches) (sym h) (from_segment begin segment.bytes f.heads is.batches is.rest is.heads (subst (λ (n : ℕ). ContinuesFrom n is.batches) name is.continuous))

-- ---- the front and the sizes

pub front_told : (segment : Segment) (f : FoldFile) (front : Front) (is : IsFoldOf segment f) → front.begin ≡ unsigned_abs f.base → front.run.sequenced ≡ not (is_internal f.topic) → front.stop ≡ f.stop → front.epochs.items ≡ f.epochs → GoesAlong is.batches front
    → IsFrontOf (segment ∷ []) is.batches front
front_told segment f front is begin checked stop epochs along =
    let name : front.begin ≡ base_of segment = begin ∙ ap unsigned_abs is.base in
    let sequenced : front.run.sequenced ≡ is_checked segment = checked ∙ ap (λ (t : List ℕ). not (is_internal t)) is.topic in
    let ends = subst (λ (st : Stop). StopsAt (base_of segment) (base_of segment + records_in is.batches) segment.bytes is.rest st) (sym stop) is.stops in
    let inside : IsSegmentFront front.begin segment.bytes is.batches front.stop = record {
      rest = is.rest;
      texts = fold_splits segment.bytes f.heads is.batches is.rest is.heads;
      continuous = along.continuous;
      stops = subst (λ (n : ℕ). StopsAt n (n + records_in is.batches) segment.bytes is.rest front.stop) (sym name) ends;
    } in
    of_one segment is.batches front name sequenced inside along.keeps (epochs ∙ is.epochs)

pub sizes_told : (segment : Segment) (f : FoldFile) (sizes : Sizes) → IsFoldOf segment f → sizes.segments ≡ 1 → sizes.bytes ≡ f.bytes → AreSized (segment ∷ []) sizes
sizes_told segment f sizes is one bytes = record { counted = one; bytes_are = let e = is.bytes in omega (arith, bytes, e) }

-- ---- what is kept

pub kept_told : {K : Type 0} (keep : ℕ → Record → K) (segments : List Segment) (batches : List Batch) (v : KeptView K) (front : Front) (kept : List K) (sizes : Sizes) → v.front ≡ front → v.kept ≡ kept → v.sizes ≡ sizes
    → IsFrontOf segments batches front → AreSized segments sizes → kept ≡ kept_of keep batches → IsKept keep segments v
kept_told keep segments batches v front kept sizes f k s is sized all = record {
  batches = batches;
  front = subst (IsFrontOf segments batches) (sym f) is;
  kept = k ∙ all;
  sizes = subst (AreSized segments) (sym s) sized;
}

same_units : (xs ys : List ⊤) → length xs ≡ length ys → xs ≡ ys
same_units [] [] e = refl
same_units [] (y ∷ ys) e = absurd (omega (arith, e))
same_units (x ∷ xs) [] e = absurd (omega (arith, e))
same_units (x ∷ xs) (y ∷ ys) e = ap (λ (zs : List ⊤). tt ∷ zs) (same_units xs ys (omega (arith, e)))

pub units_told : (batches : List Batch) (units : List ⊤) (count : ℕ) → length units ≡ count → count ≡ data_count batches → units ≡ kept_of (λ (n : ℕ) (r : Record). tt) batches
units_told batches units count len e = same_units units (kept_of (λ (n : ℕ) (r : Record). tt) batches) (len ∙ (e ∙ sym (kept_of-length (λ (n : ℕ) (r : Record). tt) batches)))

pub texts_told : (batches : List Batch) (texts : List FoldText) (copies : List Record) → copies ≡ map text_record texts → texts ≡ kept_of (λ (n : ℕ) (r : Record). fold_text_of r) batches → copies ≡ kept_of (λ (n : ℕ) (r : Record). wanted_record wants.Texts r) batches
texts_told batches texts copies e f = e ∙ (ap (map text_record) f ∙ of_map (λ (n : ℕ) (r : Record). fold_text_of r) text_record (λ (n : ℕ) (r : Record). wanted_record wants.Texts r) (λ n r. refl) batches)

pub texts_said : (texts : List FoldText) → All (λ (t : FoldText). ReadsBack t.claim) texts → All SaysClaim (map text_record texts)
texts_said texts all = All-map SaysClaim text_record texts (All-weaker (λ (t : FoldText). ReadsBack t.claim) (λ (t : FoldText). SaysClaim (text_record t)) (λ t back. ap wanted_headers (sym back)) texts all)

-- ---- what is asked

pub asked_wanted : (w : Wanted) (topics : List (List ℕ)) (kept : FoldKept) → IsAskedAs w topics kept → wanted_in kept ≡ w
asked_wanted wants.Presence topics kinds.Presence a = refl
asked_wanted wants.Presence topics (kinds.Claims ts os) a = absurd a
asked_wanted wants.Presence topics (kinds.Texts ts) a = absurd a
asked_wanted wants.Claims topics kinds.Presence a = absurd a
asked_wanted wants.Claims topics (kinds.Claims ts os) a = refl
asked_wanted wants.Claims topics (kinds.Texts ts) a = absurd a
asked_wanted wants.Texts topics kinds.Presence a = absurd a
asked_wanted wants.Texts topics (kinds.Claims ts os) a = absurd a
asked_wanted wants.Texts topics (kinds.Texts ts) a = refl

pub same_topics : (w : Wanted) (topics : List (List ℕ)) (kept : FoldKept) → IsAskedAs w topics kept → wanted_in kept ≡ wants.Claims → topics_in kept ≡ topics
same_topics wants.Presence topics kinds.Presence a e = absurd cc
same_topics wants.Presence topics (kinds.Claims ts os) a e = absurd a
same_topics wants.Presence topics (kinds.Texts ts) a e = absurd a
same_topics wants.Claims topics kinds.Presence a e = absurd a
same_topics wants.Claims topics (kinds.Claims ts os) a e = a
same_topics wants.Claims topics (kinds.Texts ts) a e = absurd a
same_topics wants.Texts topics kinds.Presence a e = absurd a
same_topics wants.Texts topics (kinds.Claims ts os) a e = absurd a
same_topics wants.Texts topics (kinds.Texts ts) a e = absurd cc

-- only claims depend on the topics
pub run_asked : (topics others : List (List ℕ)) (segments : List Segment) (run : KeptRun) → (wanted_by run ≡ wants.Claims → others ≡ topics) → IsKeptRun others segments run → IsKeptRun topics segments run
run_asked topics others segments (runs.Presence k) e is = is
run_asked topics others segments (runs.Claims k) e is = subst (λ (ts : List (List ℕ)). IsKeptRun ts segments (runs.Claims k)) (e refl) is
run_asked topics others segments (runs.Texts k) e is = is

pub claims_asked : (topics others : List (List ℕ)) (run : KeptRun) → (wanted_by run ≡ wants.Claims → others ≡ topics) → HasClaims others run → HasClaims topics run
claims_asked topics others (runs.Presence k) e has = has
claims_asked topics others (runs.Claims k) e has = subst (λ (ts : List (List ℕ)). HasClaims ts (runs.Claims k)) (e refl) has
claims_asked topics others (runs.Texts k) e has = has
