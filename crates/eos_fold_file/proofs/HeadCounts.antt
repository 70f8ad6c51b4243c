-- What the heads of a fold say of their batches: how many records they have, that their offsets fit, and that batches can have them.
use Rattle.std.proofs.Common.{◌≡◌, ℕ, suc, ◌+◌, ◌≤◌, ◌^◌, Bool, true, false, cond, ℤ, List, [], ◌∷◌, length, Option, Some, None, refl, sym, ap, subst, ◌∙◌, arith}
use Rattle.std.specs.Prelude.{IsTrue}
use Rattle.std.proofs.lemmas.List.{length-append}
use Rattle.std.proofs.lemmas.List.Sums.{sum_by-cons}
use Rattle.eos_batch.specs.declared.batch.Batch.{Batch}
use Rattle.eos_batch.specs.declared.head.BatchHead.{BatchHead}
use Rattle.eos_batch.specs.declared.marker.Kind.{Kind}
use Rattle.eos_batch.specs.declared.marker.Kind.TheVariants as ends
use Rattle.eos_batch.specs.declared.marker.Marker.{Marker}
use Rattle.eos_batch.specs.declared.record.Record.{Record}
use Rattle.eos_batch.specs.Attributes.{is_control}
use Rattle.eos_batch.specs.Heads.{head_of}
use Rattle.eos_batch.specs.Offsets.{offset_of}
use Rattle.eos_touch.specs.Front.{records_in, ContinuesFrom}
use Rattle.eos_touch.proofs.Continuity.{fits_on}
use Rattle.eos_reading.specs.Kept.{kept_from, kept_in, kept_of}
use Rattle.eos_fold_file.specs.declared.head.FoldHead.{FoldHead}
use Rattle.eos_fold_file.specs.Files.{record_count, data_records, data_count}
use Rattle.eos_fold_file.specs.Folds.{HasFoldHeads}
use Rattle.eos_fold_file.specs.Heads.{is_control_kind, kind_in, ended_by, fold_head, is_possible}
use Rattle.eos_fold_file.specs.Legal.{Each}
use Rattle.eos_fold_file.proofs.RealHeads.{head_possible}

-- ---- data records

pub data_told : (h : BatchHead) → data_records (fold_head h) ≡ cond h.is_control 0 h.count
data_told h = told h.is_control h.marker
  where
    ended : (k : Kind) (e : ℤ) → cond (is_control_kind (ended_by k e)) 0 h.count ≡ 0
    ended ends.Commit e = refl
    ended ends.Abort e = refl

    told : (c : Bool) (m : Option Marker) → cond (is_control_kind (kind_in c m)) 0 h.count ≡ cond c 0 h.count
    told false m = refl
    told true None = refl
    told true (Some m) = ended m.kind m.coordinator_epoch

kept_from-length : {K : Type 0} (keep : ℕ → Record → K) (at : ℕ) (rs : List Record) → length (kept_from keep at rs) ≡ length rs
kept_from-length keep at [] = refl
kept_from-length keep at (r ∷ rs) = let e = kept_from-length keep (suc at) rs in omega (arith, e)

kept_in-length : {K : Type 0} (keep : ℕ → Record → K) (b : Batch) (size : ℕ) → length (kept_in keep b) ≡ data_records (fold_head (head_of b size))
kept_in-length keep b size = one (is_control b.attributes) ∙ sym (data_told (head_of b size))
  where
    one : (c : Bool) → length (cond c [] (kept_from keep (offset_of b) b.records)) ≡ cond c 0 (length b.records)
    one true = refl
    one false = kept_from-length keep (offset_of b) b.records

-- as much is kept as the data batches have records
pub kept_counted : {K : Type 0} (keep : ℕ → Record → K) (bytes : List ℕ) (bs : List Batch) (hs : List FoldHead) (rest : List ℕ) → HasFoldHeads bytes bs hs rest → length (kept_of keep bs) ≡ data_count hs
kept_counted keep bytes [] [] rest s = refl
kept_counted keep bytes [] (h ∷ hs) rest s = absurd s
kept_counted keep bytes (b ∷ bs) [] rest s = absurd s
kept_counted keep bytes (b ∷ bs) (h ∷ hs) rest s =
    let e = kept_counted keep s.1 bs hs rest s.5 in
    let n = length-append (kept_in keep b) (kept_of keep bs) in
    let f = kept_in-length keep b (length s.0) in
    let g = ap data_records s.4 in
    let c = sum_by-cons data_records h hs in
    omega (arith, e, n, f, g, c)

-- ---- all records

pub records_counted : (bytes : List ℕ) (bs : List Batch) (hs : List FoldHead) (rest : List ℕ) → HasFoldHeads bytes bs hs rest → records_in bs ≡ record_count hs
records_counted bytes [] [] rest s = refl
records_counted bytes [] (h ∷ hs) rest s = absurd s
records_counted bytes (b ∷ bs) [] rest s = absurd s
records_counted bytes (b ∷ bs) (h ∷ hs) rest s =
    let e = records_counted s.1 bs hs rest s.5 in
    let n : h.count ≡ length b.records = ap (λ (x : FoldHead). x.count) s.4 in
    let c = sum_by-cons (λ (x : FoldHead). x.count) h hs in
    omega (arith, e, n, c)

pub records_fit : (at : ℕ) (bytes : List ℕ) (bs : List Batch) (hs : List FoldHead) (rest : List ℕ) → at ≤ 2 ^ 63 → ContinuesFrom at bs → HasFoldHeads bytes bs hs rest → at + records_in bs ≤ 2 ^ 63
records_fit at bytes [] [] rest le c s = omega (arith, le)
records_fit at bytes [] (h ∷ hs) rest le c s = absurd s
records_fit at bytes (b ∷ bs) [] rest le c s = absurd s
records_fit at bytes (b ∷ bs) (h ∷ hs) rest le c s =
    let here : at + length b.records ≤ 2 ^ 63 = fits_on b.base_offset at (length b.records) c.0 s.2.counted.last in
    let there = records_fit (at + length b.records) s.1 bs hs rest here c.1 s.5 in
    omega (arith, there)

-- ---- batches can have them

pub all_possible : (bytes : List ℕ) (bs : List Batch) (hs : List FoldHead) (rest : List ℕ) → HasFoldHeads bytes bs hs rest → Each (λ h. IsTrue (is_possible h)) hs
all_possible bytes [] [] rest s = tt
all_possible bytes [] (h ∷ hs) rest s = absurd s
all_possible bytes (b ∷ bs) [] rest s = absurd s
all_possible bytes (b ∷ bs) (h ∷ hs) rest s =
    (subst (λ (x : FoldHead). IsTrue (is_possible x)) (sym s.4) (head_possible s.0 b s.2), all_possible s.1 bs hs rest s.5)
