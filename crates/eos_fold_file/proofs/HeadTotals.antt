-- Whether the offsets and the sizes of a front's batches fit, by their sums or by the greatest number of 64 bits.
use Rattle.std.proofs.Common.{◌≡◌, ℕ, ◌+◌, ◌-◌, ◌<◌, ◌≤◌, ◌^◌, Bool, true, false, ◌&&◌, cond, ltb, min, ℤ, List, [], ◌∷◌, ◌++◌, refl, arith}
use Rattle.std.specs.Prelude.{unsigned_abs}
use Rattle.std.proofs.lemmas.Bool.{lt-ltb, le-ltb}
use Rattle.std.proofs.lemmas.List.Sums.{sum_by_push}
use Rattle.eos_fold_file.specs.declared.head.FoldHead.{FoldHead}
use Rattle.eos_fold_file.specs.declared.read.Counted.{Counted}
use Rattle.eos_fold_file.specs.Files.{record_count, data_records, data_count, size_sum, fits_offsets, fits_bytes}
use Rattle.eos_fold_file.specs.Heads.{is_control_kind}
use Rattle.eos_fold_file.specs.steps.Counts.{IsCountedHeads, AreCounted}

-- ---- one after the other

pub counted_more : (begin : ℕ) (heads : List FoldHead) (h : FoldHead) (c d : Counted) → d.next ≡ min (c.next + h.count) (2 ^ 64 - 1) → d.records ≡ min (c.records + data_records h) (2 ^ 64 - 1)
    → d.size ≡ min (c.size + h.size) (2 ^ 64 - 1) → IsCountedHeads begin heads c → IsCountedHeads begin (heads ++ h ∷ []) d
counted_more begin heads h c d next records size is =
    let all = sum_by_push (λ (x : FoldHead). x.count) heads h in
    let data_all = sum_by_push data_records heads h in
    let bytes = sum_by_push (λ (x : FoldHead). x.size) heads h in
    let few = few_data h in
    let below = is.below in
    let so_far = is.next in
    record {
      next = let e = is.next in omega (arith, next, e, all);
      below = omega (arith, next, records, below, few);
      counted = λ lt. let e : c.records ≡ data_count heads = is.counted (omega (arith, lt, next)) in omega (arith, records, e, data_all, lt, next, below, few);
      size = let e = is.size in omega (arith, size, e, bytes);
    }
  where
    few_data : (x : FoldHead) → data_records x ≤ x.count
    few_data x = by (is_control_kind x.kind)
      where
        by : (b : Bool) → cond b 0 x.count ≤ x.count
        by true = omega arith
        by false = omega arith

-- ---- what they say of all

and_false : (a : Bool) → (a && false) ≡ false
and_false true = refl
and_false false = refl

pub offsets_past : (base : ℤ) (size : ℕ) (heads : List FoldHead) (c : Counted) → IsCountedHeads (unsigned_abs base) heads c → 2 ^ 63 < c.next → (fits_offsets base heads && fits_bytes size heads) ≡ false
offsets_past base size heads c h lt =
    let past : ltb (2 ^ 63) (unsigned_abs base + record_count heads) ≡ true = lt-ltb (2 ^ 63) (unsigned_abs base + record_count heads) (omega (arith, h.next, lt)) in
    rw past refl

pub sizes_past : (base : ℤ) (size : ℕ) (heads : List FoldHead) (c : Counted) → IsCountedHeads (unsigned_abs base) heads c → min size (2 ^ 63) < c.size → (fits_offsets base heads && fits_bytes size heads) ≡ false
sizes_past base size heads c h lt =
    let past : ltb (min size (2 ^ 63)) (size_sum heads) ≡ true = lt-ltb (min size (2 ^ 63)) (size_sum heads) (omega (arith, h.size, lt)) in
    rw past (and_false (fits_offsets base heads))

pub both_fit : (base : ℤ) (size : ℕ) (heads : List FoldHead) (c : Counted) → IsCountedHeads (unsigned_abs base) heads c → c.next ≤ 2 ^ 63 → c.size ≤ min size (2 ^ 63) → (fits_offsets base heads && fits_bytes size heads) ≡ true
both_fit base size heads c h le small =
    let offsets : ltb (2 ^ 63) (unsigned_abs base + record_count heads) ≡ false = le-ltb (2 ^ 63) (unsigned_abs base + record_count heads) (omega (arith, h.next, le)) in
    let sizes : ltb (min size (2 ^ 63)) (size_sum heads) ≡ false = le-ltb (min size (2 ^ 63)) (size_sum heads) (omega (arith, h.size, small)) in
    rw (offsets, sizes) refl

pub counted_are : (begin size : ℕ) (heads : List FoldHead) (c : Counted) → IsCountedHeads begin heads c → c.next ≤ 2 ^ 63 → c.size ≤ min size (2 ^ 63) → AreCounted begin heads c
counted_are begin size heads c h le small = record {
  next = omega (arith, h.next, le);
  records = h.counted (omega (arith, le));
  size = omega (arith, h.size, small);
}

pub counted_within : (begin : ℕ) (heads : List FoldHead) (c : Counted) → IsCountedHeads begin heads c → c.next ≤ 2 ^ 63 → begin + record_count heads ≤ 2 ^ 63
counted_within begin heads c h le = omega (arith, h.next, le)
