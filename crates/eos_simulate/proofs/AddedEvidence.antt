-- What the segments of a cluster's logs are added to stays evidence.
use Rattle.std.proofs.Common.{◌≡◌, ℕ, zero, suc, ◌+◌, ◌-◌, ◌*◌, ◌/◌, ◌^◌, ◌<◌, ◌≤◌, Bool, true, false, cond, pos, List, [], ◌∷◌, length, map, find, Option, Some, None, Result, Ok, Err, refl, sym, subst, ◌∙◌, arith, slice_index_or, int_lt, nat_lt, nat_le, if◌then◌else◌, FitsSigned, w64}
use Rattle.std.specs.List.{All, AllByRecursion, flat_map, range_with_len}
use Rattle.std.specs.List.Sorted.{IsStrictlySortedBy}
use Rattle.std.specs.declared.cmp.Ordering.TheVariants.{Less}
use Rattle.std.proofs.Math.Nat.{div-add-mod, mod-lt, mul_comm, mul-le-mul_right}
use Rattle.std.proofs.lemmas.Bool.{or_parts, ltb-false, leb-false}
use Rattle.std.proofs.lemmas.List.Elements.{All-nil, All-cons, All-head, All-tail, All-append}
use Rattle.eos_base.specs.Fallible.{◌>>=◌}
use Rattle.eos_evidence.specs.declared.segment.Segment.{Segment}
use Rattle.eos_evidence.specs.declared.partition.Partition.{Partition}
use Rattle.eos_evidence.specs.declared.fault.AddFault.{AddFault}
use Rattle.eos_evidence.specs.declared.fault.AddFault.TheVariants as faults
use Rattle.eos_evidence.specs.Ends.{end_cmp}
use Rattle.eos_evidence.specs.SpecFields.{IsAccepted}
use Rattle.eos_evidence.specs.Evidence.{EvidenceParts, IsEvidence, IsCounted, is_in, has_base, with_segment, segments_of, is_past_limit, without_segments, added_to, added, empty_partition}
use Rattle.eos_evidence.specs.steps.SegmentIndexes.{IsFirst, MayTake}
use Rattle.eos_evidence.proofs.AddedSegments.{found_first, gives_added, still_counted, begun}
use Rattle.eos_machine.specs.declared.config.Config.{Config}
use Rattle.eos_machine.specs.declared.item.Item.{Item}
use Rattle.eos_machine.specs.LogIndexes.{IsConfig, log_count}
use Rattle.eos_machine.specs.declared.state.Election.{Election}
use Rattle.eos_machine.specs.World.{World, log_at}
use Rattle.eos_machine.specs.Evidences.{end_of, parts_of, segment_count, segment_at, log_segments, cluster_segments, adding}
use Rattle.eos_machine.specs.steps.Writable.{IsWritable}
use Rattle.eos_machine.proofs.AcceptedParts.{accepted_parts}
use Rattle.eos_machine.proofs.PlaceNames.{ends_rise}

-- ---- one segment

first_later : (s : Segment) (q : Partition) (qs : List Partition) (at : ℕ) → is_in s q.end ≡ false → IsFirst s qs at → IsFirst s (q ∷ qs) (suc at)
first_later s q qs at e f = record { within = let l = f.within in omega (arith, l); here = λ d. f.here d; before = λ k d l. earlier k d l }
  where
    earlier : (k : ℕ) (d : Partition) → k < suc at → is_in s (slice_index_or (q ∷ qs) k d).end ≡ false
    earlier zero d l = e
    earlier (suc k) d l = f.before k d (omega (arith, l))

record PlaceOf (s : Segment) (ps : List Partition) : Type 0 where
  at : ℕ
  first : IsFirst s ps at

found_place : (s : Segment) (ps : List Partition) (p : Partition) → find (λ q. is_in s q.end) ps ≡ Some p → PlaceOf s ps
found_place s [] p h = absurd cc
found_place s (q ∷ qs) p h = by (is_in s q.end) refl h (λ k. found_place s qs p k)
  where
    by : (b : Bool) → is_in s q.end ≡ b → cond b (Some q) (find (λ r. is_in s r.end) qs) ≡ Some p → (find (λ r. is_in s r.end) qs ≡ Some p → PlaceOf s qs) → PlaceOf s (q ∷ qs)
    by true e k later = record { at = 0; first = record { within = omega arith; here = λ d. e; before = λ i d l. absurd (omega (arith, l)) } }
    by false e k later = let r = later k in record { at = suc r.at; first = first_later s q qs r.at e r.first }

some_is : (p q : Partition) → Some p ≡ Some q → p ≡ q
some_is p q h = cc

same_evidence : (e f : EvidenceParts) → (let r : Result EvidenceParts AddFault = Ok e in r ≡ Ok f) → e ≡ f
same_evidence e f h = cc

-- taken at its place
taken : (e f : EvidenceParts) (s : Segment) (n at : ℕ) (p : Partition) → IsCounted e n → MayTake e s at → has_base s.base (slice_index_or e.partitions at p).segments ≡ false → added e s ≡ Ok f → IsCounted f (n + 1)
taken e f s n at p h may absent a =
    let parts = or_parts (nat_lt (2 ^ 30) (length s.bytes)) (nat_le 65536 (length (segments_of e.partitions))) may.within in
    let small : length s.bytes ≤ 2 ^ 30 = ltb-false _ _ parts.0 in
    let few : length (segments_of e.partitions) < 65536 = leb-false _ _ parts.1 in
    let is = h.count_is in
    subst (λ g. IsCounted g (n + 1)) (same_evidence _ f (sym (gives_added e s at p h.evidence_is may absent) ∙ a)) (still_counted e s at n p h may small (omega (arith, few, is)) absent)

-- what is left of an addition to a partition that was found: three tests
abbrev outcome : EvidenceParts → Segment → Bool → Bool → Bool → Result EvidenceParts AddFault
outcome e s x y z = if x then Err faults.Name else (if y then Err faults.Limit else (if z then Err faults.Duplicate else Ok (record e { partitions = map (with_segment s) e.partitions })))

with_tests : (e f : EvidenceParts) (s : Segment) (n at : ℕ) (p : Partition) (x y z : Bool) → FitsSigned w64 s.base → IsCounted e n → IsFirst s e.partitions at → slice_index_or e.partitions at p ≡ p → int_lt s.base (pos 0) ≡ x → is_past_limit e s ≡ y → has_base s.base p.segments ≡ z
    → outcome e s x y z ≡ Ok f → added e s ≡ Ok f → IsCounted f (n + 1)
with_tests e f s n at p true y z b h first is u v w k a = absurd cc
with_tests e f s n at p false true z b h first is u v w k a = absurd cc
with_tests e f s n at p false false true b h first is u v w k a = absurd cc
with_tests e f s n at p false false false b h first is u v w k a = taken e f s n at p h (record { first = first; base = u; fits = b; within = v }) (subst (λ q. has_base s.base q.segments ≡ false) (sym is) w) a

one_added : (e f : EvidenceParts) (s : Segment) (n : ℕ) → FitsSigned w64 s.base → IsCounted e n → added e s ≡ Ok f → IsCounted f (n + 1)
unfolding added
one_added e f s n b h a = by (find (λ q. is_in s q.end) e.partitions) refl a
  where
    by : (r : Option Partition) → find (λ q. is_in s q.end) e.partitions ≡ r → added_to e s r ≡ Ok f → IsCounted f (n + 1)
    by None q k = absurd cc
    by (Some p) q k =
        let place = found_place s e.partitions p q in
        let is = some_is _ p (sym (found_first s e.partitions place.at p place.first) ∙ q) in
        with_tests e f s n place.at p (int_lt s.base (pos 0)) (is_past_limit e s) (has_base s.base p.segments) b h place.first is refl refl refl k a

-- ---- several

abbrev HasWidth : Segment → Type 0
HasWidth s = FitsSigned w64 s.base

all_added : (e f : EvidenceParts) (ss : List Segment) (n : ℕ) → All HasWidth ss → IsCounted e n → adding e ss ≡ Ok f → IsEvidence f
all_added e f [] n b h a = subst IsEvidence (same_evidence e f a) h.evidence_is
all_added e f (s ∷ ss) n b h a = by (added e s) refl a (λ g. all_added g f ss (n + 1) (All-tail HasWidth s ss b))
  where
    by : (r : Result EvidenceParts AddFault) → added e s ≡ r → (r >>= λ g. adding g ss) ≡ Ok f → ((g : EvidenceParts) → IsCounted g (n + 1) → adding g ss ≡ Ok f → IsEvidence f) → IsEvidence f
    by (Ok g) q k others = others g (one_added e g s n (All-head HasWidth s ss b) h q) k
    by (Err x) q k others = absurd cc

-- ---- those of a cluster

-- a segment's first record is one of its log
base_within : (n r i : ℕ) → 1 ≤ r → i < (n + (r - 1)) / r → i * r < n
base_within n r i l h =
    let d = div-add-mod (n + (r - 1)) r in
    let m = mod-lt (n + (r - 1)) l in
    let s = mul_comm ((n + (r - 1)) / r) r in
    let g : (i + 1) * r ≤ (n + (r - 1)) / r * r = mul-le-mul_right r (omega (arith, h)) in
    let t = next_times i r in
    omega (arith, d, m, s, g, t, l)
  where
    next_times : (k r : ℕ) → (k + 1) * r ≡ k * r + r
    next_times zero r = omega arith
    next_times (suc k) r = let e = next_times k r in omega (arith, e)

log_widths : (c : Config) (p : ℕ) (es : List Election) (log : List Item) (a k : ℕ) → IsConfig c → length log < 2 ^ 63 → a + k ≤ segment_count c (length log) → All HasWidth (map (segment_at c p es log) (range_with_len a k))
log_widths c p es log a zero i l m = All-nil HasWidth
log_widths c p es log a (suc k) i l m =
    let b = base_within (length log) c.segment_records a i.segment_records.0 (omega (arith, m)) in
    All-cons HasWidth (segment_at c p es log a) (map (segment_at c p es log) (range_with_len (a + 1) k)) (record { sfits = omega (arith, b, l) }) (log_widths c p es log (a + 1) k i l (omega (arith, m)))

all_widths : (c : Config) (w : World) (a k : ℕ) → IsWritable c w → All HasWidth (flat_map (λ p. log_segments c p w.elections (log_at w p)) (range_with_len a k))
all_widths c w a zero g = All-nil HasWidth
all_widths c w a (suc k) g =
    All-append HasWidth (log_segments c a w.elections (log_at w a)) (flat_map (λ p. log_segments c p w.elections (log_at w p)) (range_with_len (a + 1) k))
    (log_widths c a w.elections (log_at w a) 0 (segment_count c (length (log_at w a))) g.sizes (g.short a) (omega arith)) (all_widths c w (a + 1) k g)

later_ends : (c : Config) (w : World) (p a n : ℕ) → p < a → AllByRecursion (λ f. end_cmp (end_of c w p) f ≡ Less) (map (end_of c w) (range_with_len a n))
later_ends c w p a zero l = tt
later_ends c w p a (suc n) l = (ends_rise c p a (end_of c w p) (end_of c w a) l refl refl refl refl, later_ends c w p (a + 1) n (omega (arith, l)))

ends_ascend : (c : Config) (w : World) (a n : ℕ) → IsStrictlySortedBy end_cmp (map (end_of c w) (range_with_len a n))
unfolding IsStrictlySortedBy
ends_ascend c w a zero = tt
ends_ascend c w a (suc n) = (later_ends c w a (a + 1) n (omega arith), ends_ascend c w (a + 1) n)

pub is_evidence : (c : Config) (w : World) (e : EvidenceParts) → IsWritable c w → adding (without_segments (parts_of c w)) (cluster_segments c w) ≡ Ok e → IsEvidence e
is_evidence c w e g a =
    let accepted : IsAccepted (parts_of c w) = record { as_it_is = accepted_parts c w g.sizes g.short; ascending = ends_ascend c w 0 (log_count c) } in
    all_added (without_segments (parts_of c w)) e (cluster_segments c w) 0 (all_widths c w 0 (log_count c) g) (begun (parts_of c w) (map empty_partition (parts_of c w).ends) accepted refl) a
