-- The segment at a place among those of all partitions.
use Rattle.std.proofs.Common.{◌≡◌, ℕ, zero, suc, ◌+◌, ◌-◌, ◌<◌, ◌≤◌, List, [], ◌∷◌, ◌++◌, Some, length, get_or, take, slice_get, slice_index, refl, ap, sym, ◌∙◌, subst, arith, add-one, length-append, true, false, leb, leb-true}
use Rattle.std.proofs.lemmas.Bool.{leb-false}
use Rattle.std.proofs.lemmas.List.{take_all}
use Rattle.std.proofs.lemmas.List.Sorted.{IsNonDecreasingBy-from_default}
use Rattle.std.proofs.lemmas.Option.{slice_get-get_or}
use Rattle.std.specs.List.Sorted.{IsPartitionPoint, IsNonDecreasing}
use Rattle.eos_evidence.specs.declared.segment.Segment.{Segment}
use Rattle.eos_evidence.specs.declared.partition.Partition.{Partition}
use Rattle.eos_evidence.specs.Evidence.{segments_of}
use Rattle.eos_evidence.specs.steps.SegmentIndexes.{AreFirsts, IsLastFrom}
use Rattle.eos_evidence.proofs.AddedSegments.{parted_at}

-- ---- what halving finds

pub some_from : (firsts : List ℕ) (i point : ℕ) → IsPartitionPoint (λ n. leb n i ≡ true) (λ n. leb n i ≡ false) firsts point → 0 < length firsts → slice_index firsts 0 ≤ i → 0 < point
some_from firsts i zero parts some begins =
    let above : i < get_or firsts 0 0 = leb-false _ _ (parts.1 0 0 (omega arith) some) in
    absurd (omega (arith, above, begins))
some_from firsts i (suc point) parts some begins = omega arith

pub last_from : (firsts : List ℕ) (i point : ℕ) → IsPartitionPoint (λ n. leb n i ≡ true) (λ n. leb n i ≡ false) firsts point → point ≤ length firsts
    → 0 < length firsts → slice_index firsts 0 ≤ i → IsLastFrom firsts i (point - 1)
last_from firsts i point parts within some begins =
    let above : 0 < point = some_from firsts i point parts some begins in
    let next : point - 1 + 1 ≡ point = omega (arith, above) in
    record {
      within = omega (arith, within, above);
      from = leb-true _ _ (parts.0 (point - 1) 0 (omega arith) (omega (arith, above)));
      next = λ lt. subst (λ n. i < slice_index firsts n) (sym next) (leb-false _ _ (parts.1 point 0 (omega arith) (omega (arith, lt, next))));
    }

-- ---- the places of the partitions

abbrev pub first_of : List Partition → ℕ → ℕ
first_of ps k = length (segments_of (take k ps))

pub first_next : (ps : List Partition) (k : ℕ) (d : Partition) → k < length ps → first_of ps (suc k) ≡ first_of ps k + length (get_or ps k d).segments
first_next [] k d lt = absurd (omega (arith, lt))
first_next (p ∷ ps) zero d lt = simp length-append (omega arith)
first_next (p ∷ ps) (suc k) d lt = simp length-append (omega (arith, first_next ps k d (omega arith)))

first_rises : (ps : List Partition) (j k : ℕ) → j ≤ k → first_of ps j ≤ first_of ps k
first_rises [] zero zero le = omega arith
first_rises [] zero (suc k) le = omega arith
first_rises [] (suc j) zero le = absurd (omega (arith, le))
first_rises [] (suc j) (suc k) le = omega arith
first_rises (p ∷ ps) zero k le = omega arith
first_rises (p ∷ ps) (suc j) zero le = absurd (omega (arith, le))
first_rises (p ∷ ps) (suc j) (suc k) le = simp length-append (omega (arith, first_rises ps j k (omega arith)))

all_of : (ps : List Partition) → first_of ps (length ps) ≡ length (segments_of ps)
all_of ps = ap (λ l. length (segments_of l)) (take_all (length ps) ps (omega arith))

pub room_left : (ps : List Partition) (at : ℕ) (d : Partition) → at < length ps → first_of ps at + length (get_or ps at d).segments ≤ length (segments_of ps)
room_left ps at d lt = omega (arith, first_next ps at d lt, first_rises ps (suc at) (length ps) (omega arith), all_of ps)

pub firsts_rise : (firsts : List ℕ) (ps : List Partition) → AreFirsts firsts ps → IsNonDecreasing firsts
firsts_rise firsts ps are = IsNonDecreasingBy-from_default (λ n. n) firsts 0 (λ j k le lt.
    omega (arith, are.each j (omega (arith, le, lt, are.as_many)), are.each k (omega (arith, lt, are.as_many)), first_rises ps j k le))

get_front : (xs ys : List Segment) (i : ℕ) → i < length xs → slice_get (xs ++ ys) i ≡ slice_get xs i
get_front [] ys i lt = absurd (omega arith)
get_front (x ∷ xs) ys zero lt = refl
get_front (x ∷ xs) ys (suc i) lt = get_front xs ys i (omega arith)

get_back : (xs ys : List Segment) (i : ℕ) → length xs ≤ i → slice_get (xs ++ ys) i ≡ slice_get ys (i - length xs)
get_back [] ys i le = ap (slice_get ys) (omega arith)
get_back (x ∷ xs) ys zero le = absurd (omega arith)
get_back (x ∷ xs) ys (suc i) le = get_back xs ys i (omega arith) ∙ ap (slice_get ys) (omega arith)

piece_in : (ps : List Partition) (at i : ℕ) (d : Partition) → at < length ps → first_of ps at ≤ i → i < first_of ps at + length (get_or ps at d).segments
    → slice_get (segments_of ps) i ≡ slice_get (get_or ps at d).segments (i - first_of ps at)
piece_in [] at i d lt from below = absurd (omega (arith, lt))
piece_in (p ∷ ps) zero i d lt from below = get_front p.segments (segments_of ps) i (omega (arith, below)) ∙ ap (slice_get p.segments) (omega arith)
piece_in (p ∷ ps) (suc at) i d lt from below =
    let sum : first_of (p ∷ ps) (suc at) ≡ length p.segments + first_of ps at = length-append p.segments (segments_of (take at ps)) in
    get_back p.segments (segments_of ps) i (omega (arith, from, sum))
    ∙ piece_in ps at (i - length p.segments) d (omega arith) (omega (arith, from, sum)) (omega (arith, from, below, sum))
    ∙ ap (slice_get (get_or ps at d).segments) (omega (arith, from, sum))

-- the place is one of the partition's
pub record Found (firsts : List ℕ) (ps : List Partition) (i at : ℕ) (p : Partition) : Type 0 where
  pub from : slice_index firsts at ≤ i
  pub within : i - slice_index firsts at < length p.segments
  pub is : slice_get (segments_of ps) i ≡ slice_get p.segments (i - slice_index firsts at)

pub found : (firsts : List ℕ) (ps : List Partition) (i at : ℕ) (p : Partition) → AreFirsts firsts ps → IsLastFrom firsts i at → i < length (segments_of ps) → p ≡ get_or ps at p → Found firsts ps i at p
found firsts ps i at p are last lt p_is =
    let inside : at < length ps = omega (arith, last.within, are.as_many) in
    let here : slice_index firsts at ≡ first_of ps at = are.each at inside in
    let sum : first_of ps (suc at) ≡ first_of ps at + length (get_or ps at p).segments = first_next ps at p inside in
    let size : length (get_or ps at p).segments ≡ length p.segments = ap (λ q. length q.segments) (sym p_is) in
    let below : i < first_of ps (suc at) = parted_at (i < first_of ps (suc at)) (suc at) (length ps)
    (λ more. subst (λ n. i < n) (are.each (suc at) more) (subst (λ n. i < slice_index firsts n) (add-one at) (last.next (omega (arith, more, are.as_many)))))
    (λ end. let all : suc at ≡ length ps = omega (arith, end, inside) in subst (λ n. i < n) (sym (ap (first_of ps) all ∙ all_of ps)) lt) in
    record {
      from = last.from;
      within = omega (arith, here, sum, size, below, last.from);
      is = piece_in ps at i p inside (omega (arith, here, last.from)) (omega (arith, sum, below)) ∙ ap (λ q. slice_get q.segments (i - first_of ps at)) (sym p_is) ∙ ap (λ n. slice_get p.segments (i - n)) (sym here);
    }

pub piece_is : (firsts : List ℕ) (ps : List Partition) (i at n : ℕ) (p : Partition) (segments : List Segment) (x : Segment) → Found firsts ps i at p
    → n ≡ slice_index firsts at → segments ≡ p.segments → x ≡ get_or segments (i - n) x → slice_get (segments_of ps) i ≡ Some x
piece_is firsts ps i at n p segments x f n_is its is =
    f.is ∙ (λ j. slice_get (sym its j) (i - sym n_is j)) ∙ slice_get-get_or segments (i - n) x (omega (arith, f.within, n_is, ap length its)) ∙ ap Some (sym is)
