-- What one segment more makes of the partitions.
use Rattle.std.proofs.Common.{◌≡◌, ℕ, zero, suc, ◌+◌, ◌<◌, ◌≤◌, ◌^◌, pos, List, [], ◌∷◌, Bool, true, false, cond, ◌&&◌, ◌||◌, if◌then◌else◌, None, Some, Result, Ok, Err, IsOk, IfOk, IfErr, int_lt, length, map, find, get_or, set, nat_le, nat_lt, refl, ap, sym, ◌∙◌, subst, arith, length-append}
use Rattle.std.proofs.lemmas.Bool.{ltb-true, ltb-false, leb-false}
use Rattle.std.proofs.lemmas.Cmp.{int_cmp_total}
use Rattle.std.proofs.lemmas.Int.{ints}
use Rattle.std.proofs.lemmas.List.Sorted.{searchable_from_sorted}
use Rattle.std.proofs.lemmas.Map.Keys.{Less-from_sorted}
use Rattle.std.proofs.lemmas.Map.Text.{is_eq-slice_cmp}
use Rattle.std.proofs.Math.ListN.{length-set}
use Rattle.std.proofs.Math.Seq.{map-set_same}
use Rattle.std.specs.Cmp.{tied_then, Equal-is}
use Rattle.std.specs.Cmp.Lexicographic.{slice_cmp}
use Rattle.std.specs.List.{AllByRecursion}
use Rattle.std.specs.List.Sorted.{IsSortedBy, IsStrictlySortedBy, IsSearchInRange, IsBinarySearchResult}
use Rattle.std.specs.Ordering.{nat_cmp, int_cmp, int_eq, is_eq, is_lt, on, ordering_reverse}
use Rattle.std.specs.declared.cmp.Ordering.{Ordering}
use Rattle.std.specs.declared.cmp.Ordering.TheVariants.{Less, Equal, Greater}
use Rattle.eos_evidence.specs.declared.ends.End.{End}
use Rattle.eos_evidence.specs.declared.segment.Segment.{Segment}
use Rattle.eos_evidence.specs.declared.partition.Partition.{Partition}
use Rattle.eos_evidence.specs.declared.fault.AddFault.{AddFault}
use Rattle.eos_evidence.specs.declared.fault.AddFault.TheVariants as faults
use Rattle.eos_evidence.specs.Ends.{end_cmp}
use Rattle.eos_evidence.specs.SpecFields.{SpecFields, IsAccepted}
use Rattle.eos_evidence.specs.steps.SegmentIndexes.{own_end, IsFirst, MayTake, IsBuilt}
use Rattle.eos_evidence.specs.Evidence.{AddAnswers, EvidenceParts, IsOwn, IsPartition, IsRising, IsEvidence, IsCounted, is_in, has_base, insert_segment, with_segment, segments_of, is_past_limit, added, empty_partition}
use Rattle.eos_evidence.proofs.EndsInOrder.{end_total}

abbrev named : Segment → Partition → Bool
named s p = is_in s p.end

later : (s : Segment) (p : Partition) (ps : List Partition) (k : ℕ) → IsFirst s (p ∷ ps) (suc k) → IsFirst s ps k
later s p ps k first = record {
  within = omega (arith, first.within);
  here = λ d. first.here d;
  before = λ i d lt. first.before (suc i) d (omega arith);
}

pub found_first : (s : Segment) (ps : List Partition) (at : ℕ) (d : Partition) → IsFirst s ps at → find (named s) ps ≡ Some (get_or ps at d)
found_first s [] at d first = absurd (omega (arith, first.within))
found_first s (p ∷ ps) zero d first = rw (first.here d) refl
found_first s (p ∷ ps) (suc k) d first = rw (first.before 0 d (omega arith)) (found_first s ps k d (later s p ps k first))

-- ---- a segment is in one partition at most

in_is : (s : Segment) (e : End) → is_in s e ≡ is_eq (end_cmp (own_end s) e)
in_is s e = ap (λ b. b && int_eq s.partition e.partition) (sym (is_eq-slice_cmp s.topic e.topic)) ∙ tied_then (slice_cmp nat_cmp s.topic e.topic) (int_cmp s.partition e.partition)

other_name : (s : Segment) (e f : End) → is_in s e ≡ true → end_cmp e f ≡ Less → is_in s f ≡ false
other_name s e f here less =
    let tied : end_cmp (own_end s) e ≡ Equal = (Equal-is (end_cmp (own_end s) e)).0 (sym (in_is s e) ∙ here) in
    in_is s f ∙ ap is_eq (end_total.congr (own_end s) e f tied ∙ less)

unchanged : (s : Segment) (e : End) (ps : List Partition) → is_in s e ≡ true → AllByRecursion (λ f. end_cmp e f ≡ Less) (map (λ p. p.end) ps) → map (with_segment s) ps ≡ ps
unchanged s e [] here above = refl
unchanged s e (p ∷ ps) here above = rw (other_name s e p.end here above.0) (ap (λ l. p ∷ l) (unchanged s e ps here above.1))

abbrev pub held : Segment → Partition → Partition
held s p = record p { segments = insert_segment s p.segments }

pub with_is_set : (s : Segment) (ps : List Partition) (at : ℕ) (d : Partition) → IsStrictlySortedBy end_cmp (map (λ p. p.end) ps) → IsFirst s ps at
    → map (with_segment s) ps ≡ set ps at (held s (get_or ps at d))
unfolding IsStrictlySortedBy
with_is_set s [] at d up first = absurd (omega (arith, first.within))
with_is_set s (p ∷ ps) zero d up first = rw (first.here d) (ap (λ l. held s p ∷ l) (unchanged s p.end ps (first.here d) up.0))
with_is_set s (p ∷ ps) (suc k) d up first = rw (first.before 0 d (omega arith)) (ap (λ l. p ∷ l) (with_is_set s ps k d up.1 (later s p ps k first)))

-- ---- the partition of a name, by halving

by_ends : (ps : List Partition) → IsStrictlySortedBy end_cmp (map (λ p. p.end) ps) → IsStrictlySortedBy (on (λ p. p.end) end_cmp) ps
unfolding IsStrictlySortedBy
by_ends [] up = tt
by_ends (p ∷ ps) up = (above ps up.0, by_ends ps up.1)
  where
    above : (qs : List Partition) → AllByRecursion (λ e. end_cmp p.end e ≡ Less) (map (λ q. q.end) qs) → AllByRecursion (λ q. end_cmp p.end q.end ≡ Less) qs
    above [] all = tt
    above (q ∷ qs) all = (all.0, above qs all.1)

names_ascend : (ps : List Partition) → IsStrictlySortedBy (on (λ p. p.end) end_cmp) ps → IsSortedBy (λ a b. is_lt (end_cmp a.end b.end)) ps
names_ascend ps up k d low high =
    let less : end_cmp (get_or ps k d).end (get_or ps (k + 1) d).end ≡ Less = Less-from_sorted (on (λ p. p.end) end_cmp) ps k (k + 1) d up (omega arith) high in
    ap is_lt (end_total.antisymm (get_or ps (k + 1) d).end (get_or ps k d).end ∙ ap ordering_reverse less)

none_found : (s : Segment) (ps : List Partition) → ((k : ℕ) (d : Partition) → k < length ps → named s (get_or ps k d) ≡ false) → find (named s) ps ≡ None
none_found s [] none = refl
none_found s (p ∷ ps) none = rw (none 0 p (omega arith)) (none_found s ps (λ k d lt. none (suc k) d (omega arith)))

-- how a name stands to another, seen from the segment
seen : (s : Segment) (e : End) (o : Ordering) → end_cmp e (own_end s) ≡ o → is_in s e ≡ is_eq (ordering_reverse o)
seen s e o is = in_is s e ∙ ap is_eq (end_total.antisymm (own_end s) e ∙ ap ordering_reverse is)

below : (e f own : End) → end_cmp e f ≡ Less → end_cmp f own ≡ Equal → end_cmp e own ≡ Less
below e f own less tied =
    end_total.antisymm e own ∙ ap ordering_reverse (end_total.congr own f e (end_total.antisymm own f ∙ ap ordering_reverse tied) ∙ end_total.antisymm f e ∙ ap ordering_reverse less)

-- before the place or from it on
pub parted_at : (P : Type 0) (k at : ℕ) → (k < at → P) → (at ≤ k → P) → P
parted_at P k at before after = by (nat_lt k at) refl
  where
    by : (b : Bool) → nat_lt k at ≡ b → P
    by true is = before (ltb-true _ _ is)
    by false is = after (ltb-false _ _ is)

-- a binary search finds the segment's partition, or there is none
pub found_by : (s : Segment) (ps : List Partition) (r : Result ℕ ℕ) → IsStrictlySortedBy end_cmp (map (λ p. p.end) ps) → IsSearchInRange r (length ps)
    → IsBinarySearchResult (λ p. end_cmp p.end (own_end s)) ps r → IfOk r (IsFirst s ps) × IfErr r (λ at. find (named s) ps ≡ None)
found_by s ps (Ok at) up within equal =
    let before : (k : ℕ) (d : Partition) → k < at → is_in s (get_or ps k d).end ≡ false = λ k d lt.
    (let less : end_cmp (get_or ps k d).end (get_or ps at d).end ≡ Less = Less-from_sorted (on (λ p. p.end) end_cmp) ps k at d (by_ends ps up) lt within in
    seen s (get_or ps k d).end Less (below (get_or ps k d).end (get_or ps at d).end (own_end s) less (equal d))) in
    (record { within = within; here = λ d. seen s (get_or ps at d).end Equal (equal d); before = before }, tt)
found_by s ps (Err at) up within parted =
    let parts = parted (searchable_from_sorted end_total (λ p. p.end) ps (own_end s) (names_ascend ps (by_ends ps up))) in (
      tt,
      none_found s ps (λ k d lt. parted_at (named s (get_or ps k d) ≡ false) k at
          (λ before. seen s (get_or ps k d).end Less (parts.0 k d (omega arith) before))
          (λ after. seen s (get_or ps k d).end Greater (parts.1 k d after lt))),
    )

-- ---- one segment more

length-insert_segment : (s : Segment) (xs : List Segment) → length (insert_segment s xs) ≡ length xs + 1
unfolding insert_segment
length-insert_segment s [] = refl
length-insert_segment s (x ∷ xs) = by (int_lt s.base x.base) (length-insert_segment s xs)
  where
    by : (b : Bool) → length (insert_segment s xs) ≡ length xs + 1 → length (if b then s ∷ x ∷ xs else x ∷ insert_segment s xs) ≡ length (x ∷ xs) + 1
    by true later = omega arith
    by false later = omega (arith, later)

pub one_more_segment : (s : Segment) (ps : List Partition) (at : ℕ) (d : Partition) → at < length ps → length (segments_of (set ps at (held s (get_or ps at d)))) ≡ length (segments_of ps) + 1
one_more_segment s [] at d within = absurd (omega (arith, within))
one_more_segment s (p ∷ ps) zero d within = simp length-append (omega (arith, length-insert_segment s p.segments))
one_more_segment s (p ∷ ps) (suc k) d within = simp length-append (omega (arith, one_more_segment s ps k d (omega arith)))

all_insert : (P : Segment → Type 0) (s : Segment) (xs : List Segment) → P s → AllByRecursion P xs → AllByRecursion P (insert_segment s xs)
unfolding insert_segment
all_insert P s [] one all = (one, tt)
all_insert P s (x ∷ xs) one all = by (int_lt s.base x.base) (all_insert P s xs one all.1)
  where
    by : (b : Bool) → AllByRecursion P (insert_segment s xs) → AllByRecursion P (if b then s ∷ x ∷ xs else x ∷ insert_segment s xs)
    by true later = (one, (all.0, all.1))
    by false later = (all.0, later)

or_first : (a b : Bool) → (a || b) ≡ false → a ≡ false
or_first true b h = h
or_first false b h = refl

or_second : (a b : Bool) → (a || b) ≡ false → b ≡ false
or_second true b h = absurd (cc h)
or_second false b h = h

abbrev base_cmp : Segment → Segment → Ordering
base_cmp = on (λ s. s.base) int_cmp

less_from : (p q : Bool) → is_eq (cond p Less (cond q Greater Equal)) ≡ false → q ≡ false → cond p Less (cond q Greater Equal) ≡ Less
less_from true q h g = refl
less_from false true h g = absurd (cc g)
less_from false false h g = absurd (cc h)

all_above : (s x : Segment) (xs : List Segment) → base_cmp s x ≡ Less → AllByRecursion (λ y. base_cmp x y ≡ Less) xs → AllByRecursion (λ y. base_cmp s y ≡ Less) xs
all_above s x [] less all = tt
all_above s x (y ∷ ys) less all = (int_cmp_total.trans s.base x.base y.base less all.0, all_above s x ys less all.1)

rising_insert : (s : Segment) (xs : List Segment) → has_base s.base xs ≡ false → IsRising xs → IsRising (insert_segment s xs)
unfolding insert_segment IsStrictlySortedBy
rising_insert s [] absent up = (tt, tt)
rising_insert s (x ∷ xs) absent up = by (int_lt s.base x.base) refl (rising_insert s xs (or_second (int_eq x.base s.base) (has_base s.base xs) absent) up.1)
  where
    by : (b : Bool) → int_lt s.base x.base ≡ b → IsRising (insert_segment s xs) → IsRising (if b then s ∷ x ∷ xs else x ∷ insert_segment s xs)
    by true less later =
        let below : base_cmp s x ≡ Less = ap (λ t. cond t Less (cond (int_lt x.base s.base) Greater Equal)) less in
        ((below, all_above s x xs below up.0), up)
    by false not_less later =
        let below : base_cmp x s ≡ Less = less_from (int_lt x.base s.base) (int_lt s.base x.base) (or_first (int_eq x.base s.base) (has_base s.base xs) absent) not_less in
        (all_insert (λ y. base_cmp x y ≡ Less) s xs below up.0, later)

pub is_partition : (s : Segment) (p : Partition) → IsPartition p → IsOwn p.end s → has_base s.base p.segments ≡ false → IsPartition (held s p)
is_partition s p so_far own absent = record { own = all_insert (IsOwn p.end) s p.segments own so_far.own; rising = rising_insert s p.segments absent so_far.rising }

pub part_at : (ps : List Partition) (at : ℕ) (d : Partition) → at < length ps → AllByRecursion IsPartition ps → IsPartition (get_or ps at d)
part_at [] at d within each = absurd (omega (arith, within))
part_at (p ∷ ps) zero d within each = each.0
part_at (p ∷ ps) (suc k) d within each = part_at ps k d (omega arith) each.1

each_set : (ps : List Partition) (at : ℕ) (q : Partition) → AllByRecursion IsPartition ps → IsPartition q → AllByRecursion IsPartition (set ps at q)
each_set [] at q each one = tt
each_set (p ∷ ps) zero q each one = (one, each.1)
each_set (p ∷ ps) (suc k) q each one = (each.0, each_set ps k q each.1 one)

-- ---- the outcomes of an addition, in their order

some_of : (ps : List Partition) (at : ℕ) → at < length ps → Partition
some_of [] at within = absurd (omega (arith, within))
some_of (p ∷ ps) at within = p

pub refused_unnamed : (e : EvidenceParts) (s : Segment) → find (named s) e.partitions ≡ None → added e s ≡ Err faults.Name
unfolding added
refused_unnamed e s none = rw none refl

pub refused_base : (e : EvidenceParts) (s : Segment) (at : ℕ) → IsFirst s e.partitions at → int_lt s.base (pos 0) ≡ true → added e s ≡ Err faults.Name
unfolding added
refused_base e s at first below = rw (found_first s e.partitions at (some_of e.partitions at first.within) first, below) refl

pub refused_limit : (e : EvidenceParts) (s : Segment) (at : ℕ) → IsFirst s e.partitions at → int_lt s.base (pos 0) ≡ false → is_past_limit e s ≡ true → added e s ≡ Err faults.Limit
unfolding added
refused_limit e s at first base past = rw (found_first s e.partitions at (some_of e.partitions at first.within) first, base, past) refl

pub refused_duplicate : (e : EvidenceParts) (s : Segment) (at : ℕ) (d : Partition) → MayTake e s at → has_base s.base (get_or e.partitions at d).segments ≡ true → added e s ≡ Err faults.Duplicate
unfolding added
refused_duplicate e s at d may there = rw (found_first s e.partitions at d may.first, may.base, may.within, there) refl

pub gives_added : (e : EvidenceParts) (s : Segment) (at : ℕ) (d : Partition) → IsEvidence e → MayTake e s at → has_base s.base (get_or e.partitions at d).segments ≡ false
    → added e s ≡ Ok (record e { partitions = set e.partitions at (held s (get_or e.partitions at d)) })
unfolding added
gives_added e s at d evidence may absent =
    let up : IsStrictlySortedBy end_cmp (map (λ p. p.end) e.partitions) = subst (IsStrictlySortedBy end_cmp) (sym evidence.ends) evidence.accepted.ascending in
    rw (found_first s e.partitions at d may.first, may.base, may.within, absent) (ap (λ ps. Ok (record e { partitions = ps })) (with_is_set s e.partitions at d up may.first))

-- what the partition's refusal answers
pub answers_refusal : (e after : EvidenceParts) (s : Segment) (at : ℕ) (d : Partition) (f : AddFault) → IsEvidence e → MayTake e s at
    → (f ≡ faults.Duplicate → has_base s.base (get_or e.partitions at d).segments ≡ true) → (has_base s.base (get_or e.partitions at d).segments ≡ true → f ≡ faults.Duplicate)
    → (f ≡ faults.Name → ⊥) → (f ≡ faults.Limit → ⊥) → AddAnswers (Err f) after (added e s)
answers_refusal e after s at d faults.Name evidence may only_there there no_name no_limit = absurd (no_name refl)
answers_refusal e after s at d faults.Limit evidence may only_there there no_name no_limit = absurd (no_limit refl)
answers_refusal e after s at d faults.Duplicate evidence may only_there there no_name no_limit = refused_duplicate e s at d may (only_there refl)
answers_refusal e after s at d faults.OutOfMemory evidence may only_there there no_name no_limit = by (has_base s.base (get_or e.partitions at d).segments) refl
  where
    by : (b : Bool) → has_base s.base (get_or e.partitions at d).segments ≡ b → IsOk (added e s)
    by true is = let other : faults.OutOfMemory ≡ faults.Duplicate = there is in absurd cc
    by false is = rw (gives_added e s at d evidence may is) refl

-- the evidence stays evidence
pub still_counted : (e : EvidenceParts) (s : Segment) (at count : ℕ) (d : Partition) → IsCounted e count → MayTake e s at → length s.bytes ≤ 2 ^ 30 → count < 65536 → has_base s.base (get_or e.partitions at d).segments ≡ false
    → IsCounted (record e { partitions = set e.partitions at (held s (get_or e.partitions at d)) }) (count + 1)
still_counted e s at count d counted may small few absent =
    let evidence = counted.evidence_is in
    let first = may.first in
    let longer = one_more_segment s e.partitions at d first.within in
    let own : IsOwn (get_or e.partitions at d).end s = record { named = first.here d; base = grind (arith, ints, may.base); width = grind (arith, ints, may.fits); size = small } in
    record {
      evidence_is = record {
        accepted = evidence.accepted;
        ends = map-set_same (λ p. p.end) e.partitions at (held s (get_or e.partitions at d)) d refl ∙ evidence.ends;
        each = each_set e.partitions at _ evidence.each (is_partition s (get_or e.partitions at d) (part_at e.partitions at d first.within evidence.each) own absent);
        few = omega (arith, longer, counted.count_is, few);
      };
      count_is = omega (arith, longer, counted.count_is);
    }

-- ---- no segments yet

unnamed_ends : (es : List End) → map {A = Partition} (λ p. p.end) (map empty_partition es) ≡ es
unnamed_ends [] = refl
unnamed_ends (e ∷ es) = ap (λ l. e ∷ l) (unnamed_ends es)

none_each : (es : List End) → AllByRecursion IsPartition (map empty_partition es)
unfolding IsStrictlySortedBy
none_each [] = tt
none_each (e ∷ es) = (record { own = tt; rising = tt }, none_each es)

no_segments : (es : List End) → length (segments_of (map empty_partition es)) ≡ 0
no_segments [] = refl
no_segments (e ∷ es) = no_segments es

pub begun : (spec : SpecFields) (ps : List Partition) → IsAccepted spec → ps ≡ map empty_partition spec.ends → IsCounted (record { spec = spec; partitions = ps }) 0
begun spec ps accepted is = subst (λ l. IsCounted (record { spec = spec; partitions = l }) 0) (sym is) (record {
  evidence_is = record { accepted = accepted; ends = unnamed_ends spec.ends; each = none_each spec.ends; few = omega (arith, no_segments spec.ends) };
  count_is = sym (no_segments spec.ends);
})

-- ---- the same of the partition p that stands at the place

not_true : (b : Bool) → (b ≡ true → ⊥) → b ≡ false
not_true true h = absurd (h refl)
not_true false h = refl

abbrev Answer : Type 0
Answer = Result (Unit {0}) AddFault

inner : (f g : AddFault) → (let r : Answer = Err f in r ≡ Err g) → f ≡ g
inner f g h = cc h

pub refusal_at : (e after : EvidenceParts) (s : Segment) (at : ℕ) (p : Partition) (f y : AddFault) (r : Answer) → IsEvidence e → MayTake e s at → p ≡ get_or e.partitions at p
    → ((let a : Answer = Err f in a ≡ Err faults.Duplicate) → has_base s.base p.segments ≡ true) → (has_base s.base p.segments ≡ true → (let a : Answer = Err f in a ≡ Err faults.Duplicate))
    → ((let a : Answer = Err f in a ≡ Err faults.Name) → ⊥) → ((let a : Answer = Err f in a ≡ Err faults.Limit) → ⊥) → r ≡ Err y → y ≡ f → AddAnswers r after (added e s)
refusal_at e after s at p f y r evidence may is only_there there no_name no_limit r_is y_is =
    rw (r_is, y_is) (answers_refusal e after s at p f evidence may
    (λ h. subst (λ q. has_base s.base q.segments ≡ true) is (only_there (ap Err h)))
    (λ h. inner _ _ (there (subst (λ q. has_base s.base q.segments ≡ true) (sym is) h)))
    (λ h. no_name (ap Err h)) (λ h. no_limit (ap Err h)))

pub done_at : (e : EvidenceParts) (s : Segment) (at : ℕ) (p q : Partition) → IsEvidence e → MayTake e s at → p ≡ get_or e.partitions at p → (has_base s.base p.segments ≡ true → ⊥)
    → q ≡ record p { segments = insert_segment s p.segments } → added e s ≡ Ok (record e { partitions = set e.partitions at q })
done_at e s at p q evidence may is absent q_is =
    gives_added e s at p evidence may (subst (λ x. has_base s.base x.segments ≡ false) is (not_true _ absent))
    ∙ ap (λ x. Ok (record e { partitions = set e.partitions at x })) (ap (held s) (sym is) ∙ sym q_is)

pub counted_at : (e : EvidenceParts) (s : Segment) (at count : ℕ) (p q : Partition) → IsCounted e count → MayTake e s at → p ≡ get_or e.partitions at p → (has_base s.base p.segments ≡ true → ⊥)
    → q ≡ record p { segments = insert_segment s p.segments } → IsCounted (record e { partitions = set e.partitions at q }) (count + 1)
counted_at e s at count p q counted may is absent q_is =
    let small : length s.bytes ≤ 2 ^ 30 = ltb-false _ _ (or_first (nat_lt (2 ^ 30) (length s.bytes)) (nat_le 65536 (length (segments_of e.partitions))) may.within) in
    let few : length (segments_of e.partitions) < 65536 = leb-false _ _ (or_second (nat_lt (2 ^ 30) (length s.bytes)) (nat_le 65536 (length (segments_of e.partitions))) may.within) in
    subst (λ x. IsCounted (record e { partitions = set e.partitions at x }) (count + 1)) (ap (held s) (sym is) ∙ sym q_is)
    (still_counted e s at count p counted may small (omega (arith, few, counted.count_is)) (subst (λ x. has_base s.base x.segments ≡ false) is (not_true _ absent)))

-- what the builder holds beside the evidence stays as it is
pub still_built : (e : EvidenceParts) (at : ℕ) (q : Partition) (firsts : List ℕ) (count more : ℕ) → IsBuilt e firsts count
    → IsCounted (record e { partitions = set e.partitions at q }) more → IsBuilt (record e { partitions = set e.partitions at q }) firsts more
still_built e at q firsts count more built counted = record { counted = counted; as_many = built.as_many ∙ sym (length-set e.partitions at q) }
