-- Each segment of a cluster's logs is added, one after the other.
use Rattle.std.proofs.Common.{◌≡◌, ℕ, zero, suc, ◌+◌, ◌*◌, ◌^◌, ◌<◌, ◌≤◌, ◌==◌, ◌||◌, true, false, pos, List, [], ◌∷◌, ◌++◌, length, map, find, Some, Result, Ok, Err, refl, sym, ap, subst, ◌∙◌, arith, inl, inr, length-append}
use Rattle.std.specs.Prelude.{int_lt, nat_lt, nat_le, unsigned_abs, bytes_eq, if◌then◌else◌}
use Rattle.std.specs.List.{flat_map, range_with_len}
use Rattle.std.specs.Ordering.{int_eq}
use Rattle.std.proofs.Math.Nat.{mul-le-mul_right}
use Rattle.std.proofs.lemmas.Int.{ints}
use Rattle.std.proofs.lemmas.Bool.{cases_eq, and_parts, and_from, false_from_ne_true, eqb-true, eqb-false}
use Rattle.std.proofs.lemmas.Bool.Decides.{Decides-int_eq}
use Rattle.std.proofs.lemmas.List.FromFn.{length-map-range_with_len}
use Rattle.std.proofs.lemmas.Slice.Eq.{bytes_eq-Decides}
use Rattle.eos_base.specs.Fallible.{◌>>=◌}
use Rattle.eos_evidence.specs.declared.segment.Segment.{Segment}
use Rattle.eos_evidence.specs.declared.partition.Partition.{Partition}
use Rattle.eos_evidence.specs.declared.fault.AddFault.{AddFault}
use Rattle.eos_evidence.specs.Evidence.{EvidenceParts, is_in, is_past_limit, has_base, insert_segment, with_segment, segments_of, empty_partition, without_segments, added}
use Rattle.eos_machine.specs.declared.config.Config.{Config}
use Rattle.eos_machine.specs.declared.item.Item.{Item}
use Rattle.eos_machine.specs.LogIndexes.{log_count, topic_of, number_of}
use Rattle.eos_machine.specs.World.{World, Election, log_at}
use Rattle.eos_machine.specs.Evidences.{end_of, parts_of, segment_at, log_segments, cluster_segments, adding}
use Rattle.eos_machine.specs.steps.Writable.{IsWritable}
use Rattle.eos_machine.proofs.PlaceNames.{one_place}
use Rattle.eos_machine.proofs.SegmentsFit.{segment_short, sum, count_at, room_enough, sum_less}

-- ---- the segments of a place go to its partition, and to no other

number_is : (m n : ℕ) → pos m ≡ pos n → m ≡ n
number_is m n e = ap unsigned_abs e

own_segment : (c : Config) (w : World) (q : ℕ) (log : List Item) (i : ℕ) → is_in (segment_at c q w.elections log i) (end_of c w q) ≡ true
own_segment c w q log i = and_from _ _ ((bytes_eq-Decides (topic_of c q) (topic_of c q)).1 refl) ((Decides-int_eq (pos (number_of c q)) (pos (number_of c q))).1 refl)

other_segment : (c : Config) (w : World) (p q : ℕ) (log : List Item) (i : ℕ) → (p ≡ q → ⊥) → is_in (segment_at c p w.elections log i) (end_of c w q) ≡ false
other_segment c w p q log i d = false_from_ne_true _ (λ h.
    let b = and_parts (bytes_eq (topic_of c p) (topic_of c q)) (int_eq (pos (number_of c p)) (pos (number_of c q))) h in
    d (one_place c p q ((bytes_eq-Decides (topic_of c p) (topic_of c q)).0 b.0) (number_is (number_of c p) (number_of c q) ((Decides-int_eq (pos (number_of c p)) (pos (number_of c q))).0 b.1))))

-- ---- the first so many segments of each place

abbrev firsts : Config → World → ℕ → ℕ → List Segment
firsts c w p k = map (segment_at c p w.elections (log_at w p)) (range_with_len 0 k)

abbrev held : Config → World → (ℕ → ℕ) → ℕ → Partition
held c w n p = record { end = end_of c w p; segments = firsts c w p (n p) }

abbrev Holds : Config → World → (ℕ → ℕ) → EvidenceParts → Type 0
Holds c w n e = e.partitions ≡ map (held c w n) (range_with_len 0 (log_count c))

-- one more of a place
abbrev more : ℕ → (ℕ → ℕ) → ℕ → ℕ
more q n p = if p == q then suc (n p) else n p

found : (c : Config) (w : World) (n : ℕ → ℕ) (q i a k : ℕ) → a ≤ q → q < a + k → find (λ x. is_in (segment_at c q w.elections (log_at w q) i) x.end) (map (held c w n) (range_with_len a k)) ≡ Some (held c w n q)
found c w n q i a zero l m = absurd (omega (arith, l, m))
found c w n q i a (suc k) l m = elim (cases_eq q a) [
  | inl e ↦ subst (λ b. find (λ x. is_in (segment_at c q w.elections (log_at w q) i) x.end) (map (held c w n) (range_with_len b (suc k))) ≡ Some (held c w n q)) e (rw (own_segment c w q (log_at w q) i) refl)
  | inr d ↦ rw (other_segment c w q a (log_at w q) i d) (found c w n q i (a + 1) k (next a q l d) (omega (arith, m)))
]
  where
    next : (a q : ℕ) → a ≤ q → (q ≡ a → ⊥) → a + 1 ≤ q
    next a q l d = grind (arith, l, d)

-- ---- bases rise

times_more : (i n : ℕ) → (i + 1) * n ≡ i * n + n
times_more zero n = omega arith
times_more (suc i) n = let e = times_more i n in omega (arith, e)

below : (a i r : ℕ) → 1 ≤ r → a < i → a * r < i * r
below a i r l m = let e = times_more a r in let g = mul-le-mul_right r m in omega (arith, e, g, l)

unequal : (x y : ℕ) → x < y → int_eq (pos x) (pos y) ≡ false
unequal x y l = grind (arith, ints, l)

not_less : (x y : ℕ) → x < y → int_lt (pos y) (pos x) ≡ false
not_less x y l = grind (arith, ints, l)

new_base : (c : Config) (q : ℕ) (es : List Election) (log : List Item) (a k i : ℕ) → 1 ≤ c.segment_records → a + k ≤ i → has_base (pos (i * c.segment_records)) (map (segment_at c q es log) (range_with_len a k)) ≡ false
new_base c q es log a zero i l m = refl
new_base c q es log a (suc k) i l m =
    rw (unequal (a * c.segment_records) (i * c.segment_records) (below a i c.segment_records l (omega (arith, m)))) (new_base c q es log (a + 1) k i l (omega (arith, m)))

goes_last : (c : Config) (q : ℕ) (es : List Election) (log : List Item) (a k i : ℕ) → 1 ≤ c.segment_records → a + k ≤ i
    → insert_segment (segment_at c q es log i) (map (segment_at c q es log) (range_with_len a k)) ≡ map (segment_at c q es log) (range_with_len a k) ++ segment_at c q es log i ∷ []
unfolding insert_segment
goes_last c q es log a zero i l m = refl
goes_last c q es log a (suc k) i l m =
    rw (not_less (a * c.segment_records) (i * c.segment_records) (below a i c.segment_records l (omega (arith, m))))
    (ap (λ r. segment_at c q es log a ∷ r) (goes_last c q es log (a + 1) k i l (omega (arith, m))))

one_further : {X : Type 0} (f : ℕ → X) (a k i : ℕ) → a + k ≡ i → map f (range_with_len a k) ++ f i ∷ [] ≡ map f (range_with_len a (suc k))
one_further f a zero i e = let q : i ≡ a = omega (arith, e) in ap (λ j. f j ∷ []) q
one_further f a (suc k) i e = ap (λ r. f a ∷ r) (one_further f (a + 1) k i (omega (arith, e)))

-- ---- one segment more

in_place : (c : Config) (w : World) (n : ℕ → ℕ) (q p : ℕ) → 1 ≤ c.segment_records → with_segment (segment_at c q w.elections (log_at w q) (n q)) (held c w n p) ≡ held c w (more q n) p
in_place c w n q p l = elim (p == q) as (λ t. (p == q) ≡ t → with_segment (segment_at c q w.elections (log_at w q) (n q)) (held c w n p) ≡ record { end = end_of c w p; segments = firsts c w p (if t then suc (n p) else n p) }) [
  | true ↦ λ e. subst (λ r. with_segment (segment_at c q w.elections (log_at w q) (n q)) (held c w n r) ≡ record { end = end_of c w r; segments = firsts c w r (suc (n r)) }) (sym (eqb-true p q e))
      (rw (own_segment c w q (log_at w q) (n q)) (ap (λ (ss : List Segment). record { end = end_of c w q; segments = ss })
      (goes_last c q w.elections (log_at w q) 0 (n q) (n q) l (omega arith) ∙ one_further (segment_at c q w.elections (log_at w q)) 0 (n q) (n q) (omega arith))))
  | false ↦ λ e. rw (other_segment c w q p (log_at w q) (n q) (λ s. eqb-false p q e (sym s))) refl
] refl

all_placed : {X Y : Type 0} (f : Y → Y) (g h : X → Y) (xs : List X) → ((x : X) → f (g x) ≡ h x) → map f (map g xs) ≡ map h xs
all_placed f g h [] e = refl
all_placed f g h (x ∷ xs) e = ap (λ y. y ∷ map f (map g xs)) (e x) ∙ ap (λ ys. h x ∷ ys) (all_placed f g h xs e)

how_many : (c : Config) (w : World) (n : ℕ → ℕ) (ps : List ℕ) → length (segments_of (map (held c w n) ps)) ≡ sum n ps
how_many c w n [] = refl
how_many c w n (p ∷ ps) =
    let e = length-append (firsts c w p (n p)) (segments_of (map (held c w n) ps)) in
    let f = length-map-range_with_len (segment_at c p w.elections (log_at w p)) 0 (n p) in
    let r = how_many c w n ps in
    omega (arith, e, f, r)

-- what holds of the segments so far
record IsOnWay (c : Config) (w : World) (n : ℕ → ℕ) (e : EvidenceParts) : Type 0 where
  holds : Holds c w n e
  few : (p : ℕ) → n p ≤ count_at c w p

record OneMore (c : Config) (w : World) (n : ℕ → ℕ) (q : ℕ) (e : EvidenceParts) : Type 0 where
  after : EvidenceParts
  added_is : added e (segment_at c q w.elections (log_at w q) (n q)) ≡ Ok after
  on_way : IsOnWay c w (more q n) after

within_limit : (a b : ℕ) → a ≤ 2 ^ 30 → b < 65536 → (nat_lt (2 ^ 30) a || nat_le 65536 b) ≡ false
within_limit a b l m = grind (arith, l, m)

base_right : (n : ℕ) → int_lt (pos n) (pos 0) ≡ false
base_right n = grind (arith, ints)

one_more : (c : Config) (w : World) (n : ℕ → ℕ) (q : ℕ) (e : EvidenceParts) → IsWritable c w → q < log_count c → n q < count_at c w q → IsOnWay c w n e → OneMore c w n q e
unfolding added
one_more c w n q e g l m h =
    let s : Segment = segment_at c q w.elections (log_at w q) (n q) in
    let r = g.sizes.segment_records.0 in
    let f : find (λ x. is_in s x.end) e.partitions ≡ Some (held c w n q) = ap (find (λ x. is_in s x.end)) h.holds ∙ found c w n q (n q) 0 (log_count c) (omega arith) (omega (arith, l)) in
    let k : length (segments_of e.partitions) ≡ sum n (range_with_len 0 (log_count c)) = ap (λ ps. length (segments_of ps)) h.holds ∙ how_many c w n (range_with_len 0 (log_count c)) in
    let less = sum_less n (count_at c w) q 0 (log_count c) h.few (omega arith) (omega (arith, l)) m in
    let room = room_enough c w g.sizes g.count g.room in
    let lim : is_past_limit e s ≡ false = within_limit (length s.bytes) (length (segments_of e.partitions)) (segment_short c q w.elections (log_at w q) (n q) g.sizes (g.fit q)) (omega (arith, k, less, room)) in
    record {
      after = record e { partitions = map (with_segment s) e.partitions };
      added_is = rw (f, base_right (n q * c.segment_records), lim, new_base c q w.elections (log_at w q) 0 (n q) (n q) r (omega arith)) refl;
      on_way = record {
        holds = ap (map (with_segment s)) h.holds ∙ all_placed (with_segment s) (held c w n) (held c w (more q n)) (range_with_len 0 (log_count c)) (λ p. in_place c w n q p r);
        few = λ p. still p;
      };
    }
  where
    still : (p : ℕ) → more q n p ≤ count_at c w p
    still p = elim (p == q) as (λ t. (p == q) ≡ t → (if t then suc (n p) else n p) ≤ count_at c w p) [
      | true ↦ λ x. subst (λ o. suc (n o) ≤ count_at c w o) (sym (eqb-true p q x)) (omega (arith, m))
      | false ↦ λ x. h.few p
    ] refl

-- ---- the segments of a place

record AllOf (c : Config) (w : World) (n : ℕ → ℕ) (q : ℕ) (e : EvidenceParts) (ss : List Segment) : Type 0 where
  after : EvidenceParts
  number : ℕ → ℕ
  added_are : adding e ss ≡ Ok after
  on_way : IsOnWay c w number after
  others : (p : ℕ) → (p ≡ q → ⊥) → number p ≡ n p

then_more : (e f : EvidenceParts) (s : Segment) (ss : List Segment) (r : Result EvidenceParts AddFault) → added e s ≡ Ok f → adding f ss ≡ r → adding e (s ∷ ss) ≡ r
then_more e f s ss r a h = ap (λ x. x >>= λ g. adding g ss) a ∙ h

more_here : (q : ℕ) (n : ℕ → ℕ) → more q n q ≡ suc (n q)
more_here q n = elim (q == q) as (λ t. (q == q) ≡ t → (if t then suc (n q) else n q) ≡ suc (n q)) [
  | true ↦ λ e. refl
  | false ↦ λ e. absurd (eqb-false q q e refl)
] refl

more_there : (q p : ℕ) (n : ℕ → ℕ) → (p ≡ q → ⊥) → more q n p ≡ n p
more_there q p n d = elim (p == q) as (λ t. (p == q) ≡ t → (if t then suc (n p) else n p) ≡ n p) [
  | true ↦ λ e. absurd (d (eqb-true p q e))
  | false ↦ λ e. refl
] refl

all_of : (c : Config) (w : World) (n : ℕ → ℕ) (q : ℕ) (e : EvidenceParts) (i k : ℕ) → IsWritable c w → q < log_count c → n q ≡ i → i + k ≡ count_at c w q → IsOnWay c w n e
    → AllOf c w n q e (map (segment_at c q w.elections (log_at w q)) (range_with_len i k))
all_of c w n q e i zero g l is m h = record { after = e; number = n; added_are = refl; on_way = h; others = λ p d. refl }
all_of c w n q e i (suc k) g l is m h =
    let o = one_more c w n q e g l (omega (arith, is, m)) h in
    let here = more_here q n in
    let r = all_of c w (more q n) q o.after (i + 1) k g l (omega (arith, here, is)) (omega (arith, m)) o.on_way in
    record {
      after = r.after;
      number = r.number;
      added_are = then_more e o.after (segment_at c q w.elections (log_at w q) i) (map (segment_at c q w.elections (log_at w q)) (range_with_len (i + 1) k)) (Ok r.after)
          (subst (λ j. added e (segment_at c q w.elections (log_at w q) j) ≡ Ok o.after) is o.added_is) r.added_are;
      on_way = r.on_way;
      others = λ p d. r.others p d ∙ more_there q p n d;
    }

-- ---- all places

pub adding_both : (e : EvidenceParts) (xs ys : List Segment) → adding e (xs ++ ys) ≡ (adding e xs >>= λ f. adding f ys)
adding_both e [] ys = refl
adding_both e (x ∷ xs) ys = at (added e x) (λ f. adding_both f xs ys)
  where
    at : (r : Result EvidenceParts AddFault) → ((f : EvidenceParts) → adding f (xs ++ ys) ≡ (adding f xs >>= λ g. adding g ys)) → (r >>= λ f. adding f (xs ++ ys)) ≡ ((r >>= λ f. adding f xs) >>= λ f. adding f ys)
    at (Ok f) h = h f
    at (Err e) h = refl

pub record IsAdded (e : EvidenceParts) (ss : List Segment) : Type 0 where
  pub after : EvidenceParts
  pub is : adding e ss ≡ Ok after

all_places : (c : Config) (w : World) (n : ℕ → ℕ) (e : EvidenceParts) (a k : ℕ) → IsWritable c w → a + k ≡ log_count c → ((p : ℕ) → a ≤ p → n p ≡ 0) → IsOnWay c w n e
    → IsAdded e (flat_map (λ p. log_segments c p w.elections (log_at w p)) (range_with_len a k))
all_places c w n e a zero g m z h = record { after = e; is = refl }
all_places c w n e a (suc k) g m z h =
    let o = all_of c w n a e 0 (count_at c w a) g (omega (arith, m)) (z a (omega arith)) (omega arith) h in
    let r = all_places c w o.number o.after (a + 1) k g (omega (arith, m)) (λ p l. o.others p (λ q. absurd (omega (arith, q, l))) ∙ z p (omega (arith, l))) o.on_way in
    record {
      after = r.after;
      is = adding_both e (log_segments c a w.elections (log_at w a)) (flat_map (λ p. log_segments c p w.elections (log_at w p)) (range_with_len (a + 1) k))
          ∙ (ap (λ x. x >>= λ f. adding f (flat_map (λ p. log_segments c p w.elections (log_at w p)) (range_with_len (a + 1) k))) o.added_are ∙ r.is);
    }

map_twice : {X Y Z : Type 0} (f : X → Y) (g : Y → Z) (h : X → Z) (xs : List X) → ((x : X) → g (f x) ≡ h x) → map g (map f xs) ≡ map h xs
map_twice f g h [] e = refl
map_twice f g h (x ∷ xs) e = ap (λ l. l ∷ map g (map f xs)) (e x) ∙ ap (λ l. h x ∷ l) (map_twice f g h xs e)

-- each segment of a cluster's logs is taken
pub segments_added : (c : Config) (w : World) → IsWritable c w → IsAdded (without_segments (parts_of c w)) (cluster_segments c w)
segments_added c w g = all_places c w (λ p. 0) (without_segments (parts_of c w)) 0 (log_count c) g (omega arith) (λ p l. refl) (record {
  holds = map_twice (end_of c w) empty_partition (held c w (λ p. 0)) (range_with_len 0 (log_count c)) (λ p. refl);
  few = λ p. omega arith;
})
