-- The partitions of a cluster's evidence: one for each place, with the segments of its log.
use Rattle.std.proofs.Common.{◌≡◌, ℕ, zero, suc, ◌+◌, ◌*◌, ◌<◌, ◌≤◌, pos, Bool, true, false, ◌&&◌, List, [], ◌∷◌, ◌++◌, map, Option, Some, None, Result, Ok, Err, refl, sym, ap, subst, ◌∙◌, arith, inl, inr, append_assoc, append-nil}
use Rattle.std.specs.Prelude.{int_lt, nat_le, unsigned_abs, bytes_eq, find, if◌then◌else◌, length}
use Rattle.std.specs.List.{flat_map, range_with_len}
use Rattle.std.specs.Ordering.{int_eq}
use Rattle.std.proofs.lemmas.Int.{ints}
use Rattle.std.proofs.lemmas.Bool.{cases_eq, and_parts, and_from, false_from_ne_true}
use Rattle.std.proofs.lemmas.Bool.Decides.{Decides-int_eq}
use Rattle.std.proofs.lemmas.Slice.Eq.{bytes_eq-Decides}
use Rattle.eos_base.specs.Members.{Has}
use Rattle.eos_base.specs.Fallible.{◌>>=◌}
use Rattle.eos_base.proofs.Membership.{append_cases}
use Rattle.eos_evidence.specs.declared.segment.Segment.{Segment}
use Rattle.eos_evidence.specs.declared.partition.Partition.{Partition}
use Rattle.eos_evidence.specs.declared.fault.AddFault.{AddFault}
use Rattle.eos_evidence.specs.declared.fault.AddFault.TheVariants as add_faults
use Rattle.eos_evidence.specs.declared.fault.SpecFault.{SpecFault}
use Rattle.eos_evidence.specs.declared.fault.SpecFault.TheVariants as spec_faults
use Rattle.eos_evidence.specs.Ends.{insert_end, ordered}
use Rattle.eos_evidence.specs.SpecFields.{SpecFields, are_legal_apps, are_legal_ends, accepted}
use Rattle.eos_evidence.specs.Evidence.{EvidenceParts, is_in, is_past_limit, has_base, insert_segment, with_segment, empty_partition, without_segments, added_to, added}
use Rattle.eos_machine.specs.declared.config.Config.{Config}
use Rattle.eos_machine.specs.LogIndexes.{IsConfig, log_count, topic_of, number_of}
use Rattle.eos_machine.specs.declared.item.Item.{Item}
use Rattle.eos_machine.specs.World.{World, log_at}
use Rattle.eos_machine.specs.Evidences.{end_of, parts_of, segment_count, segment_at, log_segments, cluster_segments, adding, IsEvidenceOf}
use Rattle.eos_machine.proofs.PlaceNames.{one_place, ends_rise}

abbrev pub partition_at : Config → World → ℕ → Partition
partition_at c w p = record { end = end_of c w p; segments = log_segments c p w.elections (log_at w p) }

-- ---- what segments more make of the partitions

abbrev with_all : List Segment → Partition → Partition
with_all [] p = p
with_all (s ∷ ss) p = with_all ss (with_segment s p)

with_append : (xs ys : List Segment) (p : Partition) → with_all (xs ++ ys) p ≡ with_all ys (with_all xs p)
with_append [] ys p = refl
with_append (x ∷ xs) ys p = with_append xs ys (with_segment x p)

ok_is : (e f : EvidenceParts) → (let r : Result EvidenceParts AddFault = Ok e in r ≡ Ok f) → e ≡ f
ok_is e f h = cc h

added_is : (e f : EvidenceParts) (s : Segment) → added e s ≡ Ok f → f.partitions ≡ map (with_segment s) e.partitions
unfolding added
added_is e f s h = by_found (find (λ p. is_in s p.end) e.partitions) h
  where
    by_tests : (a b d : Bool) → (let r : Result EvidenceParts AddFault = if a then Err add_faults.Name else (if b then Err add_faults.Limit else (if d then Err add_faults.Duplicate else Ok (record e { partitions = map (with_segment s) e.partitions }))) in r ≡ Ok f)
        → f.partitions ≡ map (with_segment s) e.partitions
    by_tests true b d k = absurd cc
    by_tests false true d k = absurd cc
    by_tests false false true k = absurd cc
    by_tests false false false k = sym (ap (λ (x : EvidenceParts). x.partitions) (ok_is _ f k))

    by_found : (o : Option Partition) → added_to e s o ≡ Ok f → f.partitions ≡ map (with_segment s) e.partitions
    by_found None k = absurd cc
    by_found (Some p) k = by_tests (int_lt s.base (pos 0)) (is_past_limit e s) (has_base s.base p.segments) k

same_list : (ps : List Partition) → map (with_all []) ps ≡ ps
same_list [] = refl
same_list (p ∷ ps) = ap (λ l. p ∷ l) (same_list ps)

map_twice : {X Y Z : Type 0} (f : X → Y) (g : Y → Z) (xs : List X) → map g (map f xs) ≡ map (λ x. g (f x)) xs
map_twice f g [] = refl
map_twice f g (x ∷ xs) = ap (λ l. g (f x) ∷ l) (map_twice f g xs)

all_added : (e f : EvidenceParts) (ss : List Segment) → adding e ss ≡ Ok f → f.partitions ≡ map (with_all ss) e.partitions
all_added e f [] h = sym (ap (λ (x : EvidenceParts). x.partitions) (ok_is e f h)) ∙ sym (same_list e.partitions)
all_added e f (s ∷ ss) h = by (added e s) refl h (λ g k. all_added g f ss k)
  where
    by : (r : Result EvidenceParts AddFault) → added e s ≡ r → (r >>= λ g. adding g ss) ≡ Ok f → ((g : EvidenceParts) → adding g ss ≡ Ok f → f.partitions ≡ map (with_all ss) g.partitions)
        → f.partitions ≡ map (with_all (s ∷ ss)) e.partitions
    by (Err x) a k rec = absurd cc
    by (Ok g) a k rec = rec g k ∙ (ap (map (with_all ss)) (added_is e g s a) ∙ map_twice (with_segment s) (with_all ss) e.partitions)

-- ---- the ends are in order as they are

ok_parts : (e f : SpecFields) → (let r : Result SpecFields SpecFault = Ok e in r ≡ Ok f) → e ≡ f
ok_parts e f h = cc h

accepted_is : (given spec : SpecFields) → accepted given ≡ Ok spec → spec.ends ≡ ordered given.ends
unfolding accepted
accepted_is given spec h = by (are_legal_apps given.apps && are_legal_ends given.ends) (nat_le (length given.apps) 256 && nat_le (length given.ends) 4096) h
  where
    by : (a b : Bool) → (let r : Result SpecFields SpecFault = if a then (if b then Ok (record given { ends = ordered given.ends }) else Err spec_faults.Limit) else Err spec_faults.Field in r ≡ Ok spec) → spec.ends ≡ ordered given.ends
    by true true k = sym (ap (λ (x : SpecFields). x.ends) (ok_parts _ spec k))
    by true false k = absurd cc
    by false b k = absurd cc

ordered_is : (c : Config) (w : World) (a n : ℕ) → IsConfig c → ordered (map (end_of c w) (range_with_len a n)) ≡ map (end_of c w) (range_with_len a n)
unfolding ordered insert_end
ordered_is c w a zero i = refl
ordered_is c w a (suc zero) i = refl
ordered_is c w a (suc (suc n)) i =
    ap (insert_end (end_of c w a)) (ordered_is c w (a + 1) (suc n) i)
    ∙ rw (ends_rise c a (a + 1) (end_of c w a) (end_of c w (a + 1)) (omega arith) refl refl refl refl) refl

-- ---- the segments of a place go to its partition, and to no other

number_is : (m n : ℕ) → pos m ≡ pos n → m ≡ n
number_is m n e = ap unsigned_abs e

own_segment : (c : Config) (w : World) (q : ℕ) (log : List Item) (i : ℕ) → is_in (segment_at c q w.elections log i) (end_of c w q) ≡ true
own_segment c w q log i = and_from _ _ ((bytes_eq-Decides (topic_of c q) (topic_of c q)).1 refl) ((Decides-int_eq (pos (number_of c q)) (pos (number_of c q))).1 refl)

other_segment : (c : Config) (w : World) (p q : ℕ) (log : List Item) (i : ℕ) → (p ≡ q → ⊥) → is_in (segment_at c p w.elections log i) (end_of c w q) ≡ false
other_segment c w p q log i d = false_from_ne_true _ (λ h.
    let b = and_parts (bytes_eq (topic_of c p) (topic_of c q)) (int_eq (pos (number_of c p)) (pos (number_of c q))) h in
    d (one_place c p q ((bytes_eq-Decides (topic_of c p) (topic_of c q)).0 b.0) (number_is (number_of c p) (number_of c q) ((Decides-int_eq (pos (number_of c p)) (pos (number_of c q))).0 b.1))))

abbrev held : Config → World → ℕ → List Segment → Partition
held c w q xs = record { end = end_of c w q; segments = xs }

passed_by : (c : Config) (w : World) (p q : ℕ) (log : List Item) (ks : List ℕ) (xs : List Segment) → (p ≡ q → ⊥) → with_all (map (segment_at c p w.elections log) ks) (held c w q xs) ≡ held c w q xs
passed_by c w p q log [] xs d = refl
passed_by c w p q log (k ∷ ks) xs d =
    ap (with_all (map (segment_at c p w.elections log) ks)) (ap (λ b. if b then held c w q (insert_segment (segment_at c p w.elections log k) xs) else held c w q xs) (other_segment c w p q log k d))
    ∙ passed_by c w p q log ks xs d

-- the bases of these are at most this number
abbrev AreUpTo : ℕ → List Segment → Type 0
AreUpTo n xs = (x : Segment) → Has xs x → (b : ℕ) × (x.base ≡ pos b) × (b ≤ n)

insert_last : (s : Segment) (n : ℕ) (xs : List Segment) → s.base ≡ pos n → AreUpTo n xs → insert_segment s xs ≡ xs ++ s ∷ []
unfolding insert_segment
insert_last s n [] e h = refl
insert_last s n (x ∷ xs) e h =
    let b = h x (inl refl) in
    let l : int_lt s.base x.base ≡ false = rw (e, b.1) (not_less n b.0 b.2) in
    rw l (ap (λ r. x ∷ r) (insert_last s n xs e (λ y m. h y (inr m))))
  where
    not_less : (n b : ℕ) → b ≤ n → int_lt (pos n) (pos b) ≡ false
    not_less n b l = grind (arith, ints, l)

up_to_more : (n m : ℕ) (xs : List Segment) (s : Segment) → s.base ≡ pos n → n ≤ m → AreUpTo n xs → AreUpTo m (xs ++ s ∷ [])
up_to_more n m xs s e l h x k = elim (append_cases xs (s ∷ []) x k) [
  | inl a ↦ let b = h x a in (b.0, b.1, omega (arith, b.2, l))
  | inr a ↦ one a
]
  where
    one : Has (s ∷ []) x → (b : ℕ) × (x.base ≡ pos b) × (b ≤ m)
    one (inl q) = (n, ap (λ (y : Segment). y.base) (sym q) ∙ e, l)
    one (inr q) = absurd q

more_segments : (i n : ℕ) → i * n ≤ (i + 1) * n
more_segments i n = let e : (i + 1) * n ≡ i * n + n = times_more i n in omega (arith, e)
  where
    times_more : (i n : ℕ) → (i + 1) * n ≡ i * n + n
    times_more zero n = omega arith
    times_more (suc i) n = let e = times_more i n in omega (arith, e)

taken_in : (c : Config) (w : World) (q : ℕ) (log : List Item) (i k : ℕ) (xs : List Segment) → AreUpTo (i * c.segment_records) xs
    → with_all (map (segment_at c q w.elections log) (range_with_len i k)) (held c w q xs) ≡ held c w q (xs ++ map (segment_at c q w.elections log) (range_with_len i k))
taken_in c w q log i zero xs h = ap (held c w q) (sym (append-nil xs))
taken_in c w q log i (suc k) xs h =
    let s : Segment = segment_at c q w.elections log i in
    ap (with_all (map (segment_at c q w.elections log) (range_with_len (i + 1) k)))
    (ap (λ b. if b then held c w q (insert_segment s xs) else held c w q xs) (own_segment c w q log i) ∙ ap (held c w q) (insert_last s (i * c.segment_records) xs refl h))
    ∙ (taken_in c w q log (i + 1) k (xs ++ s ∷ []) (up_to_more (i * c.segment_records) ((i + 1) * c.segment_records) xs s refl (more_segments i c.segment_records) h)
    ∙ ap (held c w q) (append_assoc xs (s ∷ []) (map (segment_at c q w.elections log) (range_with_len (i + 1) k))))

-- ---- all places

abbrev segments_at : Config → World → ℕ → List Segment
segments_at c w p = log_segments c p w.elections (log_at w p)

behind : (c : Config) (w : World) (q a n : ℕ) (xs : List Segment) → q < a → with_all (flat_map (segments_at c w) (range_with_len a n)) (held c w q xs) ≡ held c w q xs
behind c w q a zero xs l = refl
behind c w q a (suc n) xs l =
    with_append (segments_at c w a) (flat_map (segments_at c w) (range_with_len (a + 1) n)) (held c w q xs)
    ∙ (ap (with_all (flat_map (segments_at c w) (range_with_len (a + 1) n))) (passed_by c w a q (log_at w a) (range_with_len 0 (segment_count c (length (log_at w a)))) xs (λ e. absurd (omega (arith, e, l))))
    ∙ behind c w q (a + 1) n xs (omega (arith, l)))

found_at : (c : Config) (w : World) (q a n : ℕ) → a ≤ q → q < a + n → with_all (flat_map (segments_at c w) (range_with_len a n)) (empty_partition (end_of c w q)) ≡ partition_at c w q
found_at c w q a zero l m = absurd (omega (arith, l, m))
found_at c w q a (suc n) l m =
    with_append (segments_at c w a) (flat_map (segments_at c w) (range_with_len (a + 1) n)) (empty_partition (end_of c w q))
    ∙ elim (cases_eq a q) [
      | inl e ↦ ap (with_all (flat_map (segments_at c w) (range_with_len (a + 1) n)))
          (subst (λ (b : ℕ). with_all (segments_at c w b) (empty_partition (end_of c w q)) ≡ partition_at c w q) (sym e) (taken_in c w q (log_at w q) 0 (segment_count c (length (log_at w q))) [] (λ x h. absurd h)))
          ∙ behind c w q (a + 1) n (segments_at c w q) (omega (arith, e))
      | inr d ↦ ap (with_all (flat_map (segments_at c w) (range_with_len (a + 1) n)))
          (passed_by c w a q (log_at w a) (range_with_len 0 (segment_count c (length (log_at w a)))) [] d)
          ∙ found_at c w q (a + 1) n (next a q l d) (omega (arith, m))
    ]
  where
    next : (a q : ℕ) → a ≤ q → (a ≡ q → ⊥) → a + 1 ≤ q
    next a q l d = grind (arith, l, d)

each_place : (c : Config) (w : World) (a n : ℕ) → a + n ≤ log_count c
    → map (with_all (cluster_segments c w)) (map empty_partition (map (end_of c w) (range_with_len a n))) ≡ map (partition_at c w) (range_with_len a n)
each_place c w a zero l = refl
each_place c w a (suc n) l =
    ap (λ p. p ∷ map (with_all (cluster_segments c w)) (map empty_partition (map (end_of c w) (range_with_len (a + 1) n)))) (found_at c w a 0 (log_count c) (omega arith) (omega (arith, l)))
    ∙ ap (λ ps. partition_at c w a ∷ ps) (each_place c w (a + 1) n (omega (arith, l)))

-- a partition for each place, in order
pub partitions_are : (c : Config) (w : World) (e : EvidenceParts) → IsConfig c → IsEvidenceOf c w e → e.partitions ≡ map (partition_at c w) (range_with_len 0 (log_count c))
partitions_are c w e i h =
    all_added (without_segments h.spec) e (cluster_segments c w) h.added
    ∙ (ap (λ es. map (with_all (cluster_segments c w)) (map empty_partition es)) (accepted_is (parts_of c w) h.spec h.accepted ∙ ordered_is c w 0 (log_count c) i)
    ∙ each_place c w 0 (log_count c) (omega arith))
