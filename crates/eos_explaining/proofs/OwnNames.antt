-- Partitions and their names: in an evidence a partition's name finds that partition.
use Rattle.std.proofs.Common.{◌≡◌, ℕ, zero, suc, List, [], ◌∷◌, map, Some, None, Bool, true, false, ◌&&◌, if◌then◌else◌, refl, sym, ap, subst, inl, inr}
use Rattle.std.specs.Prelude.{slice_get}
use Rattle.std.specs.List.{AllByRecursion}
use Rattle.std.specs.List.Sorted.{IsStrictlySortedBy}
use Rattle.std.specs.Ordering.{nat_cmp, int_cmp, int_eq, is_eq, ordering_then}
use Rattle.std.specs.Cmp.Lexicographic.{slice_cmp}
use Rattle.std.specs.declared.cmp.Ordering.{Ordering}
use Rattle.std.specs.declared.cmp.Ordering.TheVariants.{Less, Equal, Greater}
use Rattle.std.proofs.lemmas.Bool.{and_parts}
use Rattle.std.proofs.lemmas.Cmp.{nat_list_cmp_total, int_cmp_total, tied_itself}
use Rattle.std.proofs.lemmas.Map.Keys.{sorted_head, sorted_tail}
use Rattle.eos_base.specs.declared.partition_name.PartitionName.{PartitionName}
use Rattle.eos_base.specs.Members.{Has}
use Rattle.eos_base.proofs.Exact.{bytes_exact, int_exact, is_tied}
use Rattle.eos_evidence.specs.declared.ends.End.{End}
use Rattle.eos_evidence.specs.declared.partition.Partition.{Partition}
use Rattle.eos_evidence.specs.Ends.{end_cmp}
use Rattle.eos_evidence.specs.Evidence.{EvidenceParts, IsEvidence}
use Rattle.eos_commits.proofs.LogsInOrder.{ends_of, sorted}
use Rattle.eos_sought.specs.Partitions.{is_named, partition_named}

abbrev pub name_of : Partition → PartitionName
name_of p = record { topic = p.end.topic; partition = p.end.partition }

-- ---- one partition

pub same_names : (a b : PartitionName) → (is_eq (slice_cmp nat_cmp a.topic b.topic) && int_eq a.partition b.partition) ≡ true → a ≡ b
same_names a b e =
    let both = and_parts (is_eq (slice_cmp nat_cmp a.topic b.topic)) (int_eq a.partition b.partition) e in
    let topic : a.topic ≡ b.topic = bytes_exact a.topic b.topic (is_tied (slice_cmp nat_cmp a.topic b.topic) both.0) in
    let number : a.partition ≡ b.partition = int_exact a.partition b.partition (is_tied (int_cmp a.partition b.partition) both.1) in
    λ i. record { topic = topic i; partition = number i }

pub named_is : (name : PartitionName) (p : Partition) → is_named name p ≡ true → name ≡ name_of p
named_is name p e = sym (same_names (name_of p) name e)

both_tied : (a b : Ordering) → a ≡ Equal → b ≡ Equal → (is_eq a && is_eq b) ≡ true
both_tied a b e f = rw (e, f) refl

has_own_name : (p : Partition) → is_named (name_of p) p ≡ true
has_own_name p =
    let topic = tied_itself nat_list_cmp_total p.end.topic in
    let number = tied_itself int_cmp_total p.end.partition in
    both_tied (slice_cmp nat_cmp p.end.topic p.end.topic) (int_cmp p.end.partition p.end.partition) topic number

apart : (a b : Ordering) → ordering_then a b ≡ Less → (is_eq a && is_eq b) ≡ false
apart Less b e = refl
apart Equal Less e = refl
apart Equal Equal e = absurd cc
apart Equal Greater e = absurd cc
apart Greater b e = refl

-- a partition with a lesser end has another name
lesser_apart : (p q : Partition) → end_cmp q.end p.end ≡ Less → is_named (name_of p) q ≡ false
lesser_apart p q less = apart (slice_cmp nat_cmp q.end.topic p.end.topic) (int_cmp q.end.partition p.end.partition) less

-- ---- what a name finds

pub found_is : (name : PartitionName) (ps : List Partition) (p : Partition) → partition_named name ps ≡ Some p → is_named name p ≡ true
found_is name [] p e = absurd cc
found_is name (q ∷ qs) p e = by (found_is name qs p) (is_named name q) refl e
  where
    by : (partition_named name qs ≡ Some p → is_named name p ≡ true) → (b : Bool) → is_named name q ≡ b
        → (if b then Some q else partition_named name qs) ≡ Some p → is_named name p ≡ true
    by more true named e = let same : q ≡ p = cc in subst (λ (r : Partition). is_named name r ≡ true) same named
    by more false named e = more e

pub found_has : (name : PartitionName) (ps : List Partition) (p : Partition) → partition_named name ps ≡ Some p → Has ps p
found_has name [] p e = absurd cc
found_has name (q ∷ qs) p e = by (found_has name qs p) (is_named name q) e
  where
    by : (partition_named name qs ≡ Some p → Has qs p) → (b : Bool) → (if b then Some q else partition_named name qs) ≡ Some p → Has (q ∷ qs) p
    by more true e = let same : q ≡ p = cc in inl same
    by more false e = inr (more e)

-- ---- the partitions of an evidence

end_below : (e : End) (ps : List Partition) (i : ℕ) (p : Partition) → AllByRecursion (λ f. end_cmp e f ≡ Less) (ends_of ps) → slice_get ps i ≡ Some p
    → end_cmp e p.end ≡ Less
end_below e [] i p below at = absurd cc
end_below e (q ∷ qs) zero p below at = let same : q ≡ p = cc in subst (λ (r : Partition). end_cmp e r.end ≡ Less) same below.0
end_below e (q ∷ qs) (suc i) p below at = end_below e qs i p below.1 at

own_among : (ps : List Partition) (i : ℕ) (p : Partition) → IsStrictlySortedBy end_cmp (ends_of ps) → slice_get ps i ≡ Some p
    → partition_named (name_of p) ps ≡ Some p
own_among [] i p rise at = absurd cc
own_among (q ∷ qs) zero p rise at =
    let same : q ≡ p = cc in
    let named : is_named (name_of p) q ≡ true = subst (λ (r : Partition). is_named (name_of r) q ≡ true) same (has_own_name q) in
    rw named (ap Some same)
own_among (q ∷ qs) (suc i) p rise at =
    let named : is_named (name_of p) q ≡ false = lesser_apart p q (end_below q.end qs i p (sorted_head end_cmp q.end (ends_of qs) rise) at) in
    rw named (own_among qs i p (sorted_tail end_cmp q.end (ends_of qs) rise) at)

pub own_named : (e : EvidenceParts) (i : ℕ) (p : Partition) → IsEvidence e → slice_get e.partitions i ≡ Some p → partition_named (name_of p) e.partitions ≡ Some p
own_named e i p is at = own_among e.partitions i p (sorted e is) at

-- ---- other partitions with the same ends

same_end_named : (p q : Partition) (name : PartitionName) → p.end ≡ q.end → is_named name p ≡ is_named name q
same_end_named p q name same = ap (λ (e : End). is_eq (slice_cmp nat_cmp e.topic name.topic) && int_eq e.partition name.partition) same

pub same_ends_named : (ps qs : List Partition) (name : PartitionName) → map (λ (p : Partition). p.end) ps ≡ map (λ (p : Partition). p.end) qs
    → partition_named name ps ≡ None → partition_named name qs ≡ None
same_ends_named ps [] name same none = refl
same_ends_named [] (q ∷ qs) name same none = absurd cc
same_ends_named (p ∷ ps) (q ∷ qs) name same none =
    let end : p.end ≡ q.end = cc in
    let others : ends_of ps ≡ ends_of qs = cc in
    by (same_ends_named ps qs name others) (is_named name p) (sym (same_end_named p q name end)) none
  where
    by : (partition_named name ps ≡ None → partition_named name qs ≡ None) → (b : Bool) → is_named name q ≡ b
        → (if b then Some p else partition_named name ps) ≡ None → partition_named name (q ∷ qs) ≡ None
    by more true named e = absurd cc
    by more false named e = rw named (more e)
