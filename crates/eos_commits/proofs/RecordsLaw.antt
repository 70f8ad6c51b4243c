-- The visible records keep their rule exactly where none of their faults stands.
use Rattle.std.proofs.Common.{◌≡◌, ◌<ℤ◌, ℤ, List, Option, Some, None, Result, Ok, Err, refl, sym, ◌∙◌, inl, inr, ◌⊎◌, arith}
use Rattle.std.proofs.lemmas.Int.{ints}
use Rattle.std.specs.Ordering.{MatchOrdering, int_cmp}
use Rattle.std.specs.declared.cmp.Ordering.{Ordering}
use Rattle.std.specs.declared.cmp.Ordering.TheVariants.{Less, Equal, Greater}
use Rattle.std.proofs.lemmas.Cmp.{int_ranked}
use Rattle.eos_base.specs.declared.record_fault.RecordFault.{RecordFault}
use Rattle.eos_base.specs.Least.{NoneStands}
use Rattle.eos_evidence.specs.declared.application.App.{App}
use Rattle.eos_fold.specs.Parts.{part_name, PartLog}
use Rattle.eos_claims.specs.declared.claim.Claim.{Claim}
use Rattle.eos_claims.specs.Headers.{claim_of}
use Rattle.eos_verdict.specs.declared.visible_fault.VisibleFault.{VisibleFault}
use Rattle.eos_verdict.specs.declared.visible_fault.VisibleFaultKind.{VisibleFaultKind}
use Rattle.eos_verdict.specs.declared.visible_fault.VisibleFaultKind.TheVariants.{BadLineage, BadOffset, SplitGroup, OffsetDeleted}
use Rattle.eos_commits.specs.Visible.{VisibleIn}
use Rattle.eos_commits.specs.Commits.{Group, offsets_parts, value_of, IsUnderGroup}
use Rattle.eos_commits.specs.Kept.{OutputsClaim, RecordsKept}
use Rattle.eos_commits.specs.Faults.{AtRecord, StandsAs, Stands}

pub int_order : (a b : ℤ) → (a ≡ b) ⊎ ((a <ℤ b) ⊎ (b <ℤ a))
int_order a b = go (int_cmp a b) (int_ranked a b (int_cmp a b) refl)
  where
    go : (o : Ordering) → MatchOrdering o (a <ℤ b) (a ≡ b) (b <ℤ a) → (a ≡ b) ⊎ ((a <ℤ b) ⊎ (b <ℤ a))
    go Less lt = inr (inl lt)
    go Equal e = inl e
    go Greater gt = inr (inr gt)

no_claim : {X : Type 0} (x : X) (o : Option X) → o ≡ Some x → o ≡ None → ⊥
no_claim x o p q = let e : Some x ≡ None = sym p ∙ q in absurd cc

no_fault : (n : ℤ) (e : RecordFault) (o : Option (Result ℤ RecordFault)) → o ≡ Some (Ok n) → o ≡ Some (Err e) → ⊥
no_fault n e o p q = let r : Some (Ok n) ≡ Some (Err e) = sym p ∙ q in absurd cc

refuted : (apps : List App) (ps : List PartLog) → RecordsKept apps ps → (f : VisibleFault) (k : VisibleFaultKind) → StandsAs apps ps f k → ⊥
refuted apps ps kept f BadLineage s = let c = kept.outputs s.0.found in no_claim c.0 _ c.1 s.1
refuted apps ps kept f (BadOffset e) s = elim s.1 [
  | inl bad ↦ kept.offsets.keys s.0.found e bad
  | inr bad ↦ let v = kept.offsets.values s.0.found bad.0 bad.1 in no_fault v.0 e _ v.1 bad.2
]
refuted apps ps kept f SplitGroup s =
    let e = kept.offsets.one_partition s.1.other s.0.found s.1.group s.1.there s.1.here in
    let lt = s.1.lesser in
    absurd (omega (arith, ints, e, lt))
refuted apps ps kept f OffsetDeleted s = let v = kept.offsets.values s.0.found s.1 s.2 in no_claim (Ok v.0) _ v.1 s.3

-- ---- where no fault stands

abbrev fault_at : {ps : List PartLog} → VisibleIn ps → VisibleFaultKind → VisibleFault
fault_at r k = record { partition = part_name r.part; offset = r.item.offset; kind = k }

abbrev at : {ps : List PartLog} (r : VisibleIn ps) (k : VisibleFaultKind) → AtRecord ps (fault_at r k)
at r k = record { found = r; partition = refl; offset = refl }

values_from : (apps : List App) (ps : List PartLog) → NoneStands (Stands apps ps) → (r : VisibleIn (offsets_parts ps)) (group : Group) → IsUnderGroup apps group r.item → (offset : ℤ) × (value_of r.item ≡ Some (Ok offset))
values_from apps ps none r group under = go (value_of r.item) refl
  where
    go : (v : Option (Result ℤ RecordFault)) → value_of r.item ≡ v → (offset : ℤ) × (v ≡ Some (Ok offset))
    go (Some (Ok n)) e = (n, refl)
    go (Some (Err fault)) e = absurd (none (fault_at r (BadOffset fault)) (at r (BadOffset fault), inr (group, under, e)))
    go None e = absurd (none (fault_at r OffsetDeleted) (at r OffsetDeleted, group, under, e))

one_partition_from : (apps : List App) (ps : List PartLog) → NoneStands (Stands apps ps) → (r s : VisibleIn (offsets_parts ps)) (group : Group)
    → IsUnderGroup apps group r.item → IsUnderGroup apps group s.item → r.part.number ≡ s.part.number
one_partition_from apps ps none r s group u v = elim (int_order r.part.number s.part.number) [
  | inl q ↦ q
  | inr (inl lt) ↦ absurd (none (fault_at s SplitGroup) (at s SplitGroup, record { group = group; here = v; other = r; there = u; lesser = lt }))
  | inr (inr lt) ↦ absurd (none (fault_at r SplitGroup) (at r SplitGroup, record { group = group; here = u; other = s; there = v; lesser = lt }))
]

outputs_from : (apps : List App) (ps : List PartLog) → NoneStands (Stands apps ps) → OutputsClaim apps ps
outputs_from apps ps none r = go (claim_of r.item.headers) refl
  where
    go : (c : Option Claim) → claim_of r.item.headers ≡ c → (claim : Claim) × (c ≡ Some claim)
    go (Some claim) e = (claim, refl)
    go None e = absurd (none (fault_at r BadLineage) (at r BadLineage, e))

pub law : (apps : List App) (ps : List PartLog) → (RecordsKept apps ps → NoneStands (Stands apps ps)) × (NoneStands (Stands apps ps) → RecordsKept apps ps)
law apps ps = (
  λ kept f s. refuted apps ps kept f f.kind s,
  λ none. record {
    offsets = record {
      keys = λ r fault e. none (fault_at r (BadOffset fault)) (at r (BadOffset fault), inl e);
      values = values_from apps ps none;
      one_partition = one_partition_from apps ps none;
    };
    outputs = outputs_from apps ps none;
  },
)
