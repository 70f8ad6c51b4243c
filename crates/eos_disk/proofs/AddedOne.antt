-- What an accepted segment makes of the evidence.
use Rattle.std.proofs.Common.{◌≡◌, Bool, true, false, Option, None, Some, Ok, Err, find, map, if◌then◌else◌, int_lt, pos}
use Rattle.eos_evidence.specs.declared.fault.AddFault.TheVariants as faults
use Rattle.eos_evidence.specs.declared.partition.Partition.{Partition}
use Rattle.eos_evidence.specs.declared.segment.Segment.{Segment}
use Rattle.eos_evidence.specs.Evidence.{EvidenceParts, added, added_to, has_base, is_in, is_past_limit, with_segment}

tests : (a b c : Bool) (one after : EvidenceParts) → (if a then Err faults.Name else (if b then Err faults.Limit else (if c then Err faults.Duplicate else Ok one))) ≡ Ok after → one ≡ after
tests true b c one after e = absurd (cc e)
tests false true c one after e = absurd (cc e)
tests false false true one after e = absurd (cc e)
tests false false false one after e = cc e

abbrev with_one : EvidenceParts → Segment → EvidenceParts
with_one evidence s = record evidence { partitions = map (with_segment s) evidence.partitions }

by_place : (evidence after : EvidenceParts) (s : Segment) (o : Option Partition) → added_to evidence s o ≡ Ok after → with_one evidence s ≡ after
by_place evidence after s None e = absurd (cc e)
by_place evidence after s (Some p) e = tests (int_lt s.base (pos 0)) (is_past_limit evidence s) (has_base s.base p.segments) (with_one evidence s) after e

pub added_is : (evidence after : EvidenceParts) (s : Segment) → added evidence s ≡ Ok after → with_one evidence s ≡ after
unfolding added
added_is evidence after s e = by_place evidence after s (find (λ p. is_in s p.end) evidence.partitions) e
