-- The partition takes the segment or refuses it, and what it answers is the answer.
use Rattle.std.proofs.Common.{sym, subst, arith}
use Rattle.std.proofs.lemmas.List.Elements.{All-from_recursion}
use Rattle.std.proofs.lemmas.Result.{err_from_is_err_and}
use Rattle.eos_evidence.specs.declared.partition.Partition.{Partition}
use Rattle.eos_evidence.specs.Evidence.{IsPartition, IsRising}
use Rattle.eos_evidence.proofs.AddedSegments.{refusal_at, done_at, counted_at, still_built}
use Rattle.eos_evidence.proofs.builder.EvidenceBuilder.add.Goals as goal

pub returns-in_err-add-clause-answer : goal.returns-in_err-add-clause-answer
returns-in_err-add-clause-answer c =
    let p = err_from_is_err_and c.from_residual-in_err-add.result c.from_residual-in_err-add.ensures.1 in
    let may = rw (← c.self.view_is) at c.in_ok-at.ensures.ok in
    let said = c.in_err-add.ensures in
    rw (← c.self.view_is) (refusal_at _ _ _ _ c.index_mut-partition.result.now _ _ _ c.self.invariant.counted.evidence_is may c.index_mut-partition.ensures.value said.duplicate.0 said.duplicate.1 said.no_name said.no_limit p.1 p.2)

pub invariant_of-self-2 : goal.invariant_of-self-2
invariant_of-self-2 c =
    let may = rw (← c.self.view_is) at c.in_ok-at.ensures.ok in
    still_built _ _ _ _ _ _ c.self.invariant (counted_at _ _ _ _ c.index_mut-partition.result.now _ c.self.invariant.counted may c.index_mut-partition.ensures.value (λ h. cc (c.in_ok-add.ensures.duplicate.1 h)) c.in_ok-add.ensures.ok)

pub returns-clause-answer : goal.returns-clause-answer
returns-clause-answer c =
    let may = rw (← c.self.view_is) at c.in_ok-at.ensures.ok in
    rw (← c.self.view_is) (done_at _ _ _ c.index_mut-partition.result.now _ c.self.invariant.counted.evidence_is may c.index_mut-partition.ensures.value (λ h. cc (c.in_ok-add.ensures.duplicate.1 h)) c.in_ok-add.ensures.ok)

pub index_mut-partition-requires : goal.index_mut-partition-requires
index_mut-partition-requires c =
    let may = rw (← c.self.view_is) at c.in_ok-at.ensures.ok in
    omega (arith, may.first.within, c.self.inside.partitions.ok.0)

pub add-requires : goal.add-requires
add-requires c =
    let may = rw (← c.self.view_is) at c.in_ok-at.ensures.ok in
    let evidence = c.self.invariant.counted.evidence_is in
    let here = All-from_recursion IsPartition c.self.inside.partitions.items evidence.each c.in_ok-at.at _ may.first.within in
    subst (λ (p : Partition). IsRising p.segments) (sym c.index_mut-partition.ensures.value) here.rising

pub overflow_add-self : goal.overflow_add-self
overflow_add-self c = omega (arith, c.self.invariant.counted.count_is, c.self.invariant.counted.evidence_is.few)
