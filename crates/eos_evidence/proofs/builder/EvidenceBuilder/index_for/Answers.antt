-- Each exit has the refusal of its test, and the end what the tests leave.
use Rattle.std.proofs.Common.{rules, sym, ◌∙◌, ap, map, subst, find}
use Rattle.std.specs.List.Sorted.{IsStrictlySortedBy}
use Rattle.eos_evidence.specs.Ends.{end_cmp}
use Rattle.eos_evidence.specs.Evidence.{is_in}
use Rattle.eos_evidence.specs.steps.SegmentIndexes.{IsFirst}
use Rattle.eos_evidence.proofs.AddedSegments.{refused_unnamed, refused_base, refused_limit}
use Rattle.eos_evidence.proofs.builder.EvidenceBuilder.index_for.Goals as goal

pub index_in-requires : goal.index_in-requires
index_in-requires c =
    let evidence = c.self.invariant.counted.evidence_is in
    subst (IsStrictlySortedBy end_cmp) (sym (ap (map (λ p. p.end)) c.as_slice.ensures.value ∙ evidence.ends)) evidence.accepted.ascending

pub returns-in_default-clause-err : goal.returns-in_default-clause-err
returns-in_default-clause-err c =
    let none = rw c.in_default.is at c.index_in.ensures in
    rw (← c.self.view_is) (refused_unnamed _ _ (ap (find (λ p. is_in c.args.segment.now p.end)) (sym c.as_slice.ensures.value) ∙ none))

pub returns-then-segment-lt0-clause-err : goal.returns-then-segment-lt0-clause-err
returns-then-segment-lt0-clause-err c =
    let first = rw c.in-Some.is at c.index_in.ensures in
    rw (← c.self.view_is) (refused_base _ _ c.in-Some.at (subst (λ ps. IsFirst c.args.segment.now ps c.in-Some.at) c.as_slice.ensures.value first) (search rules))

pub returns-then-is_past_limit-clause-err : goal.returns-then-is_past_limit-clause-err
returns-then-is_past_limit-clause-err c =
    let first = rw c.in-Some.is at c.index_in.ensures in
    refused_limit _ _ c.in-Some.at (rw (← c.self.view_is) (subst (λ ps. IsFirst c.args.segment.now ps c.in-Some.at) c.as_slice.ensures.value first)) (search rules)
    (sym c.is_past_limit.ensures ∙ c.if-is_past_limit.true)

pub returns-clause-ok : goal.returns-clause-ok
returns-clause-ok c =
    let first = rw c.in-Some.is at c.index_in.ensures in
    record {
      first = rw (← c.self.view_is) (subst (λ ps. IsFirst c.args.segment.now ps c.in-Some.at) c.as_slice.ensures.value first);
      base = search rules;
      fits = search rules;
      within = sym c.is_past_limit.ensures ∙ c.if-is_past_limit.false;
    }
