-- The closure says how a partition stands to the segment's.
use Rattle.std.proofs.Common.{rules}
use Rattle.std.proofs.lemmas.Fn.{always_returns_same}
use Rattle.eos_evidence.specs.Ends.{end_cmp}
use Rattle.eos_evidence.specs.steps.SegmentIndexes.{own_end}
use Rattle.eos_evidence.proofs.AddedSegments.{found_by}
use Rattle.eos_evidence.proofs.builder.index_in.Goals as goal

pub returns-in-Ok : goal.returns-in-Ok
returns-in-Ok c =
    let facts = c.binary_search_by.ensures in
    let by_name = facts.position (λ p. end_cmp p.end (own_end c.args.segment.now)) (always_returns_same _ _ _ (λ a r f called. search rules)) in
    let found = found_by c.args.segment.now _ _ c.requires facts.bound by_name in
    rw c.in-Ok.is at found.0

pub returns-in-Err : goal.returns-in-Err
returns-in-Err c =
    let facts = c.binary_search_by.ensures in
    let by_name = facts.position (λ p. end_cmp p.end (own_end c.args.segment.now)) (always_returns_same _ _ _ (λ a r f called. search rules)) in
    let found = found_by c.args.segment.now _ _ c.requires facts.bound by_name in
    rw c.in-Err.is at found.1
