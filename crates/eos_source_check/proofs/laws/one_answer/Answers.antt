use Rattle.std.proofs.Common.{length}
use Rattle.eos_evidence.specs.Evidence.{segments_of}
use Rattle.eos_source_check.proofs.SameShape.{same_shape, as_known}
use Rattle.eos_source_check.proofs.laws.one_answer.Goals as goal

pub returns-clause-logs : goal.returns-clause-logs
returns-clause-logs c = λ known said shape a b knows logs x y.
    let pieces = length (segments_of shape.partitions) in
    let made = c.evidences.ensures.logs said shape logs in
    let for_a = x.holds made.0 (same_shape said x.said shape made.0 (as_known known pieces said x.said knows x.as_known) made.1) in
    let for_b = y.holds made.0 (same_shape said y.said shape made.0 (as_known known pieces said y.said knows y.as_known) made.1) in
    c.one_verdict.ensures made.0 for_a.is_evidence a.verdict b.verdict for_a.verdict for_b.verdict

pub returns-clause-folds : goal.returns-clause-folds
returns-clause-folds c = λ known said shape evidence a b knows of x y.
    let pieces = length (segments_of shape.partitions) in
    let for_a = x.holds evidence (same_shape said x.said shape evidence (as_known known pieces said x.said knows x.as_known) of) in
    let for_b = y.holds evidence (same_shape said y.said shape evidence (as_known known pieces said y.said knows y.as_known) of) in
    c.one_verdict.ensures evidence for_a.is_evidence a.verdict b.verdict for_a.verdict for_b.verdict
