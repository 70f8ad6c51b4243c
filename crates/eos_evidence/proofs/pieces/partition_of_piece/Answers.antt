-- What halving finds among rising places.
use Rattle.std.proofs.Common.{rules, leb}
use Rattle.std.proofs.lemmas.List.Sorted.{IsPartitionPoint-from_clause, IsPartitionedBy-leb}
use Rattle.eos_evidence.proofs.PieceAt.{last_from, some_from}
use Rattle.eos_evidence.proofs.pieces.partition_of_piece.Goals as goal

pub overflow_sub-result : goal.overflow_sub-result
overflow_sub-result c =
    let point = IsPartitionPoint-from_clause (λ n. leb n c.args.i) _ _ c.partition_point.ensures.partitioned (IsPartitionedBy-leb (λ n. n) _ c.args.i c.requires.rises) (λ a r q k. search rules) in
    some_from _ c.args.i _ point c.requires.some c.requires.begins

pub returns : goal.returns
returns c =
    let point = IsPartitionPoint-from_clause (λ n. leb n c.args.i) _ _ c.partition_point.ensures.partitioned (IsPartitionedBy-leb (λ n. n) _ c.args.i c.requires.rises) (λ a r q k. search rules) in
    last_from _ c.args.i _ point c.partition_point.ensures.bound c.requires.some c.requires.begins
