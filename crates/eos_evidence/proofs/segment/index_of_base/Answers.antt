-- The closure gives a segment's base.
use Rattle.std.proofs.Common.{rules}
use Rattle.std.proofs.lemmas.List.Sorted.{answers_always}
use Rattle.eos_evidence.proofs.SegmentOrder.{searched}
use Rattle.eos_evidence.proofs.segment.index_of_base.Goals as goal

pub returns : goal.returns
returns c =
    let facts = c.binary_search_by_key.ensures in
    let by_base = facts.position (λ s. s.base) (answers_always _ _ _ (λ f a r g called. search rules)) in
    let found = searched _ c.requires c.args.base.now _ facts.bound by_base in
    record { there = found.0; place = found.1 }
