-- The partition that halving finds has the place.
use Rattle.std.proofs.Common.{◌<◌, subst, sym, ap, length, arith}
use Rattle.std.proofs.lemmas.List.{get_or_read}
use Rattle.std.specs.List.Sorted.{IsNonDecreasing}
use Rattle.eos_evidence.specs.Evidence.{segments_of}
use Rattle.eos_evidence.specs.steps.SegmentIndexes.{IsLastFrom}
use Rattle.eos_evidence.proofs.PieceAt.{firsts_rise, found, piece_is}
use Rattle.eos_evidence.proofs.evidence.Evidence.piece.Goals as goal

pub partition_of_piece-at-requires-clause-rises : goal.partition_of_piece-at-requires-clause-rises
partition_of_piece-at-requires-clause-rises c = subst IsNonDecreasing (sym c.as_slice.ensures.value) (firsts_rise _ _ c.self.invariant.firsts_are)

pub bounds-segments-i : goal.bounds-segments-i
bounds-segments-i c =
    let last = subst (λ l. IsLastFrom l c.args.i c.partition_of_piece-at.result) c.as_slice.ensures.value c.partition_of_piece-at.ensures in
    let lt = subst (λ e. c.args.i < length (segments_of e.partitions)) (sym c.self.view_is) c.requires in
    let f = found _ _ c.args.i _ c.index.result.now c.self.invariant.firsts_are last lt c.index.ensures in
    let first = get_or_read c.self.inside.firsts.items _ _ last.within c.index-2.ensures 0 in
    omega (arith, f.within, first, ap length c.as_slice-segments.ensures)

pub returns : goal.returns
returns c =
    let last = subst (λ l. IsLastFrom l c.args.i c.partition_of_piece-at.result) c.as_slice.ensures.value c.partition_of_piece-at.ensures in
    let lt = subst (λ e. c.args.i < length (segments_of e.partitions)) (sym c.self.view_is) c.requires in
    let f = found _ _ c.args.i _ c.index.result.now c.self.invariant.firsts_are last lt c.index.ensures in
    let first = get_or_read c.self.inside.firsts.items _ _ last.within c.index-2.ensures 0 in
    rw (← c.self.view_is) (piece_is _ _ c.args.i _ _ _ _ _ f first c.as_slice-segments.ensures c.index-segments-i.is)
