use Rattle.std.proofs.Common.{arith}
use Rattle.eos_evidence.proofs.PieceAt.{room_left}
use Rattle.eos_evidence.proofs.pieces.number_pieces.Goals as goal

pub overflow_add-first : goal.overflow_add-first
overflow_add-first c =
    omega (arith, room_left _ _ c.index-partitions-at.result c.loop-at-test.true, c.loop-at.invariant.first, c.len-first.ensures, c.requires.few)
