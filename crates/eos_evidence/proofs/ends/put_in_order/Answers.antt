-- The derived order of ends goes by topic, number and offset, so by topic and number too.
use Rattle.std.proofs.Common.{subst, MatchBool}
use Rattle.eos_evidence.specs.steps.OrderedEnds.{AreNeighboursApart, AreNeighboursTied}
use Rattle.eos_evidence.proofs.EndsInOrder.{put_is}
use Rattle.eos_evidence.proofs.ends.put_in_order.Goals as goal

pub returns : goal.returns
returns c =
    put_is _ _ _ c.sort_unstable.ensures.permutation c.sort_unstable.ensures.sorted
    (subst (λ l. MatchBool c.are_neighbours_apart.result (AreNeighboursApart l) (AreNeighboursTied l)) c.as_slice.ensures.value c.are_neighbours_apart.ensures)
