use Rattle.eos_explaining.specs.Batches.{batch_line}
use Rattle.eos_explaining.proofs.LastCalls.{last}
use Rattle.eos_explaining.proofs.batches.push_batch.Goals as goal

pub returns : goal.returns
unfolding batch_line
returns c =
    let at = rw (c.mark.ensures, c.is_there-is_fault.ensures, c.kind_role.ensures) at c.in_ok-push_at.ensures in
    last _ _ _ at (last _ _ _ c.in_ok-push_spot.ensures (last _ _ _ c.in_ok-push_touch.ensures c.push_text.ensures))
