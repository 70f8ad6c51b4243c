use Rattle.eos_explaining.specs.Batches.{no_batch_line}
use Rattle.eos_explaining.proofs.LastCalls.{last}
use Rattle.eos_explaining.proofs.batches.push_no_batch.Goals as goal

pub returns : goal.returns
unfolding no_batch_line
returns c =
    let named = rw c.kind_role.ensures at c.in_ok-push_name.ensures in
    last _ _ _ named (last _ _ _ c.in_ok-push_absent.ensures c.push_text.ensures)
