use Rattle.eos_fold_file.proofs.PossibleHeads.{batches_of}
use Rattle.eos_fold_file.proofs.laws.batches.Goals as goal

pub returns : goal.returns
returns c = batches_of
