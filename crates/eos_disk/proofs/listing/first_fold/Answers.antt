use Rattle.std.proofs.Common.{refl, rules}
use Rattle.eos_disk.proofs.FirstFold.{fold_at}
use Rattle.eos_disk.proofs.listing.first_fold.Goals as goal

pub returns-in-Fold : goal.returns-in-Fold
returns-in-Fold c = fold_at c.args.files.now c.loop-i.i _ _ c.loop-i-test.true refl (search rules) c.loop-i.invariant
