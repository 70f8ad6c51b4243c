use Rattle.std.proofs.Common.{take, length-take, nat_le, arith}
use Rattle.std.proofs.lemmas.List.Sums.{count_by-le-length}
use Rattle.eos_fold_file.specs.declared.file.FoldFile.{FoldFile}
use Rattle.eos_story.specs.steps.Ends.{begin_of}
use Rattle.eos_story.proofs.ends.count_begun.Goals as goal

pub overflow_add-count : goal.overflow_add-count
overflow_add-count c =
    let some = count_by-le-length (λ (f : FoldFile). nat_le (begin_of f) c.args.offset) (take c.loop-fold.fold-index c.args.folds.now) in
    omega (arith, some, length-take c.loop-fold.fold-index c.args.folds.now, c.loop-fold.invariant, c.loop-fold-test.true)
