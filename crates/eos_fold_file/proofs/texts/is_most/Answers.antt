use Rattle.std.proofs.Common.{◌≡◌, ◌+◌, sym, length, arith, rules}
use Rattle.eos_fold_file.specs.Texts.{most_shared}
use Rattle.eos_fold_file.proofs.Shared.{joined_next}
use Rattle.eos_fold_file.proofs.texts.is_most.Goals as goal

pub returns : goal.returns
returns c =
    let is : c.most_shared-most.result ≡ most_shared (c.args.count + length c.args.rest.now) = search rules in
    sym (joined_next c.args.before.now c.args.rest.now c.args.count c.most_shared-most.result is (grind arith) (grind arith) (grind arith))
