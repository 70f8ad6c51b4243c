use Rattle.std.proofs.Common.{◌≡◌, ◌+◌, drop}
use Rattle.std.specs.Prelude.{nat_eq}
use Rattle.std.specs.List.{common_prefix_len}
use Rattle.eos_fold_file.proofs.texts.common.Given as goal

abbrev pub invariant-loop-i : goal.invariant-loop-i
invariant-loop-i l = common_prefix_len nat_eq l.front l.text ≡ l.i + common_prefix_len nat_eq (drop l.i l.front) (drop l.i l.text)
