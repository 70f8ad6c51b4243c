use Rattle.std.proofs.Common.{◌≡◌, ◌-◌, []}
use Rattle.eos_fold_file.specs.Texts.{key_values_from}
use Rattle.eos_fold_file.proofs.Loop.{with_front}
use Rattle.eos_fold_file.proofs.texts.read_texts.Given as goal

abbrev pub invariant-loop : goal.invariant-loop
invariant-loop l = with_front l.texts (key_values_from l.key.items l.value.items (l.count - l.counter) l.rest) ≡ key_values_from [] [] l.count l.fn.rest
