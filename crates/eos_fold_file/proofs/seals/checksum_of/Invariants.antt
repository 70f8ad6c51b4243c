use Rattle.std.proofs.Common.{◌≡◌, take, flat_map}
use Rattle.eos_fold_file.specs.steps.Seals.{checksum_text}
use Rattle.eos_fold_file.proofs.seals.checksum_of.Given as goal

abbrev pub invariant-loop-seal : goal.invariant-loop-seal
invariant-loop-seal l = l.fields.items ≡ flat_map checksum_text (take l.seal-index l.seals)
