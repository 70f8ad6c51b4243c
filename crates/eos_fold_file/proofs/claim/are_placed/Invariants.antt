use Rattle.std.proofs.Common.{◌≡◌, take, true}
use Rattle.std.specs.List.{list_all}
use Rattle.eos_fold_file.specs.Records.{is_placed}
use Rattle.eos_fold_file.proofs.claim.are_placed.Given as goal

abbrev pub invariant-loop-kept : goal.invariant-loop-kept
invariant-loop-kept l = list_all (is_placed l.topics) (take l.kept-index l.outputs) ≡ true
