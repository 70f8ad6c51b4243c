use Rattle.std.proofs.Common.{◌≡◌, None, take}
use Rattle.std.specs.Prelude.{All}
use Rattle.eos_fold_file.proofs.fold_texts.are_none.Given as goal

abbrev pub invariant-loop-claim : goal.invariant-loop-claim
invariant-loop-claim l = All (λ c. c ≡ None) (take l.claim-index l.claims)
