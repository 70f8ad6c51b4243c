use Rattle.std.proofs.Common.{◌≡◌, ◌++◌, take, flat_map}
use Rattle.eos_manifest.specs.Listing.{names_in_batch}
use Rattle.eos_manifest.proofs.listing.push_of_batches.Given as goal

abbrev pub invariant-loop-batch : goal.invariant-loop-batch
invariant-loop-batch l = l.names.items ≡ l.fn.names.items ++ flat_map names_in_batch (take l.batch-index l.batches)
