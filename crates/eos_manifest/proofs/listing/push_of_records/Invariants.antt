use Rattle.std.proofs.Common.{◌≡◌, ◌++◌, take, flat_map}
use Rattle.eos_manifest.specs.Listing.{names_in_record}
use Rattle.eos_manifest.proofs.listing.push_of_records.Given as goal

abbrev pub invariant-loop-item : goal.invariant-loop-item
invariant-loop-item l = l.names.items ≡ l.fn.names.items ++ flat_map names_in_record (take l.item-index l.records)
