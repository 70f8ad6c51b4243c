-- The ends so far, and those of the members that are left, are the ends of all.
use Rattle.std.proofs.Common.{◌≡◌, ◌++◌, option_map}
use Rattle.serde_json.specs.View.{members_view}
use Rattle.eos_evidence.specs.Manifest.{ends_of}
use Rattle.eos_evidence.proofs.manifest_reader.read_members.Given as goal

abbrev pub invariant-loop-name : goal.invariant-loop-name
invariant-loop-name l = option_map (λ rest. l.ends.items ++ rest) (ends_of (members_view l.name-iterator)) ≡ ends_of (members_view l.members.entries)
