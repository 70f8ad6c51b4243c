use Rattle.std.proofs.Common.{◌≡◌, take, map}
use Rattle.eos_notes.specs.CommitNotes.{end_name}
use Rattle.eos_notes.specs.steps.Unlisted.{plain_name}
use Rattle.eos_notes.proofs.unlisted.listed_names.Given as goal

abbrev pub invariant-loop-end : goal.invariant-loop-end
invariant-loop-end l = map plain_name l.names.items ≡ map end_name (take l.end-index l.ends)
