use Rattle.std.proofs.Common.{◌≡◌, ◌++◌, take, map}
use Rattle.eos_notes.specs.CommitNotes.{unlisted_note}
use Rattle.eos_notes.specs.steps.Unlisted.{plain_name}
use Rattle.eos_notes.proofs.unlisted.push_notes.Given as goal

abbrev pub invariant-loop-name : goal.invariant-loop-name
invariant-loop-name l = l.all.items ≡ l.fn.all.items ++ map (unlisted_note l.group) (map plain_name (take l.name-index l.names))
