use Rattle.std.proofs.Common.{◌≡◌, ◌++◌, drop}
use Rattle.eos_story.specs.Questions.{offsets_among}
use Rattle.eos_story.proofs.beside.offsets_among.Given as goal

-- the names that were kept, and those among the names that are left
abbrev pub invariant-loop-name : goal.invariant-loop-name
invariant-loop-name l = l.kept.items ++ offsets_among (drop l.name-index l.names) ≡ offsets_among l.names
