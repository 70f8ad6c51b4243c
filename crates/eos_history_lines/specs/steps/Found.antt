-- What the lines after the first have said so far.
use Rattle.std.specs.Prelude.{ℕ, List}
use Rattle.eos_history_lines.specs.declared.schedule.Found.{Found}
use Rattle.eos_history_lines.specs.Files.{SayRows}

abbrev pub HasFound : List (List ℕ) → Found → Type 0
HasFound texts found = SayRows texts found.lines found.tail
