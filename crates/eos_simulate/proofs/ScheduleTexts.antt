-- What was read of a schedule.
use Rattle.std.proofs.Common.{ℕ, List, Option}
use Rattle.eos_disk.specs.Entries.{Entry}
use Rattle.eos_disk.specs.GivenTexts.{is_standard, IsTextOf}
use Rattle.eos_history_lines.specs.Divided.{lines_of}
use Rattle.eos_history_lines.specs.Files.{IsSchedule}
use Rattle.eos_history_lines.specs.declared.schedule.Schedule.{Schedule}
use Rattle.eos_simulate.specs.Folders.{IsScheduleAt}

pub says : (holds : List ℕ → Entry) (path : List ℕ) (left rest : Option (List ℕ)) (text : List ℕ) (s : Schedule) → IsTextOf (is_standard path) holds path left rest text → IsSchedule (lines_of text) s
    → IsScheduleAt holds path left rest s
says holds path left rest text s read is = record { text = text; read = read; says = is }
