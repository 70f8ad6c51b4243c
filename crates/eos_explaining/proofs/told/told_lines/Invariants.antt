use Rattle.std.proofs.Common.{◌≡◌, ℤ, Option, drop, map, string_bytes}
use Rattle.std.specs.Option.{option_copied}
use Rattle.eos_story.specs.declared.row.Row.{Row}
use Rattle.eos_explaining.specs.Lines.{with_lines}
use Rattle.eos_explaining.specs.Told.{told_line, told_lines}
use Rattle.eos_explaining.proofs.told.told_lines.Given as goal

abbrev pub invariant-loop-i : goal.invariant-loop-i
invariant-loop-i l = (time_of : Row → Option ℤ) → l.times ≡ map time_of l.rows
    → with_lines (map string_bytes l.said.items) (map (told_line (option_copied l.place) time_of) (drop l.i l.rows)) ≡ told_lines (option_copied l.fn.place) time_of l.rows
