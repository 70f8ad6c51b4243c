use Rattle.std.proofs.Common.{take}
use Rattle.std.specs.Option.{option_copied}
use Rattle.eos_story.specs.Names.{name_in}
use Rattle.eos_explaining.specs.steps.Again.{AreNamedOrRead, IsNamedOrRead}
use Rattle.eos_explaining.proofs.named.names_left.Given as goal

abbrev pub invariant-loop-row : goal.invariant-loop-row
invariant-loop-row l = IsNamedOrRead l.read l.names.items (option_copied l.own) × AreNamedOrRead l.read l.names.items name_in (take l.row-index l.rows)
