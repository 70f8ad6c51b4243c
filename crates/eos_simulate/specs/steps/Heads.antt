-- The first line of the history of a course.
use Rattle.eos_history_lines.specs.declared.line.Head.{Head}
use Rattle.eos_simulate.specs.declared.course.Course.{Course}

abbrev pub head_of : Course → Head
head_of c = record { config = c.config; switches = c.switches; seed = c.seed; words = c.words }
