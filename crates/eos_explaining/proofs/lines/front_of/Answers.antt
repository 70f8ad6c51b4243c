use Rattle.std.proofs.Common.{arith}
use Rattle.std.proofs.lemmas.Str.Pattern.{split_once_first}
use Rattle.eos_explaining.specs.Lines.{is_end}
use Rattle.eos_explaining.proofs.PartsTold.{whole_before}
use Rattle.eos_explaining.proofs.lines.front_of.Goals as goal

pub returns-in-None : goal.returns-in-None
returns-in-None c = whole_before is_end c.args.line.now (rw c.in-None.is at (split_once_first 10 c.args.line.now c.split_once.result c.split_once.ensures.cases (omega arith)))

pub returns-in-Some : goal.returns-in-Some
returns-in-Some c = (rw c.in-Some.is at (split_once_first 10 c.args.line.now c.split_once.result c.split_once.ensures.cases (omega arith))).1
