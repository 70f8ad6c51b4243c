use Rattle.std.proofs.Common.{ap, ◌∙◌, drop}
use Rattle.eos_wire.proofs.CursorParts.{part-rest}
use Rattle.eos_wire.proofs.cursor.Cursor.advance.Goals as goal

pub returns : goal.returns
returns c = part-rest c.self.inside.bytes.now c.self.inside.at c.self.inside.end c.args.len ∙ ap (drop c.args.len) c.self.view_is
