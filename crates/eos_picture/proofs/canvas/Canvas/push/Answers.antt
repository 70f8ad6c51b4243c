use Rattle.std.proofs.lemmas.Result.{on_ok_weaker}
use Rattle.eos_picture.proofs.Tellings.{silent}
use Rattle.eos_picture.proofs.canvas.Canvas.push.Goals as goal

pub returns : goal.returns
returns c = on_ok_weaker c.put.result (silent c.args.self.now.shapes.items _ c.args.shape c.requires) c.put.ensures
