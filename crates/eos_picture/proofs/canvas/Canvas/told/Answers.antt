use Rattle.std.proofs.Common.{refl}
use Rattle.std.proofs.lemmas.Result.{on_ok_weaker}
use Rattle.eos_picture.proofs.Tellings.{told}
use Rattle.eos_picture.proofs.canvas.Canvas.told.Goals as goal

pub returns : goal.returns
returns c = on_ok_weaker c.put.result (told c.args.self.now.shapes.items _ _ _ refl) c.put.ensures
