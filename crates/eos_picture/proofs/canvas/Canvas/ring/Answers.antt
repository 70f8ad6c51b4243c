use Rattle.std.proofs.lemmas.Result.{on_ok_weaker}
use Rattle.eos_picture.proofs.canvas.Canvas.ring.Goals as goal

pub returns : goal.returns
returns c = on_ok_weaker c.put.result (λ e. c.in_ok-rectangle.ensures) c.put.ensures
