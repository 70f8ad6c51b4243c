use Rattle.std.proofs.Common.{◌∙◌}
use Rattle.eos_drawing.proofs.answer.drawn_picture.Goals as goal

pub returns : goal.returns
returns c = record {
  size = c.in_ok-line_of.ensures;
  drawing = c.in_ok-drawing.drawing;
  told = c.in_ok-drawing.ensures.told;
  title = c.in_ok-drawing.ensures.title ∙ c.in_ok-title.ensures;
  says = c.in_ok-svg_text.ensures;
  exit = c.status_of.ensures;
}
