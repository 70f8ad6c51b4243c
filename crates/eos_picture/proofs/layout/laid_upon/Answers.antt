use Rattle.std.proofs.Common.{ℕ, List, ◌++◌, ap, ◌∙◌}
use Rattle.eos_picture.specs.Told.{tellings}
use Rattle.eos_picture.proofs.Tellings.{laid}
use Rattle.eos_picture.proofs.layout.laid_upon.Goals as goal

pub returns : goal.returns
returns c =
    let upon = c.args.canvas.now.shapes.items in
    laid c.arcs.new.self.shapes.items upon c.append.new.self.items c.in_ok-append.ensures.items
    ∙ ap (λ (xs : List (List ℕ)). xs ++ tellings upon) (c.in_ok-arcs.ensures ∙ (c.in_ok-draw_ground.ensures ∙ c.new-ground.ensures))
