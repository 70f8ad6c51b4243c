use Rattle.std.proofs.Common.{refl}
use Rattle.std.proofs.lemmas.Result.{err_from_is_err_and}
use Rattle.eos_drawing.proofs.pictures.text_around.Goals as goal

pub returns-clause-text : goal.returns-clause-text
returns-clause-text g c = record { drawn = c.in_ok-drawn.drawn; by = c.in_ok-drawn.ensures.drawn; is = refl }

pub returns-in_err-drawn-clause-refused : goal.returns-in_err-drawn-clause-refused
returns-in_err-drawn-clause-refused g c =
    let p = err_from_is_err_and c.from_residual.result c.from_residual.ensures.1 in
    rw (p.1, p.2) (c.in_err-drawn.ensures.refused)
