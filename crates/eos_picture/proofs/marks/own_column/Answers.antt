use Rattle.std.proofs.Common.{length, subst, arith}
use Rattle.eos_picture.specs.Signs.{IsOfWriter}
use Rattle.eos_picture.specs.steps.Found.{IsPlaceOf}
use Rattle.eos_picture.proofs.WholeRows.{no_column}
use Rattle.eos_picture.proofs.marks.own_column.Goals as goal

pub returns-in-Some : goal.returns-in-Some
returns-in-Some c = λ x e. subst (λ o. IsOfWriter o c.args.writer) e (subst (λ o. IsPlaceOf c.args.columns.now c.args.writer o) c.in-Some.is c.column_of.ensures.place)

pub returns-in-None : goal.returns-in-None
returns-in-None c = λ x e. no_column c.args.columns.now (length c.args.columns.now) x (omega arith) e
