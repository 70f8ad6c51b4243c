use Rattle.std.proofs.Common.{ap, sym, ◌∙◌, List, ℕ, subst}
use Rattle.eos_picture.specs.Told.{tellings, AreRowsTold}
use Rattle.eos_picture.proofs.layout.drawing_of.Goals as goal

pub returns-clause-told : goal.returns-clause-told
returns-clause-told c =
    let picture = c.args.picture.now in
    subst (λ (xs : List (List ℕ)). AreRowsTold picture.columns.items picture.rows.items c.args.times.now xs) (sym (ap tellings c.new.ensures ∙ c.in_ok-shapes.ensures)) c.in_ok-frame.ensures
