use Rattle.eos_commands.proofs.verifying.verify_folds.Goals as goal

pub returns-in_ok-shape-in-Ok : goal.returns-in_ok-shape-in-Ok
returns-in_ok-shape-in-Ok g c =
    let shape = c.in_ok-shape.shape in
    let found = c.in-Ok.ensures in
    record { shape = shape.evidence; forms = shape.forms.items; is = c.in_ok-shape.ensures.all c.in_ok-shape-in-Ok.was; topics = found.0; sources = found.1; are = found.2 }
