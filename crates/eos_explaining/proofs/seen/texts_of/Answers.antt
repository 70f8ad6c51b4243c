use Rattle.eos_source.specs.Said.{known_by}
use Rattle.eos_explaining.proofs.SeenLogs.{none_named, told_named}
use Rattle.eos_explaining.proofs.seen.texts_of.Goals as goal

pub returns-in-None-clause-seen : goal.returns-in-None-clause-seen
returns-in-None-clause-seen g c =
    let source = c.args.pieces.now.source.now in
    none_named (known_by (g.S.Source.said source) (g.S.Source.is_log source)) c.args.pieces.now.shape.now c.args.part.now c.args.part.now c.in_ok-name.name _ c.requires c.in_ok-name.ensures c.in-None.is c.in_ok-told.ensures.read

pub returns-in-Some-clause-seen : goal.returns-in-Some-clause-seen
returns-in-Some-clause-seen g c =
    let source = c.args.pieces.now.source.now in
    told_named (known_by (g.S.Source.said source) (g.S.Source.is_log source)) c.args.pieces.now.shape.now c.args.part.now c.in_ok-name.name _ c.in-Some.told c.in_ok-name.ensures c.in-Some.is c.in_ok-told.ensures.read
