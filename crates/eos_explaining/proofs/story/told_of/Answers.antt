use Rattle.eos_source.specs.Said.{known_by}
use Rattle.eos_explaining.proofs.StoryThere.{headers_still}
use Rattle.eos_explaining.proofs.story.told_of.Goals as goal

pub told_once-requires-clause-headers : goal.told_once-requires-clause-headers
told_once-requires-clause-headers g c κs within =
    headers_still (known_by (g.S.Source.said c.args.pieces.now.source.now) (g.S.Source.is_log c.args.pieces.now.source.now)) c.args.pieces.now.shape.now c.args.read.now.items c.loop.read.items c.args.of.place.now c.args.of.headers.now
    c.loop.invariant.kept c.requires.headers

pub told_once-requires-2-clause-headers : goal.told_once-requires-2-clause-headers
told_once-requires-2-clause-headers g c κs within =
    headers_still (known_by (g.S.Source.said c.args.pieces.now.source.now) (g.S.Source.is_log c.args.pieces.now.source.now)) c.args.pieces.now.shape.now c.args.read.now.items c.loop.read.items c.args.of.place.now c.args.of.headers.now
    c.loop.invariant.kept c.requires.headers
