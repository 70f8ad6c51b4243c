use Rattle.eos_source.specs.Said.{known_by}
use Rattle.eos_explaining.proofs.HeadersRead.{no_place}
use Rattle.eos_explaining.proofs.headers.own_headers.Goals as goal

pub returns-in-None-clause-are : goal.returns-in-None-clause-are
returns-in-None-clause-are g c = rw c.in-None.is (no_place (known_by (g.S.Source.said c.args.pieces.now.source.now) (g.S.Source.is_log c.args.pieces.now.source.now)) c.args.pieces.now.shape.now c.args.read.now.items _)
