use Rattle.eos_source.specs.Said.{known_by}
use Rattle.eos_claims.specs.Plain.{plain_source}
use Rattle.eos_checking.proofs.TablesRead.{time_is}
use Rattle.eos_checking.proofs.dates.time_alone.Goals as goal

pub returns : goal.returns
returns g c =
    let source = c.args.pieces.now.source.now in
    time_is (known_by (g.S.Source.said source) (g.S.Source.is_log source)) c.args.pieces.now.shape.now.partitions (plain_source c.args.place) c.in_ok-name.name _ c.in_ok-times.times.items _
    c.in_ok-name.ensures c.in_ok-offsets.ensures c.in_ok-times.ensures.times (rw c.as_slice.ensures.value at c.time_at.ensures)
