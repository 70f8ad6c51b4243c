use Rattle.std.proofs.Common.{rules, refl, to_z-of_z, w64}
use mir.Val.{SFits}
use Rattle.eos_segment.proofs.AskedRecords.{one_of_records}
use Rattle.eos_segment.proofs.chosen.asks_for_one.Goals as goal

pub returns : goal.returns
returns c =
    let fits : SFits w64 c.args.batch.now.base_offset = search rules in
    let first = simp (to_z-of_z, fits) at c.max.ensures in
    let end = simp (to_z-of_z, fits) at c.min.ensures in
    one_of_records c.args.options.now c.args.batch.now.base_offset c.args.batch.now.records _ c.requires.low (λ n e. rw (first, end, c.len.ensures, e) refl)
