use Rattle.std.proofs.Common.{rules, FitsSigned, w8, w64}
use Rattle.std.proofs.lemmas.Int.{to_z-of_z}
use Rattle.eos_batch.proofs.LentRecords.{view_is, parts_stand}
use Rattle.eos_batch.proofs.view.record_of.Goals as goal

pub invariant_of-result : goal.invariant_of-result
invariant_of-result c = (view_is c.args.text c.requires.0 c.in-Ok.parts c.requires.1 c.in-Ok.ensures.gives).0

pub unreachable-requires : goal.unreachable-requires
unreachable-requires c = parts_stand c.args.text c.requires.0 c.in-Err.field-0 c.requires.1 c.in-Err.ensures.real c.in-Err.ensures.gives

pub returns : goal.returns
returns c =
    let attributes : FitsSigned w8 c.in-Ok.parts.attributes = search rules in
    let timestamp : FitsSigned w64 c.in-Ok.parts.timestamp_delta = search rules in
    simp to_z-of_z (view_is c.args.text c.requires.0 c.in-Ok.parts c.requires.1 c.in-Ok.ensures.gives).1
