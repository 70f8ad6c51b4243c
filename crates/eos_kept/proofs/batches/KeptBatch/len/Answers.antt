use Rattle.std.proofs.Common.{◌≤◌, length, take, drop, ap, arith}
use Rattle.std.proofs.lemmas.List.{length-take-le, length-drop}
use Rattle.eos_kept.specs.Records.{records_in}
use Rattle.eos_kept.proofs.HeadPlaces.{at_length}
use Rattle.eos_kept.proofs.batches.KeptBatch.len.Goals as goal

pub returns : goal.returns
returns c =
    let b = c.self.inside in
    let left = drop b.passed (records_in b.records.now) in
    let fits = c.self.invariant.3 in
    let few : b.len ≤ length left = omega (arith, length-drop b.passed (records_in b.records.now), fits) in
    omega (arith, ap length c.self.view_is, at_length b.head.now 0 (take b.len left), length-take-le b.len left few)
