-- Where no memory is left for what a read brought, that and what stood before it was taken.
use Rattle.std.proofs.Common.{◌++◌, take, rules}
use Rattle.std.proofs.lemmas.List.{places}
use Rattle.std.proofs.lemmas.Result.{err_from_is_err_and}
use Rattle.std.proofs.KnownBytes.{Consumes-trans}
use Rattle.eos_evidence.proofs.segment_reader.read_up_to.Goals as goal

pub returns-in_err-extend_from_slice-clause-refused : goal.returns-in_err-extend_from_slice-clause-refused
returns-in_err-extend_from_slice-clause-refused g c =
    let p = err_from_is_err_and c.from_residual-in_err-extend_from_slice.result c.from_residual-in_err-extend_from_slice.ensures.1 in
    let before = c.loop-chunk.invariant in
    let read = c.in_ok-count.ensures in
    let brought = take c.in_ok-count.count c.read_some.new.room in
    rw p.1 (c.loop-chunk.bytes.items ++ brought, search (rules, places), Consumes-trans _ _ _ _ _ before.taken read.ok)
