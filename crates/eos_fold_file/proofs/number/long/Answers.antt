use Rattle.std.proofs.Common.{length, take, ◌≤◌, arith, refl}
use Rattle.std.proofs.lemmas.List.{length-take-le}
use Rattle.eos_wire.proofs.Spellings.{IsVarlong-some}
use Rattle.eos_fold_file.proofs.number.long.Goals as goal

pub is_shortest-requires : goal.is_shortest-requires
is_shortest-requires c =
    let h = (c.in-Some.ensures.text c.in-Some.number c.in-Some.len).0 refl in
    let some : 1 ≤ length (take c.in-Some.len c.args.bytes.now) = IsVarlong-some (take c.in-Some.len c.args.bytes.now) c.in-Some.number h.1 in
    (omega (arith, length-take-le c.in-Some.len c.args.bytes.now h.0), h.0)
