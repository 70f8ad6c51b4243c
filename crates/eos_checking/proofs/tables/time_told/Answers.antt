use Rattle.std.proofs.Common.{ℕ, List, subst}
use Rattle.std.specs.List.{Contains}
use Rattle.eos_claims.specs.Plain.{plain_source}
use Rattle.eos_checking.proofs.TablesRead.{told}
use Rattle.eos_checking.proofs.tables.time_told.Goals as goal

pub returns : goal.returns
returns c = λ known partitions all.
    told known partitions c.args.tables.now c.in-Some.table.now (plain_source c.args.place) c.time_in.result all c.in-Some.ensures.0 c.in-Some.ensures.1
    (subst (λ (xs : List ℕ). Contains xs c.args.place.offset) c.as_slice.ensures.items (c.is_among.ensures c.if-not-is_among.false)) c.time_in.ensures
