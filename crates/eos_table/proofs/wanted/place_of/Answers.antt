use Rattle.std.proofs.Common.{◌≡◌, ◌<◌, ℕ, List, length, refl, sym, subst}
use Rattle.std.proofs.lemmas.Bool.{ltb-true}
use Rattle.std.proofs.lemmas.Option.{slice_get_read}
use Rattle.eos_txnlog.specs.PartitionSets.{name_of}
use Rattle.eos_fold.specs.Parts.{part_name}
use Rattle.eos_table.proofs.wanted.place_of.Goals as goal

pub returns-then-is_named : goal.returns-then-is_named
returns-then-is_named c =
    let ps = c.args.parts.now in
    let p = c.in_ok-part.part.now in
    let i = c.likely_index-place.result in
    let lt : i < length ps = ltb-true i (length ps) (sym c.in_ok-part.ensures.lookup.0) in
    let named = subst (λ (topic : List ℕ). part_name p ≡ name_of topic c.args.partition.now) c.as_slice.ensures (c.is_named.ensures c.if-is_named.true) in
    (p, slice_get_read ps (length ps) i p refl lt c.in_ok-part.ensures.lookup.1, named)
