use Rattle.std.proofs.Common.{◌≡◌, ◌<◌, length, refl, arith, rules}
use Rattle.std.proofs.lemmas.Option.{slice_get_read}
use Rattle.eos_txnlog.specs.PartitionSets.{name_of}
use Rattle.eos_table.specs.steps.Wanted.{IsAt}
use Rattle.eos_table.proofs.WantedLists.{one_taken}
use Rattle.eos_table.proofs.wanted.want.Goals as goal

pub returns : goal.returns
returns c = λ yes.
    let ps = c.args.parts.now in
    let name = name_of c.args.topic.now c.args.partition.now in
    let old = c.args.lists.now.items in
    let place = c.in-Some.place in
    let at : IsAt ps place name = c.in-Some.ensures in
    let list = c.index_mut.result.now in
    let n : c.len.result ≡ length old = search rules in
    let lt : place < length old = omega (arith, n, c.if-place-len.false) in
    one_taken ps old _ place c.args.close name at (list, c.push.new.self, slice_get_read old (length old) place list refl lt c.index_mut.ensures.value, c.in_ok-push.ensures.items, refl)
