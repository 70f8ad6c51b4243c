use Rattle.std.proofs.Common.{◌++◌, codes}
use Rattle.std.specs.Fmt.{decimal, signed_decimal}
use Rattle.eos_text.specs.Adding.{Adds}
use Rattle.eos_text.proofs.Appended.{then}
use Rattle.eos_explaining.proofs.batches.push_data.Goals as goal

pub returns-in_ok-push_text : goal.returns-in_ok-push_text
returns-in_ok-push_text c =
    let h = c.args.head.now in
    let whole : Adds _ _ ((codes " sequence=" ++ signed_decimal h.sequence) ++ ((codes " records=" ++ decimal h.count) ++ codes " transactional")) =
    then c.in_ok-push_value.ensures (then c.in_ok-push_value-2.ensures c.in_ok-push_text.ensures) in
    rw c.if-head.true whole
