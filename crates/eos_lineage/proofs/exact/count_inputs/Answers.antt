use Rattle.std.proofs.Common.{List, [], length, sym, subst}
use Rattle.eos_commits.specs.Applications.{inputs_below}
use Rattle.eos_lineage.specs.declared.shares.Share.{Share}
use Rattle.eos_lineage.specs.steps.Keys.{HasTaken}
use Rattle.eos_lineage.specs.steps.Shares.{Follow, AddUp}
use Rattle.eos_lineage.proofs.SharesTaken.{whole}
use Rattle.eos_lineage.proofs.ToldKeys.{on_some}
use Rattle.eos_lineage.proofs.exact.count_inputs.Goals as goal

pub returns-in-Ok : goal.returns-in-Ok
returns-in-Ok g c = λ a are.
    let b = c.args.books.now in
    let ss = c.as_slice.result.now in
    let follow = subst (λ (xs : List Share). Follow 0 c.args.keys.now xs (length c.args.books.now.parts.now) []) (sym c.as_slice.ensures.value) c.in-Ok.ensures in
    on_some c.count_shares.result (AddUp a b ss) (λ n. HasTaken b.names.now (record { keys = c.args.keys.now; inputs = 0 }) (record { keys = []; inputs = n }) (inputs_below a))
    (whole a b are c.args.keys.now ss follow) (c.count_shares.ensures a are)
