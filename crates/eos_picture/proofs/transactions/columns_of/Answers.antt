use Rattle.std.proofs.Common.{◌++◌, map, ap, ◌∙◌}
use Rattle.eos_picture.specs.Transactions.{undecided_column}
use Rattle.eos_picture.proofs.transactions.columns_of.Goals as goal

pub returns : goal.returns
returns c =
    let others = c.as_slice-2.result.now in
    record { others = others; are = c.in_ok-push_undecided_columns.ensures ∙ ap (λ z. z ++ map undecided_column others) c.in_ok-columns.ensures }
