use Rattle.std.proofs.Common.{◌≡◌, ◌++◌, sym, ap, ◌∙◌}
use Rattle.std.specs.Option.{option_map, option_copied}
use Rattle.eos_txnlog.specs.Skips.{is_skipped}
use Rattle.eos_table.specs.TransactionLog.{flat, state_of}
use Rattle.eos_table.proofs.LogSteps.{lent_flat}
use Rattle.eos_picture.specs.Transactions.{column_between}
use Rattle.eos_picture.proofs.Steps.{unskipped_step}
use Rattle.eos_picture.proofs.transactions.take_value.Goals as goal

pub returns-clause-columns : goal.returns-clause-columns
returns-clause-columns c =
    let next = c.as_ref-next.ensures.value in
    let skip = ap (λ z. is_skipped z c.args.state.value) (sym c.last_value-before.ensures) ∙ (ap (is_skipped (option_map option_copied c.last_value-before.result)) (sym next) ∙ (sym c.in_ok-is_skipped.ensures ∙ c.if-branch.false)) in
    let before : option_copied c.flatten.result ≡ flat (state_of c.args.last.now c.args.state.id) = lent_flat c.last_value-before.result c.flatten.result _ c.flatten.ensures c.last_value-before.ensures in
    unskipped_step (state_of c.args.last.now) c.args.place.partition c.args.place.offset c.args.state.id (option_copied c.flatten.result) c.args.state.value c.args.columns.now.items c.push_decided.new.columns.items skip before
    (c.in_ok-push_decided.ensures ∙ ap (λ z. c.args.columns.now.items ++ column_between c.args.place.partition c.args.place.offset c.args.state.id (option_copied c.flatten.result) z) next)
