use Rattle.std.proofs.Common.{◌≡◌, ap, sym, subst, ◌∙◌}
use Rattle.std.specs.Result.{OnOk}
use Rattle.eos_table.specs.TransactionLog.{next_state, state_of}
use Rattle.eos_table.specs.steps.Reads.{content_read}
use Rattle.eos_table.proofs.log_reading.take_record.Goals as goal

pub returns-in-Of-clause-last : goal.returns-in-Of-clause-last
returns-in-Of-clause-last c =
    subst (λ z. OnOk c.take_value.result (state_of c.take_value.new.last ≡ next_state (state_of c.args.last.now) z)) (sym (ap content_read c.in-Of.is) ∙ c.in_ok-record.ensures) c.take_value.ensures.last
