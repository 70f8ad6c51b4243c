use Rattle.std.proofs.Common.{rules, ap, arith, Some}
use Rattle.eos_base.proofs.PlainNumbers.{number_no, number_past, number_is}
use Rattle.eos_base.proofs.decimal.read_below.Goals as goal

pub returns-then-not-is_numeral-clause-value : goal.returns-then-not-is_numeral-clause-value
returns-then-not-is_numeral-clause-value c = rw (number_no c.args.limit c.args.text.now (search rules)) (search rules)

pub returns-then-value-limit-clause-value : goal.returns-then-value-limit-clause-value
returns-then-value-limit-clause-value c = rw (number_past c.args.limit c.args.text.now (search rules) (omega (arith, c.value_of_digits-value.ensures))) (search rules)

pub returns-clause-value : goal.returns-clause-value
returns-clause-value c =
    rw (number_is c.args.limit c.args.text.now (search rules) (omega (arith, c.value_of_digits-value.ensures)))
    (ap Some c.value_of_digits-value.ensures)
