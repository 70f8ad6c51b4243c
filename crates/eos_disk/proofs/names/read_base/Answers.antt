use Rattle.std.proofs.Common.{rules, ap, ◌∙◌, arith, Some, pos, w64}
use Rattle.std.proofs.lemmas.Int.{to_z_pos}
use Rattle.eos_disk.proofs.FileNames.{base_of_others, base_past, base_is}
use Rattle.eos_disk.proofs.names.read_base.Goals as goal

pub returns-then-not-are_base_digits : goal.returns-then-not-are_base_digits
returns-then-not-are_base_digits c = rw (base_of_others c.args.digits.now (search rules)) (search rules)

pub returns-then-value : goal.returns-then-value
returns-then-value c = rw (base_past c.args.digits.now (search rules) (omega (arith, c.value_of_digits-value.ensures))) (search rules)

pub returns : goal.returns
returns c =
    rw (base_is c.args.digits.now (search rules) (omega (arith, c.value_of_digits-value.ensures)))
    (ap Some (to_z_pos w64 c.value_of_digits-value.result (omega arith) ∙ ap pos c.value_of_digits-value.ensures))
