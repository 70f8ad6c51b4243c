use Rattle.std.proofs.Common.{◌≡◌, rules}
use Rattle.std.specs.Arc.{arc_value}
use Rattle.eos_table.specs.steps.Known.{with_set, IsSetText}
use Rattle.eos_table.proofs.KnownTexts.{around_value}
use Rattle.eos_table.proofs.known.Known.known_value.Goals as goal

pub returns-in-Some-2 : goal.returns-in-Some-2
returns-in-Some-2 c =
    let found = c.in-Some.field-0 in
    let set : IsSetText found.form found.text.now (arc_value c.in-Some-2.set) = search rules in
    let is : c.new.result ≡ with_set found.bare (arc_value c.in-Some-2.set) = search rules in
    around_value found.form c.args.value.now found.text.now _ found.bare c.new.result (arc_value c.in-Some-2.set) c.in-Some.ensures set is
