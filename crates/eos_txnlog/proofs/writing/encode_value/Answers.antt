use Rattle.std.proofs.Common.{◌≡◌, ℕ, List, true, Some, sym, subst, rules}
use Rattle.eos_txnlog.specs.Text.{form_of, IsValueText}
use Rattle.eos_txnlog.specs.Writing.{fits_partitions, value_text}
use Rattle.eos_txnlog.proofs.ValueTexts.{value_whole}
use Rattle.eos_txnlog.proofs.WrittenTexts.{value_written}
use Rattle.eos_txnlog.proofs.writing.encode_value.Goals as goal

pub returns-clause-text : goal.returns-clause-text
returns-clause-text c =
    let form = c.in-Some.form in
    let value = c.args.value.now in
    let known : form_of c.args.version ≡ Some form = search rules in
    let fits : fits_partitions form value.partitions ≡ true = search rules in
    let is : c.in_ok-write_value.field-0 ≡ value_text c.args.version form value = search rules in
    subst (λ (bytes : List ℕ). IsValueText bytes value) (sym is) (value_written c.args.version form value known fits c.in_ok-write_value.ensures.fit)

pub returns-clause-reads_back : goal.returns-clause-reads_back
returns-clause-reads_back c = value_whole c.in_ok-write_value.field-0 c.args.value.now (returns-clause-text c)
