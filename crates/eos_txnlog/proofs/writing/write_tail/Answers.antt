use Rattle.std.proofs.Common.{◌≡◌, ◌++◌, rules}
use Rattle.std.proofs.lemmas.Result.{on_ok_weaker}
use Rattle.eos_wire.specs.Numbers.{i64_text}
use Rattle.eos_wire.specs.FieldWriting.{section_text}
use Rattle.eos_txnlog.proofs.Appended.{three_pieces}
use Rattle.eos_txnlog.proofs.writing.write_tail.Goals as goal

pub returns-clause-text : goal.returns-clause-text
returns-clause-text c =
    let value = c.args.value.now in
    let last_update : c.write_i64.new.out.items ≡ c.args.out.now.items ++ i64_text value.last_update = search rules in
    let start : c.write_i64-2.new.out.items ≡ c.write_i64.new.out.items ++ i64_text value.start = search rules in
    on_ok_weaker c.write_section.result (three_pieces c.args.out.now.items (i64_text value.last_update) (i64_text value.start) (section_text c.args.form) _ _ _ last_update start) c.write_section.ensures
