use Rattle.std.proofs.Common.{◌≡◌, ◌++◌, rules}
use Rattle.eos_wire.specs.Numbers.{i8_text, i16_text, i32_text, i64_text}
use Rattle.eos_txnlog.specs.Status.{status_number}
use Rattle.eos_txnlog.proofs.Appended.{four_pieces}
use Rattle.eos_txnlog.proofs.writing.write_head.Goals as goal

pub returns-clause-text : goal.returns-clause-text
returns-clause-text c =
    let value = c.args.value.now in
    let producer : c.write_i64.new.out.items ≡ c.args.out.now.items ++ i64_text value.producer = search rules in
    let epoch : c.write_i16.new.out.items ≡ c.write_i64.new.out.items ++ i16_text value.epoch = search rules in
    let timeout : c.write_i32.new.out.items ≡ c.write_i16.new.out.items ++ i32_text value.timeout = search rules in
    let status : c.write_i8.new.out.items ≡ c.write_i32.new.out.items ++ i8_text (status_number value.status) = search rules in
    four_pieces c.args.out.now.items (i64_text value.producer) (i16_text value.epoch) (i32_text value.timeout) (i8_text (status_number value.status)) _ _ _ _ producer epoch timeout status
