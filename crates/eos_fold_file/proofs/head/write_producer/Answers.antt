use Rattle.std.proofs.Common.{◌≡◌, ◌++◌, rules}
use Rattle.std.specs.Prelude.{OnOk}
use Rattle.std.proofs.lemmas.Result.{on_ok_weaker}
use Rattle.eos_wire.specs.Writing.{varlong_of}
use Rattle.eos_fold_file.proofs.Loop.{three_pieces}
use Rattle.eos_fold_file.proofs.head.write_producer.Goals as goal

pub returns-clause-text : goal.returns-clause-text
returns-clause-text c =
    let h = c.args.head in
    let producer : c.write_number.new.out.items ≡ c.args.out.now.items ++ varlong_of h.producer = search rules in
    let epoch : c.write_number-2.new.out.items ≡ c.write_number.new.out.items ++ varlong_of h.epoch = search rules in
    let sequence : OnOk c.write_number-3.result (c.write_number-3.new.out.items ≡ c.write_number-2.new.out.items ++ varlong_of h.sequence) = search rules in
    on_ok_weaker c.write_number-3.result (three_pieces c.args.out.now.items (varlong_of h.producer) (varlong_of h.epoch) (varlong_of h.sequence) _ _ _ producer epoch) sequence
