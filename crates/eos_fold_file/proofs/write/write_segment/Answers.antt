use Rattle.std.proofs.Common.{◌≡◌, ◌++◌, rules}
use Rattle.std.proofs.lemmas.Result.{on_ok_weaker}
use Rattle.std.specs.Prelude.{OnOk}
use Rattle.eos_wire.specs.Numbers.{u32_text}
use Rattle.eos_wire.specs.Writing.{varlong_of}
use Rattle.eos_fold_file.specs.Numbers.{u64_text, bytes_text}
use Rattle.eos_fold_file.proofs.Loop.{five_pieces}
use Rattle.eos_fold_file.proofs.write.write_segment.Goals as goal

pub returns-clause-text : goal.returns-clause-text
returns-clause-text c =
    let f = c.args.fold.now in
    let topic : c.write_slice.new.out.items ≡ c.args.out.now.items ++ bytes_text f.topic = search rules in
    let partition : c.write_number.new.out.items ≡ c.write_slice.new.out.items ++ varlong_of f.partition = search rules in
    let base : c.write_number-2.new.out.items ≡ c.write_number.new.out.items ++ varlong_of f.base = search rules in
    let bytes : c.write_u64.new.out.items ≡ c.write_number-2.new.out.items ++ u64_text f.bytes = search rules in
    let batches : OnOk c.write_u32.result (c.write_u32.new.out.items ≡ c.write_u64.new.out.items ++ u32_text f.batches) = search rules in
    on_ok_weaker c.write_u32.result (five_pieces c.args.out.now.items (bytes_text f.topic) (varlong_of f.partition) (varlong_of f.base) (u64_text f.bytes) (u32_text f.batches) _ _ _ _ _ topic partition base bytes) batches
