use Rattle.std.proofs.Common.{◌≡◌, ◌++◌, get_or, pos, rules, arith}
use Rattle.std.specs.Prelude.{FitsSigned}
use Rattle.std.specs.Int.{w32}
use Rattle.std.proofs.lemmas.Int.{to_z-of_z}
use Rattle.eos_wire.specs.Numbers.{i32_text}
use Rattle.eos_txnlog.proofs.Appended.{piece_more, each_more}
use Rattle.eos_txnlog.proofs.writing.write_many_numbers.Goals as goal

pub loop-number-preserved : goal.loop-number-preserved
loop-number-preserved c =
    let fits : FitsSigned w32 (get_or c.args.numbers.now c.loop-number.number-index (pos 0)) = search rules in
    let one : c.write_i32.new.out.items ≡ c.loop-number.out.items ++ i32_text (get_or c.args.numbers.now c.loop-number.number-index (pos 0)) = grind (arith, to_z-of_z) in
    record {
      text = piece_more i32_text c.args.out.now.items c.loop-number.out.items c.write_i32.new.out.items c.args.numbers.now c.loop-number.number-index (pos 0) c.loop-number-test.true c.loop-number.invariant.text one;
      fit = each_more (FitsSigned w32) c.args.numbers.now c.loop-number.number-index (pos 0) c.loop-number-test.true c.loop-number.invariant.fit fits;
    }
