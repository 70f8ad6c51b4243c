use Rattle.std.proofs.Common.{◌≡◌, ℕ, ◌<◌, ◌++◌, take, get_or, flat_map, FitsSigned, ℤ}
use Rattle.std.specs.Int.{w32}
use Rattle.eos_wire.specs.Numbers.{i32_text}
use Rattle.eos_txnlog.proofs.writing.write_many_numbers.Given as goal

abbrev pub invariant-loop-number : goal.invariant-loop-number
invariant-loop-number l = record {
  text : l.out.items ≡ l.fn.out.items ++ flat_map i32_text (take l.number-index l.numbers);
  fit : (k : ℕ) (d : ℤ) → k < l.number-index → FitsSigned w32 (get_or l.numbers k d);
}
