use Rattle.std.proofs.Common.{◌≡◌, take}
use Rattle.eos_sought.specs.Finds.{all_of, AreFirst}
use Rattle.eos_sought.proofs.finding.find_records.Given as goal

abbrev pub invariant-loop-part : goal.invariant-loop-part
invariant-loop-part l = record {
  most : l.finds.most ≡ l.fn.most;
  taken : AreFirst (all_of l.sought (take l.part-index l.logs)) l.finds;
}
