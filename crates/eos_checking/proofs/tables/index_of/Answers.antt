use Rattle.std.proofs.Common.{◌-◌, rules}
use Rattle.eos_checking.proofs.TablesRead.{one_back}
use Rattle.eos_checking.proofs.tables.index_of.Goals as goal

pub loop-i-preserved : goal.loop-i-preserved
loop-i-preserved c = one_back c.loop-i.made c.put_time.new.index c.args.times.now c.loop-i.i (c.loop-i.i - 1) _ (search rules) (search rules) c.in_ok-put_time.ensures c.loop-i.invariant
