use Rattle.eos_checking.proofs.TablesRead.{put_more}
use Rattle.eos_checking.proofs.tables.put_time.Goals as goal

pub returns : goal.returns
returns c = λ behind is. put_more c.args.index.now c.insert.new.self behind c.args.time.now c.moment_of.result is c.moment_of.ensures c.in_ok-insert.ensures.updates.0
