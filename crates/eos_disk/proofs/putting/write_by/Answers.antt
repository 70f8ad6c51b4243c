use Rattle.eos_disk.proofs.OnePlace.{written_again, left_again}
use Rattle.eos_disk.proofs.putting.write_by.Goals as goal

pub returns-in-Ok-write_new-clause-ok : goal.returns-in-Ok-write_new-clause-ok
returns-in-Ok-write_new-clause-ok g c =
    written_again (g.D.Disk.holds c.args.disk.now) (g.D.Disk.holds c.write_new.new.self) (g.D.Disk.holds c.remove_stale.new.self) (g.D.Disk.holds c.write_new-2.new.self) c.args.by.now c.args.bytes.now
    c.in-Err-ThereAlready.ensures.err c.in_default.ensures.ok c.in-Ok-write_new.ensures.ok

pub returns-in-Err-write_new-clause-err : goal.returns-in-Err-write_new-clause-err
returns-in-Err-write_new-clause-err g c =
    left_again (g.D.Disk.holds c.args.disk.now) (g.D.Disk.holds c.write_new.new.self) (g.D.Disk.holds c.remove_stale.new.self) (g.D.Disk.holds c.write_new-2.new.self) c.args.by.now c.args.bytes.now
    c.in-Err-ThereAlready.ensures.err c.in_default.ensures.ok c.in-Err-write_new.ensures.err
