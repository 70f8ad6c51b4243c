use Rattle.eos_disk.proofs.OnePlace.{placed, left_taken}
use Rattle.eos_disk.proofs.putting.put_by.Goals as goal

pub returns-clause-ok : goal.returns-clause-ok
returns-clause-ok g c =
    placed (g.D.Disk.holds c.args.disk.now) (g.D.Disk.holds c.write_by.new.disk) (g.D.Disk.holds c.publish.new.self) c.args.by.now c.args.path.now c.args.bytes.now
    c.requires c.in-Ok.ensures.ok c.in_default.ensures.ok

pub returns-in-Err-publish-clause-err : goal.returns-in-Err-publish-clause-err
returns-in-Err-publish-clause-err g c =
    left_taken (g.D.Disk.holds c.args.disk.now) (g.D.Disk.holds c.write_by.new.disk) (g.D.Disk.holds c.publish.new.self) (g.D.Disk.holds c.take_back.new.disk) c.args.by.now c.args.bytes.now
    c.in-Ok.ensures.ok c.in-Err-publish.ensures.err c.take_back.ensures
