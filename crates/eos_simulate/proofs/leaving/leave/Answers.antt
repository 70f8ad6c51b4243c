use Rattle.eos_simulate.proofs.LeftFolders.{simulated}
use Rattle.eos_simulate.proofs.leaving.leave.Goals as goal

pub returns-in-Ok-write_last : goal.returns-in-Ok-write_last
returns-in-Ok-write_last g c =
    simulated c.args.words.now (g.R.Read.remaining c.args.input.now) (g.R.Read.remaining c.make.new.input) (g.D.Disk.holds c.args.disk.now) (g.D.Disk.holds c.begun.new.disk) _
    (g.D.Disk.holds c.make.new.disk) (g.D.Disk.holds c.ended.new.disk) _ (g.D.Disk.holds c.write_last.new.disk) (c.in-Ok.file, c.in-Ok-begun.other) _ c.in-Ok-make.made.evidence
    c.in-Ok.ensures c.in-Ok-begun.ensures c.in-Ok-make.ensures.run c.in-Ok-make.ensures.folder c.in_default.ensures c.in_default-ended.ensures c.in-Ok-write_last.ensures.written c.in-Ok-write_last.ensures.back
