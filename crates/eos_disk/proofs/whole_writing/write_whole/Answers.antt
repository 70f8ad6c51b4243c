use Rattle.std.proofs.lemmas.Result.{on_ok_weaker}
use Rattle.eos_disk.proofs.ListedBack.{reads_written}
use Rattle.eos_disk.proofs.whole_writing.write_whole.Goals as goal

pub returns-clause-back : goal.returns-clause-back
returns-clause-back g c = λ empty known lists.
    on_ok_weaker c.write_evidence.result
    (λ wrote. reads_written (g.D.Disk.holds c.args.disk.now) (g.D.Disk.holds c.write_evidence.new.disk) c.args.folder.now c.args.evidence.now c.partitions-partitions.ensures.evidence empty wrote known lists)
    c.write_evidence.ensures
