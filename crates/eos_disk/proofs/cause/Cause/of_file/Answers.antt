use Rattle.eos_disk.proofs.cause.Cause.of_file.Goals as goal

-- what a reader says is so wherever it reads
pub returns-in-Ok : goal.returns-in-Ok
returns-in-Ok g c = c.of_reader.ensures (g.D.Disk.holds c.args.disk.now c.args.path.now)
