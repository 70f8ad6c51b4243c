-- The folders so far don't have it.
use Rattle.eos_commands.proofs.FoundMore.{LackSoFar}
use Rattle.eos_commands.proofs.verifying.Sides.find_log.Given as goal

abbrev pub invariant-loop-logs : goal.invariant-loop-logs
invariant-loop-logs g l = LackSoFar (g.D.Disk.holds l.self.disk.now) l.name l.self.logs.now l.logs-index
