use Rattle.std.proofs.Common.{◌+◌, ◌*◌}
use Rattle.eos_source.proofs.share.+threads.Given as goal

abbrev pub decreases-told_by : goal.decreases-told_by
decreases-told_by g l = 2 * l.threads

abbrev pub decreases-front_told : goal.decreases-front_told
decreases-front_told g l = 2 * l.few + 1

abbrev pub decreases-back_told : goal.decreases-back_told
decreases-back_told g l = 2 * l.others + 1
