use Rattle.eos_evidence.specs.Evidence.{segments_of}
use Rattle.eos_source.specs.Logs.{AreLogsKept}
use Rattle.eos_source.specs.FolderLogs.{is_log_at}
use Rattle.eos_source.specs.Saying.{said_at}
use Rattle.eos_source.proofs.SameShape.{holds_of_known}
use Rattle.eos_source.proofs.folder_laws.kept.Goals as goal

pub returns : goal.returns
returns c = λ holds folder shape evidence forms logs at h.
    holds_of_known (said_at holds folder (segments_of shape.partitions) forms) (is_log_at forms) at.said shape evidence (AreLogsKept logs) at.stands at.is h
