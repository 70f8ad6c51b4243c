-- The logs as a story sees them: of Kafka's own topics (KIP-98) and of those that an application reads or writes (KIP-447) what
-- is wanted of them; of the others their records' keys, values and claims, which is all of a record that a story asks of a log.
use Rattle.std.specs.Prelude.{List, map, if◌then◌else◌}
use Rattle.eos_evidence.specs.declared.application.App.{App}
use Rattle.eos_fold.specs.Parts.{PartLog}
use Rattle.eos_manifest.specs.Manifests.{is_judged}
use Rattle.eos_reading.specs.declared.wanted.Wanted.TheVariants.{Texts}
use Rattle.eos_reading.specs.Wanted.{kept_log, wanted_log}

abbrev pub seen_log : List App → PartLog → PartLog
seen_log apps p = if is_judged apps p.topic then kept_log apps p else wanted_log Texts p

abbrev pub seen_logs : List App → List PartLog → List PartLog
seen_logs apps ps = map (seen_log apps) ps
