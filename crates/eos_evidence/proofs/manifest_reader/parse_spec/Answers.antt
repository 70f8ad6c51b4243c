use Rattle.eos_evidence.proofs.ManifestParts.{said_is}
use Rattle.eos_evidence.proofs.manifest_reader.parse_spec.Goals as goal

pub returns : goal.returns
returns c = rw (said_is _ _ c.in_ok-value.ensures.ok.0 c.in_ok-value.ensures.ok.1) c.read_spec.ensures
