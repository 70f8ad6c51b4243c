use Rattle.std.proofs.Common.{refl}
use Rattle.std.proofs.lemmas.Str.{is_utf8-from_IsUtf8}
use Rattle.eos_evidence.proofs.ManifestParts.{not_json}
use Rattle.eos_evidence.proofs.manifest_reader.parse_value.Goals as goal

pub returns-in-Ok-clause-ok : goal.returns-in-Ok-clause-ok
returns-in-Ok-clause-ok c = (is_utf8-from_IsUtf8 _ c.in-Ok.ensures.ok.0, c.in-Ok.ensures.ok.1)

pub returns-else-is_memory-clause-err : goal.returns-else-is_memory-clause-err
returns-else-is_memory-clause-err c = λ other. (refl, not_json _ (c.in-Err.ensures.err (λ memory. cc (c.is_memory.ensures.1 memory, c.if-is_memory.false))))
