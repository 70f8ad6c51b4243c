use Rattle.std.proofs.Common.{◌∙◌, sym, subst, IsUtf8}
use Rattle.std.proofs.lemmas.Result.{IfOk-weaker}
use Rattle.eos_evidence.proofs.WrittenSpecs.{topic_is_text}
use Rattle.eos_evidence.proofs.manifest_writer.text_of_topic.Goals as goal

pub returns : goal.returns
returns c = IfOk-weaker c.from_utf8_lossy.result _ _ (λ text same. same (subst IsUtf8 (sym c.as_slice.ensures) (topic_is_text _ c.requires)) ∙ c.as_slice.ensures) c.from_utf8_lossy.ensures.ok
