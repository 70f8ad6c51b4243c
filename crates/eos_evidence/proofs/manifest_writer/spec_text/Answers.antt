-- The text is read as the value that was written.
use Rattle.std.proofs.Common.{◌∙◌, ap, string_bytes, option_and_then}
use Rattle.std.proofs.lemmas.Str.{IsUtf8-had, is_utf8-from_IsUtf8}
use Rattle.eos_evidence.specs.Manifest.{version_in}
use Rattle.eos_evidence.proofs.ManifestParts.{said_is}
use Rattle.eos_evidence.proofs.manifest_writer.spec_text.Goals as goal

pub returns-clause-reads_back : goal.returns-clause-reads_back
returns-clause-reads_back c =
    let said = said_is (string_bytes c.in_ok-text.text) _ (is_utf8-from_IsUtf8 _ (IsUtf8-had _ c.in_ok-text.text.ok)) (c.in_ok-text.ensures.reads_back c.in_ok-value.ensures.shallow) in
    rw c.into_bytes.ensures.value (said ∙ c.in_ok-value.ensures.says)

pub returns-clause-version : goal.returns-clause-version
returns-clause-version c = rw c.into_bytes.ensures.value (ap (option_and_then version_in) (c.in_ok-text.ensures.reads_back c.in_ok-value.ensures.shallow) ∙ c.in_ok-value.ensures.version)
