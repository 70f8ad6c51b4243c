-- Each exit has the refusal of its part, and the end what the parts give.
use Rattle.std.proofs.Common.{rules, refl, sym, ◌∙◌, Some, None}
use Rattle.std.proofs.lemmas.Result.{err_from_is_err_and}
use Rattle.serde_json.specs.View.{view}
use Rattle.eos_evidence.specs.SpecFields.{accepted}
use Rattle.eos_evidence.proofs.ManifestParts.{answers_fault, answers_same, version_refused, manifest_is}
use Rattle.eos_evidence.proofs.manifest_reader.read_spec.Goals as goal

pub returns-in_err-version : goal.returns-in_err-version
returns-in_err-version c =
    let p = err_from_is_err_and c.from_residual.result c.from_residual.ensures.1 in
    rw (p.1, p.2) (answers_fault _ _ (version_refused _ _ c.in_err-version.ensures))

pub returns-in_default : goal.returns-in_default
returns-in_default c = manifest_is _ _ None _ c.in_ok-version.ensures (search rules) refl

pub returns-in_default-2 : goal.returns-in_default-2
returns-in_default-2 c = manifest_is _ _ (Some c.in-Some.apps.items) None c.in_ok-version.ensures (search rules) (search rules)

pub returns : goal.returns
returns c =
    let said = manifest_is (view c.args.value.now) _ (Some c.in-Some.apps.items) (Some c.in-Some-2.ends.items) c.in_ok-version.ensures (search rules) (search rules) in
    answers_same _ _ (c.new-3.ensures ∙ (λ i. accepted (record { apps = c.new.ensures i; ends = c.new-2.ensures i })) ∙ sym said)
