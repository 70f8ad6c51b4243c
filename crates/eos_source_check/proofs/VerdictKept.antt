-- The verdict that is judged of kept logs is that of the evidence whose logs they are kept of.
use Rattle.std.proofs.Common.{◌≡◌, ℕ, map, sym, subst, ap, ◌∙◌}
use Rattle.eos_evidence.specs.Evidence.{EvidenceParts}
use Rattle.eos_evidence.specs.SpecFields.{SpecFields}
use Rattle.eos_check.specs.Judged.{IsJudged}
use Rattle.eos_kept.specs.Parts.{HaveEpochs}
use Rattle.eos_kept.specs.Faults.{AreFaultsIn, first_of}
use Rattle.eos_reading.specs.Wanted.{wanted_logs}
use Rattle.eos_check.specs.KeptLogs.{AreKeptOf}
use Rattle.eos_check.proofs.HeldLogs.{judged}
use Rattle.eos_source.specs.declared.logs.KeptLogs.{KeptLogs}
use Rattle.eos_source.specs.Logs.{AreLogsKept, AreKeptLogs}
use Rattle.eos_source.specs.Said.{Known}
use Rattle.eos_source_check.specs.Judged.{IsJudgedFor, IsJudgedOf}
use Rattle.eos_source_check.specs.declared.judged.Judged.{Judged}
use Rattle.eos_source_check.specs.steps.Apart.{counted_as, IsApart}
use Rattle.eos_notes.specs.Counts.{AreCounted}
use Rattle.eos_source_check.proofs.KeptTold.{AreTogether, kept_told}

judged_for : (kept : KeptLogs) (j : Judged) (shape e : EvidenceParts) → e.spec ≡ shape.spec → AreLogsKept kept e → IsApart kept j.logs j.counted.items → j.epochs.items ≡ kept.epochs.items
    → IsJudged shape.spec.apps j.logs.parts.items (first_of j.logs.faults.items) j.verdict → IsJudgedFor j e
judged_for kept j shape e spec k w epochs answer =
    let t : AreTogether e.spec.apps e.partitions k.told = kept_told e.spec.apps e.partitions k.told k.each in
    let parts : j.logs.parts.items ≡ wanted_logs e.spec.apps t.logs.whole = w.parts ∙ (k.columns.parts ∙ t.logs.parts) in
    let faults : AreFaultsIn e.partitions j.logs.faults.items = subst (AreFaultsIn e.partitions) (sym (w.faults ∙ k.columns.faults)) t.logs.faults in
    let over_apps : IsJudged e.spec.apps j.logs.parts.items (first_of j.logs.faults.items) j.verdict =
    subst (λ (s : SpecFields). IsJudged s.apps j.logs.parts.items (first_of j.logs.faults.items) j.verdict) (sym spec) answer in
    let logs : AreKeptOf e.spec.apps e.partitions j.logs.parts.items j.logs.faults.items = record { whole = t.logs.whole; of = t.logs.of; parts = parts; faults = faults } in
    record {
      is_evidence = k.is_evidence;
      counted = subst (AreCounted e.partitions) (sym (w.counted_are ∙ ap (map counted_as) k.columns.tallies)) t.counted;
      epochs = subst (HaveEpochs e.partitions) (sym (epochs ∙ k.columns.epochs)) t.epochs;
      logs = logs;
      verdict = judged e j.logs.parts.items j.logs.faults.items logs k.is_evidence j.verdict over_apps;
    }

pub judged_of : (known : ℕ → Known) (shape : EvidenceParts) (kept : KeptLogs) (j : Judged) → AreKeptLogs known shape kept → IsApart kept j.logs j.counted.items → j.epochs.items ≡ kept.epochs.items
    → IsJudged shape.spec.apps j.logs.parts.items (first_of j.logs.faults.items) j.verdict → IsJudgedOf known shape j
judged_of known shape kept j k w epochs answer =
    record { said = k.said; as_known = k.as_known; holds = λ e of. judged_for kept j shape e of.spec (k.holds e of) w epochs answer }
