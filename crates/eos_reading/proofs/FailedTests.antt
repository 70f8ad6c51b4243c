-- A batch that was opened and fails a test behind its records.
use Rattle.std.proofs.Common.{◌≡◌, ℕ, ◌-◌, List, drop, Result, Ok, Err, ap, ◌∙◌}
use Rattle.eos_batch.specs.declared.fault.BatchFault.{BatchFault}
use Rattle.eos_batch.specs.declared.record.Record.{Record}
use Rattle.eos_batch.specs.declared.walk.Opened.{Opened}
use Rattle.eos_batch.specs.Answers.{Fails}
use Rattle.eos_base.specs.Fallible.{◌>>=◌}
use Rattle.eos_batch.specs.Reading.{batch_at}
use Rattle.eos_batch.specs.Places.{finished, records_in, IsOpened}
use Rattle.eos_batch.proofs.OpenedTests.{is_fault}

pub tests_fail : (bytes : List ℕ) (at : ℕ) (o : Opened) (e : BatchFault) (rs : List Record) → IsOpened bytes at o → records_in bytes o.begin o.end o.count ≡ Ok rs → ((qs : List Record) (size : ℕ) → finished o.batch size qs ≡ Err e) → Fails e (batch_at (drop at bytes))
tests_fail bytes at o e rs opened read wrong =
    is_fault e (batch_at (drop at bytes)) (opened.goes_on ∙ (ap (λ (r : Result (List Record) BatchFault). r >>= finished o.batch (o.end - at)) read ∙ wrong rs (o.end - at)))
