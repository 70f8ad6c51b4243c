-- The records that are left say what all of them say.
use Rattle.std.proofs.Common.{◌≡◌, drop}
use Rattle.std.specs.List.{list_any}
use Rattle.eos_simulate.specs.Cleaning.{is_key}
use Rattle.eos_simulate.proofs.cleaning.has_key.Given as goal

abbrev pub invariant-loop-record : goal.invariant-loop-record
invariant-loop-record l = list_any (λ r. is_key l.key r.key) (drop l.record-index l.records) ≡ list_any (λ r. is_key l.key r.key) l.records
