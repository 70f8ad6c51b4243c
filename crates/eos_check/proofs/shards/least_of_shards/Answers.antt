use Rattle.std.proofs.Common.{◌≡◌, ◌<◌, ℕ, Ok, None, length, slice_index_or, arith, rules}
use Rattle.std.specs.Prelude.{IfOk}
use Rattle.std.proofs.lemmas.Result.{IfOk-weaker}
use Rattle.eos_base.specs.Least.{IsLeastOrNone}
use Rattle.eos_table.specs.MatchFaults.{fault_cmp, Stands}
use Rattle.eos_table.specs.Shards.{IsAnswer}
use Rattle.eos_check.specs.steps.Shards.{AreSettled}
use Rattle.eos_check.proofs.SettledShards.{settled}
use Rattle.eos_check.proofs.shards.least_of_shards.Goals as goal

pub returns : goal.returns
returns g c =
    let each : (i : ℕ) → i < c.get.result → IfOk (slice_index_or c.in_ok-answers.answers.items i (Ok None)) (IsAnswer c.args.table.now c.args.parts.now c.get.result i) =
    λ i l. let k = c.in_ok-answers.ensures.each i (Ok None) l in search rules in
    let some : 0 < c.get.result = omega (arith, c.get.ensures.some) in
    let len : length c.in_ok-answers.answers.items ≡ c.get.result = search rules in
    IfOk-weaker c.least_of.result (AreSettled c.in_ok-answers.answers.items) (IsLeastOrNone fault_cmp (Stands c.args.table.now c.args.parts.now))
    (λ o s. settled c.args.table.now c.args.parts.now c.get.result c.in_ok-answers.answers.items o some len each s) c.least_of.ensures
