use Rattle.std.proofs.Common.{ap, subst, ◌∙◌}
use Rattle.eos_table.specs.MatchFaults.{fault_cmp}
use Rattle.eos_table.specs.Shards.{IsAnswer}
use Rattle.eos_table.specs.steps.KeptFaults.{Kept}
use Rattle.eos_table.specs.steps.OneShard.{OneShard}
use Rattle.eos_table.specs.steps.Shown.{gathered_in}
use Rattle.eos_verdict.specs.declared.match_fault.MatchFault.{MatchFault}
use Rattle.eos_table.proofs.KeptFaults.{least_kept}
use Rattle.eos_table.proofs.ShardPlaces.{answered}
use Rattle.eos_table.proofs.match_list.match_shard.Goals as goal

pub returns : goal.returns
returns c =
    let ds = c.decisions.result.now in
    let ps = c.args.parts.now in
    let z = c.new-shard.result in
    let least = c.into_least.ensures ∙ (ap (λ (k : Kept MatchFault). k.least) c.in_ok-faults.ensures ∙ least_kept fault_cmp (gathered_in z.of z.number ds ps)) in
    let here = answered z.of z.number ds ps c.into_least.result least in
    subst (λ (d : OneShard). IsAnswer c.args.table.now ps d.of d.number c.into_least.result) c.new-shard.ensures (subst (λ xs. IsAnswer xs ps z.of z.number c.into_least.result) c.decisions.ensures here)
