use Rattle.std.proofs.Common.{◌≡◌, ◌∙◌, ◌++◌, List, None, map, sym, ap, subst, rules}
use Rattle.std.proofs.lemmas.List.{append-nil}
use Rattle.eos_base.specs.declared.partition_name.PartitionName.{PartitionName}
use Rattle.eos_claims.specs.declared.place.Place.{Place}
use Rattle.eos_faults.specs.steps.Cuts.{IsCutOf}
use Rattle.eos_faults.specs.steps.Plain.{place_at}
use Rattle.eos_faults.specs.steps.Ranges.{is_within}
use Rattle.eos_faults.proofs.CutOffsets.{no_inputs}
use Rattle.eos_faults.proofs.reading.push_inputs.Goals as goal

pub returns-then-is_none : goal.returns-then-is_none
returns-then-is_none c =
    let all = map place_at c.args.all.now.items in
    let within = is_within c.args.range.now in
    let cut = c.cut_of-cut.result in
    let none : cut.from ≡ None = search rules in
    let are = subst (λ (n : PartitionName). IsCutOf within n cut) c.name_of-name.ensures c.cut_of-cut.ensures in
    sym (ap (λ (ps : List Place). all ++ ps) (no_inputs within c.args.sources.now c.args.part.now cut are none) ∙ append-nil all)
