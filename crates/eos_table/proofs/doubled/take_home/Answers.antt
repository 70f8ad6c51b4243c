use Rattle.std.proofs.Common.{◌≡◌, fold, Some, cond, ap, ◌∙◌, w32, rules}
use Rattle.std.proofs.lemmas.Int.{to_z-of_z}
use mir.Val.{SFits, to_z, of_z}
use Rattle.std.specs.BTreeMap.{get}
use Rattle.std.specs.Cmp.Lexicographic.{slice_cmp}
use Rattle.std.specs.Ordering.{nat_cmp}
use Rattle.eos_table.specs.TransactionLog.{same_id}
use Rattle.eos_table.specs.steps.LogCandidates.{taken}
use Rattle.eos_table.specs.steps.Doubled.{split_at, lesser_home}
use Rattle.eos_table.proofs.DoubledTables.{homes_more}
use Rattle.eos_table.proofs.doubled.take_home.Goals as goal

pub returns-clause-faults : goal.returns-clause-faults
returns-clause-faults c = λ before are.
    c.in_ok-push_split.ensures ∙ ap (λ z. fold taken c.args.faults.now (split_at c.args.mark.now z)) (c.copied-home.ensures ∙ (c.get.ensures.value ∙ are c.args.mark.now.id))

pub returns-clause-homes : goal.returns-clause-homes
returns-clause-homes c = λ before are.
    let homes = c.args.homes.now in
    let fits : SFits w32 c.args.mark.now.partition = search rules in
    let number = to_z-of_z w32 c.args.mark.now.partition fits in
    let lesser = c.lesser_home.ensures ∙ (ap (lesser_home c.copied-home.result) number ∙ ap (λ z. lesser_home z c.args.mark.now.partition) (c.copied-home.ensures ∙ c.get.ensures.value)) in
    let lesser_fits : SFits w32 c.lesser_home.result = search rules in
    let same = to_z-of_z w32 c.lesser_home.result lesser_fits in
    let copied : c.in_ok-key.key ≡ c.args.mark.now.id = search rules in
    homes_more homes c.insert.new.self before c.args.mark.now _ are (same ∙ lesser)
    (λ other. c.in_ok-insert.ensures.updates.0 other ∙ ap (λ id. cond (same_id id other) (Some (to_z w32 (of_z w32 c.lesser_home.result))) (get (slice_cmp nat_cmp) homes other)) copied)
