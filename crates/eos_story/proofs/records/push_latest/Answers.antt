use Rattle.std.proofs.Common.{List, ◌∙◌, subst, sym}
use Rattle.std.specs.List.{All}
use Rattle.eos_base.specs.Members.{Has}
use Rattle.eos_sought.specs.declared.finding.Find.{Find}
use Rattle.eos_sought.specs.Finds.{all_of}
use Rattle.eos_story.proofs.BatchesTold.{all_dropped}
use Rattle.eos_story.proofs.RowsPushed.{all_kept}
use Rattle.eos_story.proofs.RowsTold.{latest_told, all_last}
use Rattle.eos_story.proofs.records.push_latest.Goals as goal

pub push_finds-requires : goal.push_finds-requires
push_finds-requires c =
    let xs = all_of c.args.sought.now c.args.scene.now.logs.now in
    let all = all_kept xs c.in_ok-finds.finds c.as_slice-all.result.now c.in_ok-finds.ensures.1 c.as_slice-all.ensures.value in
    subst (λ (ys : List Find). All (Has xs) ys) (sym c.from_on-last.ensures) (all_dropped _ xs c.as_slice-all.result.now all)

pub returns : goal.returns
returns c =
    let xs = all_of c.args.sought.now c.args.scene.now.logs.now in
    let first = c.in_ok-finds.finds.first.items in
    let last = c.from_on-last.ensures ∙ all_last xs c.as_slice-all.result.now first c.saturating_sub.result c.args.most c.in_ok-finds.finds.most c.as_slice-all.ensures.value c.in_ok-finds.ensures.1.kept (c.in_ok-finds.ensures.0 ∙ c.in_ok-count.ensures.1.number) c.saturating_sub.ensures in
    latest_told c.args.sought.now c.args.most c.in_ok-count.field-0.count c.from_on-last.result.now c.in_ok-count.ensures.1.number c.in_ok-push_rest.ensures c.in_ok-push_finds.ensures last
