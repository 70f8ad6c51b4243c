use Rattle.std.proofs.Common.{◌∙◌, refl, ap, take}
use Rattle.eos_sought.specs.Finds.{all_of}
use Rattle.eos_story.proofs.RowsPushed.{all_kept}
use Rattle.eos_story.proofs.RowsTold.{first_shown}
use Rattle.eos_story.proofs.records.push_shown.Goals as goal

pub push_finds-requires : goal.push_finds-requires
push_finds-requires c = all_kept _ c.in_ok-finds.finds _ c.in_ok-finds.ensures.1 c.as_slice.ensures.value

pub push_rest-requires : goal.push_rest-requires
push_rest-requires c = c.in_ok-finds.ensures.1.number

pub returns-clause-told : goal.returns-clause-told
returns-clause-told c =
    first_shown c.args.sought.now c.args.most c.in_ok-finds.finds.count c.as_slice.result.now (all_of c.args.sought.now c.args.scene.now.logs.now) refl c.in_ok-finds.ensures.1.number c.in_ok-push_finds.ensures c.in_ok-push_rest.ensures
    (c.as_slice.ensures.value ∙ (c.in_ok-finds.ensures.1.kept ∙ ap (λ n. take n (all_of c.args.sought.now c.args.scene.now.logs.now)) c.in_ok-finds.ensures.0))
