use Rattle.std.proofs.Common.{sym, ap, ◌∙◌, w32, rules}
use Rattle.std.proofs.lemmas.Int.{to_z-of_z}
use Rattle.std.specs.Prelude.{option_copied}
use mir.Val.{SFits}
use Rattle.eos_reading.specs.Epochs.{is_change}
use Rattle.eos_reading.proofs.EpochLists.{follow_none, follow_all}
use Rattle.eos_reading.proofs.epoch.following.Goals as goal

pub returns-in_default-clause-value : goal.returns-in_default-clause-value
returns-in_default-clause-value c = follow_none c.args.last c.args.more.now (sym c.first.ensures.value ∙ ap option_copied c.in_default.is)

pub returns-then-is_change-clause-value : goal.returns-then-is_change-clause-value
returns-then-is_change-clause-value c =
    let epoch = c.in-Some.first.now.epoch in
    let fits : SFits w32 epoch = search rules in
    follow_all c.args.last c.args.more.now c.in-Some.first.now (sym c.first.ensures.value ∙ ap option_copied c.in-Some.is)
    (ap (is_change c.args.last) (sym (to_z-of_z w32 epoch fits)) ∙ (sym c.is_change.ensures ∙ c.if-is_change.true))
