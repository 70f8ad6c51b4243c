use Rattle.std.proofs.Common.{Some, sym, ap, ◌∙◌, w32, rules}
use Rattle.std.proofs.lemmas.Int.{to_z-of_z}
use Rattle.std.specs.Prelude.{option_copied}
use mir.Val.{SFits}
use Rattle.eos_reading.proofs.EpochLists.{last_none, last_some}
use Rattle.eos_reading.proofs.epoch.last_epoch.Goals as goal

pub returns-in-None : goal.returns-in-None
returns-in-None c = last_none c.args.entries.now (sym c.last.ensures.value ∙ ap option_copied c.in-None.is)

pub returns-in-Some : goal.returns-in-Some
returns-in-Some c =
    let epoch = c.in-Some.entry.now.epoch in
    let fits : SFits w32 epoch = search rules in
    ap Some (to_z-of_z w32 epoch fits) ∙ last_some c.args.entries.now c.in-Some.entry.now (sym c.last.ensures.value ∙ ap option_copied c.in-Some.is)
