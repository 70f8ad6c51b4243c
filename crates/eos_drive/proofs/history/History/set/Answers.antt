use Rattle.std.proofs.Common.{List, [], ◌∷◌, ◌++◌, ◌∙◌, ap}
use Rattle.eos_drive.specs.declared.deed.Deed.{Deed}
use Rattle.eos_drive.specs.declared.deed.Deed.TheVariants.{Set}
use Rattle.eos_drive.proofs.MoreDeeds.{kept_set}
use Rattle.eos_drive.proofs.history.History.set.Goals as goal

pub returns-clause-kept : goal.returns-clause-kept
returns-clause-kept c =
    kept_set c.args.cluster.now c.set.new.self c.args.self.now _ c.args.switches c.set.ensures (c.in_ok-push.ensures.items ∙ ap (λ (b : List Deed). b ++ Set c.args.switches ∷ []) c.self.view_is)
