use Rattle.std.proofs.Common.{◌≡◌, None}
use Rattle.eos_drive.specs.steps.Drives.{lost_in, HasDone}
use Rattle.eos_drive.proofs.scripted.take_words.Given as goal

abbrev pub invariant-loop-word : goal.invariant-loop-word
invariant-loop-word l = HasDone l.fn.cluster l.fn.driver l.cluster l.driver × (l.settings.turning ≡ None → l.cluster.honest ≡ l.fn.cluster.honest)
    × (l.settings.unclean ≡ 0 → lost_in l.cluster.world ≡ lost_in l.fn.cluster.world) × (l.settings.unclean ≡ 0 → l.unclean ≡ 0)
