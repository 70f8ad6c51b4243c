-- What an instance asks for at its turn.
use Rattle.std.specs.Prelude.{◌≡◌, ⊤, false}
use Rattle.eos_drive.specs.declared.instance.Turn.{Turn}
use Rattle.eos_drive.specs.declared.instance.Turn.TheVariants.{Ask, Again, Rest}
use Rattle.eos_drive.specs.steps.Drives.{is_election}

-- no leader is elected by it
abbrev pub ElectsNone : Turn → Type 0
ElectsNone (Ask e) = is_election e ≡ false
ElectsNone (Again message) = ⊤
ElectsNone Rest = ⊤
