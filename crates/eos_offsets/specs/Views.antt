-- What a key or a value says that is read where it stands.
use Rattle.std.specs.Prelude.{◌≡◌, Option, Some, None, Result, Ok, Err}
use Rattle.eos_base.specs.declared.record_fault.RecordFault.{RecordFault}
use Rattle.eos_offsets.specs.declared.key.OffsetKey.{OffsetKey}
use Rattle.eos_offsets.specs.declared.view.KeyRef.{KeyRef}

abbrev pub plain_key : KeyRef → OffsetKey
plain_key k = record { group = k.group.now; topic = k.topic.now; partition = k.partition }

abbrev pub LendsAnyKey : Result (Option KeyRef) RecordFault → Result (Option OffsetKey) RecordFault → Type 0
LendsAnyKey (Ok (Some key)) said = said ≡ Ok (Some (plain_key key))
LendsAnyKey (Ok None) said = said ≡ Ok None
LendsAnyKey (Err e) said = said ≡ Err e
