-- What a message and a session name is there, and their numbers are small.
use Rattle.std.specs.Prelude.{ℕ, ◌<◌, ◌^◌, Option, None, Some, ⊤}
use Rattle.std.specs.List.{All}
use Rattle.eos_machine.specs.declared.config.Config.{Config}
use Rattle.eos_machine.specs.declared.item.Item.{Item}
use Rattle.eos_machine.specs.declared.item.Item.TheVariants.{Fed, State, Output, Offset, Marker}
use Rattle.eos_machine.specs.declared.state.Session.{Session}
use Rattle.eos_machine.specs.declared.state.Message.{Message}
pub use Rattle.eos_machine.specs.Formed.{Names}

abbrev pub IsNamed : Config → Option Message → Type 0
IsNamed c None = ⊤
IsNamed c (Some m) = Names c m

-- the next epoch and the next sequences fit
abbrev pub IsSmall : Option Session → Type 0
IsSmall None = ⊤
IsSmall (Some s) = (s.epoch < 2 ^ 15) × All (λ q. q < 2 ^ 31) s.sequences

-- an offset is of an application that there is
abbrev pub IsFrom : ℕ → Item → Type 0
IsFrom n (Fed m) = ⊤
IsFrom n (State a x m) = ⊤
IsFrom n (Output a e s x v m) = ⊤
IsFrom n (Offset a e q v m) = a < n
IsFrom n (Marker a e k m) = ⊤
