-- A cluster in memory: the machine's state, and room for more.
use Rattle.std.specs.Prelude.{◌≡◌, ℕ, ◌+◌, ◌-◌, ◌≤◌, List, map, vec_len, vec_capacity}
use Rattle.std.proofs.Common.{Vec, Global}
use Rattle.eos_machine.specs.declared.config.Config.{Config}
use Rattle.eos_machine.specs.World.{World}
use Rattle.eos_machine.specs.declared.item.Item.{Item}
use Rattle.std.specs.List.{All}
use Rattle.eos_broker.specs.Kept.{LogView}
use Rattle.eos_broker.specs.Named.{IsFrom}

pub record Held : Type 0 where
  pub config : Config
  pub world : World
  -- how many more of each list there is room for
  pub spare : ℕ

-- another state, and this much room
abbrev pub held : Held → World → ℕ → Held
held h w n = record { config = h.config; world = w; spare = n }

-- another state, and that much room used
abbrev pub becomes : Held → World → ℕ → Held
becomes h w n = record { config = h.config; world = w; spare = h.spare - n }

abbrev pub HasRoom : {X : Type 0} → ℕ → Vec X Global → Type 0
HasRoom n v = vec_len v + n ≤ vec_capacity v

-- the log keeps the state of so many producer ids, of which its offsets are, and has room
abbrev pub IsKeptFor : ℕ → ℕ → LogView → Type 0
IsKeptFor a n l = (l.applications ≡ a) × (n ≤ l.room) × All (IsFrom a) l.items

abbrev pub items_of : List LogView → List (List Item)
items_of logs = map (λ l. l.items) logs
