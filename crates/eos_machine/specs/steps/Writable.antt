-- Logs of which there is evidence: what stands there fits, and the segments are as few as evidence may have.
use Rattle.std.specs.Prelude.{ℕ, ◌+◌, ◌*◌, ◌^◌, ◌<◌, ◌≤◌, List, [], ◌∷◌, length}
use Rattle.std.specs.List.{All}
use Rattle.eos_machine.specs.declared.config.Config.{Config}
use Rattle.eos_machine.specs.declared.item.Item.{Item}
use Rattle.eos_machine.specs.LogIndexes.{IsConfig}
use Rattle.eos_machine.specs.World.{World, log_at}
use Rattle.eos_machine.specs.Evidences.{HasRoomForAll}
use Rattle.eos_machine.specs.Fitting.{IsFit}

-- how many items stand in all logs
abbrev pub total : List (List Item) → ℕ
total [] = 0
total (l ∷ ls) = length l + total ls

pub record IsWritable (c : Config) (w : World) : Type 0 where
  pub sizes : IsConfig c
  pub fit : (p : ℕ) → All (IsFit c) (log_at w p)
  pub short : (p : ℕ) → length (log_at w p) < 2 ^ 63
  pub elections : All (λ x. x.leader_epoch < 2 ^ 16) w.elections
  pub count : total w.logs ≤ 2 * w.events
  pub room : HasRoomForAll c w
