-- A change of a group's members, and the generations after it.
use Rattle.std.proofs.Common.{◌≡◌, ◌≢◌, ℕ, ◌+◌, ◌<◌, not, nat_lt, Bool, true, false, refl, arith}
use Rattle.std.proofs.lemmas.Bool.{lt-ltb}
use Rattle.std.proofs.lemmas.List.{get_or-set_same, get_or-set_other}
use Rattle.eos_machine.specs.LogIndexes.{Config, group_count}
use Rattle.eos_machine.specs.World.{World, generation_at, with_generation}
use Rattle.eos_machine.specs.Answers.{when, Done, Unknown}
use Rattle.eos_machine.specs.Machine.{change_members}
use Rattle.eos_machine.specs.Formed.{IsFormed}

pub raised : (c : Config) (w : World) (g : ℕ) → g < group_count c → IsFormed c w → generation_at (change_members c w g).0 g ≡ generation_at w g + 1
unfolding when
raised c w g l f = rw (lt-ltb g (group_count c) l) (get_or-set_same w.generations g (generation_at w g + 1) 0 (omega (arith, l, f.generations)))

pub others : (c : Config) (w : World) (g h : ℕ) → h ≢ g → generation_at (change_members c w g).0 h ≡ generation_at w h
unfolding when
others c w g h differ = at (not (nat_lt g (group_count c)))
  where
    at : (t : Bool) → generation_at (when t (w, Unknown) (with_generation w g (generation_at w g + 1), Done 0)).0 h ≡ generation_at w h
    at true = refl
    at false = get_or-set_other w.generations g h (generation_at w g + 1) 0 differ
