-- The short schedules, computed by the check.
use Rattle.std.proofs.Common.{◌≡◌, [], ◌∷◌, List, refl}
use Rattle.eos_machine.specs.Answers.{when}
use Rattle.eos_machine.specs.declared.event.Event.{Event}
use Rattle.eos_machine.specs.LogIndexes.{Config}
use Rattle.eos_machine.specs.World.{World}
use Rattle.eos_machine.specs.Switching.{none}
use Rattle.eos_machine.specs.Machine.{step, world_after, world_under}
use Rattle.eos_machine.specs.SwitchedSchedules.{Breaks, all_under}
use Rattle.eos_machine.specs.ShortSchedules.{Commits, Restarts, Fences, TimesOut, Adds, Completes, Fetches, Omits, Lists, Chains, Rebalances, Elects}

pub commits : Commits
unfolding when
commits = record { replies = refl; output = refl; states = refl }

pub restarts : Restarts
unfolding when
restarts = record { replies = refl; output = refl; broker = refl }

pub fences : Fences
unfolding when
fences = record { early = refl; late = refl; output = refl }

pub times_out : TimesOut
unfolding when
times_out = record { replies = refl; output = refl; states = refl }

pub adds : Adds
unfolding when
adds = record { replies = refl; empty = refl; output = refl; offsets = refl; states = refl }

pub completes : Completes
unfolding when
completes = record { replies = refl; output = refl; states = refl }

pub fetches : Fetches
unfolding when
fetches = record { replies = refl; input = refl; offsets = refl }

pub omits : Omits
unfolding when
omits = record { replies = refl; output = refl; offsets = refl }

pub lists : Lists
unfolding when
lists = record { replies = refl; markers = refl }

pub chains : Chains
unfolding when
chains = record { replies = refl; output = refl; final = refl; offsets = refl }

pub rebalances : Rebalances
unfolding when
rebalances = record { replies = refl; offsets = refl; generations = refl; single = refl }

pub elects : Elects
unfolding when
elects = record { replies = refl; output = refl; elections = refl; first = refl; second = refl; other = refl }

pub breaks : Breaks
unfolding when
breaks = record {
  duplicates = refl;
  duplicated = refl;
  fence = refl;
  unfenced = refl;
  bump = refl;
  unbumped = refl;
  marker = refl;
  lost = refl;
  kind = refl;
  even = refl;
  odd = refl;
  listing = refl;
  hidden = refl;
  generation = refl;
  ignored = refl;
}

-- with no switch
pub none_is : (c : Config) (w : World) (es : List Event) → world_under c w (all_under none es) ≡ world_after c w es
none_is c w [] = refl
none_is c w (e ∷ es) = none_is c (step c w e).0 es
