-- Which rules a cluster breaks, and the names of the switches that say so.
use Rattle.std.specs.Prelude.{ℕ, Bool, true, false, ◌||◌, List, codes}
use Rattle.eos_machine.specs.declared.switches.Switch.{Switch}
use Rattle.eos_machine.specs.declared.switches.Switch.TheVariants.{KeepDuplicates, NoFence, NoBump, LoseMarker, SwapMarker, HideListing, IgnoreGeneration}
use Rattle.eos_machine.specs.declared.switches.Switches.{Switches}

abbrev pub none : Switches
none = record {
  keep_duplicates = false;
  no_fence = false;
  no_bump = false;
  lose_marker = false;
  swap_marker = false;
  hide_listing = false;
  ignore_generation = false;
}

abbrev pub only : Switch → Switches
only KeepDuplicates = record none { keep_duplicates = true }
only NoFence = record none { no_fence = true }
only NoBump = record none { no_bump = true }
only LoseMarker = record none { lose_marker = true }
only SwapMarker = record none { swap_marker = true }
only HideListing = record none { hide_listing = true }
only IgnoreGeneration = record none { ignore_generation = true }

abbrev pub any_on : Switches → Bool
any_on s = s.keep_duplicates || (s.no_fence || (s.no_bump || (s.lose_marker || (s.swap_marker || (s.hide_listing || s.ignore_generation)))))

-- as a program's words have it
abbrev pub switch_name : Switch → List ℕ
switch_name KeepDuplicates = codes "keep-duplicates"
switch_name NoFence = codes "no-fence"
switch_name NoBump = codes "no-bump"
switch_name LoseMarker = codes "lose-marker"
switch_name SwapMarker = codes "swap-marker"
switch_name HideListing = codes "hide-listing"
switch_name IgnoreGeneration = codes "ignore-generation"
