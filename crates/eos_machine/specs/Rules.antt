-- The rules of the brokers and the coordinator that a switch breaks, one each: what they say with it, and without.
use Rattle.std.specs.Prelude.{ℕ, ◌-◌, ◌==◌, nat_lt, Bool, false, not, ◌&&◌, ◌||◌, if◌then◌else◌}
use Rattle.eos_batch.specs.declared.marker.Kind.{Kind}
use Rattle.eos_batch.specs.declared.marker.Kind.TheVariants.{Commit, Abort}
use Rattle.eos_machine.specs.declared.switches.Switches.{Switches}
use Rattle.eos_machine.specs.LogIndexes.{Config, is_odd_output}
use Rattle.eos_machine.specs.World.{Item, Marker, Producer}
use Rattle.eos_machine.specs.Logs.{is_epoch, next_sequence, not_above}

-- keep-duplicates: a sequence that the epoch has already is refused
abbrev pub is_repeated : Switches → Producer → ℕ → ℕ → Bool
is_repeated u b e s = if u.keep_duplicates then false else (is_epoch b.last e && nat_lt s b.count)

-- any other but the next one is; with the switch, one above it
abbrev pub is_out_of_order : Switches → Producer → ℕ → ℕ → Bool
is_out_of_order u b e s = if u.keep_duplicates then nat_lt (next_sequence b e) s else not (s == next_sequence b e)

-- ignore-generation: an offset of another generation of the group is refused
abbrev pub is_stale : Switches → ℕ → ℕ → Bool
is_stale u g now = if u.ignore_generation then false else not (g == now)

-- no-bump: an end marker that isn't above the producer's epochs is refused, and has the epoch after its data's
abbrev pub is_marker_fenced : Switches → Producer → ℕ → Bool
is_marker_fenced u b m = if u.no_bump then false else (nat_lt m b.high || not_above m b.last)

abbrev pub marker_epoch : Switches → ℕ → ℕ
marker_epoch u m = if u.no_bump then m - 1 else m

-- swap-marker: an end marker has the kind of its decision
abbrev pub other_kind : Kind → Kind
other_kind Commit = Abort
other_kind Abort = Commit

abbrev pub marker_kind : Switches → Config → ℕ → Kind → Kind
marker_kind u c p k = if u.swap_marker && is_odd_output c p then other_kind k else k

-- the end marker of an application, as this event appends it to the partition at a place
abbrev pub marker_of : Switches → Config → ℕ → ℕ → Kind → ℕ → ℕ → Item
marker_of u c a m k p n = Marker a (marker_epoch u m) (marker_kind u c p k) n
