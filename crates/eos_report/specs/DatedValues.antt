-- A fault as a report has it: its JSON object, and beside each offset that stands there the time of the record of this offset, if it is
-- known.
use Rattle.std.specs.Prelude.{ℤ, List, [], ◌∷◌, ℕ, codes, drop, Option, None, Some}
use Rattle.serde_json.specs.Data.{Data, Members, no_members, Items, no_items, item, object, put}
use Rattle.eos_verdict.specs.declared.lineage_fault.LineageFault.TheVariants as lineage
use Rattle.eos_verdict.specs.declared.verdict.Fault.{Fault}
use Rattle.eos_verdict.specs.declared.verdict.Fault.TheVariants.{Partition as InPartition, Log, Match, Lineage}
use Rattle.eos_report.specs.declared.dates.Timestamps.{Timestamps}
use Rattle.eos_report.specs.FaultValues.{with_fault}
use Rattle.eos_manifest.specs.Objects.{integer}

unfoldable pub with_timestamp : List ℕ → Option ℤ → Members → Members
with_timestamp name None ms = ms
with_timestamp name (Some time) ms = put name (integer time) ms

-- that of the fault's offset, or those of its source and of its claim; a fault of phase 3 names no offset
unfoldable pub with_timestamps : Fault → Timestamps → Members → Members
with_timestamps (InPartition f) times ms = with_timestamp (codes "timestamp") times.own ms
with_timestamps (Log f) times ms = with_timestamp (codes "timestamp") times.own ms
with_timestamps (Match f) times ms = ms
with_timestamps (Lineage (lineage.Record f)) times ms = with_timestamp (codes "timestamp") times.own ms
with_timestamps (Lineage (lineage.Output group f)) times ms =
    with_timestamp (codes "at_timestamp") times.claim (with_timestamp (codes "source_timestamp") times.own ms)

unfoldable pub dated_value : Fault → Timestamps → Data
dated_value f times = object (with_timestamps f times (with_fault f no_members))

-- the times of the first fault; none where no more are left
abbrev pub first_timestamps : List Timestamps → Timestamps
first_timestamps [] = record { own = None; claim = None }
first_timestamps (times ∷ more) = times

-- faults with their times, one after the other
abbrev pub dated_items : List Fault → List Timestamps → Items
dated_items [] all = no_items
dated_items (f ∷ fs) all = item (dated_value f (first_timestamps all)) (dated_items fs (drop 1 all))
