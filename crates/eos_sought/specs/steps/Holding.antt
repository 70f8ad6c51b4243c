-- Whether a partition may hold a record that is sought, by its name.
use Rattle.std.specs.Prelude.{Bool, true}
use Rattle.eos_fold.specs.Parts.{PartLog}
use Rattle.eos_sought.specs.declared.sought.Sought.{Sought}
use Rattle.eos_sought.specs.declared.sought.Sought.TheVariants.{At, Claiming, Hidden, Alike, OfId, Before, OfProducer, Within, Deciding, OfGroup, Passing, UpTo, Passed}
use Rattle.eos_sought.specs.Sought.{is_named, is_state}
use Rattle.eos_sought.specs.Passing.{is_commit}

abbrev pub may_hold : Sought → PartLog → Bool
may_hold (At place) p = is_named place.partition p
may_hold (Claiming place) p = true
may_hold (Hidden place) p = true
may_hold (Alike place output) p = true
may_hold (OfId id) p = is_state p
may_hold (Before id place) p = is_named place.partition p
may_hold (OfProducer producer) p = is_state p
may_hold (Within epochs) p = is_state p
may_hold (Deciding producer epoch) p = is_state p
may_hold (OfGroup group) p = is_commit p
may_hold (Passing group place) p = is_commit p
may_hold (UpTo group place) p = is_commit p
may_hold (Passed place) p = is_commit p
