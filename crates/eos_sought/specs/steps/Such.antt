-- The states that are sought by what they say.
use Rattle.std.specs.Prelude.{Option, Bool, false}
use Rattle.eos_txnlog.specs.declared.value.TxnValue.{TxnValue}
use Rattle.eos_sought.specs.declared.sought.Sought.{Sought}
use Rattle.eos_sought.specs.declared.sought.Sought.TheVariants.{At, Claiming, Hidden, Alike, OfId, Before, OfProducer, Within, Deciding, OfGroup, Passing, UpTo, Passed}
use Rattle.eos_sought.specs.Sought.{is_by, is_within, decides}

abbrev pub is_such : Sought → Option TxnValue → Bool
is_such (At place) state = false
is_such (Claiming place) state = false
is_such (Hidden place) state = false
is_such (Alike place output) state = false
is_such (OfId id) state = false
is_such (Before id place) state = false
is_such (OfProducer producer) state = is_by producer state
is_such (Within epochs) state = is_within epochs state
is_such (Deciding producer epoch) state = decides producer epoch state
is_such (OfGroup group) state = false
is_such (Passing group place) state = false
is_such (UpTo group place) state = false
is_such (Passed place) state = false
