-- The lesser of two faults of pairs of touches: by offset, then by the number of the kind.
use Rattle.std.specs.Prelude.{Option, Some, None, if◌then◌else◌, nat_lt, nat_le}
use Rattle.eos_touch.specs.Pair.{number_of}
use Rattle.eos_fold.specs.declared.fault.Fault.{Fault}

abbrev pub earlier_of : Fault → Fault → Fault
earlier_of a b = if nat_lt a.offset b.offset then a else if nat_lt b.offset a.offset then b else if nat_le (number_of a.kind) (number_of b.kind) then a else b

abbrev pub earlier : Option Fault → Option Fault → Option Fault
earlier None b = b
earlier (Some a) None = Some a
earlier (Some a) (Some b) = Some (earlier_of a b)
