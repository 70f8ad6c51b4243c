-- What the tests of parts give.
use Rattle.std.specs.Prelude.{◌≡◌, Result, Ok, Err}
use Rattle.eos_evidence.specs.declared.fault.SpecFault.{SpecFault}
use Rattle.eos_evidence.specs.SpecFields.{SpecFields, accepted, IsAccepted}

-- these are the given parts with their ends in order, or the first refusal of the given ones
abbrev pub Accepts : Result (Unit {0}) SpecFault → SpecFields → SpecFields → Type 0
Accepts (Ok done) given ordered = (accepted given ≡ Ok ordered) × IsAccepted ordered
Accepts (Err fault) given ordered = accepted given ≡ Err fault
