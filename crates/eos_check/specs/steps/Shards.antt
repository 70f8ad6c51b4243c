-- The answers of the matching's shards, put together.
use Rattle.std.specs.Prelude.{◌≡◌, List, fold, All, Option, Some, None, Result, Ok, Err, ⊤}
use Rattle.std.specs.declared.alloc.AllocError.{AllocError}
use Rattle.eos_base.specs.Least.{lesser_of}
use Rattle.eos_verdict.specs.declared.match_fault.MatchFault.{MatchFault}
use Rattle.eos_table.specs.MatchFaults.{fault_cmp}

abbrev pub Answer : Type 0
Answer = Result (Option MatchFault) AllocError

-- not want of memory
abbrev pub IsThere : Answer → Type 0
IsThere (Ok o) = ⊤
IsThere (Err e) = ⊥

abbrev pub fault_in : Answer → Option MatchFault
fault_in (Ok o) = o
fault_in (Err e) = None

-- the lesser of the least so far and what a shard answered
abbrev pub lesser_answer : Option MatchFault → Option MatchFault → Option MatchFault
lesser_answer best None = best
lesser_answer best (Some f) = lesser_of fault_cmp best f

-- every shard has answered, and this is the least that they have
abbrev pub AreSettled : List Answer → Option MatchFault → Type 0
AreSettled xs o = All IsThere xs × (o ≡ fold (λ best a. lesser_answer best (fault_in a)) None xs)
