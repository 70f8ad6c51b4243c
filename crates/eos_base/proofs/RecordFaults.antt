-- The faults of the internal logs' records by their numbers and in their order.
use Rattle.std.proofs.Common.{ℕ, zero, suc, List, [], ◌∷◌, refl}
use Rattle.eos_base.specs.declared.record_fault.RecordFault.TheVariants as records
use Rattle.eos_base.specs.contracts.record_fault.RecordFaultOrd.TheImpl.{ghosts}
use Rattle.eos_base.specs.steps.Least.{IsExact}

-- the n-th of a list, from 1, or else the given one
abbrev pub nth : {X : Type 0} → X → List X → ℕ → X
nth d [] n = d
nth d (x ∷ xs) zero = d
nth d (x ∷ xs) (suc zero) = x
nth d (x ∷ xs) (suc (suc n)) = nth d xs (suc n)

pub record_exact : IsExact ghosts.cmp
record_exact records.Short records.Short e = refl
record_exact records.Version records.Version e = refl
record_exact records.Status records.Status e = refl
record_exact records.Length records.Length e = refl
record_exact records.Trailing records.Trailing e = refl
record_exact records.OutOfMemory records.OutOfMemory e = refl
record_exact x y e = absurd cc
