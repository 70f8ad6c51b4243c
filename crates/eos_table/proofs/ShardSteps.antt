-- What a place shows is taken where its producer id is the shard's.
use Rattle.std.proofs.Common.{◌≡◌, ℕ, ℤ, List, [], fold, sym, ap, ◌∙◌, true, false, Bool, if◌then◌else◌}
use Rattle.eos_verdict.specs.declared.match_fault.MatchFault.{MatchFault}
use Rattle.eos_table.specs.steps.KeptFaults.{Kept}
use Rattle.eos_table.specs.steps.Keys.{mine}
use Rattle.eos_table.specs.steps.Shown.{found, in_shard}

abbrev if_so : List MatchFault → Bool → List MatchFault
if_so xs b = if b then xs else []

pub own_taken : (n s : ℕ) (p : ℤ) (b : Bool) (xs : List MatchFault) (now next : Kept MatchFault) → b ≡ mine n s p → b ≡ true → next ≡ fold found now xs → next ≡ fold found now (in_shard n s p xs)
own_taken n s p b xs now next is own taken = taken ∙ ap (λ z. fold found now (if_so xs z)) (sym own ∙ is)

pub other_left : (n s : ℕ) (p : ℤ) (b : Bool) (xs : List MatchFault) (now next : Kept MatchFault) → b ≡ mine n s p → b ≡ false → next ≡ now → next ≡ fold found now (in_shard n s p xs)
other_left n s p b xs now next is other left = left ∙ ap (λ z. fold found now (if_so xs z)) (sym other ∙ is)
