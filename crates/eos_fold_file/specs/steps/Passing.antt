-- Batches that follow one another, told by their heads.
-- Source: Kafka's documentation, "Log" (a segment is named by the offset of its first record). That offsets have no gaps is this
-- project's own profile.
use Rattle.std.specs.Prelude.{◌≡◌, ◌≢◌, ◌≤◌, ◌+◌, ◌^◌, ℕ, List, [], ◌∷◌, ◌++◌, map, Option, Some, None, ⊤}
use Rattle.eos_batch.specs.declared.head.BatchHead.{BatchHead}
use Rattle.eos_fold_file.specs.Files.{record_count, data_count}
use Rattle.eos_fold_file.specs.Heads.{fold_head}
use Rattle.eos_fold_file.specs.declared.pass.Passed.{Passed}

-- every offset of their records is at most the greatest i64
abbrev pub AllFit : List BatchHead → Type 0
AllFit [] = ⊤
AllFit (h ∷ hs) = (h.offset + h.count ≤ 2 ^ 63) × AllFit hs

-- the first begins here, and each other one where the one before ends
abbrev pub FollowFrom : ℕ → List BatchHead → Type 0
FollowFrom next [] = ⊤
FollowFrom next (h ∷ hs) = (h.offset ≡ next) × FollowFrom (next + h.count) hs

-- none is left, or the next one begins elsewhere
abbrev pub EndsBefore : List BatchHead → ℕ → Option ℕ → Type 0
EndsBefore [] next found = found ≡ None
EndsBefore (h ∷ hs) next found = (found ≡ Some h.offset) × (h.offset ≢ next)

-- the first of these batches were passed
pub record Passes (begin : ℕ) (heads : List BatchHead) (p : Passed) : Type 0 where
  pub passed : List BatchHead
  pub others : List BatchHead
  pub parts : heads ≡ passed ++ others
  pub follow : FollowFrom begin passed
  pub heads_are : p.heads ≡ map fold_head passed
  pub counted : p.records ≡ data_count p.heads
  pub ends : EndsBefore others (begin + record_count p.heads) p.found
