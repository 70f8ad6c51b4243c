-- Partitions whose records show no fault, whatever groups were met before.
use Rattle.std.specs.Prelude.{◌≡◌, ◌<◌, ℕ, ◌&&◌, ◌||◌, not, is_none, Bool, true, List, [], ◌∷◌, length, slice_index_or}
use Rattle.eos_fold.specs.declared.item.Item.{Item}
use Rattle.eos_fold.specs.Parts.{PartLog}
use Rattle.eos_claims.specs.Headers.{claim_of}
use Rattle.eos_commits.specs.Visible.{is_visible}
use Rattle.eos_commits.specs.steps.Roles.{RoleSets}
use Rattle.eos_commits.specs.steps.Gathered.{role_in}

-- each visible record is a claim
abbrev pub are_claimed : List Item → Bool
are_claimed [] = true
are_claimed (x ∷ xs) = not (is_visible x.fate && is_none (claim_of x.headers)) && are_claimed xs

-- of the offsets log, or of no output topic, or with claims alone
abbrev pub is_settled : RoleSets → PartLog → Bool
is_settled r p = (role_in r.outputs p).is_offsets || (not (role_in r.outputs p).is_output || are_claimed p.items)

abbrev pub AreSettled : RoleSets → List PartLog → Type 0
AreSettled r ps = (i : ℕ) (d : PartLog) → i < length ps → is_settled r (slice_index_or ps i d) ≡ true
