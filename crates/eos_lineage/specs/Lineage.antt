-- The rule of applications' outputs, and how much they read and wrote (KIP-98, "Transactional Guarantees"; KIP-447). Only
-- visible records count.
use Rattle.std.specs.Prelude.{ℕ, ◌+◌, ◌&&◌, ◌==◌, Bool, not, List, [], ◌∷◌, length, filter}
use Rattle.eos_base.specs.Members.{Has}
use Rattle.eos_evidence.specs.declared.application.App.{App}
use Rattle.eos_fold.specs.Parts.{PartLog}
use Rattle.eos_claims.specs.Outputs.{PlacedClaim, Application, Exact}
use Rattle.eos_commits.specs.Applications.{inputs_below, application_of}
use Rattle.eos_commits.specs.Kept.{RecordsKept}

-- each application's outputs are exact
abbrev pub ExactOutputs : List App → List PartLog → Type 0
ExactOutputs apps ps = (app : App) → Has apps app → Exact (application_of app ps)

-- the offsets log reads, every visible record of an output topic is a claim, and the outputs are exact
pub record LineageKept (apps : List App) (ps : List PartLog) : Type 0 where
  pub records : RecordsKept apps ps
  pub outputs : ExactOutputs apps ps

-- ---- counts

abbrev pub is_note : PlacedClaim → Bool
is_note c = (c.output == 0) && (c.of == 0)

abbrev pub outputs_in : Application → List PlacedClaim
outputs_in a = filter (λ c. not (is_note c)) a.claims

-- of inputs below their committed offsets: an input counts once for each application that has it so
abbrev pub count_inputs : List App → List PartLog → ℕ
count_inputs [] ps = 0
count_inputs (app ∷ apps) ps = length (inputs_below (application_of app ps)) + count_inputs apps ps

-- of visible claims that are no notes
abbrev pub count_outputs : List App → List PartLog → ℕ
count_outputs [] ps = 0
count_outputs (app ∷ apps) ps = length (outputs_in (application_of app ps)) + count_outputs apps ps
