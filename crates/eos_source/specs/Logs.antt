-- The kept logs of an evidence, of whose pieces no more is known than a source and the shape say: there is what each piece said,
-- and this is what is kept of the logs of each evidence of this shape whose segments are such. Where all pieces said logs there is
-- one, as `laws` says; with a fold that was made of no segment there is none.
use Rattle.std.specs.Prelude.{◌≡◌, ℕ, List, [], ◌∷◌, map, ⊤}
use Rattle.eos_evidence.specs.declared.application.App.{App}
use Rattle.eos_evidence.specs.declared.partition.Partition.{Partition}
use Rattle.eos_evidence.specs.Evidence.{EvidenceParts, IsEvidence}
use Rattle.eos_kept.specs.declared.part.Told.{Told}
use Rattle.eos_kept.specs.Parts.{IsTold}
use Rattle.eos_reading.specs.Wanted.{wanted_of}
use Rattle.eos_source.specs.declared.logs.KeptLogs.{KeptLogs}
use Rattle.eos_source.specs.declared.logs.Tally.{Tally}
use Rattle.eos_source.specs.Said.{Known}
use Rattle.eos_source.specs.Shapes.{HoldsAsSaid}

-- of each of these partitions what these applications want of its log, its least fault, how much there is of it, and where its leader
-- epoch changes
abbrev pub AreTold : List App → List Partition → List Told → Type 0
AreTold apps [] [] = ⊤
AreTold apps [] (t ∷ ts) = ⊥
AreTold apps (p ∷ ps) [] = ⊥
AreTold apps (p ∷ ps) (t ∷ ts) = IsTold (wanted_of apps p.end.topic) p.end p.segments t × AreTold apps ps ts

abbrev pub tally_of : Told → Tally
tally_of t = record { batches = t.batches; sizes = t.sizes }

-- the same, column by column
pub record AreColumns (told : List Told) (logs : KeptLogs) : Type 0 where
  pub parts : logs.parts.items ≡ map (λ t. t.part) told
  pub faults : logs.faults.items ≡ map (λ t. t.fault) told
  pub tallies : logs.tallies.items ≡ map tally_of told
  pub epochs : logs.epochs.items ≡ map (λ t. t.epochs) told

-- the logs of this evidence, as they are kept for its applications
pub record AreLogsKept (logs : KeptLogs) (evidence : EvidenceParts) : Type 0 where
  pub is_evidence : IsEvidence evidence
  pub told : List Told
  pub each : AreTold evidence.spec.apps evidence.partitions told
  pub columns : AreColumns told logs

-- so it is with each evidence of this shape whose segments are such as the pieces said
abbrev pub AreKeptLogs : (ℕ → Known) → EvidenceParts → KeptLogs → Type 0
AreKeptLogs known shape logs = HoldsAsSaid known shape (AreLogsKept logs)
