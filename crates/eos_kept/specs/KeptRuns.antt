-- What is kept of a list of segments of one partition, by what is wanted of their log.
use Rattle.std.specs.Prelude.{◌≡◌, ℕ, List, [], All, Option, Some, None, ⊤}
use Rattle.eos_claims.specs.Headers.{claim_of}
use Rattle.eos_evidence.specs.declared.segment.Segment.{Segment}
use Rattle.eos_reading.specs.Outputs.{kept_output, claim_kept}
use Rattle.eos_reading.specs.Records.{wanted_record, ReadsBack}
use Rattle.eos_kept.specs.declared.front.Front.{Front}
use Rattle.eos_kept.specs.Kept.{IsKept, SameKept}
use Rattle.eos_reading.specs.declared.wanted.Wanted.{Wanted}
use Rattle.eos_reading.specs.declared.wanted.Wanted.TheVariants as wants
use Rattle.eos_kept.specs.declared.kept_run.KeptRun.{KeptRun}
use Rattle.eos_kept.specs.declared.kept_run.KeptRun.TheVariants.{Presence, Claims, Texts}
use Rattle.eos_kept.specs.Records.{SaysClaim}

-- these are the segments; the topics are those that are asked for
abbrev pub IsKeptRun : List (List ℕ) → List Segment → KeptRun → Type 0
IsKeptRun topics segments (Presence kept) = IsKept (λ offset r. tt) segments kept
IsKeptRun topics segments (Claims kept) = IsKept (λ offset r. kept_output topics (claim_of r.headers)) segments kept
IsKeptRun topics segments (Texts kept) = IsKept (λ offset r. wanted_record wants.Texts r) segments kept

abbrev pub wanted_by : KeptRun → Wanted
wanted_by (Presence kept) = wants.Presence
wanted_by (Claims kept) = wants.Claims
wanted_by (Texts kept) = wants.Texts

abbrev pub front_of : KeptRun → Front
front_of (Presence kept) = kept.front
front_of (Claims kept) = kept.front
front_of (Texts kept) = kept.front

-- the claims can be read back from the headers that say them, and these say nothing else
abbrev pub HasClaims : List (List ℕ) → KeptRun → Type 0
HasClaims topics (Presence kept) = ⊤
HasClaims topics (Claims kept) = All (λ one. ReadsBack (claim_kept topics one)) kept.kept
HasClaims topics (Texts kept) = All SaysClaim kept.kept

-- the same is known; there may be more room
abbrev pub SameKeptRun : KeptRun → KeptRun → Type 0
SameKeptRun (Presence a) (Presence b) = SameKept a b
SameKeptRun (Claims a) (Claims b) = SameKept a b
SameKeptRun (Texts a) (Texts b) = SameKept a b
SameKeptRun a b = ⊥

-- ---- or of none

-- what is kept of segments, or of none
abbrev pub AreKeptRun : List (List ℕ) → List Segment → Option KeptRun → Type 0
AreKeptRun topics segments None = segments ≡ []
AreKeptRun topics segments (Some run) = IsKeptRun topics segments run

-- what was asked for, or nothing
abbrev pub IsWantedBy : Wanted → Option KeptRun → Type 0
IsWantedBy w None = ⊤
IsWantedBy w (Some run) = wanted_by run ≡ w

abbrev pub HaveClaims : List (List ℕ) → Option KeptRun → Type 0
HaveClaims topics None = ⊤
HaveClaims topics (Some run) = HasClaims topics run
