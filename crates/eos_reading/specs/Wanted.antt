-- What is wanted of a log: of each data record what its readers ask of it, and of the log everything but its bytes. Visible
-- inputs are counted (KIP-98, `read_committed`), outputs are read for their claims, and the records of Kafka's own logs for
-- their keys and values (KIP-98, "Transaction Log" and "AddOffsetCommitsToTxn").
use Rattle.std.specs.Prelude.{ℕ, pos, List, [], ◌∷◌, map, codes, Option, Some, None, if◌then◌else◌}
use Rattle.std.specs.Ordering.{nat_cmp}
use Rattle.std.specs.Cmp.Lexicographic.{slice_cmp}
use Rattle.eos_base.specs.Members.{is_found}
use Rattle.eos_wire.specs.Numbers.{i32_text, i64_text}
use Rattle.eos_batch.specs.declared.record.Header.{Header}
use Rattle.eos_evidence.specs.declared.application.App.{App}
use Rattle.eos_evidence.specs.SpecFields.{outputs_of}
use Rattle.eos_evidence.specs.Topics.{is_internal}
use Rattle.eos_claims.specs.declared.claim.Claim.{Claim}
use Rattle.eos_claims.specs.Headers.{claim_of}
use Rattle.eos_fold.specs.declared.item.Item.{Item}
use Rattle.eos_fold.specs.Parts.{PartLog}
use Rattle.eos_reading.specs.declared.wanted.Wanted.{Wanted}
use Rattle.eos_reading.specs.declared.wanted.Wanted.TheVariants.{Presence, Claims, Texts}

-- ---- a claim as headers

abbrev pub header : List ℕ → List ℕ → Header
header key value = record { key = key; value = Some value }

-- the five headers that say this claim, and nothing else
abbrev pub claim_headers : Claim → List Header
claim_headers x =
    header (codes "eo.topic") x.topic ∷ header (codes "eo.partition") (i32_text x.partition) ∷ header (codes "eo.offset") (i64_text (pos x.offset))
    ∷ header (codes "eo.output") (i32_text (pos x.output)) ∷ header (codes "eo.of") (i32_text (pos x.of)) ∷ []

-- a record without a claim has none
abbrev pub wanted_headers : Option Claim → List Header
wanted_headers None = []
wanted_headers (Some x) = claim_headers x

-- ---- records and logs

-- a record with what is wanted of it, at its offset, with its fate and its writer
abbrev pub wanted_item : Wanted → Item → Item
wanted_item Presence x = record x { key = None; value = None; headers = [] }
wanted_item Claims x = record x { key = None; value = None; headers = wanted_headers (claim_of x.headers) }
wanted_item Texts x = record x { headers = wanted_headers (claim_of x.headers) }

-- a log without its bytes
abbrev pub wanted_log : Wanted → PartLog → PartLog
wanted_log w p = record p { segments = []; items = map (wanted_item w) p.items }

-- ---- what the applications want

-- Of a topic: all that any reader of it asks for. A topic that an application reads may be one that another writes.
abbrev pub wanted_of : List App → List ℕ → Wanted
wanted_of apps topic =
    if is_internal topic then Texts
    else (if is_found (slice_cmp nat_cmp) (outputs_of apps) topic then Claims else Presence)

-- the log as it is kept for these applications
abbrev pub kept_log : List App → PartLog → PartLog
kept_log apps p = wanted_log (wanted_of apps p.topic) p

abbrev pub wanted_logs : List App → List PartLog → List PartLog
wanted_logs apps ps = map (kept_log apps) ps
