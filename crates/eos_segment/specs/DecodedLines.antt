-- The lines of what a record says. Each begins with two spaces, since it stands below the record's own.
use Rattle.std.specs.Prelude.{ℕ, ℤ, true, List, ◌++◌, codes}
use Rattle.std.specs.Fmt.{decimal, signed_decimal}
use Rattle.eos_claims.specs.declared.claim.Claim.{Claim}
use Rattle.eos_offsets.specs.declared.key.OffsetKey.{OffsetKey}
use Rattle.eos_text.specs.Escaping.{escaped}
use Rattle.eos_txnlog.specs.declared.value.TxnValue.{TxnValue}
use Rattle.eos_txnlog.specs.PartitionSets.{names_of}
use Rattle.eos_verdict.specs.FaultTexts.{name_text}
use Rattle.eos_segment.specs.Names.{names_text, status_name}

-- the record's input, and which output of how many it is
unfoldable pub claim_line : Claim → List ℕ
claim_line c =
    (codes "  claim " ++ name_text c.topic c.partition)
    ++ ((codes ":" ++ decimal c.offset)
    ++ ((codes " " ++ decimal c.output)
    ++ ((codes "/" ++ decimal c.of)
    ++ codes "\n")))

-- a state of a transactional id, its partitions in the order of the record
unfoldable pub transaction_line : List ℕ → TxnValue → List ℕ
transaction_line id v =
    (codes "  transaction id=" ++ escaped id)
    ++ ((codes " producer=" ++ signed_decimal v.producer)
    ++ ((codes " epoch=" ++ signed_decimal v.epoch)
    ++ ((codes " status=" ++ status_name v.status)
    ++ (codes " partitions=" ++ (names_text true (names_of v.partitions)
    ++ codes "\n")))))

-- a transactional id is forgotten
unfoldable pub forgotten_line : List ℕ → List ℕ
forgotten_line id = (codes "  transaction id=" ++ escaped id) ++ codes " tombstone\n"

-- whose offset is committed
unfoldable pub commit_head : OffsetKey → List ℕ
commit_head key = (codes "  commit group=" ++ escaped key.group) ++ (codes " " ++ name_text key.topic key.partition)

-- the offset at which a group goes on
unfoldable pub commit_line : OffsetKey → ℤ → List ℕ
commit_line key offset = commit_head key ++ ((codes "=" ++ signed_decimal offset) ++ codes "\n")

-- a committed offset is deleted
unfoldable pub deleted_line : OffsetKey → List ℕ
deleted_line key = commit_head key ++ codes " tombstone\n"

-- a key of another version, which is of neither
abbrev pub skipped_line : List ℕ
skipped_line = codes "  skipped key\n"

-- a record that doesn't read, and why
unfoldable pub unread_line : List ℕ → List ℕ
unread_line name = (codes "  unread " ++ name) ++ codes "\n"
