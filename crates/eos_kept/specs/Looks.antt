-- A data record without its key and value.
use Rattle.std.specs.Prelude.{◌≡◌, option_map}
use Rattle.eos_fold.specs.declared.item.Item.{Item}
use Rattle.eos_claims.specs.Headers.{claim_of}
use Rattle.eos_claims.specs.Slots.{plain_claim}
use Rattle.eos_kept.specs.declared.batches.Look.{Look}

-- it is one of this record
pub record IsLook (item : Item) (look : Look) : Type 0 where
  pub offset : look.offset ≡ item.offset
  pub fate : look.fate ≡ item.fate
  pub writer : look.writer ≡ item.writer
  pub claim : option_map plain_claim look.claim ≡ claim_of item.headers
