-- Which data records a reader of committed records is given (KIP-98, "Consumer", isolation level `read_committed`).
use Rattle.std.specs.Prelude.{Bool, true, false, List, filter}
use Rattle.eos_base.specs.Members.{Has}
use Rattle.eos_fold.specs.declared.item.Item.{Item}
use Rattle.eos_fold.specs.declared.item.Fate.{Fate}
use Rattle.eos_fold.specs.declared.item.Fate.TheVariants.{Plain, Committed, Aborted, Waiting}
use Rattle.eos_fold.specs.Parts.{PartLog}

-- of no transaction, or of one whose next end marker is COMMIT
abbrev pub is_visible : Fate → Bool
is_visible Plain = true
is_visible Committed = true
is_visible Aborted = false
is_visible (Waiting producer) = false

-- the visible records of a partition, by offset
abbrev pub visible : PartLog → List Item
visible p = filter (λ x. is_visible x.fate) p.items

-- one visible record of these partitions
pub record VisibleIn (ps : List PartLog) : Type 0 where
  pub part : PartLog
  pub item : Item
  pub has_part : Has ps part
  pub has_item : Has (visible part) item
