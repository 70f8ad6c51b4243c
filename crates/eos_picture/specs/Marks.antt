-- What the signs of a picture say of the logs: nothing is drawn in a cell that doesn't stand there. A data record is of the transaction of
-- its producer id and epoch, and has the fate that a reader of committed records sees (KIP-98, "Consumer"); an end marker is one that
-- carries the transaction's producer id, and the epoch that was decided for it, that is the next behind its data (KIP-890), or that is its
-- data's; one that is missing is of a transaction that was decided, and isn't there. An offset of the fault at which nothing of these
-- transactions stands is in no transaction's cell.
use Rattle.std.specs.Prelude.{◌≡◌, ◌⊎◌, ◌≤◌, ⊤, ℕ, List, Option, Some, None, slice_get}
use Rattle.eos_base.specs.Members.{Has}
use Rattle.eos_batch.specs.declared.marker.Kind.{Kind}
use Rattle.eos_fold.specs.declared.close.Close.{Close}
use Rattle.eos_fold.specs.Parts.{PartLog, part_name}
use Rattle.eos_fold.specs.declared.item.Fate.{Fate}
use Rattle.eos_fold.specs.declared.item.Item.{Item}
use Rattle.eos_picture.specs.declared.mark.Column.{Column}
use Rattle.eos_picture.specs.declared.mark.Decided.{Decided}
use Rattle.eos_picture.specs.declared.mark.Mark.{Mark}
use Rattle.eos_picture.specs.declared.mark.Row.{Row}
use Rattle.eos_picture.specs.declared.mark.Sign.{Sign}
use Rattle.eos_picture.specs.declared.mark.Sign.TheVariants as signs
use Rattle.eos_picture.specs.Ends.{ends, HasNone}

-- a data record of the transaction at this offset, which came to this
pub record IsWritten (p : PartLog) (c : Column) (offset : ℕ) (fate : Fate) : Type 0 where
  pub item : Item
  pub has : Has p.items item
  pub by : item.writer ≡ Some (c.producer, c.epoch)
  pub at : item.offset ≡ offset
  pub came_to : item.fate ≡ fate

-- the Prepare record that decided the transaction
pub record IsDecided (p : PartLog) (c : Column) (offset : ℕ) (kind : Kind) : Type 0 where
  pub decided : Decided
  pub by : c.decided ≡ Some decided
  pub partition : decided.partition ≡ p.number
  pub at : decided.offset ≡ offset
  pub so : decided.kind ≡ kind

-- end markers with the epoch that was decided, so many
pub record IsMarked (p : PartLog) (c : Column) (kind : Kind) (count : ℕ) : Type 0 where
  pub decided : Decided
  pub by : c.decided ≡ Some decided
  pub some : 1 ≤ count
  pub many : count ≡ ends p.markers c.producer decided.marker_epoch kind

-- end markers with the epoch of the transaction's data, so many
pub record IsUnraised (p : PartLog) (c : Column) (kind : Kind) (count : ℕ) : Type 0 where
  pub some : 1 ≤ count
  pub many : count ≡ ends p.markers c.producer c.epoch kind

-- no end marker with the epoch that was decided
pub record IsMissing (p : PartLog) (c : Column) (kind : Kind) : Type 0 where
  pub decided : Decided
  pub by : c.decided ≡ Some decided
  pub so : decided.kind ≡ kind
  pub none : HasNone p.markers c.producer decided.marker_epoch

-- the next end marker behind the transaction's data, which is there so many times
pub record IsClosed (p : PartLog) (c : Column) (kind : Kind) (count : ℕ) : Type 0 where
  pub close : Close
  pub has : Has p.closes close
  pub producer : c.producer ≡ close.producer
  pub epoch : c.epoch ≡ close.epoch
  pub so : close.kind ≡ kind
  pub many : count ≡ ends p.markers close.producer close.marker_epoch close.kind

abbrev pub IsSo : PartLog → Column → Sign → Type 0
IsSo p c (signs.Decision offset kind) = IsDecided p c offset kind
IsSo p c (signs.Record offset fate) = IsWritten p c offset fate
IsSo p c (signs.Commit offset fate source committed) = IsWritten p c offset fate
IsSo p c (signs.Passed fate from to) = ⊤
IsSo p c (signs.Marker kind count) = IsMarked p c kind count ⊎ (IsClosed p c kind count ⊎ IsUnraised p c kind count)
IsSo p c (signs.Missing kind) = IsMissing p c kind
IsSo p c (signs.Spot None) = ⊤
IsSo p c (signs.Spot (Some offset)) = ⊥

-- what stands in the cell of the column at this place, if there is such a column
abbrev pub IsTrueAt : PartLog → Option Column → Sign → Type 0
IsTrueAt p None sign = ⊤
IsTrueAt p (Some c) sign = IsSo p c sign

abbrev pub IsTrueOf : PartLog → List Column → Mark → Type 0
IsTrueOf p columns m = IsTrueAt p (slice_get columns m.column) m.sign

abbrev pub AreTrue : PartLog → List Column → List Mark → Type 0
AreTrue p columns marks = (m : Mark) → Has marks m → IsTrueOf p columns m

-- a row of the partition's name, of which each mark is true of its log
abbrev pub IsTrueRow : PartLog → List Column → Row → Type 0
IsTrueRow p columns row = (row.name ≡ part_name p) × AreTrue p columns row.marks.items

-- each row is that of a partition, and its marks are true of its log
abbrev pub HasTrueRows : List PartLog → List Column → List Row → Type 0
HasTrueRows logs columns rows = (row : Row) → Has rows row → (p : PartLog) × Has logs p × IsTrueRow p columns row
