-- That a picture leaves nothing out: whatever a transaction that is shown did in a partition has its mark in the partition's row.
use Rattle.std.specs.Prelude.{◌≡◌, ◌≤◌, ◌⊎◌, ℕ, ℤ, List, [], Some, None, true, slice_get}
use Rattle.eos_base.specs.Members.{Has}
use Rattle.eos_batch.specs.declared.marker.Kind.{Kind}
use Rattle.eos_batch.specs.declared.marker.Marker.{Marker}
use Rattle.eos_fold.specs.declared.close.Close.{Close}
use Rattle.eos_fold.specs.Parts.{PartLog, part_name}
use Rattle.eos_fold.specs.declared.item.Item.{Item}
use Rattle.eos_table.specs.TransactionLog.{is_transaction_part}
use Rattle.eos_picture.specs.declared.mark.Column.{Column}
use Rattle.eos_picture.specs.declared.mark.Decided.{Decided}
use Rattle.eos_picture.specs.declared.mark.Mark.{Mark}
use Rattle.eos_picture.specs.declared.mark.Row.{Row}
use Rattle.eos_picture.specs.declared.mark.Sign.{Sign}
use Rattle.eos_picture.specs.declared.mark.Sign.TheVariants as signs
use Rattle.eos_picture.specs.Ends.{ends, HasNone}
use Rattle.eos_picture.specs.Signs.{IsOf, IsOfWriter}

-- the mark is this sign in the column at this place
abbrev pub IsAt : ℕ → Sign → Mark → Type 0
IsAt i sign m = (m.column ≡ i) × (m.sign ≡ sign)

-- the mark is of this data record, in a column of its producer id and epoch
abbrev pub IsMarkOf : List Column → Item → ℤ × ℤ → Mark → Type 0
IsMarkOf columns x w m = IsOfWriter (slice_get columns m.column) w × IsOf x m.sign

-- one of the marks is so
abbrev pub Shows : List Mark → (Mark → Type 0) → Type 0
Shows marks P = (m : Mark) × Has marks m × P m

-- the data record, if its producer id and epoch are those of a column
abbrev pub ShowsRecord : List Column → List Mark → Item → Type 0
ShowsRecord columns marks x = (w : ℤ × ℤ) (i : ℕ) → x.writer ≡ Some w → IsOfWriter (slice_get columns i) w → Shows marks (IsMarkOf columns x w)

-- the Prepare record of the transaction at this place, if it stands in this partition of the transaction log
abbrev pub ShowsDecision : ℤ → List Column → List Mark → ℕ → Type 0
ShowsDecision n columns marks i = (c : Column) (d : Decided) → slice_get columns i ≡ Some c → c.decided ≡ Some d → d.partition ≡ n → Shows marks (IsAt i (signs.Decision d.offset d.kind))

-- the end markers of this kind with the epoch that was decided for the transaction at this place, if there are any: one mark for all of them
abbrev pub ShowsEnds : List Marker → List Column → List Mark → ℕ → Kind → Type 0
ShowsEnds markers columns marks i kind = (c : Column) (d : Decided) → slice_get columns i ≡ Some c → c.decided ≡ Some d → 1 ≤ ends markers c.producer d.marker_epoch kind
    → Shows marks (IsAt i (signs.Marker kind (ends markers c.producer d.marker_epoch kind)))

-- that there are none, if the transaction at this place has this data record
abbrev pub ShowsMissing : List Marker → List Column → List Mark → Item → ℕ → Type 0
ShowsMissing markers columns marks x i = (c : Column) (d : Decided) → slice_get columns i ≡ Some c → c.decided ≡ Some d → x.writer ≡ Some (c.producer, c.epoch)
    → HasNone markers c.producer d.marker_epoch → Shows marks (IsAt i (signs.Missing d.kind))

-- the next end marker behind the data of the transaction at this place, if nothing decided that
abbrev pub ShowsClose : List Marker → List Column → List Mark → Close → ℕ → Type 0
ShowsClose markers columns marks x i = (c : Column) → slice_get columns i ≡ Some c → c.decided ≡ None → c.producer ≡ x.producer → c.epoch ≡ x.epoch
    → Shows marks (IsAt i (signs.Marker x.kind (ends markers x.producer x.marker_epoch x.kind)))

-- all that the transactions did in this partition
pub record IsWhole (p : PartLog) (columns : List Column) (marks : List Mark) : Type 0 where
  pub records : (x : Item) → Has p.items x → ShowsRecord columns marks x
  pub decisions : is_transaction_part p ≡ true → (i : ℕ) → ShowsDecision p.number columns marks i
  pub markers : (i : ℕ) (kind : Kind) → ShowsEnds p.markers columns marks i kind
  pub missing : (x : Item) → Has p.items x → (i : ℕ) → ShowsMissing p.markers columns marks x i
  pub closes : (x : Close) → Has p.closes x → (i : ℕ) → ShowsClose p.markers columns marks x i

-- a row of the partition's name, to which no mark is lacking
pub record HasRow (p : PartLog) (columns : List Column) (rows : List Row) : Type 0 where
  pub row : Row
  pub has : Has rows row
  pub of : row.name ≡ part_name p
  pub whole : IsWhole p columns row.marks.items

-- it has such a row; or a row without a mark would lack nothing
abbrev pub IsCovered : List Column → List Row → PartLog → Type 0
IsCovered columns rows p = HasRow p columns rows ⊎ IsWhole p columns []

abbrev pub HasWholeRows : List PartLog → List Column → List Row → Type 0
HasWholeRows logs columns rows = (p : PartLog) → Has logs p → IsCovered columns rows p
