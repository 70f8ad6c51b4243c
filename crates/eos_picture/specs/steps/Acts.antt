-- What the transaction of one column did in a partition, as a sign that is found there; and that what the one at one place did is shown.
use Rattle.std.specs.Prelude.{◌≡◌, ◌≤◌, ⊤, ℕ, List, Option, Some, None, true}
use Rattle.eos_base.specs.Members.{Has}
use Rattle.eos_batch.specs.declared.marker.Kind.{Kind}
use Rattle.eos_batch.specs.declared.marker.Marker.{Marker}
use Rattle.eos_fold.specs.declared.close.Close.{Close}
use Rattle.eos_fold.specs.Parts.{PartLog}
use Rattle.eos_fold.specs.declared.item.Item.{Item}
use Rattle.eos_table.specs.TransactionLog.{is_transaction_part}
use Rattle.eos_picture.specs.declared.mark.Column.{Column}
use Rattle.eos_picture.specs.declared.mark.Decided.{Decided}
use Rattle.eos_picture.specs.declared.mark.Mark.{Mark}
use Rattle.eos_picture.specs.declared.mark.Sign.{Sign}
use Rattle.eos_picture.specs.declared.mark.Sign.TheVariants as signs
use Rattle.eos_picture.specs.Ends.{ends, HasNone}
use Rattle.eos_picture.specs.Whole.{IsAt, Shows, ShowsDecision, ShowsEnds, ShowsMissing, ShowsClose}

-- its Prepare record, if that stands in this partition of the transaction log
abbrev pub FindsDecision : PartLog → Column → Option Sign → Type 0
FindsDecision p c found = (d : Decided) → is_transaction_part p ≡ true → c.decided ≡ Some d → d.partition ≡ p.number → found ≡ Some (signs.Decision d.offset d.kind)

-- the end markers of this kind with the epoch that was decided, if there are any
abbrev pub FindsEnds : List Marker → Column → Kind → Option Sign → Type 0
FindsEnds markers c kind found = (d : Decided) → c.decided ≡ Some d → 1 ≤ ends markers c.producer d.marker_epoch kind → found ≡ Some (signs.Marker kind (ends markers c.producer d.marker_epoch kind))

-- that there are none, if this data record is its
abbrev pub FindsMissing : List Marker → Column → Item → Option Sign → Type 0
FindsMissing markers c x found = (d : Decided) → c.decided ≡ Some d → x.writer ≡ Some (c.producer, c.epoch) → HasNone markers c.producer d.marker_epoch → found ≡ Some (signs.Missing d.kind)

-- the next end marker behind its data, if nothing decided that
abbrev pub FindsClose : List Marker → Column → Close → Option Sign → Type 0
FindsClose markers c x found = c.decided ≡ None → c.producer ≡ x.producer → c.epoch ≡ x.epoch → found ≡ Some (signs.Marker x.kind (ends markers x.producer x.marker_epoch x.kind))

-- the sign at this place, if one is found
abbrev pub IsShown : List Mark → ℕ → Option Sign → Type 0
IsShown marks i None = ⊤
IsShown marks i (Some s) = Shows marks (IsAt i s)

pub record ShowsActs (p : PartLog) (columns : List Column) (marks : List Mark) (i : ℕ) : Type 0 where
  pub decision : is_transaction_part p ≡ true → ShowsDecision p.number columns marks i
  pub markers : (kind : Kind) → ShowsEnds p.markers columns marks i kind
  pub missing : (x : Item) → Has p.items x → ShowsMissing p.markers columns marks x i
  pub closes : (x : Close) → Has p.closes x → ShowsClose p.markers columns marks x i
