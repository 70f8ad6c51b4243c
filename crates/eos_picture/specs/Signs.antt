-- Of which record a sign is, and of which transaction a column.
use Rattle.std.specs.Prelude.{◌≡◌, ℤ, Option, Some, None}
use Rattle.eos_fold.specs.declared.item.Item.{Item}
use Rattle.eos_picture.specs.declared.mark.Column.{Column}
use Rattle.eos_picture.specs.declared.mark.Sign.{Sign}
use Rattle.eos_picture.specs.declared.mark.Sign.TheVariants as signs

-- the sign is of this data record
abbrev pub IsOf : Item → Sign → Type 0
IsOf x (signs.Decision offset kind) = ⊥
IsOf x (signs.Record offset fate) = (x.offset ≡ offset) × (x.fate ≡ fate)
IsOf x (signs.Commit offset fate source committed) = (x.offset ≡ offset) × (x.fate ≡ fate)
IsOf x (signs.Passed fate from to) = ⊥
IsOf x (signs.Marker kind count) = ⊥
IsOf x (signs.Missing kind) = ⊥
IsOf x (signs.Spot place) = ⊥

-- the producer id and epoch are those of the data of the transaction at this place
abbrev pub IsOfWriter : Option Column → ℤ × ℤ → Type 0
IsOfWriter None w = ⊥
IsOfWriter (Some c) w = w ≡ (c.producer, c.epoch)
