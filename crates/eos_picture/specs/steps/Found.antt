-- Where a transaction stands among those of a picture.
use Rattle.std.specs.Prelude.{ℕ, ℤ, List, Option, Some, None, slice_get}
use Rattle.eos_picture.specs.declared.mark.Column.{Column}
use Rattle.eos_picture.specs.Signs.{IsOfWriter}

-- a place of one of this producer id and epoch, or that there is none
abbrev pub IsPlaceOf : List Column → ℤ × ℤ → Option ℕ → Type 0
IsPlaceOf columns w None = (i : ℕ) → IsOfWriter (slice_get columns i) w → ⊥
IsPlaceOf columns w (Some i) = IsOfWriter (slice_get columns i) w
