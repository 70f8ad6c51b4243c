-- What is told of the marks of a drawing, in the order in which they are drawn.
use Rattle.std.specs.Prelude.{◌≡◌, ◌⊎◌, ℕ, ℤ, List, [], ◌∷◌, ◌++◌, Bool, false, slice_get, string_bytes}
use Rattle.std.specs.List.{flat_map}
use Rattle.eos_base.specs.declared.partition_name.PartitionName.{PartitionName}
use Rattle.eos_picture.specs.declared.mark.Column.{Column}
use Rattle.eos_picture.specs.declared.mark.Mark.{Mark}
use Rattle.eos_picture.specs.declared.mark.Picture.{Picture}
use Rattle.eos_picture.specs.declared.mark.Row.{Row}
use Rattle.eos_picture.specs.declared.shape.Shape.{Shape}
use Rattle.eos_picture.specs.declared.shape.Shape.TheVariants as shapes
use Rattle.eos_picture.specs.declared.times.Times.{Times}
use Rattle.eos_picture.specs.Titles.{mark_offset, time_at, title_of}

-- ---- of shapes

abbrev pub telling : Shape → List (List ℕ)
telling (shapes.Rectangle at size look) = []
telling (shapes.Diamond at look) = []
telling (shapes.Line line look) = []
telling (shapes.Arc line over look) = []
telling (shapes.Text at text look) = []
telling (shapes.Told at size text) = string_bytes text ∷ []

abbrev pub tellings : List Shape → List (List ℕ)
tellings shapes = flat_map telling shapes

-- ---- of marks

-- the mark's own title, as of a transaction whose end marker is missing, or not
abbrev pub IsTitle : PartitionName → List Column → List (ℕ × ℤ) → Mark → List ℕ → Type 0
IsTitle name columns times m text = (lacks : Bool) × (text ≡ title_of name (slice_get columns m.column) (time_at times (mark_offset m)) lacks m)

-- each mark once, in order; but one that isn't of the fault may be left out
abbrev pub AreTold : PartitionName → List Column → List (ℕ × ℤ) → List Mark → List (List ℕ) → Type 0
AreTold name columns times [] texts = texts ≡ []
AreTold name columns times (m ∷ ms) texts =
    ((text : List ℕ) × (rest : List (List ℕ)) × IsTitle name columns times m text × AreTold name columns times ms rest × (texts ≡ text ∷ rest))
    ⊎ ((m.is_of_fault ≡ false) × AreTold name columns times ms texts)

-- row by row, each with its times; a row behind those has none
abbrev pub AreRowsTold : List Column → List Row → List Times → List (List ℕ) → Type 0
AreRowsTold columns [] times texts = texts ≡ []
AreRowsTold columns (row ∷ rows) [] texts =
    (here : List (List ℕ)) × (more : List (List ℕ)) × AreTold row.name columns [] row.marks.items here × AreRowsTold columns rows [] more × (texts ≡ here ++ more)
AreRowsTold columns (row ∷ rows) (t ∷ ts) texts =
    (here : List (List ℕ)) × (more : List (List ℕ)) × AreTold row.name columns t.at row.marks.items here × AreRowsTold columns rows ts more × (texts ≡ here ++ more)

-- the shapes tell of the picture's marks
abbrev pub TellOf : Picture → List Times → List Shape → Type 0
TellOf picture times shapes = AreRowsTold picture.columns.items picture.rows.items times (tellings shapes)
