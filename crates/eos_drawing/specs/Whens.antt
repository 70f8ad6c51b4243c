-- When the records of a picture's marks were written: of each row the time at the offset of each of its marks, as its partition's segments
-- say it where they are read again.
use Rattle.std.specs.Prelude.{⊤, ℕ, List, [], ◌∷◌, ◌++◌, Option, None, Some}
use Rattle.eos_evidence.specs.declared.partition.Partition.{Partition}
use Rattle.eos_picture.specs.declared.mark.Mark.{Mark}
use Rattle.eos_picture.specs.declared.mark.Row.{Row}
use Rattle.eos_source.specs.Said.{Known}
use Rattle.eos_source_check.specs.Times.{AreTimesEach}
use Rattle.eos_picture.specs.declared.times.Times.{Times}
use Rattle.eos_picture.specs.Titles.{mark_offset}

abbrev pub listed : Option ℕ → List ℕ
listed None = []
listed (Some offset) = offset ∷ []

-- the offsets of these marks
abbrev pub offsets_of : List Mark → List ℕ
offsets_of [] = []
offsets_of (m ∷ ms) = listed (mark_offset m) ++ offsets_of ms

-- row by row
abbrev pub AreTimesOfRows : (ℕ → Known) → List Partition → List Row → List Times → Type 0
AreTimesOfRows known partitions [] [] = ⊤
AreTimesOfRows known partitions [] (t ∷ ts) = ⊥
AreTimesOfRows known partitions (row ∷ rows) [] = ⊥
AreTimesOfRows known partitions (row ∷ rows) (t ∷ ts) = AreTimesEach known partitions row.name (offsets_of row.marks.items) t.at × AreTimesOfRows known partitions rows ts
