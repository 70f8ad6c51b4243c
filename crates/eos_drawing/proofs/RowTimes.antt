-- The times of rows, one after the other.
use Rattle.std.proofs.Common.{◌≡◌, ◌<◌, ◌≤◌, ℕ, ℤ, ◌+◌, List, [], ◌∷◌, ◌++◌, length, take, get_or, sym, ap, subst, ◌∙◌}
use Rattle.std.specs.List.Sorted.{IsPermutation}
use Rattle.std.proofs.lemmas.List.{take_more, take_all}
use Rattle.std.proofs.lemmas.List.Sorted.{Contains-permutation}
use Rattle.eos_base.specs.declared.partition_name.PartitionName.{PartitionName}
use Rattle.eos_evidence.specs.declared.partition.Partition.{Partition}
use Rattle.eos_picture.specs.declared.mark.Row.{Row}
use Rattle.eos_source.specs.Said.{Known}
use Rattle.eos_source_check.specs.Times.{AreTimesEach}
use Rattle.eos_picture.specs.declared.times.Times.{Times}
use Rattle.eos_drawing.specs.Whens.{offsets_of, AreTimesOfRows}

rows_push : (known : ℕ → Known) (partitions : List Partition) (rows : List Row) (times : List Times) (row : Row) (t : Times) → AreTimesOfRows known partitions rows times
    → AreTimesEach known partitions row.name (offsets_of row.marks.items) t.at → AreTimesOfRows known partitions (rows ++ row ∷ []) (times ++ t ∷ [])
rows_push known partitions [] [] row t h one = (one, tt)
rows_push known partitions [] (x ∷ xs) row t h one = absurd h
rows_push known partitions (r ∷ rs) [] row t h one = absurd h
rows_push known partitions (r ∷ rs) (x ∷ xs) row t h one = (h.0, rows_push known partitions rs xs row t h.1 one)

-- one row further
pub rows_more : (known : ℕ → Known) (partitions : List Partition) (rows : List Row) (i : ℕ) (row : Row) (before after : List Times) (t : Times) → i < length rows → row ≡ get_or rows i row
    → AreTimesOfRows known partitions (take i rows) before → AreTimesEach known partitions row.name (offsets_of row.marks.items) t.at → after ≡ before ++ t ∷ [] → AreTimesOfRows known partitions (take (i + 1) rows) after
rows_more known partitions rows i row before after t lt is h one pushed =
    let more : take i rows ++ row ∷ [] ≡ take (i + 1) rows = sym (take_more rows i row lt ∙ ap (λ (r : Row). take i rows ++ r ∷ []) (sym is)) in
    subst (λ (ts : List Times). AreTimesOfRows known partitions (take (i + 1) rows) ts) (sym pushed)
    (subst (λ (rs : List Row). AreTimesOfRows known partitions rs (before ++ t ∷ [])) more (rows_push known partitions (take i rows) before row t h one))

pub rows_all : (known : ℕ → Known) (partitions : List Partition) (rows : List Row) (i : ℕ) (times : List Times) → length rows ≤ i → AreTimesOfRows known partitions (take i rows) times → AreTimesOfRows known partitions rows times
rows_all known partitions rows i times le h = subst (λ (rs : List Row). AreTimesOfRows known partitions rs times) (take_all i rows le) h

-- ---- a row

pub times_sorted : (known : ℕ → Known) (partitions : List Partition) (name : PartitionName) (offsets sorted : List ℕ) (times : List (ℕ × ℤ)) → IsPermutation offsets sorted → AreTimesEach known partitions name sorted times
    → AreTimesEach known partitions name offsets times
times_sorted known partitions name offsets sorted times moved are = record { each = λ o there. are.each o (Contains-permutation offsets sorted o moved there) }
