-- What a list of batches says of a producer id: its first touch, its last touch and its first end marker, each with its offset.
use Rattle.std.specs.Prelude.{ℕ, ℤ, Bool, not, List, [], ◌∷◌, ◌++◌, Option, Some, None, if◌then◌else◌}
use Rattle.std.specs.Option.{option_or, option_to_list}
use Rattle.std.specs.Ordering.{int_eq}
use Rattle.eos_batch.specs.declared.batch.Batch.{Batch}
use Rattle.eos_batch.specs.Attributes.{is_control}
use Rattle.eos_batch.specs.Offsets.{offset_of}
use Rattle.eos_touch.specs.declared.touch.Touch.{Touch}
use Rattle.eos_touch.specs.declared.touch.Touch.TheVariants.{Data, End}
use Rattle.eos_touch.specs.Touches.{touch_of}
use Rattle.eos_fold.specs.declared.mark.EndMark.{EndMark}

-- its records are data
abbrev pub is_data : Batch → Bool
is_data b = not (is_control b.attributes)

-- what a batch at this offset says of an id
abbrev pub placed_in : ℤ → ℕ → Option (ℤ × Touch) → Option (ℕ × Touch)
placed_in id offset None = None
placed_in id offset (Some x) = if int_eq x.0 id then Some (offset, x.1) else None

abbrev pub placed : ℤ → Batch → Option (ℕ × Touch)
placed id b = placed_in id (offset_of b) (touch_of b)

abbrev pub mark_in : ℕ → Option (ℤ × Touch) → Option EndMark
mark_in offset None = None
mark_in offset (Some (producer, Data e t s c)) = None
mark_in offset (Some (producer, End e k)) = Some (record { offset = offset; producer = producer; epoch = e; kind = k })

abbrev pub mark_for : ℤ → Option EndMark → Option EndMark
mark_for id None = None
mark_for id (Some m) = if int_eq m.producer id then Some m else None

-- the end marker that a batch is, if it is one
abbrev pub mark_of : Batch → Option EndMark
mark_of b = mark_in (offset_of b) (touch_of b)

abbrev pub first_placed : ℤ → List Batch → Option (ℕ × Touch)
first_placed id [] = None
first_placed id (b ∷ bs) = option_or (placed id b) (first_placed id bs)

abbrev pub last_placed : ℤ → List Batch → Option (ℕ × Touch)
last_placed id [] = None
last_placed id (b ∷ bs) = option_or (last_placed id bs) (placed id b)

abbrev pub first_marker : ℤ → List Batch → Option EndMark
first_marker id [] = None
first_marker id (b ∷ bs) = option_or (mark_for id (mark_of b)) (first_marker id bs)

-- the end markers, in order, each with its offset
abbrev pub marks_of : List Batch → List EndMark
marks_of [] = []
marks_of (b ∷ bs) = option_to_list (mark_of b) ++ marks_of bs
