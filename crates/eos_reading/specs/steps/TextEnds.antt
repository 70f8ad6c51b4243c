-- Records whose keys and values lie one behind the other in one block of bytes.
use Rattle.std.specs.Prelude.{◌≡◌, ℕ, zero, suc, ◌+◌, ◌≤◌, Bool, true, false, List, [], ◌∷◌, length, take, drop, slice_range, Option, Some, None, is_some, if◌then◌else◌}
use Rattle.eos_batch.specs.declared.record.Record.{Record}
use Rattle.eos_reading.specs.Records.{record_of}
use Rattle.eos_reading.specs.steps.Bytes.{bytes_in}
use Rattle.eos_reading.specs.declared.text_end.Present.{Present}
use Rattle.eos_reading.specs.declared.text_end.Present.TheVariants as presents

-- where a record's bytes end, how many of them, at their front, are its key's, and whether it has a key and a value
pub record EndView : Type 0 where
  pub end : ℕ
  pub key : ℕ
  pub has_key : Bool
  pub has_value : Bool

-- the records that lie packed, how many bytes they take, and for how many records and bytes there is room
pub record PackedView : Type 0 where
  pub list : List Record
  pub size : ℕ
  pub room : ℕ
  pub bytes_room : ℕ

abbrev pub key_in : Present → Bool
key_in presents.Neither = false
key_in presents.Key = true
key_in presents.Value = false
key_in presents.Both = true

abbrev pub value_in : Present → Bool
value_in presents.Neither = false
value_in presents.Key = false
value_in presents.Value = true
value_in presents.Both = true

-- the same, further back by so many bytes
abbrev pub moved : ℕ → EndView → EndView
moved by p = record p { end = by + p.end }

-- of this key and this value, behind so many bytes
abbrev pub behind : ℕ → Option (List ℕ) → Option (List ℕ) → EndView
behind before key value = record { end = before + (length (bytes_in key) + length (bytes_in value)); key = length (bytes_in key); has_key = is_some key; has_value = is_some value }

-- the record whose bytes these are
abbrev pub text_of : EndView → List ℕ → Record
text_of p bytes = record_of (if p.has_key then Some (take p.key bytes) else None) (if p.has_value then Some (drop p.key bytes) else None) None

-- the records of these places, the first of which begins at this byte
abbrev pub texts_from : ℕ → List EndView → List ℕ → List Record
texts_from begin [] bytes = []
texts_from begin (p ∷ ps) bytes = text_of p (slice_range bytes begin p.end) ∷ texts_from p.end ps bytes

-- each has its key within its bytes, and the last ends at this byte
abbrev pub Reaches : ℕ → List EndView → ℕ → Type 0
Reaches begin [] end = begin ≡ end
Reaches begin (p ∷ ps) end = (begin + p.key ≤ p.end) × Reaches p.end ps end

-- where the first so many of them end
abbrev pub end_of : ℕ → List EndView → ℕ → ℕ
end_of begin ps zero = begin
end_of begin [] (suc count) = begin
end_of begin (p ∷ ps) (suc count) = end_of p.end ps count
