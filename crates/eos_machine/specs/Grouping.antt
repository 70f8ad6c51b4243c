-- Which records stand in one batch: those that one client wrote one after the other, so many at the most (Kafka's Message Format,
-- "Record Batch": a batch has one producer id and one epoch, and its sequences count from the base sequence on).
use Rattle.std.specs.Prelude.{ℕ, zero, suc, ◌+◌, ◌==◌, ◌&&◌, Bool, true, false, List, [], ◌∷◌, if◌then◌else◌}
use Rattle.eos_machine.specs.declared.item.Item.{Item}
use Rattle.eos_machine.specs.declared.item.Item.TheVariants.{Fed, State, Output, Offset, Marker}

abbrev pub is_fed : Item → Bool
is_fed (Fed n) = true
is_fed (State a x n) = false
is_fed (Output a e s x v n) = false
is_fed (Offset a e q v n) = false
is_fed (Marker a e k n) = false

-- an output of this application in this epoch, with this sequence
abbrev pub is_output : ℕ → ℕ → ℕ → Item → Bool
is_output a e s (Fed n) = false
is_output a e s (State b x n) = false
is_output a e s (Output b f t x v n) = b == a && (f == e && t == s)
is_output a e s (Offset b f q v n) = false
is_output a e s (Marker b f k n) = false

-- an offset that this application commits in this epoch
abbrev pub is_offset : ℕ → ℕ → Item → Bool
is_offset a e (Fed n) = false
is_offset a e (State b x n) = false
is_offset a e (Output b f t x v n) = false
is_offset a e (Offset b f q v n) = b == a && f == e
is_offset a e (Marker b f k n) = false

-- whether an item may stand in a batch behind this one: an input behind an input, an output with the next sequence behind an
-- output, an offset behind an offset. A record of a transaction and an end marker are written one by one
abbrev pub goes_on : Item → Item → Bool
goes_on (Fed n) y = is_fed y
goes_on (State a x n) y = false
goes_on (Output a e s x v n) y = is_output a e (s + 1) y
goes_on (Offset a e q v n) y = is_offset a e y
goes_on (Marker a e k n) y = false

-- how many of these stand in a batch behind the one before them, where so many more may
abbrev pub joining : ℕ → Item → List Item → ℕ
joining k x [] = 0
joining zero x (y ∷ ys) = 0
joining (suc k) x (y ∷ ys) = if goes_on x y then suc (joining k y ys) else 0
