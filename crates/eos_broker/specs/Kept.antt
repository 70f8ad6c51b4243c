-- What a broker keeps: each producer id's state as a function of the log, and of all that is asked of it what it accepts.
-- Sources: KIP-98, "Idempotent Producer Guarantees" (sequences and epochs), and KIP-890 (a marker's epoch is above its data's).
use Rattle.std.specs.Prelude.{◌≡◌, ℕ, ◌<◌, ◌==◌, nat_lt, Bool, true, not, ◌&&◌, ◌||◌, List, [], ◌∷◌, ◌++◌, length, slice_index_or, if◌then◌else◌}
use Rattle.eos_machine.specs.declared.item.Item.{Item}
use Rattle.eos_machine.specs.declared.item.Item.TheVariants.{Fed, State, Output, Offset, Marker}
use Rattle.eos_machine.specs.declared.state.Producer.{Producer}
use Rattle.eos_machine.specs.Logs.{marks_of, unseen, producer_of, next_sequence, not_above}

-- a partition's log, as contracts see it
pub record LogView : Type 0 where
  pub items : List Item
  -- how many producer ids it keeps the state of
  pub applications : ℕ
  -- how many more items there is room for
  pub room : ℕ

-- each producer id's state is what the log says
abbrev pub AreKept : List Producer → List Item → Type 0
AreKept ps log = (a : ℕ) → a < length ps → slice_index_or ps a unseen ≡ producer_of (marks_of a log)

-- ---- what a broker accepts after this log

abbrev pub producer_in : List Item → ℕ → Producer
producer_in log a = producer_of (marks_of a log)

-- the epoch isn't below the highest
abbrev pub is_new : Producer → ℕ → Bool
is_new s e = not (nat_lt e s.high)

-- a record of a partition without sequences is refused where sequences are checked
abbrev pub accepts : Bool → List Item → Item → Bool
accepts b log (Fed n) = true
accepts b log (State a x n) = true
accepts b log (Output a e s x v n) = is_new (producer_in log a) e && s == next_sequence (producer_in log a) e
accepts b log (Offset a e q v n) = is_new (producer_in log a) e && not b
accepts b log (Marker a e k n) = not (nat_lt e (producer_in log a).high || not_above e (producer_in log a).last)

-- the log after these requests
abbrev pub kept : Bool → List Item → List Item → List Item
kept b log [] = log
kept b log (x ∷ xs) = if accepts b log x then kept b (log ++ x ∷ []) xs else kept b log xs
