-- A history: the events that a cluster took, each with its reply and with the pass by which it came, as one thread that gives
-- them to a new cluster would have it.
use Rattle.std.specs.Prelude.{◌≡◌, ℕ, ◌+◌, ◌==◌, List, [], ◌∷◌, ◌++◌, map, if◌then◌else◌}
use Rattle.std.specs.List.{All, range_with_len}
use Rattle.eos_machine.specs.declared.config.Config.{Config}
use Rattle.eos_machine.specs.declared.event.Event.{Event}
use Rattle.eos_machine.specs.declared.event.Reply.{Reply}
use Rattle.eos_machine.specs.World.{World, opening}
use Rattle.eos_machine.specs.Machine.{world_after, replies}
use Rattle.eos_drive.specs.Driven.{is_taken}
use Rattle.eos_drive.specs.declared.finished.Entry.{Entry}
use Rattle.eos_drive.specs.declared.finished.Call.{Call}
use Rattle.eos_drive.specs.declared.finished.Called.{Called}

-- ---- replay

abbrev pub events_of : List Entry → List Event
events_of es = map (λ e. e.event) es

abbrev pub replies_of : List Entry → List Reply
replies_of es = map (λ e. e.reply) es

-- the stored events, one after the other from the opening state, lead here and are answered so
pub record IsReplay (c : Config) (w : World) (es : List Entry) : Type 0 where
  pub state : w ≡ world_after c (opening c) (events_of es)
  pub answers : replies_of es ≡ replies c (opening c) (events_of es)

-- ---- what is stored

-- a caller's own calls after one more, if it was taken, with the place that it was told
abbrev pub noted : List Call → Event → Called → List Call
noted cs e x = if is_taken x.reply then cs ++ record { place = x.place; event = e; reply = x.reply } ∷ [] else cs

-- ---- passes

-- the number of a pass, and those of its calls that are stored
pub record PassView : Type 0 where
  pub number : ℕ
  pub calls : List Call

abbrev pub told : PassView → Event → Called → PassView
told p e x = record { number = p.number; calls = noted p.calls e x }

abbrev pub new_pass : ℕ → PassView
new_pass n = record { number = n; calls = [] }

-- so many passes, numbered from 0, that have called nothing
abbrev pub new_passes : ℕ → List PassView
new_passes n = map new_pass (range_with_len 0 n)

-- ---- what the passes say against the history

-- an entry, as the caller knows it
abbrev pub call_at : ℕ → Entry → Call
call_at k e = record { place = k; event = e.event; reply = e.reply }

-- the entries of a number, in order, with their places; the first entry has this place
abbrev pub calls_from : ℕ → ℕ → List Entry → List Call
calls_from n k [] = []
calls_from n k (e ∷ es) = (if e.pass == n then call_at k e ∷ [] else []) ++ calls_from n (k + 1) es

abbrev pub calls_of : ℕ → List Entry → List Call
calls_of n es = calls_from n 0 es

-- each pass's calls are the entries of its number, in order, at those places
abbrev pub Agree : List Entry → List PassView → Type 0
Agree es ps = All (λ p. p.calls ≡ calls_of p.number es) ps
