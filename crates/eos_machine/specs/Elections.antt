-- The election of a partition's leader (KIP-101 and KIP-279, leader epochs; `LeaderEpochFileCache` of Kafka's sources): a new leader
-- goes on with the log as it has it, and what it lacks is lost.
use Rattle.std.specs.Prelude.{◌≡◌, ℕ, ◌+◌, ◌-◌, ◌==◌, ℤ, pos, int_le, nat_lt, not, ◌&&◌, List, [], ◌∷◌, ◌++◌, length, take, slice_set, Option, Some, None, if◌then◌else◌}
use Rattle.std.specs.List.{All}
use Rattle.eos_machine.specs.LogIndexes.{Config, final_count, offsets_index, final_index, input_index, output_index, offsets_topic, final_topic, input_topic, output_topic, is_topic}
use Rattle.eos_machine.specs.World.{World, Election, log_at}
use Rattle.eos_machine.specs.Answers.{Answer, when, Done, EpochsSpent, Unknown}

-- the index of a partition whose leader may change: of any topic but that of the transaction log
abbrev pub electable_at : Config → List ℕ → ℕ → Option ℕ
electable_at c topic number =
    if is_topic topic offsets_topic && number == 0 then Some offsets_index
    else if is_topic topic final_topic && nat_lt number (final_count c) then Some (final_index c number)
    else if is_topic topic input_topic && nat_lt number c.inputs then Some (input_index c number)
    else if is_topic topic output_topic && nat_lt number c.outputs then Some (output_index c number)
    else None

-- the leader epoch of an offset in the log at an index: that of the last election there that began at it or before it, or this one
-- where there is none. One that began behind it, or that a later one has undone, isn't the last
abbrev pub epoch_from : ℕ → ℤ → ℕ → List Election → ℕ
epoch_from p o e [] = e
epoch_from p o e (x ∷ xs) = epoch_from p o (if x.place == p && int_le (pos x.start) o then x.leader_epoch else e) xs

abbrev pub leader_epoch : ℕ → ℤ → List Election → ℕ
leader_epoch p o es = epoch_from p o 0 es

-- the leader epoch of the log at an index: that of the record that is appended next
abbrev pub epoch_at : World → ℕ → ℕ
epoch_at w p = leader_epoch p (pos (length (log_at w p))) w.elections

-- a leader that has so many records begins the next leader epoch
abbrev pub election_of : World → ℕ → ℕ → Election
election_of w p k = record { place = p; leader_epoch = epoch_at w p + 1; start = k; lost = length (log_at w p) - k }

-- the log is that of its new leader. Of the messages that were accepted none comes again by itself
abbrev pub elected : World → ℕ → ℕ → World
elected w p k = record w { logs = slice_set w.logs p (take k (log_at w p)); elections = w.elections ++ election_of w p k ∷ [] }

-- no leader has more records than were appended, and none a leader epoch above 65535
abbrev pub elect : World → ℕ → Option ℕ → Answer
elect w k None = (w, Unknown)
elect w k (Some p) =
    when (nat_lt (length (log_at w p)) k) (w, Unknown) (
    when (not (nat_lt (epoch_at w p) 65535)) (w, EpochsSpent) (
    (elected w p k, Done (epoch_at w p + 1))))

-- each election so far was a clean one: its leader had the whole log
abbrev pub LosesNothing : World → Type 0
LosesNothing w = All (λ x. x.lost ≡ 0) w.elections
