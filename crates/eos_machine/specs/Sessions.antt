-- What a session asks: its requests become messages (KIP-98, "Data flow"; KIP-447, the generation of its group).
use Rattle.std.specs.Prelude.{ℕ, ◌+◌, ◌==◌, nat_lt, ℤ, pos, negsuc, Bool, false, not, ◌&&◌, ◌||◌, List, [], ◌∷◌, ◌++◌, length, replicate, slice_get, slice_index_or, slice_set, Option, Some, None}
use Rattle.std.specs.List.{list_any}
use Rattle.eos_batch.specs.declared.marker.Kind.{Kind}
use Rattle.eos_machine.specs.LogIndexes.{Config, offsets_index, is_source}
use Rattle.eos_machine.specs.World.{World, Claim, Session, Message, coord_at, generation_of, log_at, with_messages, with_sessions}
use Rattle.eos_machine.specs.declared.state.Message.TheVariants as messages
use Rattle.eos_machine.specs.Logs.{has_open_commit, committed_offset}
use Rattle.eos_machine.specs.Tests.{is_active, is_commit, is_prepare, is_complete}
use Rattle.eos_machine.specs.Answers.{Answer, when, Done, Fenced, WrongState, Busy, StaleGeneration, EpochsSpent, Unknown}

-- the greatest epoch at which a session may work: the end of its transaction takes one more
abbrev pub last_epoch : ℕ
last_epoch = 32766

abbrev pub new_session : Config → ℕ → ℕ → ℕ → Session
new_session c a e g = record { application = a; epoch = e; generation = g; ending = None; sequences = replicate c.outputs 0; messages = [] }

abbrev pub sequence_of : Session → ℕ → ℕ
sequence_of s p = slice_index_or s.sequences p 0

-- a session that has sent data, an offset, the end of its transaction
abbrev pub after_output : Session → ℕ → ℕ → Session
after_output s p m = record s { sequences = slice_set s.sequences p (sequence_of s p + 1); messages = s.messages ++ m ∷ [] }

abbrev pub after_offset : Session → ℕ → Session
after_offset s m = record s { messages = s.messages ++ m ∷ [] }

abbrev pub after_end : Session → Kind → Session
after_end s k = record s { ending = Some k }

-- a session at its next transaction
abbrev pub after_resume : Config → Session → Session
after_resume c s = record s { epoch = s.epoch + 1; ending = None; sequences = replicate c.outputs 0; messages = [] }

-- a session's message is queued
abbrev pub sent : World → ℕ → Session → Message → World
sent w n s x = with_sessions (with_messages w (x ∷ [])) (slice_set w.sessions n s)

-- the topic that a record's claim names; a record without a claim names none
abbrev pub claimed_topic : Option Claim → List ℕ
claimed_topic None = []
claimed_topic (Some x) = x.topic

abbrev pub produce : Config → World → ℕ → ℕ → Option Claim → Option Session → Answer
produce c w n p x None = (w, Unknown)
produce c w n p x (Some s) =
    when (not (nat_lt p c.outputs) || nat_lt 249 (length (claimed_topic x))) (w, Unknown) (
    when (not (is_active s.ending)) (w, WrongState) (
    (sent w n (after_output s p (length w.messages)) (messages.Output s.application s.epoch p (sequence_of s p) x w.events), Done (length w.messages))))

abbrev pub commit_offset : Config → World → ℕ → ℕ → Option ℕ → Option Session → Answer
commit_offset c w n q v None = (w, Unknown)
commit_offset c w n q v (Some s) =
    when (not (is_source c s.application q)) (w, Unknown) (
    when (not (is_active s.ending)) (w, WrongState) (
    (sent w n (after_offset s (length w.messages)) (messages.Offset s.application s.epoch s.generation q v), Done (length w.messages))))

-- no offset is below 0
abbrev pub commit : Config → World → ℕ → ℕ → Option ℤ → Answer
commit c w n q None = commit_offset c w n q None (slice_get w.sessions n)
commit c w n q (Some (pos v)) = commit_offset c w n q (Some v) (slice_get w.sessions n)
commit c w n q (Some (negsuc v)) = (w, Unknown)

-- a message that no broker has accepted
abbrev pub is_missing : World → ℕ → Bool
is_missing w m = not (slice_index_or w.accepted m false)

abbrev pub end_session : World → ℕ → Kind → Option Session → Answer
end_session w n k None = (w, Unknown)
end_session w n k (Some s) =
    when (not (is_active s.ending) || (is_commit k && list_any (is_missing w) s.messages)) (w, WrongState) (
    (sent w n (after_end s k) (messages.End s.application s.epoch k), Done (length w.messages)))

abbrev pub resume_ended : Config → World → ℕ → Session → Option Kind → Answer
resume_ended c w n s None = (w, WrongState)
resume_ended c w n s (Some k) =
    when (is_prepare (coord_at w s.application).status || (coord_at w s.application).epoch == s.epoch) (w, Busy) (
    when (not ((coord_at w s.application).epoch == s.epoch + 1 && is_complete (coord_at w s.application).status k)) (w, Fenced) (
    when (nat_lt last_epoch (s.epoch + 1)) (w, EpochsSpent) (
    (with_sessions w (slice_set w.sessions n (after_resume c s)), Done (s.epoch + 1)))))

abbrev pub resume : Config → World → ℕ → Option Session → Answer
resume c w n None = (w, Unknown)
resume c w n (Some s) = resume_ended c w n s s.ending

abbrev pub fetch : Config → World → ℕ → Option Session → Answer
fetch c w q None = (w, Unknown)
fetch c w q (Some s) =
    when (not (is_source c s.application q)) (w, Unknown) (
    when (not (s.generation == generation_of c w s.application)) (w, StaleGeneration) (
    when (has_open_commit q (log_at w offsets_index)) (w, Busy) (
    (w, Done (committed_offset q (log_at w offsets_index))))))
