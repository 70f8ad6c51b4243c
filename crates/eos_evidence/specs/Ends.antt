-- The ends of the partitions: for each, the offset after its last record. A folder of a partition's
-- log is named by topic, hyphen and number (Kafka's log directories).
use Rattle.std.specs.Prelude.{ℕ, ◌^◌, ℤ, pos, List, [], ◌∷◌, Bool, true, not, ◌&&◌, int_le, int_lt}
use Rattle.std.specs.List.{list_any}
use Rattle.std.specs.Ordering.{nat_cmp, int_cmp, is_eq, match_ordering, then_cmp, on}
use Rattle.std.specs.Cmp.Lexicographic.{slice_cmp}
use Rattle.std.specs.declared.cmp.Ordering.{Ordering}
use Rattle.eos_evidence.specs.declared.ends.End.{End}
use Rattle.eos_evidence.specs.Topics.{is_topic}

-- by topic bytes, then number
abbrev pub end_cmp : End → End → Ordering
end_cmp = then_cmp (on (λ e. e.topic) (slice_cmp nat_cmp)) (on (λ e. e.partition) int_cmp)

-- from 0 on, and below the limit
abbrev pub is_within : ℕ → ℤ → Bool
is_within limit z = int_le (pos 0) z && int_lt z (pos limit)

-- a topic's name, a number of 31 bits and an end of 63
abbrev pub is_legal_end : End → Bool
is_legal_end e = is_topic e.topic && is_within (2 ^ 31) e.partition && is_within (2 ^ 63) e.end

-- no partition stands twice
abbrev pub are_apart : List End → Bool
are_apart [] = true
are_apart (e ∷ es) = not (list_any (λ f. is_eq (end_cmp e f)) es) && are_apart es

-- these ends, with one more before the first that is above it
unfoldable pub insert_end : End → List End → List End
insert_end e [] = e ∷ []
insert_end e (f ∷ fs) = match_ordering (end_cmp e f) (e ∷ f ∷ fs) (record f { end = e.end } ∷ fs) (f ∷ insert_end e fs)

-- the ends by topic bytes, then number
unfoldable pub ordered : List End → List End
ordered [] = []
ordered (e ∷ es) = insert_end e (ordered es)
