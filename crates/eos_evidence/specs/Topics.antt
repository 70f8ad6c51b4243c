-- Which names a topic may have. Kafka takes ASCII letters, digits, '.', '_' and '-', at most 249 of
-- them, and not "." or ".." (its rules for topic names). Committed offsets stand in the topic
-- `__consumer_offsets`, transactions in `__transaction_state` (KIP-98).
use Rattle.std.specs.Prelude.{ℕ, List, [], ◌∷◌, Bool, true, not, ◌&&◌, ◌||◌, ◌==◌, nat_lt, nat_le, length, codes, bytes_eq}
use Rattle.std.specs.List.{list_any, list_all}
use Rattle.std.specs.Char.{is_ascii_alphanumeric}

abbrev pub is_topic_byte : ℕ → Bool
is_topic_byte byte = is_ascii_alphanumeric byte || byte == 46 || byte == 95 || byte == 45

abbrev pub is_dots : List ℕ → Bool
is_dots topic = bytes_eq topic (codes ".") || bytes_eq topic (codes "..")

abbrev pub has_topic_length : List ℕ → Bool
has_topic_length topic = nat_lt 0 (length topic) && nat_le (length topic) 249

abbrev pub is_topic : List ℕ → Bool
is_topic topic = has_topic_length topic && list_all is_topic_byte topic && not (is_dots topic)

-- a topic of Kafka's own
abbrev pub is_internal : List ℕ → Bool
is_internal topic = bytes_eq topic (codes "__consumer_offsets") || bytes_eq topic (codes "__transaction_state")

-- the name is one of these
abbrev pub is_among : List ℕ → List (List ℕ) → Bool
is_among name names = list_any (bytes_eq name) names

-- no name stands twice
abbrev pub are_unequal : List (List ℕ) → Bool
are_unequal [] = true
are_unequal (name ∷ names) = not (is_among name names) && are_unequal names
