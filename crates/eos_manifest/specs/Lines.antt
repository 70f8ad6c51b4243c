-- What names a partition, and where it ends: the lines TOPIC:PARTITION:OFFSET that `kafka-get-offsets.sh` prints, and the
-- names TOPIC-N of the folders of Kafka's logs.
use Rattle.std.specs.Prelude.{ℕ, ◌+◌, ◌-◌, ◌^◌, ◌&&◌, ◌==◌, nat_lt, ℤ, pos, Bool, List, [], ◌∷◌, length, take, slice_index, Option, None, Some, option_map, option_and_then, Result, Ok, Err, if◌then◌else◌}
use Rattle.eos_evidence.specs.declared.ends.End.{End}
use Rattle.eos_evidence.specs.Topics.{is_topic}
use Rattle.eos_manifest.specs.Divided.{last_split, lines_of}
use Rattle.eos_base.specs.Decimals.{number_below}

-- a topic's name and a number of 31 bits
abbrev pub name_in : List ℕ → List ℕ → Option (List ℕ × ℤ)
name_in topic number = if is_topic topic then option_map (λ n. (topic, pos n)) (number_below (2 ^ 31) number) else None

-- such a place, and an offset of 63 bits
abbrev pub end_at : List ℕ → Option (List ℕ × ℤ) → Option End
end_at offset place =
    option_and_then (λ p. option_map (λ n. record { topic = p.0; partition = p.1; end = pos n }) (number_below (2 ^ 63) offset)) place

-- a topic, a number and an offset between colons
abbrev pub end_between : List ℕ → Option End
end_between text =
    option_and_then (λ outer. option_and_then (λ inner. end_at outer.1 (name_in inner.0 inner.1)) (last_split 58 outer.0)) (last_split 58 text)

-- a line that Windows wrote ends in a carriage return before its line feed
abbrev pub ends_in_return : List ℕ → Bool
ends_in_return line = nat_lt 0 (length line) && slice_index line (length line - 1) == 13

abbrev pub without_return : List ℕ → List ℕ
without_return line = if ends_in_return line then take (length line - 1) line else line

abbrev pub end_in_line : List ℕ → Option End
end_in_line line = end_between (without_return line)

-- one more end at the front
abbrev pub with_end : End → Result (List End) ℕ → Result (List End) ℕ
with_end e (Ok es) = Ok (e ∷ es)
with_end e (Err number) = Err number

-- the end of the first line, and those of the others, or the number of the first that says none
abbrev pub ends_with : ℕ → Option End → Result (List End) ℕ → Result (List End) ℕ
ends_with number None others = Err number
ends_with number (Some e) others = with_end e others

abbrev pub ends_from : ℕ → List (List ℕ) → Result (List End) ℕ
ends_from number [] = Ok []
ends_from number (line ∷ lines) = ends_with number (end_in_line line) (ends_from (number + 1) lines)

-- the ends that the lines of a text say, or the number of the first line that says none, counted from 1
abbrev pub ends_said_by : List ℕ → Result (List End) ℕ
ends_said_by text = ends_from 1 (lines_of text)

-- the partition whose log a folder of this name holds: the last hyphen divides
abbrev pub partition_in_name : List ℕ → Option (List ℕ × ℤ)
partition_in_name name = option_and_then (λ parts. name_in parts.0 parts.1) (last_split 45 name)
