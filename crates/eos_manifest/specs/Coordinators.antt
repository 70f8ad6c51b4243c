-- Which partition of `__consumer_offsets` a group has, and of `__transaction_state` a transactional id, by its name: Kafka's
-- `Utils.abs(name.hashCode()) % partitions` (`partitionFor` of its two coordinators; from memory of its sources). The hash is that
-- of Java's `String`: s[0] * 31 ^ (n - 1) + s[1] * 31 ^ (n - 2) + .. + s[n - 1] over the text's UTF-16 units, in 32 bits.
use Rattle.std.specs.Prelude.{ℕ, ◌+◌, ◌*◌, ◌%◌, ◌^◌, ◌&&◌, ◌||◌, not, Bool, ℤ, pos, List, [], ◌∷◌, ◌++◌, bytes_eq, codes, int_lt, nat_lt, length, filter, flat_map, chars, unsigned_abs, Option, None, Some, if◌then◌else◌}
use Rattle.std.specs.Char.Escape.{encode_utf16}
use Rattle.std.specs.Fmt.{decimal}
use Rattle.std.specs.Int.{w32, cast_signed}
use Rattle.std.specs.List.{list_all}
use Rattle.eos_text.specs.Escaping.{escaped}
use Rattle.eos_evidence.specs.declared.ends.End.{End}

-- the UTF-16 units of a text's characters
abbrev pub units_of : List ℕ → List ℕ
units_of text = flat_map encode_utf16 (chars text)

-- each unit, by as many factors 31 as units follow it
abbrev pub weighted : List ℕ → ℕ
weighted [] = 0
weighted (unit ∷ units) = unit * 31 ^ length units + weighted units

-- the low 32 bits, of which the highest is the sign
abbrev pub hash_code : List ℕ → ℤ
hash_code text = cast_signed w32 (weighted (units_of text) % 2 ^ 32)

-- The absolute value. That of the least integer doesn't fit into one, and 0 stands for it.
abbrev pub utils_abs : ℤ → ℕ
utils_abs hash = if nat_lt (unsigned_abs hash) (2 ^ 31) then unsigned_abs hash else 0

abbrev pub coordinator_of : List ℕ → ℕ → ℕ
coordinator_of name partitions = utils_abs (hash_code name) % partitions

-- ---- how many partitions a topic has, by the ends of all of them: so many, each of a number below their count

abbrev pub is_of : List ℕ → End → Bool
is_of topic e = bytes_eq e.topic topic

abbrev pub count_of : List End → List ℕ → ℕ
count_of ends topic = length (filter (is_of topic) ends)

abbrev pub are_below : ℕ → List ℕ → List End → Bool
are_below count topic ends = list_all (λ e. not (is_of topic e) || int_lt e.partition (pos count)) ends

abbrev pub partitions_of : List End → List ℕ → Option ℕ
partitions_of ends topic = if nat_lt 0 (count_of ends topic) && are_below (count_of ends topic) topic ends then Some (count_of ends topic) else None

-- ---- what is printed of a name: NAME partition=K

abbrev pub coordinator_line : ℕ → List ℕ → List ℕ
coordinator_line partitions name = escaped name ++ ((codes " partition=" ++ decimal (coordinator_of name partitions)) ++ codes "\n")

abbrev pub coordinator_lines : ℕ → List (List ℕ) → List ℕ
coordinator_lines partitions names = flat_map (coordinator_line partitions) names
