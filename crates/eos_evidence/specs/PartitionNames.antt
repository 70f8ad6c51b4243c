-- How a partition is named: its topic, a hyphen and its number in decimal, as the folders of Kafka's
-- logs are. A topic may have hyphens too, so the last one divides.
use Rattle.std.specs.Prelude.{ℕ, ◌^◌, ◌==◌, ℤ, pos, List, [], ◌∷◌, Bool, if◌then◌else◌, Option, None, Some, option_map, option_and_then}
use Rattle.eos_base.specs.Decimals.{number_below}

abbrev pub is_hyphen : ℕ → Bool
is_hyphen byte = byte == 45

-- what stands before the last hyphen and after it
abbrev pub split_before : ℕ → List ℕ → Option (List ℕ × List ℕ) → Option (List ℕ × List ℕ)
split_before byte bytes None = if is_hyphen byte then Some ([], bytes) else None
split_before byte bytes (Some parts) = Some (byte ∷ parts.0, parts.1)

unfoldable pub last_split : List ℕ → Option (List ℕ × List ℕ)
last_split [] = None
last_split (byte ∷ bytes) = split_before byte bytes (last_split bytes)

-- the topic and the number of a name, which is at most 2147483647
abbrev pub partition_of : List ℕ → Option (List ℕ × ℤ)
partition_of name = option_and_then (λ parts. option_map (λ n. (parts.0, pos n)) (number_below (2 ^ 31) parts.1)) (last_split name)
