-- Claims that name an output of an input in another layout: a number with its bytes in the other order, or a topic with a NUL behind
-- it or in quotes.
-- Source: `docs/APPLICATION.md` (numbers are big-endian, a topic is its bytes alone).
use Rattle.std.specs.Prelude.{ℕ, ◌+◌, ◌-◌, ℤ, List, length, take, drop, slice_index, Option, Some, None, Bool, false, ◌&&◌, ◌||◌, ◌==◌, not}
use Rattle.std.specs.Int.{w32, w64, cast_signed, cast_unsigned, swap_bytes}
use Rattle.std.specs.Ordering.{int_eq}
use Rattle.eos_claims.specs.declared.claim.Claim.{Claim}
use Rattle.eos_claims.specs.declared.place.Place.{Place}
use Rattle.eos_commits.specs.Commits.{is_same}

-- ---- topics

abbrev pub has_nul : List ℕ → List ℕ → Bool
has_nul topic claimed = length claimed - length topic == 1 && (slice_index claimed (length topic) == 0 && is_same (take (length topic) claimed) topic)

abbrev pub is_quoted : List ℕ → List ℕ → Bool
is_quoted topic claimed =
    length claimed - length topic == 2 && (slice_index claimed 0 == 34 && (slice_index claimed (length topic + 1) == 34 && is_same (take (length topic) (drop 1 claimed)) topic))

abbrev pub is_like_topic : List ℕ → List ℕ → Bool
is_like_topic topic claimed = is_same claimed topic || (has_nul topic claimed || is_quoted topic claimed)

-- ---- numbers

abbrev pub is_like_partition : ℤ → ℤ → Bool
is_like_partition number claimed = int_eq claimed number || int_eq claimed (cast_signed w32 (swap_bytes w32 (cast_unsigned w32 number)))

abbrev pub is_like_offset : ℕ → ℕ → Bool
is_like_offset number claimed = claimed == number || claimed == swap_bytes w64 number

abbrev pub is_like_output : ℕ → ℕ → Bool
is_like_output number claimed = claimed == number || claimed == swap_bytes w32 number

-- ---- claims

-- the claim is of exactly this output
abbrev pub names_it : Place → ℕ → Claim → Bool
names_it place output c = is_same c.topic place.partition.topic && (int_eq c.partition place.partition.partition && (c.offset == place.offset && c.output == output))

abbrev pub is_like : Place → ℕ → Claim → Bool
is_like place output c =
    is_like_topic place.partition.topic c.topic
    && (is_like_partition place.partition.partition c.partition && (is_like_offset place.offset c.offset && is_like_output output c.output))

-- in another layout, each part is that of this output, and some part is in another layout
abbrev pub is_alike : Place → ℕ → Option Claim → Bool
is_alike place output None = false
is_alike place output (Some c) = is_like place output c && not (names_it place output c)
