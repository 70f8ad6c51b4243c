-- The attributes of a record batch (Kafka's documentation, "Record Batch"): bits 0 to 2 name the compression, bit 4
-- says that the batch is transactional, and bit 5 that it is a control batch. The other bits mean nothing here.
use Rattle.std.specs.Prelude.{ℤ, pos, Bool, not}
use Rattle.std.specs.Ordering.{int_eq}
use Rattle.std.specs.Int.{w16, int_bit_and}

-- one of these bits is set
abbrev pub has_some_of : ℤ → ℤ → Bool
has_some_of bits attributes = not (int_eq (int_bit_and w16 attributes bits) (pos 0))

abbrev pub is_compressed : ℤ → Bool
is_compressed attributes = has_some_of (pos 0x07) attributes

abbrev pub is_transactional : ℤ → Bool
is_transactional attributes = has_some_of (pos 0x10) attributes

abbrev pub is_control : ℤ → Bool
is_control attributes = has_some_of (pos 0x20) attributes
