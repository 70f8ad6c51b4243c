-- What a control batch says (Kafka's documentation, "Control Batches"; KIP-98).
-- The key of its one record is a version (i16) and a type (i16): 0 is ABORT and 1 is COMMIT. The value of these two, the
-- end markers, is a version (i16) and the coordinator's epoch (i32). Any version of 0 or more is read, what follows is
-- ignored, and other types mean nothing.
use Rattle.std.specs.Prelude.{ℕ, zero, suc, ℤ, pos, negsuc, List, [], ◌∷◌, ◌++◌, Option, Some, None, Bool, true, false, is_some, if◌then◌else◌}
use Rattle.std.specs.Option.{option_map, option_and_then, option_to_list}
use Rattle.eos_wire.specs.Numbers.{i16_at, i32_at}
use Rattle.eos_batch.specs.declared.batch.Batch.{Batch}
use Rattle.eos_batch.specs.declared.record.Record.{Record}
use Rattle.eos_batch.specs.declared.marker.Marker.{Marker}
use Rattle.eos_batch.specs.declared.marker.Kind.{Kind}
use Rattle.eos_batch.specs.declared.marker.Kind.TheVariants.{Commit, Abort}
use Rattle.eos_batch.specs.Attributes.{is_control}

-- the number after a version of 0 or more
abbrev pub after_version : (List ℕ → Option (ℤ × List ℕ)) → ℤ × List ℕ → Option ℤ
after_version number_at (pos version, bytes) = option_map (λ x. x.0) (number_at bytes)
after_version number_at (negsuc n, bytes) = None

abbrev pub versioned : (List ℕ → Option (ℤ × List ℕ)) → List ℕ → Option ℤ
versioned number_at bytes = option_and_then (after_version number_at) (i16_at bytes)

-- the type of a control record, by its key
abbrev pub control_type : Option (List ℕ) → Option ℤ
control_type key = option_and_then (versioned i16_at) key

-- the coordinator's epoch, by the value of an end marker
abbrev pub coordinator_epoch_of : Option (List ℕ) → Option ℤ
coordinator_epoch_of value = option_and_then (versioned i32_at) value

abbrev pub kind_of : ℤ → Option Kind
kind_of (pos zero) = Some Abort
kind_of (pos (suc zero)) = Some Commit
kind_of (pos (suc (suc n))) = None
kind_of (negsuc n) = None

-- the kind of an end marker, by its key; None at other types and where there is no type
abbrev pub end_kind : Option (List ℕ) → Option Kind
end_kind key = option_and_then kind_of (control_type key)

-- ---- the content of an end marker

abbrev pub marker_with : Batch → Option Kind → Option ℤ → Option Marker
marker_with b None epoch = None
marker_with b (Some kind) None = None
marker_with b (Some kind) (Some epoch) = Some (record { producer = b.producer; epoch = b.epoch; kind = kind; coordinator_epoch = epoch })

abbrev pub marker_in : Batch → List Record → Option Marker
marker_in b [] = None
marker_in b (r ∷ []) = marker_with b (end_kind r.key) (coordinator_epoch_of r.value)
marker_in b (r ∷ s ∷ rs) = None

abbrev pub marker_of : Batch → Option Marker
marker_of b = if is_control b.attributes then marker_in b b.records else None

-- the end markers of a log, in order
abbrev pub markers_of : List Batch → List Marker
markers_of [] = []
markers_of (b ∷ bs) = option_to_list (marker_of b) ++ markers_of bs

-- ---- which control batches are right

-- the key has a type, and the value of an end marker has an epoch
abbrev pub is_control_content : Option (List ℕ) → Option (List ℕ) → Bool
is_control_content key value = if is_some (end_kind key) then is_some (coordinator_epoch_of value) else is_some (control_type key)

abbrev pub is_control_record : Record → Bool
is_control_record r = is_control_content r.key r.value

abbrev pub is_one_control_record : List Record → Bool
is_one_control_record [] = false
is_one_control_record (r ∷ []) = is_control_record r
is_one_control_record (r ∷ s ∷ rs) = false

abbrev pub has_right_control : Batch → Bool
has_right_control b = if is_control b.attributes then is_one_control_record b.records else true
