-- Which pieces of a folder are logs, by the names of their files.
use Rattle.std.specs.Prelude.{ℕ, List, Bool, true, false, Option, None, Some, slice_get}
use Rattle.eos_disk.specs.declared.names.Form.{Form}
use Rattle.eos_disk.specs.declared.names.Form.TheVariants.{Log, Fold}

abbrev pub is_log : Option Form → Bool
is_log None = false
is_log (Some Log) = true
is_log (Some Fold) = false

-- the segment of this number stands there as its log
abbrev pub is_log_at : List Form → ℕ → Bool
is_log_at forms piece = is_log (slice_get forms piece)
