-- What the name of a file in a partition's folder says. Source: Kafka's documentation, "Log" (a segment's file is named by its first
-- offset); a fold has the name of its segment.
use Rattle.std.specs.Prelude.{ℕ, ◌^◌, ◌&&◌, ◌==◌, pos, List, codes, length, take, drop, bytes_eq, nat_lt, Option, None, Some, option_map, option_and_then, if◌then◌else◌}
use Rattle.std.specs.Char.{is_ascii_digit}
use Rattle.std.specs.List.{list_all}
use Rattle.std.specs.Str.Parse.{digits_value}
use Rattle.eos_disk.specs.declared.names.FileName.{FileName}
use Rattle.eos_disk.specs.declared.names.Form.{Form}
use Rattle.eos_disk.specs.declared.names.Form.TheVariants.{Log, Fold}

-- twenty digits that write an offset
unfoldable pub base_in : List ℕ → Option ℕ
base_in digits =
    if length digits == 20 && list_all is_ascii_digit digits && nat_lt (digits_value 10 digits) (2 ^ 63) then Some (digits_value 10 digits) else None

-- how a file's name ends
abbrev pub form_in : List ℕ → Option Form
form_in ending = if bytes_eq ending (codes ".log") then Some Log else if bytes_eq ending (codes ".fold") then Some Fold else None

-- the segment of a file's name, and in which form it stands there
abbrev pub file_in_name : List ℕ → Option FileName
file_in_name name =
    option_and_then (λ form. option_map (λ base. record { base = pos base; form = form }) (base_in (take 20 name))) (form_in (drop 20 name))
