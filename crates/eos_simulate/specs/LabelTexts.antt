-- The text of a labels' file: a line of JSON (RFC 8259) for each label, its members in the order of their names.
use Rattle.std.specs.Prelude.{◌≡◌, ⊤, ℕ, Bool, true, false, List, [], ◌++◌, codes, bytes_eq, flat_map, Option, None, Some, if◌then◌else◌}
use Rattle.std.specs.Fmt.{decimal}
use Rattle.std.specs.Str.{is_utf8}
use Rattle.serde_json.specs.Data.{string}
use Rattle.serde_json.specs.Written.{compact_text}
use Rattle.eos_text.specs.Escaping.{escaped}
use Rattle.eos_machine.specs.declared.config.Config.{Config}
use Rattle.eos_machine.specs.declared.switches.Switch.{Switch}
use Rattle.eos_machine.specs.declared.switches.Switch.TheVariants.{KeepDuplicates, NoFence, NoBump, LoseMarker, SwapMarker, HideListing, IgnoreGeneration}
use Rattle.eos_machine.specs.LogIndexes.{topic_of, number_of}
use Rattle.eos_machine.specs.Switching.{switch_name}
use Rattle.eos_drive.specs.Mishaps.{name_in}
use Rattle.eos_drive.specs.declared.deed.Deed.{Deed}
use Rattle.eos_simulate.specs.Labels.{AreLabelsOf}
use Rattle.eos_simulate.specs.declared.labels.Label.{Label}
use Rattle.eos_simulate.specs.declared.labels.LostTail.{LostTail}
use Rattle.eos_simulate.specs.declared.labels.Taken.{Taken}
use Rattle.eos_simulate.specs.declared.labels.Wrong.{Wrong}
use Rattle.eos_simulate.specs.declared.labels.Wrong.TheVariants as wrongs

-- the codes of the faults that may follow where this rule is broken
unfoldable pub rule_codes : Switch → List ℕ
rule_codes KeepDuplicates = codes "[\"1.4\",\"5.6\",\"5.8\",\"5.10\",\"5.12\"]"
rule_codes NoFence = codes "[\"1.3\",\"1.4\",\"1.5\",\"1.6\",\"1.11\",\"3.2\",\"3.3\",\"3.4\",\"5.7\",\"5.10\",\"5.11\",\"5.12\"]"
rule_codes NoBump = codes "[\"1.3\",\"1.5\",\"1.7\",\"3.3\",\"3.5\",\"3.7\",\"5.6\",\"5.8\",\"5.10\",\"5.11\",\"5.12\"]"
rule_codes LoseMarker = codes "[\"1.6\",\"1.11\",\"3.7\",\"5.7\",\"5.11\"]"
rule_codes SwapMarker = codes "[\"1.9\",\"3.3\",\"3.5\",\"3.7\",\"5.6\",\"5.7\",\"5.8\",\"5.10\",\"5.11\",\"5.12\"]"
rule_codes HideListing = codes "[\"1.6\",\"1.11\",\"3.3\",\"3.4\",\"3.5\",\"5.6\",\"5.8\",\"5.10\",\"5.11\",\"5.12\"]"
rule_codes IgnoreGeneration = codes "[\"5.7\",\"5.10\",\"5.11\",\"5.12\"]"

-- the code of the fault of a mishap of this name; of another word none
unfoldable pub mishap_codes : List ℕ → List ℕ
mishap_codes name =
    if bytes_eq name (codes "lost-output") then codes "[\"5.11\"]"
    else if bytes_eq name (codes "repeated-output") then codes "[\"5.10\"]"
    else if bytes_eq name (codes "early-output") then codes "[\"5.7\"]"
    else if bytes_eq name (codes "wrong-count") then codes "[\"5.8\"]"
    else if bytes_eq name (codes "wrong-number") then codes "[\"5.9\"]"
    else if bytes_eq name (codes "foreign-source") then codes "[\"5.5\"]"
    else if bytes_eq name (codes "other-transaction") then codes "[\"5.12\"]"
    else if bytes_eq name (codes "no-headers") then codes "[\"4.1\"]"
    else if bytes_eq name (codes "offset-deleted") then codes "[\"4.4\"]"
    else if bytes_eq name (codes "aborted-input") then codes "[\"5.6\"]"
    else codes "[]"

-- the number of its line, as every label has it
abbrev pub numbered : ℕ → List ℕ
numbered number = codes ",\"number\":" ++ decimal number

unfoldable pub broken_text : Config → ℕ → Switch → Taken → List ℕ
broken_text c number rule taken =
    (codes "{\"codes\":" ++ rule_codes rule) ++ ((codes ",\"label\":\"broken-rule\",\"message\":" ++ decimal taken.message) ++ (numbered number
    ++ ((codes ",\"offset\":" ++ decimal taken.offset) ++ ((codes ",\"partition\":\"" ++ escaped (topic_of c taken.place))
    ++ ((codes "-" ++ decimal (number_of c taken.place)) ++ ((codes "\",\"rule\":\"" ++ switch_name rule) ++ codes "\"}\n"))))))

-- a message that was lost, or repeated
unfoldable pub network_text : List ℕ → ℕ → ℕ → List ℕ
network_text label number message =
    (codes "{\"label\":\"" ++ label) ++ ((codes "\",\"message\":" ++ decimal message) ++ (numbered number ++ codes "}\n"))

-- a text that is UTF-8, as a mishap's is
abbrev pub utf8_or_empty : List ℕ → List ℕ
utf8_or_empty bytes = if is_utf8 bytes then bytes else []

unfoldable pub mishap_text : ℕ → List ℕ → List ℕ
mishap_text number mishap =
    (codes "{\"codes\":" ++ mishap_codes (name_in mishap)) ++ ((codes ",\"label\":\"mishap\",\"mishap\":" ++ compact_text (string mishap)) ++ (numbered number ++ codes "}\n"))

-- the codes of the faults that may follow where a run stops
unfoldable pub stop_codes : List ℕ
stop_codes = codes "[\"1.11\",\"2.5\",\"5.7\",\"5.11\"]"

unfoldable pub stop_text : ℕ → List ℕ
stop_text number = (codes "{\"codes\":" ++ stop_codes) ++ ((codes ",\"label\":\"stopped\",\"number\":" ++ decimal number) ++ codes "}\n")

-- the codes of the faults that may follow where records were lost that were acknowledged
unfoldable pub tail_codes : List ℕ
tail_codes = codes "[\"1.6\",\"1.9\",\"1.11\",\"3.3\",\"3.7\",\"5.6\",\"5.7\",\"5.8\",\"5.10\",\"5.11\",\"5.12\"]"

unfoldable pub tail_text : ℕ → LostTail → List ℕ
tail_text number tail =
    (codes "{\"codes\":" ++ tail_codes) ++ ((codes ",\"label\":\"unclean-election\",\"number\":" ++ decimal number) ++ ((codes ",\"offset\":" ++ decimal tail.offset)
    ++ ((codes ",\"partition\":\"" ++ escaped tail.topic) ++ ((codes "-" ++ decimal tail.partition) ++ ((codes "\",\"records\":" ++ decimal tail.records) ++ codes "}\n")))))

abbrev pub wrong_text : Config → ℕ → Wrong → List ℕ
wrong_text c number (wrongs.Broken rule taken) = broken_text c number rule taken
wrong_text c number (wrongs.Lost message) = network_text (codes "lost") number message
wrong_text c number (wrongs.Repeated message) = network_text (codes "repeated") number message
wrong_text c number (wrongs.Erred mishap) = mishap_text number (utf8_or_empty mishap)
wrong_text c number wrongs.Stopped = stop_text number
wrong_text c number (wrongs.Unclean tail) = tail_text number tail

abbrev pub label_text : Config → Label → List ℕ
label_text c label = wrong_text c label.number label.wrong

-- of what was done to a new cluster of these sizes
pub record IsLabelsText (stops : Bool) (c : Config) (deeds : List Deed) (text : List ℕ) : Type 0 where
  pub labels : List Label
  pub are : AreLabelsOf stops c deeds labels
  pub says : text ≡ flat_map (label_text c) labels

-- where they are wanted
abbrev pub AreLabelsIf : Bool → Config → Bool → List Deed → Option (List ℕ) → Type 0
AreLabelsIf true c stops deeds (Some text) = IsLabelsText stops c deeds text
AreLabelsIf true c stops deeds None = ⊥
AreLabelsIf false c stops deeds (Some text) = ⊥
AreLabelsIf false c stops deeds None = ⊤
