-- What a manifest says: the JSON value that its text is, and what stands there for a spec.
use Rattle.std.specs.Prelude.{ℕ, ℤ, pos, ◌==◌, List, [], ◌∷◌, length, if◌then◌else◌, codes, Option, None, Some, option_map, option_and_then, Result, Ok, Err}
use Rattle.std.specs.Ordering.{int_eq}
use Rattle.std.specs.Str.{is_utf8}
use Rattle.serde_json.specs.Data.{Data, Items, no_items, item, Members, no_members, member}
use Rattle.serde_json.specs.Find.{get, as_number, as_str, as_array, as_object, as_integer, as_i64}
use Rattle.serde_json.specs.Read.{read as read_text}
use Rattle.eos_evidence.specs.declared.application.App.{App}
use Rattle.eos_evidence.specs.declared.ends.End.{End}
use Rattle.eos_evidence.specs.declared.fault.SpecFault.{SpecFault}
use Rattle.eos_evidence.specs.declared.fault.SpecFault.TheVariants as faults
use Rattle.eos_evidence.specs.declared.manifest_reader.Version.{Version}
use Rattle.eos_evidence.specs.declared.manifest_reader.Version.TheVariants.{One, Two}
use Rattle.eos_evidence.specs.PartitionNames.{partition_of}
use Rattle.eos_evidence.specs.SpecFields.{SpecFields, accepted}

-- the texts of an array, or nothing where an item is no text
abbrev pub texts_of : Items → Option (List (List ℕ))
texts_of no_items = Some []
texts_of (item d ds) = option_and_then (λ text. option_map (λ texts. text ∷ texts) (texts_of ds)) (as_str d)

-- a member of `ends`: a partition's name, and an integer
abbrev pub end_of : List ℕ → Data → Option End
end_of name d =
    option_and_then (λ partition. option_map (λ end. record { topic = partition.0; partition = partition.1; end = end })
    (option_and_then as_i64 (as_number d))) (partition_of name)

abbrev pub ends_of : Members → Option (List End)
ends_of no_members = Some []
ends_of (member name d ms) = option_and_then (λ e. option_map (λ es. e ∷ es) (ends_of ms)) (end_of name d)

abbrev pub ends_in : Data → Option (List End)
ends_in d = option_and_then ends_of (option_and_then as_object (get (codes "ends") d))

abbrev pub group_in : Data → Option (List ℕ)
group_in d = option_and_then as_str (get (codes "group") d)

abbrev pub topics_in : List ℕ → Data → Option (List (List ℕ))
topics_in name d = option_and_then texts_of (option_and_then as_array (get name d))

-- an application: an object with a group and two lists of topics
abbrev pub app_in : Data → Option App
app_in d =
    option_and_then (λ group. option_and_then (λ sources. option_map (λ outputs. record { group = group; sources = sources; outputs = outputs })
    (topics_in (codes "outputs") d)) (topics_in (codes "sources") d)) (group_in d)

abbrev pub apps_of : Items → Option (List App)
apps_of no_items = Some []
apps_of (item d ds) = option_and_then (λ app. option_map (λ apps. app ∷ apps) (apps_of ds)) (app_in d)

-- in version 1 the manifest itself is the one application, in version 2 it lists them
abbrev pub apps_in : Version → Data → Option (List App)
apps_in One d = option_map (λ app. app ∷ []) (app_in d)
apps_in Two d = option_and_then apps_of (option_and_then as_array (get (codes "apps") d))

-- the version, where it is an integer that 64 bits hold
abbrev pub version_in : Data → Option ℤ
version_in d = option_and_then as_integer (option_and_then as_number (get (codes "version") d))

abbrev pub version_test : Option ℤ → Result Version SpecFault
version_test None = Err faults.Field
version_test (Some version) = if int_eq version (pos 1) then Ok One else (if int_eq version (pos 2) then Ok Two else Err faults.Version)

-- what the two parts give, or the refusal where one is absent or of another type
abbrev pub accepted_parts : Option (List App) → Option (List End) → Result SpecFields SpecFault
accepted_parts None ends = Err faults.Field
accepted_parts (Some apps) None = Err faults.Field
accepted_parts (Some apps) (Some ends) = accepted (record { apps = apps; ends = ends })

abbrev pub said_in : Result Version SpecFault → Data → Result SpecFields SpecFault
said_in (Err fault) d = Err fault
said_in (Ok version) d = accepted_parts (apps_in version d) (ends_in d)

-- what a JSON value says: the version is looked at first, then the parts
unfoldable pub manifest_of : Data → Result SpecFields SpecFault
manifest_of d = said_in (version_test (version_in d)) d

-- what bytes say: they have to be UTF-8 and a JSON text
abbrev pub said_by : Option Data → Result SpecFields SpecFault
said_by None = Err faults.Json
said_by (Some d) = manifest_of d

unfoldable pub spec_said_by : List ℕ → Result SpecFields SpecFault
spec_said_by bytes = if is_utf8 bytes then said_by (read_text bytes) else Err faults.Json

-- the version that bytes say
abbrev pub version_said_by : List ℕ → Option ℤ
version_said_by bytes = option_and_then version_in (read_text bytes)

-- the version that is written: 1 where there is exactly one application
abbrev pub version_for : List App → ℤ
version_for apps = if length apps == 1 then pos 1 else pos 2
