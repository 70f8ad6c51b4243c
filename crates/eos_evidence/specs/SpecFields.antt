-- What the checker is told: the applications, each with its consumer group, the topics that it reads
-- and those that it writes (KIP-447), and where each partition ends.
use Rattle.std.specs.Prelude.{◌≡◌, ℕ, List, ◌++◌, Bool, not, ◌&&◌, if◌then◌else◌, nat_le, length, map, flat_map, Result, Ok, Err}
use Rattle.std.specs.List.{list_all}
use Rattle.std.specs.List.Sorted.{IsStrictlySortedBy}
use Rattle.eos_evidence.specs.declared.application.App.{App}
use Rattle.eos_evidence.specs.declared.ends.End.{End}
use Rattle.eos_evidence.specs.declared.fault.SpecFault.{SpecFault}
use Rattle.eos_evidence.specs.declared.fault.SpecFault.TheVariants as faults
use Rattle.eos_evidence.specs.Ends.{end_cmp, is_legal_end, are_apart, ordered}
use Rattle.eos_evidence.specs.Topics.{is_topic, is_internal, are_unequal}

pub record SpecFields : Type 0 where
  pub apps : List App
  pub ends : List End

-- a topic that an application may read or write
abbrev pub is_own_topic : List ℕ → Bool
is_own_topic topic = is_topic topic && not (is_internal topic)

-- no topic is illegal or internal, and none stands twice in the two lists together
abbrev pub is_legal_app : App → Bool
is_legal_app app = list_all is_own_topic (app.sources ++ app.outputs) && are_unequal (app.sources ++ app.outputs)

abbrev pub groups_of : List App → List (List ℕ)
groups_of = map (λ app. app.group)

-- the outputs of all, one application after the other
abbrev pub outputs_of : List App → List (List ℕ)
outputs_of = flat_map (λ app. app.outputs)

-- each is legal, and no two have one group or one output topic
abbrev pub are_legal_apps : List App → Bool
are_legal_apps apps = list_all is_legal_app apps && are_unequal (groups_of apps) && are_unequal (outputs_of apps)

-- no end is illegal, and no partition stands twice
abbrev pub are_legal_ends : List End → Bool
are_legal_ends ends = list_all is_legal_end ends && are_apart ends

-- the parts with their ends by topic bytes, then number, or the first refusal
unfoldable pub accepted : SpecFields → Result SpecFields SpecFault
accepted given =
    if are_legal_apps given.apps && are_legal_ends given.ends
    then (if nat_le (length given.apps) 256 && nat_le (length given.ends) 4096 then Ok (record given { ends = ordered given.ends }) else Err faults.Limit)
    else Err faults.Field

-- no test refuses the parts, and the ends stand by topic bytes, then number
pub record IsAccepted (parts : SpecFields) : Type 0 where
  pub as_it_is : accepted parts ≡ Ok parts
  pub ascending : IsStrictlySortedBy end_cmp parts.ends

-- what a call answers is what the tests give, unless memory ran out
abbrev pub Answers : {X : Type 0} → Result X SpecFault → Result X SpecFault → Type 0
Answers (Ok x) said = said ≡ Ok x
Answers (Err faults.OutOfMemory) said = Unit {0}
Answers (Err faults.Json) said = said ≡ Err faults.Json
Answers (Err faults.Field) said = said ≡ Err faults.Field
Answers (Err faults.Version) said = said ≡ Err faults.Version
Answers (Err faults.Limit) said = said ≡ Err faults.Limit
