-- Which ends a manifest gets that is made for copied logs, and what it lacks.
use Rattle.std.specs.Prelude.{ℕ, List, Bool, not, ◌||◌, ◌&&◌, bytes_eq, Option, find}
use Rattle.std.specs.List.{list_any, filter}
use Rattle.std.specs.Ordering.{int_eq}
use Rattle.eos_base.specs.Members.{is_found}
use Rattle.eos_base.specs.PartitionNames.{name_cmp}
use Rattle.eos_base.specs.declared.partition_name.PartitionName.{PartitionName}
use Rattle.eos_evidence.specs.declared.application.App.{App}
use Rattle.eos_evidence.specs.declared.ends.End.{End}
use Rattle.eos_evidence.specs.SpecFields.{SpecFields}
use Rattle.eos_evidence.specs.Topics.{is_among, is_internal}

-- an application reads or writes the topic
abbrev pub is_named : List App → List ℕ → Bool
is_named apps topic = list_any (λ app. is_among topic app.sources || is_among topic app.outputs) apps

-- a topic that an application names, or one of Kafka's own two
abbrev pub is_judged : List App → List ℕ → Bool
is_judged apps topic = is_internal topic || is_named apps topic

abbrev pub name_of : End → PartitionName
name_of e = record { topic = e.topic; partition = e.partition }

-- of such a topic, or a partition that has to have an end
abbrev pub is_wanted : List App → List PartitionName → End → Bool
is_wanted apps required e = is_judged apps e.topic || is_found name_cmp required (name_of e)

-- one of the ends is this partition's
abbrev pub has_end : List End → PartitionName → Bool
has_end ends name = list_any (λ e. bytes_eq e.topic name.topic && int_eq e.partition name.partition) ends

-- the first partition that has none
abbrev pub first_without : List End → List PartitionName → Option PartitionName
first_without ends names = find (λ name. not (has_end ends name)) names

-- the applications, and of the ends those that are wanted
abbrev pub parts_for : List App → List PartitionName → List End → SpecFields
parts_for apps required ends = record { apps = apps; ends = filter (is_wanted apps required) ends }
