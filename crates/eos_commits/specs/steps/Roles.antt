-- Which topics the applications read, each with the group that reads it, and which they write: sets in which names are looked
-- up, and names that are lent.
use Rattle.std.specs.Prelude.{List, map, flat_map}
use Rattle.std.specs.Ordering.{nat_cmp, on, then_cmp}
use Rattle.std.specs.Cmp.Lexicographic.{slice_cmp}
use Rattle.std.specs.declared.cmp.Ordering.{Ordering}
use Rattle.eos_evidence.specs.declared.application.App.{App}
use Rattle.eos_commits.specs.declared.roles.TopicRef.{TopicRef}
use Rattle.eos_commits.specs.declared.roles.SourceRef.{SourceRef}
use Rattle.eos_commits.specs.Commits.{Group, Topic}

-- a group and a topic that it reads
abbrev pub Source : Type 0
Source = Group × Topic

abbrev pub source_cmp : Source → Source → Ordering
source_cmp = then_cmp (on (λ s. s.0) (slice_cmp nat_cmp)) (on (λ s. s.1) (slice_cmp nat_cmp))

abbrev pub sources_in : App → List Source
sources_in a = map (λ t. (a.group, t)) a.sources

abbrev pub sources_of : List App → List Source
sources_of apps = flat_map sources_in apps

abbrev pub plain_topic : TopicRef → Topic
plain_topic t = t.topic.now

abbrev pub by_topic : TopicRef → TopicRef → Ordering
by_topic a b = slice_cmp nat_cmp a.topic.now b.topic.now

abbrev pub plain_source : SourceRef → Source
plain_source s = (s.group.now, s.topic.now)

abbrev pub by_source : SourceRef → SourceRef → Ordering
by_source a b = source_cmp (plain_source a) (plain_source b)

abbrev pub sources_under : Group → List Topic → List Source
sources_under group topics = map (λ t. (group, t)) topics

pub record RoleSets : Type 0 where
  pub sources : List Source
  pub outputs : List Topic
