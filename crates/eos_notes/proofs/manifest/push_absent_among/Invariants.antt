use Rattle.std.proofs.Common.{◌≡◌, ◌++◌, take, flat_map}
use Rattle.std.specs.Ordering.{nat_cmp}
use Rattle.std.specs.Cmp.Lexicographic.{slice_cmp}
use Rattle.eos_base.specs.Members.{is_found}
use Rattle.eos_notes.specs.ManifestNotes.{absent_topic}
use Rattle.eos_notes.proofs.manifest.push_absent_among.Given as goal

abbrev pub invariant-loop-topic : goal.invariant-loop-topic
invariant-loop-topic l = l.all.items ≡ l.fn.all.items ++ flat_map (absent_topic (is_found (slice_cmp nat_cmp) l.present) l.group) (take l.topic-index l.topics)
