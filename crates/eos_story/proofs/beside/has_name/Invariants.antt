use Rattle.std.proofs.Common.{◌≡◌, drop}
use Rattle.std.specs.List.{list_any}
use Rattle.eos_story.specs.Listings.{is_same_name}
use Rattle.eos_story.proofs.beside.has_name.Given as goal

abbrev pub invariant-loop-other : goal.invariant-loop-other
invariant-loop-other l = list_any (is_same_name l.name) l.names ≡ list_any (is_same_name l.name) (drop l.other-index l.names)
