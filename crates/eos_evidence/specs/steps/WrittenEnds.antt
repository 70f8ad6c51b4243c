-- What a written manifest holds of the ends.
use Rattle.std.specs.Prelude.{◌≡◌, List, codes, Some, IsPermutation}
use Rattle.serde_json.specs.Data.{Members, no_members, member, object, members_depth}
use Rattle.eos_evidence.specs.declared.ends.End.{End}
use Rattle.eos_evidence.specs.Manifest.{ends_of}

-- the members are these ends, in the order of the members' names
pub record HoldsEnds (ms : Members) (ends : List End) : Type 0 where
  pub given : List End
  pub given_is : ends_of ms ≡ Some given
  pub shuffled : IsPermutation ends given
  pub flat : members_depth ms ≡ 0

-- the one member that both versions have
abbrev pub only_ends : Members → Members
only_ends ends = member (codes "ends") (object ends) no_members

pub record HasEnds (ms : Members) (ends : List End) : Type 0 where
  pub inner : Members
  pub inner_is : ms ≡ only_ends inner
  pub holds : HoldsEnds inner ends
