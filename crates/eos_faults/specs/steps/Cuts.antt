-- Which offsets of a partition are in a range of sources.
use Rattle.std.specs.Prelude.{◌≡◌, ◌&&◌, ℕ, nat_le, nat_lt, Bool, true, false, Option, Some, None, IfSome}
use Rattle.std.specs.Ordering.{int_eq, is_eq}
use Rattle.eos_base.specs.declared.partition_name.PartitionName.{PartitionName}
use Rattle.eos_base.specs.PartitionNames.{name_cmp}
use Rattle.eos_claims.specs.declared.place.Place.{Place}
use Rattle.eos_faults.specs.declared.cuts.Cut.{Cut}
use Rattle.eos_faults.specs.declared.cuts.Near.{Near}
use Rattle.eos_faults.specs.declared.cuts.Span.{Span}
use Rattle.eos_faults.specs.declared.ranges.Range.{Range}
use Rattle.eos_faults.specs.steps.Plain.{name_at}
use Rattle.eos_faults.specs.steps.Ranges.{is_within}

abbrev pub is_from : Option ℕ → ℕ → Bool
is_from None o = false
is_from (Some from) o = nat_le from o

abbrev pub is_before : Option ℕ → ℕ → Bool
is_before None o = true
is_before (Some below) o = nat_lt o below

abbrev pub is_cut : Cut → ℕ → Bool
is_cut c o = is_from c.from o && is_before c.below o

abbrev pub spot : PartitionName → ℕ → Place
spot n o = record { partition = n; offset = o }

-- these are the offsets of a partition that are of these places
abbrev pub IsCutOf : (Place → Bool) → PartitionName → Cut → Type 0
IsCutOf within n c = (o : ℕ) → within (spot n o) ≡ is_cut c o

-- of a span: its number and offsets, and then its whole name
abbrev pub is_in_span : Span → Place → Bool
is_in_span s p = int_eq p.partition.partition s.partition.partition && (nat_le s.from p.offset && (nat_lt p.offset s.below && is_eq (name_cmp p.partition (name_at s.partition))))

abbrev pub IsSpanOf : Range → Span → Type 0
IsSpanOf r s = (p : Place) → is_within r p ≡ is_in_span s p

pub record IsNear (r : Range) (near : Near) : Type 0 where
  pub span : IfSome near.span (IsSpanOf r)
  pub cut : IsCutOf (is_within r) (name_at near.partition) near.cut
