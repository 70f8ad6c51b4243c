-- The tables in which claims and inputs are looked up.
use Rattle.std.specs.Prelude.{ℕ, ◌-◌, ℤ, pos, Bool, false, ◌&&◌, not, nat_lt, List, Option, Some, None, if◌then◌else◌, int_lt, unsigned_abs}
use Rattle.std.specs.List.{list_any}
use Rattle.std.specs.Option.{option_to_list}
use Rattle.std.specs.Ordering.{nat_cmp, int_cmp, is_eq, then_cmp, on}
use Rattle.std.specs.Cmp.Lexicographic.{slice_cmp}
use Rattle.std.specs.declared.cmp.Ordering.{Ordering}
use Rattle.eos_base.specs.declared.partition_name.PartitionName.{PartitionName}
use Rattle.eos_claims.specs.declared.place.Place.{Place}
use Rattle.eos_claims.specs.Outputs.{Writer, Commit}
use Rattle.eos_lineage.specs.declared.passes.Pass.{Pass}
use Rattle.eos_lineage.specs.declared.passes.PassKey.{PassKey}

-- ---- what transactions passed

-- a transaction, and a partition
pub record PassedKey : Type 0 where
  pub producer : ℤ
  pub epoch : ℤ
  pub topic : List ℕ
  pub partition : ℤ

-- the transaction committed past the record at the offset `last`
pub record Passed : Type 0 where
  pub key : PassedKey
  pub last : ℕ

abbrev pub plain_key : PassKey → PassedKey
plain_key k = record { producer = k.producer; epoch = k.epoch; topic = k.topic.now; partition = k.partition }

abbrev pub plain_pass : Pass → Passed
plain_pass p = record { key = plain_key p.key; last = p.last }

abbrev pub key_cmp : PassedKey → PassedKey → Ordering
key_cmp = then_cmp (on (λ k. k.producer) int_cmp) (then_cmp (on (λ k. k.epoch) int_cmp) (then_cmp (on (λ k. k.topic) (slice_cmp nat_cmp)) (on (λ k. k.partition) int_cmp)))

abbrev pub passed_cmp : Passed → Passed → Ordering
passed_cmp = then_cmp (on (λ p. p.key) key_cmp) (on (λ p. p.last) nat_cmp)

abbrev pub by_pass : Pass → Pass → Ordering
by_pass a b = passed_cmp (plain_pass a) (plain_pass b)

-- the last offset below a committed one, if there is one
abbrev pub last_below : ℤ → Option ℕ
last_below z = if int_lt (pos 0) z then Some (unsigned_abs z - 1) else None

abbrev pub key_of : Writer → PartitionName → PassedKey
key_of w n = record { producer = w.0; epoch = w.1; topic = n.topic; partition = n.partition }

abbrev pub pass_with : Writer → PartitionName → Option ℕ → Option Passed
pass_with w n None = None
pass_with w n (Some last) = Some (record { key = key_of w n; last = last })

abbrev pub pass_by : Option Writer → Commit → Option Passed
pass_by None m = None
pass_by (Some w) m = pass_with w m.partition (last_below m.offset)

-- none where the commit is of no transaction, or commits offset 0
abbrev pub pass_of : Commit → Option Passed
pass_of m = pass_by m.writer m

abbrev pub passes_of : Commit → List Passed
passes_of m = option_to_list (pass_of m)

-- of one transaction and partition, and at least as far
abbrev pub reaches : Passed → Passed → Bool
reaches k p = is_eq (key_cmp p.key k.key) && not (nat_lt p.last k.last)

abbrev pub is_reached : List Passed → Option Writer → Place → Bool
is_reached ps None i = false
is_reached ps (Some w) i = list_any (reaches (record { key = key_of w i.partition; last = i.offset })) ps
