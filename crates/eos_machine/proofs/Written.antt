-- What an application writes and reads is there.
use Rattle.std.proofs.Common.{◌≡◌, ℕ, ◌+◌, ◌<◌, ◌≤◌, ◌==◌, ◌&&◌, Bool, true, false, Option, Some, None, arith, if◌then◌else◌}
use Rattle.std.specs.Prelude.{nat_le, nat_lt}
use Rattle.std.proofs.lemmas.Bool.{and_parts}
use Rattle.eos_machine.specs.LogIndexes.{Config, IsConfig, application_count, final_count, is_chained, is_source, final_index, output_index, log_count, written_index, is_target, target_index}
use Rattle.eos_machine.proofs.Brokers.{is_lt}

-- a partition that an application writes comes after the internal ones
pub written_after : (c : Config) (a p : ℕ) → c.transaction_logs < written_index c a p
written_after c a p = by (is_chained c a)
  where
    by : (t : Bool) → c.transaction_logs < (if t then final_index c p else output_index c p)
    by true = omega arith
    by false = omega arith

pub written_there : (c : Config) (a p : ℕ) → p < c.outputs → written_index c a p < log_count c
written_there c a p l = by c.chain (a == c.applications)
  where
    by : (t u : Bool) → (if t && u then 1 + c.transaction_logs + p else 1 + c.transaction_logs + (if t then c.outputs else 0) + c.inputs + p)
        < 1 + c.transaction_logs + (if t then c.outputs else 0) + c.inputs + c.outputs
    by true true = omega (arith, l)
    by true false = omega (arith, l)
    by false u = omega (arith, l)

pub target_there : (c : Config) (a : ℕ) (p : Option ℕ) → is_target c p ≡ true → target_index c a p < log_count c
target_there c a None h = omega arith
target_there c a (Some p) h = written_there c a p (is_lt p c.outputs h)

pub source_there : (c : Config) (a q : ℕ) → is_source c a q ≡ true → q < c.inputs + c.outputs
source_there c a q h = by (is_chained c a) h
  where
    by : (t : Bool) → (if t then nat_le c.inputs q && nat_lt q (c.inputs + c.outputs) else nat_lt q c.inputs) ≡ true → q < c.inputs + c.outputs
    by true e = is_lt q (c.inputs + c.outputs) (and_parts (nat_le c.inputs q) (nat_lt q (c.inputs + c.outputs)) e).1
    by false e = let l = is_lt q c.inputs e in omega (arith, l)

-- both groups have so many applications, and `fin` so many partitions
pub few_applications : (c : Config) → IsConfig c → application_count c ≤ 9
few_applications c i = by c.chain
  where
    by : (t : Bool) → (if t then c.applications + 1 else c.applications) ≤ 9
    by true = let m = i.applications.1 in omega (arith, m)
    by false = let m = i.applications.1 in omega (arith, m)

pub few_finals : (c : Config) → IsConfig c → final_count c ≤ 16
few_finals c i = by c.chain
  where
    by : (t : Bool) → (if t then c.outputs else 0) ≤ 16
    by true = i.outputs.1
    by false = omega arith
