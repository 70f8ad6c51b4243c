-- What fits, as tests.
use Rattle.std.specs.Prelude.{ℕ, ◌+◌, ◌^◌, length, List, Bool, ◌&&◌, nat_lt, nat_le}
use Rattle.std.specs.List.{list_all}
use Rattle.eos_machine.specs.declared.config.Config.{Config}
use Rattle.eos_machine.specs.declared.item.Item.{Item}
use Rattle.eos_machine.specs.declared.item.Item.TheVariants.{Fed, State, Output, Offset, Marker}
use Rattle.eos_machine.specs.LogIndexes.{application_count, log_count}
use Rattle.eos_machine.specs.Sessions.{claimed_topic}

abbrev pub are_all_there : Config → List ℕ → Bool
are_all_there c ps = list_all (λ p. nat_lt p (log_count c)) ps && nat_le (length ps) (log_count c)

abbrev pub is_fit : Config → Item → Bool
is_fit c (Fed n) = nat_lt n (2 ^ 63)
is_fit c (State a x n) = nat_lt a (application_count c) && nat_lt x.epoch (2 ^ 15) && are_all_there c x.partitions && nat_lt n (2 ^ 63)
is_fit c (Output a e s x v n) = nat_lt a (application_count c) && nat_lt e (2 ^ 15) && nat_lt s (2 ^ 31) && nat_le (length (claimed_topic x)) 249 && nat_lt v (2 ^ 63) && nat_lt n (2 ^ 63)
is_fit c (Offset a e q v n) = nat_lt a (application_count c) && nat_lt e (2 ^ 15) && nat_lt q (c.inputs + c.outputs) && nat_lt n (2 ^ 63)
is_fit c (Marker a e k n) = nat_lt a (application_count c) && nat_lt e (2 ^ 15) && nat_lt n (2 ^ 63)
