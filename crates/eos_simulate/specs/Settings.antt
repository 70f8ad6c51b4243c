-- What the words of the command line ask of a simulated cluster.
use Rattle.std.specs.Prelude.{ℕ, List, Bool, true, Option, min, nat_le, count_by, codes, option_map, unwrap_or, bytes_eq}
use Rattle.std.specs.Borrow.{Bor}
use Rattle.std.specs.List.{list_any}
use Rattle.eos_words.specs.declared.request.Sizes.{Sizes}
use Rattle.eos_words.specs.declared.request.Thousandths.{Thousandths}
use Rattle.eos_machine.specs.declared.config.Config.{Config}
use Rattle.eos_machine.specs.declared.switches.Switch.{Switch}
use Rattle.eos_machine.specs.declared.switches.Switch.TheVariants.{KeepDuplicates, NoFence, NoBump, LoseMarker, SwapMarker, HideListing, IgnoreGeneration}
use Rattle.eos_machine.specs.declared.switches.Switches.{Switches}
use Rattle.eos_machine.specs.Switching.{switch_name}
use Rattle.eos_drive.specs.declared.rates.Rates.{Rates}

-- sizes that aren't said are two of everything, one transaction log, sixteen records a segment, one a batch
abbrev pub config_said : Sizes → Config
config_said s = record {
  applications = unwrap_or s.applications 2;
  inputs = unwrap_or s.inputs 2;
  outputs = unwrap_or s.outputs 2;
  transaction_logs = unwrap_or s.transaction_logs 1;
  segment_records = unwrap_or s.segment_records 16;
  batch_records = unwrap_or s.batch_records 1;
  chain = s.chain;
}

abbrev pub rate_said : Option ℕ → Option ℕ
rate_said chosen = option_map (λ rate. min rate 1000) chosen

abbrev pub rates_said : Thousandths → Rates
rates_said r = record {
  lose = rate_said r.lose;
  repeat = rate_said r.repeat;
  abandon = rate_said r.abandon;
  members = rate_said r.members;
  restart_broker = rate_said r.restart_broker;
  restart_coordinator = rate_said r.restart_coordinator;
  abort = rate_said r.abort;
  time_out = rate_said r.time_out;
  add_partition = rate_said r.add_partition;
  late_complete = rate_said r.late_complete;
  elect = rate_said r.elect;
}

-- a cluster of these sizes has something in which this rule is broken
abbrev pub can_bite : Config → Switch → Bool
can_bite c KeepDuplicates = true
can_bite c NoFence = true
can_bite c NoBump = true
can_bite c LoseMarker = true
can_bite c SwapMarker = nat_le 2 c.outputs
can_bite c HideListing = nat_le 2 c.outputs
can_bite c IgnoreGeneration = nat_le 2 c.applications

-- one of these words is the switch's name
abbrev pub is_named : List (Bor (List ℕ)) → Switch → Bool
is_named names switch = list_any (λ name. bytes_eq name.now (switch_name switch)) names

abbrev pub switches_said : List (Bor (List ℕ)) → Switches
switches_said names = record {
  keep_duplicates = is_named names KeepDuplicates;
  no_fence = is_named names NoFence;
  no_bump = is_named names NoBump;
  lose_marker = is_named names LoseMarker;
  swap_marker = is_named names SwapMarker;
  hide_listing = is_named names HideListing;
  ignore_generation = is_named names IgnoreGeneration;
}

-- so many of these words say that a leader is lost whose followers lack its last records
abbrev pub unclean_said : List (Bor (List ℕ)) → ℕ
unclean_said mishaps = count_by (λ word. bytes_eq word.now (codes "unclean-election")) mishaps
