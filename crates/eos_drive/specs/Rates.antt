-- How often a script's words say what: rates in thousandths of the words, where a rate that isn't chosen is today's.
use Rattle.std.specs.Prelude.{ℕ, ◌+◌, ◌*◌, Option, Some, None}
use Rattle.eos_drive.specs.declared.rates.Rates.{Rates}

-- of 32,000 words how many say it: a thousandth is 32 of them
abbrev pub share_of : Option ℕ → ℕ → ℕ
share_of (Some rate) today = 32 * rate
share_of None today = today

-- today's: none is chosen
abbrev pub today : Rates
today = record {
  lose = None;
  repeat = None;
  abandon = None;
  members = None;
  restart_broker = None;
  restart_coordinator = None;
  abort = None;
  time_out = None;
  add_partition = None;
  late_complete = None;
  elect = None;
}

-- of 32,000 words how many say one of these
abbrev pub sum_of : Rates → ℕ
sum_of r = share_of r.lose 500 + share_of r.repeat 2000 + share_of r.abandon 250 + share_of r.members 125
    + share_of r.restart_broker 250 + share_of r.restart_coordinator 375 + share_of r.abort 1000 + share_of r.time_out 0 + share_of r.add_partition 0
    + share_of r.late_complete 0 + share_of r.elect 0
