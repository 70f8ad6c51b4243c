-- The recipe of a folder of a swarm: what the words of the command line leave open is drawn, by the seed alone, and what they give stays.
-- Source: Groce, Zhang, Eide, Chen, Regehr, "Swarm testing": each test leaves many features out, drawn anew.
use Rattle.std.specs.Prelude.{ℕ, ◌+◌, ◌*◌, ◌/◌, ◌%◌, min, max, Bool, false, ◌||◌, ◌&&◌, not, List, vec_len, get_or, slice_index_or, Option, None, Some, is_some, is_none, nat_le, ◌==◌, if◌then◌else◌}
use Rattle.eos_words.specs.declared.request.Simulation.{Simulation}
use Rattle.eos_words.specs.declared.request.Sizes.{Sizes}
use Rattle.eos_words.specs.declared.request.Thousandths.{Thousandths}
use Rattle.eos_machine.specs.declared.config.Config.{Config}
use Rattle.eos_machine.specs.declared.switches.Switch.{Switch}
use Rattle.eos_machine.specs.declared.switches.Switch.TheVariants.{KeepDuplicates}
use Rattle.eos_drive.specs.Mishaps.{is_chained}
use Rattle.eos_drive.specs.Rates.{sum_of}
use Rattle.eos_drive.specs.Words.{words_from, on_stream}
use Rattle.eos_drive.specs.declared.mishap.ChosenMishap.{ChosenMishap}
use Rattle.eos_drive.specs.declared.mishap.Input.{Input}
use Rattle.eos_drive.specs.declared.mishap.Mishap.{Mishap}
use Rattle.eos_drive.specs.declared.mishap.Mishap.TheVariants.{LostOutput}
use Rattle.eos_drive.specs.declared.mishap.TheConstants.{MISHAPS}
use Rattle.eos_simulate.specs.declared.course.TheConstants.{SWITCHES}
use Rattle.eos_simulate.specs.declared.swarm.Drawn.{Drawn}
use Rattle.eos_simulate.specs.declared.swarm.Rules.{Rules}
use Rattle.eos_simulate.specs.Settings.{config_said, rates_said, can_bite}

unfoldable pub draw_count : ℕ
draw_count = 24

-- the words that a seed draws: those of the generator of the scripts, on a stream of their own
abbrev pub draws_of : ℕ → List ℕ
draws_of seed = words_from draw_count (on_stream seed 21)

-- the draw of this number
abbrev pub word_at : List ℕ → ℕ → ℕ
word_at ws n = slice_index_or ws n 0

abbrev pub events_said : Simulation → ℕ
events_said words = min words.events 1000000

-- ---- sizes and rates

-- one of the first few from the least on in half of the folders, of many in the others
unfoldable pub size_drawn : Option ℕ → ℕ → ℕ → ℕ → ℕ → Option ℕ
size_drawn given word least few many =
    if is_some given then given else Some (least + word / 2 % (if word % 2 == 0 then few else many))

-- where a switch is given, two applications and two partitions of `out` at the least; a long script has large segments
unfoldable pub sizes_drawn : Simulation → List ℕ → Sizes
sizes_drawn words ws =
    let given = words.sizes in
    let least = if vec_len words.switches == 0 then 1 else 2 in
    record {
      applications = size_drawn given.applications (word_at ws 0) least 3 7;
      inputs = size_drawn given.inputs (word_at ws 1) 1 4 16;
      outputs = size_drawn given.outputs (word_at ws 2) least 3 15;
      transaction_logs = size_drawn given.transaction_logs (word_at ws 3) 1 1 4;
      segment_records = size_drawn given.segment_records (word_at ws 4) (1 + events_said words / 8192) 16 64;
      batch_records = size_drawn given.batch_records (word_at ws 5) 1 1 16;
      chain = given.chain || (word_at ws 6 % 3 == 0);
    }

-- at most 100 thousandths in a quarter of the folders
unfoldable pub rate_drawn : Option ℕ → ℕ → Option ℕ
rate_drawn given word = if is_none given && (word % 4 == 0) then Some (word / 4 % 101) else given

unfoldable pub each_rate_drawn : Thousandths → List ℕ → Thousandths
each_rate_drawn given ws = record {
  lose = rate_drawn given.lose (word_at ws 7);
  repeat = rate_drawn given.repeat (word_at ws 8);
  abandon = rate_drawn given.abandon (word_at ws 9);
  members = rate_drawn given.members (word_at ws 10);
  restart_broker = rate_drawn given.restart_broker (word_at ws 11);
  restart_coordinator = rate_drawn given.restart_coordinator (word_at ws 12);
  abort = rate_drawn given.abort (word_at ws 13);
  time_out = given.time_out;
  add_partition = given.add_partition;
  late_complete = given.late_complete;
  elect = rate_drawn given.elect (word_at ws 22);
}

-- only rates that fit are drawn
unfoldable pub rates_drawn : Thousandths → List ℕ → Thousandths
rates_drawn given ws =
    let each = each_rate_drawn given ws in
    if nat_le (sum_of (rates_said each)) 32000 then each else given

-- ---- switches

-- only a switch that can bite is drawn
unfoldable pub rule_if : Config → ℕ → Option Switch
rule_if c number =
    let rule = get_or SWITCHES (number % 7) KeepDuplicates in
    if can_bite c rule then Some rule else None

-- one in half of the folders, and in an eighth of these another one too
unfoldable pub rules_drawn : Simulation → Config → List ℕ → Rules
rules_drawn words c ws =
    if not (vec_len words.switches == 0) || (word_at ws 14 % 2 == 0) then record { first = None; second = None }
    else record {
      first = rule_if c (word_at ws 15);
      second = if word_at ws 16 % 8 == 0 then rule_if c (word_at ws 15 + 1 + word_at ws 17 % 6) else None;
    }

unfoldable pub has_rules : Simulation → Rules → Bool
has_rules words rules = not (vec_len words.switches == 0) || (is_some rules.first || is_some rules.second)

-- inside the script in three quarters of the folders; always where the run stops after it
unfoldable pub turning_drawn : Simulation → Rules → ℕ → Option ℕ
turning_drawn words rules word =
    if is_none words.switch_at && (has_rules words rules && (words.stop_anywhere || not (word % 4 == 0)))
    then Some (word / 4 % (events_said words + 1)) else words.switch_at

unfoldable pub tail_drawn : Bool → Option ℕ → ℕ → Bool
tail_drawn given switch_at word = given || (is_some switch_at && (word % 2 == 0))

-- ---- mishaps

-- at an input with two outputs, in half of the folders
unfoldable pub input_drawn : Simulation → ℕ → Mishap → ℕ → Option Input
input_drawn words inputs mishap word =
    if is_chained mishap || (word % 2 == 0) then None
    else Some (record { source = word / 2 % inputs; offset = word / 64 % (1 + events_said words / 64 / inputs) * 3 + 2 })

-- one in a third of the folders
unfoldable pub mishap_drawn : Simulation → Sizes → ℕ → ℕ → Option ChosenMishap
mishap_drawn words sizes which place =
    let mishap = get_or MISHAPS (which / 3 % (if sizes.chain then 10 else 9)) LostOutput in
    if not (vec_len words.mishaps == 0) || not (which % 3 == 0) then None
    else Some (record { mishap = mishap; at = input_drawn words (max (config_said sizes).inputs 1) mishap place })

-- an unclean election in an eighth of the folders
unfoldable pub unclean_drawn : Simulation → ℕ → Bool
unclean_drawn words word = (vec_len words.mishaps == 0) && (word % 8 == 0)

-- ---- all of it

unfoldable pub drawn_by : Simulation → List ℕ → Drawn
drawn_by words ws =
    let sizes = sizes_drawn words ws in
    let rules = rules_drawn words (config_said sizes) ws in
    let switch_at = turning_drawn words rules (word_at ws 18) in
    record {
      sizes = sizes;
      rates = rates_drawn words.rates ws;
      rules = rules;
      switch_at = switch_at;
      no_tail = tail_drawn words.no_tail switch_at (word_at ws 19);
      mishap = mishap_drawn words sizes (word_at ws 20) (word_at ws 21);
      unclean = unclean_drawn words (word_at ws 23);
    }

-- without a swarm what the words give is all
unfoldable pub given_by : Simulation → Drawn
given_by words = record {
  sizes = words.sizes;
  rates = words.rates;
  rules = record { first = None; second = None };
  switch_at = words.switch_at;
  no_tail = words.no_tail;
  mishap = None;
  unclean = false;
}
