-- How large the numbers of a cluster are after so many events: its epochs fit 16 bits and its sequences 32.
use Rattle.std.specs.Prelude.{ℕ, ◌+◌, ◌^◌, ◌≤◌, ◌<◌, ⊤}
use Rattle.std.specs.List.{All}
use Rattle.eos_machine.specs.World.{World, Status, Empty, Ongoing, Prepare, Complete, Item, Fed, State, Output, Offset, Marker, Session, Message}
use Rattle.eos_machine.specs.declared.state.Message.TheVariants as messages
use Rattle.eos_machine.specs.Sessions.{last_epoch}

-- a transaction is open at an epoch that leaves one for its end
abbrev pub Limit : Status → ℕ → Type 0
Limit Empty e = e ≤ last_epoch
Limit Ongoing e = e ≤ last_epoch
Limit (Prepare k) e = e ≤ last_epoch + 1
Limit (Complete k) e = e ≤ last_epoch + 1

abbrev pub IsWithin : ℕ → Item → Type 0
IsWithin n (Fed m) = ⊤
IsWithin n (State a x m) = Limit x.status x.epoch
IsWithin n (Output a e s x v m) = (e ≤ last_epoch) × (s < n)
IsWithin n (Offset a e q v m) = e ≤ last_epoch
IsWithin n (Marker a e k m) = e ≤ last_epoch + 1

abbrev pub IsSent : ℕ → Message → Type 0
IsSent n (messages.Output a e p s x v) = (e ≤ last_epoch) × (s < n)
IsSent n (messages.Offset a e g q v) = e ≤ last_epoch
IsSent n (messages.End a e k) = e ≤ last_epoch
IsSent n (messages.Marker a e k p) = e ≤ last_epoch + 1

abbrev pub IsSafe : ℕ → Session → Type 0
IsSafe n s = (s.epoch ≤ last_epoch) × All (λ q. q ≤ n) s.sequences

pub record Bounded (n : ℕ) (w : World) : Type 0 where
  pub coordinators : All (λ s. Limit s.status s.epoch) w.coordinators
  pub logs : All (All (IsWithin n)) w.logs
  pub messages : All (IsSent n) w.messages
  pub sessions : All (IsSafe n) w.sessions
  pub generations : All (λ g. g ≤ n) w.generations
  pub elections : All (λ x. x.leader_epoch < 2 ^ 16) w.elections
