use Rattle.std.proofs.Common.{◌≡◌, ◌++◌, drop}
use Rattle.eos_claims.specs.Headers.{values_of}
use Rattle.eos_story.proofs.headers.values_under.Given as goal

-- the values that were seen, and those under the headers that are left
abbrev pub invariant-loop-header : goal.invariant-loop-header
invariant-loop-header l = l.values ++ values_of l.key (drop l.header-index l.headers) ≡ values_of l.key l.headers
