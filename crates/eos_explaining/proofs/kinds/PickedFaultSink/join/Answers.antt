use Rattle.std.proofs.Common.{◌≡◌, ◌<◌, ◌≤◌, ◌+◌, ◌∙◌, [], true, length, map, refl, arith, rules}
use Rattle.eos_verdict.specs.declared.verdict.Verdict.TheVariants.{No}
use Rattle.eos_explaining.proofs.PickedFaults.{held_apart}
use Rattle.eos_explaining.proofs.kinds.PickedFaultSink.join.Goals as goal

pub returns-clause-taken : goal.returns-clause-taken
returns-clause-taken c = λ yes begun list begins took.
    let self = c.args.self.now in
    let apart : c.is_apart.result ≡ true = search rules in
    let more = took.picked [] begins in
    record {
      pick = refl;
      picked = λ told h.
          let all = h.counts.all in
          let count = more.counts.all in
          let before : length told < self.pick.from → length told + length (map No list) ≤ self.pick.from
          = λ lt. let k = c.is_apart.ensures.before apart (omega (arith, all, lt)) in omega (arith, all, count, k) in
          let behind : self.pick.from ≤ length told → self.pick.from + self.pick.most ≤ length told
          = λ le. let k = c.is_apart.ensures.behind apart (omega (arith, all, le)) in omega (arith, all, k) in
          record {
            counts = c.in_ok-joined.ensures told (map No list) h.counts more.counts;
            held = h.held ∙ held_apart self.pick.from self.pick.most told (map No list) before behind;
          };
    }
