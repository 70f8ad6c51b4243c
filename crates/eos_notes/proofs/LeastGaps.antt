-- The least number of which a test holds, one number further.
use Rattle.std.proofs.Common.{◌≡◌, ℕ, suc, ◌+◌, ◌-◌, ◌<◌, Bool, false, subst, arith}
use Rattle.std.specs.Prelude.{Option}
use Rattle.eos_notes.specs.ManifestNotes.{least_from}

pub passed_over : (test : ℕ → Bool) (count n : ℕ) (found : Option ℕ) → n < count → test n ≡ false → least_from test (count - n) n ≡ found → least_from test (count - (n + 1)) (n + 1) ≡ found
passed_over test count n found lt misses e =
    let left : count - n ≡ suc (count - (n + 1)) = omega (arith, lt) in
    let next : suc n ≡ n + 1 = omega arith in
    let here : least_from test (suc (count - (n + 1))) n ≡ found = subst (λ k. least_from test k n ≡ found) left e in
    subst (λ m. least_from test (count - (n + 1)) m ≡ found) next (rw misses at here)
