-- The words of a script: those of the generator PCG XSH RR 64/32 (O'Neill, "PCG: a family of simple fast space-efficient
-- statistically good algorithms for random number generation"), seeded by a number as `rand_core` does.
use Rattle.std.specs.Prelude.{ℕ, zero, suc, List, [], ◌∷◌}
use Rattle.rand_core.specs.Pcg32Seed.{pcg32_seed}
use Rattle.rand_pcg.specs.Lcg.{Lcg, increment_of}
use Rattle.rand_pcg.specs.Pcg.{pcg32, pcg32_of_seed}

-- the generator of a seed: its state and its stream are 16 bytes that the seed gives
abbrev pub seeded : ℕ → Lcg
seeded seed = pcg32_of_seed (pcg32_seed 16 seed)

-- the generator of a seed's state on a stream of its own
abbrev pub on_stream : ℕ → ℕ → Lcg
on_stream seed stream = record { state = (seeded seed).state; increment = increment_of 64 stream }

-- the next words of a generator
abbrev pub words_from : ℕ → Lcg → List ℕ
words_from zero g = []
words_from (suc n) g = (pcg32 g).0 ∷ words_from n (pcg32 g).1
