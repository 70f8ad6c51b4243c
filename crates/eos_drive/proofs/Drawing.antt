-- Words one more: what stands at the end, and the generator after them.
use Rattle.std.proofs.Common.{◌≡◌, ℕ, zero, suc, ◌+◌, [], ◌∷◌, ◌++◌, ap, refl, ◌∙◌}
use Rattle.std.proofs.Math.Numerals.{add-one}
use Rattle.rand_pcg.specs.Lcg.{Lcg}
use Rattle.rand_pcg.specs.Pcg.{pcg32}
use Rattle.eos_drive.specs.Words.{words_from}

-- the generator after so many words
abbrev pub after_words : ℕ → Lcg → Lcg
after_words zero g = g
after_words (suc n) g = after_words n (pcg32 g).1

words_suc : (n : ℕ) (g : Lcg) → words_from (suc n) g ≡ words_from n g ++ (pcg32 (after_words n g)).0 ∷ []
words_suc zero g = refl
words_suc (suc n) g = ap (λ ws. (pcg32 g).0 ∷ ws) (words_suc n (pcg32 g).1)

after_suc : (n : ℕ) (g : Lcg) → after_words (suc n) g ≡ (pcg32 (after_words n g)).1
after_suc zero g = refl
after_suc (suc n) g = after_suc n (pcg32 g).1

pub words_more : (n : ℕ) (g : Lcg) → words_from (n + 1) g ≡ words_from n g ++ (pcg32 (after_words n g)).0 ∷ []
words_more n g = ap (λ k. words_from k g) (add-one n) ∙ words_suc n g

pub after_more : (n : ℕ) (g : Lcg) → after_words (n + 1) g ≡ (pcg32 (after_words n g)).1
after_more n g = ap (λ k. after_words k g) (add-one n) ∙ after_suc n g
