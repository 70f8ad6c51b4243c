-- What a run made, with the mistakes that the words say.
use Rattle.std.proofs.Common.{◌≡◌, ℕ, List, Option, map}
use Rattle.eos_disk.specs.Entries.{Entry}
use Rattle.eos_evidence.specs.Evidence.{EvidenceParts}
use Rattle.eos_words.specs.declared.request.Simulation.{Simulation}
use Rattle.eos_simulate.specs.declared.mistake.Mistake.{Mistake}
use Rattle.eos_simulate.specs.CollectedRuns.{IsCollectedAs}
use Rattle.eos_simulate.specs.Folders.{Texts, IsRun, IsRunBy}
use Rattle.eos_simulate.specs.MistakeTexts.{mistake_word}

pub collected_run : (words : Simulation) (holds : List ℕ → Entry) (left rest : Option (List ℕ)) (run e : EvidenceParts) (said texts : Texts) (ms : List Mistake)
    → map mistake_word ms ≡ map (λ w. w.now) words.mistakes.items → IsRunBy words.schedule words holds left rest run said → IsCollectedAs ms run said e texts → IsRun words holds left rest e texts
collected_run words holds left rest run e said texts ms say is collected = record {
  evidence = run;
  said = said;
  run = is;
  mistakes = ms;
  words_say = say;
  collected = collected;
}
