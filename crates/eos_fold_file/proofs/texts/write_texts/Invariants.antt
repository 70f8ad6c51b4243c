use Rattle.std.proofs.Common.{◌≡◌, ℕ, ◌<◌, ◌++◌, [], drop, get_or}
use Rattle.eos_fold_file.specs.Records.{FoldText}
use Rattle.eos_fold_file.specs.Legal.{IsLegalText}
use Rattle.eos_fold_file.specs.Texts.{key_values_text}
use Rattle.eos_fold_file.proofs.texts.write_texts.Given as goal

abbrev pub invariant-loop-i : goal.invariant-loop-i
invariant-loop-i l = record {
  text : l.out.items ++ key_values_text l.key l.value (drop l.i l.texts) ≡ l.fn.out.items ++ key_values_text [] [] l.texts;
  fit : (k : ℕ) (d : FoldText) → k < l.i → IsLegalText (get_or l.texts k d);
}
