-- What was read of a file that is named, or of the standard input.
use Rattle.std.proofs.Common.{◌≡◌, ℕ, List, Option, Bool, true, false, sym, subst}
use Rattle.std.specs.Io.KnownBytes.{Consumes, IsAtEnd}
use Rattle.eos_disk.specs.Entries.{Entry, HasBytes}
use Rattle.eos_disk.specs.GivenTexts.{is_standard, IsTextOf}

pub text_of_input : (holds : List ℕ → Entry) (path : List ℕ) (old new : Option (List ℕ)) (text : List ℕ) → is_standard path ≡ true → Consumes old new text → IsAtEnd new
    → IsTextOf (is_standard path) holds path old new text
text_of_input holds path old new text so taken end = subst (λ (b : Bool). IsTextOf b holds path old new text) (sym so) (taken, end)

pub text_of_file : (holds : List ℕ → Entry) (path own : List ℕ) (old new : Option (List ℕ)) (text : List ℕ) → is_standard path ≡ false → own ≡ path → HasBytes (holds own) text
    → IsTextOf (is_standard path) holds path old new text
text_of_file holds path own old new text not_so is h = subst (λ (b : Bool). IsTextOf b holds path old new text) (sym not_so) (subst (λ (p : List ℕ). HasBytes (holds p) text) is h)
