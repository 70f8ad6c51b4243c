-- The steps of reading the records of Kafka's own logs, where each text takes the place of the last of its kind that isn't null.
use Rattle.std.specs.Prelude.{◌≡◌, ◌++◌, ◌∷◌, [], Bool, List, Option, Some, None, Result, Ok, Err, ℕ, if◌then◌else◌}
use Rattle.eos_fold_file.specs.declared.fault.FoldFault.{FoldFault}
use Rattle.eos_fold_file.specs.Faults.{Fails}
use Rattle.eos_fold_file.specs.Records.{FoldText}
use Rattle.eos_fold_file.specs.Texts.{last_text, key_value_from}

abbrev pub text_there : Bool → List ℕ → Option (List ℕ)
text_there some text = if some then Some text else None

-- what stands there now is what was joined, unless memory ran out
abbrev pub Becomes : {X : Type 0} → Result X FoldFault → List ℕ → Result (List ℕ) FoldFault → Type 0
Becomes (Ok x) text made = made ≡ Ok text
Becomes (Err e) text made = Fails e made

-- the text that stands there now, or null, and the bytes that are left are what reading gives, unless memory ran out
abbrev pub GivesText : Result Bool FoldFault → List ℕ → List ℕ → Result (Option (List ℕ) × List ℕ) FoldFault → Type 0
GivesText (Ok some) text rest read = read ≡ Ok (text_there some text, rest)
GivesText (Err e) text rest read = Fails e read

-- behind this key, this value and these texts a record was read: the key, the value, the bytes that are left and the texts now
pub record IsTextRead (key value bytes : List ℕ) (texts : List FoldText) (now : List ℕ × List ℕ × List ℕ × List FoldText) : Type 0 where
  pub text : FoldText
  pub reads : key_value_from key value bytes ≡ Ok (text, now.2)
  pub key_is : now.0 ≡ last_text key text.key
  pub value_is : now.1 ≡ last_text value text.value
  pub texts_are : now.3 ≡ texts ++ text ∷ []
