-- The names of mishaps, as a program's words have them.
use Rattle.std.specs.Prelude.{ℕ, ◌==◌, Bool, true, false, List, codes}
use Rattle.std.specs.List.{before_first}
use Rattle.eos_drive.specs.declared.mishap.Mishap.{Mishap}
use Rattle.eos_drive.specs.declared.mishap.Mishap.TheVariants.{LostOutput, RepeatedOutput, EarlyOutput, WrongCount, WrongNumber, ForeignSource, OtherTransaction, NoHeaders, OffsetDeleted, AbortedInput}

abbrev pub mishap_name : Mishap → List ℕ
mishap_name LostOutput = codes "lost-output"
mishap_name RepeatedOutput = codes "repeated-output"
mishap_name EarlyOutput = codes "early-output"
mishap_name WrongCount = codes "wrong-count"
mishap_name WrongNumber = codes "wrong-number"
mishap_name ForeignSource = codes "foreign-source"
mishap_name OtherTransaction = codes "other-transaction"
mishap_name NoHeaders = codes "no-headers"
mishap_name OffsetDeleted = codes "offset-deleted"
mishap_name AbortedInput = codes "aborted-input"

-- a mistake of the second group
abbrev pub is_chained : Mishap → Bool
is_chained LostOutput = false
is_chained RepeatedOutput = false
is_chained EarlyOutput = false
is_chained WrongCount = false
is_chained WrongNumber = false
is_chained ForeignSource = false
is_chained OtherTransaction = false
is_chained NoHeaders = false
is_chained OffsetDeleted = false
is_chained AbortedInput = true

-- a word up to the first @, or all of it
abbrev pub name_in : List ℕ → List ℕ
name_in word = before_first (λ b. b == 64) word
