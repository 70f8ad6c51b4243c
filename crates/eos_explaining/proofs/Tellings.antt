-- What is told, answer by answer.
use Rattle.std.proofs.Common.{◌≡◌, ℕ, List, Option, None, Some, String, Global, inl, inr, refl, subst, string_bytes}
use Rattle.std.proofs.KnownBytes.{Keeps-refl}
use Rattle.std.specs.Io.KnownBytes.{Appends}
use Rattle.eos_evidence.specs.Evidence.{EvidenceParts}
use Rattle.eos_text.specs.Writing.{WritesFront}
use Rattle.eos_explaining.specs.declared.answer.Answer.{Answer}
use Rattle.eos_explaining.specs.declared.answer.Answer.TheVariants as answers
use Rattle.eos_explaining.specs.declared.folder.Explained.TheVariants as say
use Rattle.eos_explaining.specs.Explaining.{IsYes, IsTheStory, AreFewer}
use Rattle.eos_explaining.specs.Folders.{number_of, AreTooFew}
use Rattle.eos_explaining.specs.steps.Tellings.{IsAnswer, Tells, TellsFront}

-- ---- a yes

is_yes : (folder : List ℕ) (e : EvidenceParts) (number : ℕ) (answer : Answer) (line notes : String Global) → answer ≡ answers.Yes line notes → IsAnswer folder e number answer
    → IsYes e (string_bytes line) (string_bytes notes)
is_yes folder e number answer line notes is a = subst (IsAnswer folder e number) is a

none_of_yes : (e : EvidenceParts) (fault : Option ℕ) (number : ℕ) (line notes : List ℕ) → fault ≡ Some number → IsYes e line notes → AreTooFew e fault 0
none_of_yes e fault number line notes asked found = rw asked (inr (refl, found.counts, found.is))

pub yes_fewer : (fault : Option ℕ) (number : ℕ) (answer : Answer) (line notes : String Global) (old : Option (List ℕ)) → answer ≡ answers.Yes line notes → fault ≡ Some number
    → Tells fault answer old old (say.Fewer 0)
yes_fewer fault number answer line notes old is asked = record {
  of = λ folder e a.
      (none_of_yes e fault number (string_bytes line) (string_bytes notes) asked (is_yes folder e (number_of fault) answer line notes is a), Keeps-refl old);
}

pub yes_told : (fault : Option ℕ) (answer : Answer) (line notes : String Global) (old new : Option (List ℕ)) → answer ≡ answers.Yes line notes → fault ≡ None
    → Appends old new (string_bytes line) → Tells fault answer old new (say.Yes notes)
yes_told fault answer line notes old new is none written = record {
  of = λ folder e a. (none, string_bytes line, is_yes folder e (number_of fault) answer line notes is a, written);
}

pub yes_front : (fault : Option ℕ) (answer : Answer) (line notes : String Global) (old new : Option (List ℕ)) → answer ≡ answers.Yes line notes → fault ≡ None
    → WritesFront old new (string_bytes line) → TellsFront fault answer old new
yes_front fault answer line notes old new is none front = record {
  of = λ folder e a. inl (none, string_bytes line, string_bytes notes, is_yes folder e (number_of fault) answer line notes is a, front);
}

-- ---- a story

is_story : (folder : List ℕ) (e : EvidenceParts) (number : ℕ) (answer : Answer) (text : String Global) → answer ≡ answers.Story text → IsAnswer folder e number answer
    → IsTheStory folder e number (string_bytes text)
is_story folder e number answer text is a = subst (IsAnswer folder e number) is a

pub story_told : (fault : Option ℕ) (answer : Answer) (text : String Global) (old new : Option (List ℕ)) → answer ≡ answers.Story text → Appends old new (string_bytes text)
    → Tells fault answer old new say.Story
story_told fault answer text old new is written = record {
  of = λ folder e a. (string_bytes text, is_story folder e (number_of fault) answer text is a, written);
}

pub story_front : (fault : Option ℕ) (answer : Answer) (text : String Global) (old new : Option (List ℕ)) → answer ≡ answers.Story text → WritesFront old new (string_bytes text)
    → TellsFront fault answer old new
story_front fault answer text old new is front = record {
  of = λ folder e a. inr (string_bytes text, is_story folder e (number_of fault) answer text is a, front);
}

-- ---- fewer faults

too_few : (e : EvidenceParts) (fault : Option ℕ) (count : ℕ) → AreFewer e (number_of fault) count → AreTooFew e fault count
too_few e None count few = few
too_few e (Some number) count few = inl few

pub fewer_told : (fault : Option ℕ) (answer : Answer) (count : ℕ) (old : Option (List ℕ)) → answer ≡ answers.Fewer count → Tells fault answer old old (say.Fewer count)
fewer_told fault answer count old is = record {
  of = λ folder e a. (too_few e fault count (subst (IsAnswer folder e (number_of fault)) is a), Keeps-refl old);
}
