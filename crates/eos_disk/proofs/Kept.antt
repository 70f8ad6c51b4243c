-- What is kept where an entry stays but for names.
use Rattle.std.proofs.Common.{◌≡◌, ◌≢◌, ℕ, List, refl, sym, subst, bytes_eq, true, false, Bool}
use Rattle.std.proofs.lemmas.Slice.Eq.{bytes_eq-Decides}
use Rattle.std.proofs.lemmas.Bool.Decides.{not_from_Decides}
use Rattle.eos_disk.specs.Entries.{Entry, Unknown, Absent, File, Folder, IsKnown, HasBytes, MayBeAbsent}
use Rattle.eos_disk.specs.Changes.{bare, SameKnown}

bytes_to_bare : (e : Entry) (x : List ℕ) → HasBytes e x → HasBytes (bare e) x
bytes_to_bare Unknown x h = tt
bytes_to_bare Absent x h = absurd h
bytes_to_bare (File b) x h = h
bytes_to_bare (Folder n) x h = absurd h

bytes_of_bare : (e : Entry) (x : List ℕ) → HasBytes (bare e) x → HasBytes e x
bytes_of_bare Unknown x h = tt
bytes_of_bare Absent x h = absurd h
bytes_of_bare (File b) x h = h
bytes_of_bare (Folder n) x h = absurd h

absent_to_bare : (e : Entry) → MayBeAbsent e → MayBeAbsent (bare e)
absent_to_bare Unknown h = tt
absent_to_bare Absent h = tt
absent_to_bare (File b) h = absurd h
absent_to_bare (Folder n) h = absurd h

absent_of_bare : (e : Entry) → MayBeAbsent (bare e) → MayBeAbsent e
absent_of_bare Unknown h = tt
absent_of_bare Absent h = tt
absent_of_bare (File b) h = absurd h
absent_of_bare (Folder n) h = absurd h

known_to_bare : (e : Entry) → IsKnown e → IsKnown (bare e)
known_to_bare Unknown h = absurd h
known_to_bare Absent h = tt
known_to_bare (File b) h = tt
known_to_bare (Folder n) h = tt

known_of_bare : (e : Entry) → IsKnown (bare e) → IsKnown e
known_of_bare Unknown h = absurd h
known_of_bare Absent h = tt
known_of_bare (File b) h = tt
known_of_bare (Folder n) h = tt

pub bytes_same : (a b : Entry) (x : List ℕ) → bare a ≡ bare b → HasBytes b x → HasBytes a x
bytes_same a b x e h = bytes_of_bare a x (subst (λ (c : Entry). HasBytes c x) (sym e) (bytes_to_bare b x h))

pub absent_same : (a b : Entry) → bare a ≡ bare b → MayBeAbsent b → MayBeAbsent a
absent_same a b e h = absent_of_bare a (subst (λ (c : Entry). MayBeAbsent c) (sym e) (absent_to_bare b h))

known_one : (a b : Entry) → bare a ≡ bare b → IsKnown b → IsKnown a
known_one a b e h = known_of_bare a (subst (λ (c : Entry). IsKnown c) (sym e) (known_to_bare b h))

pub known_same : (old new : Entry) → bare new ≡ bare old → SameKnown old new
known_same old new e = (known_one new old e, known_one old new (sym e))

pub known_trans : (a b c : Entry) → SameKnown a b → SameKnown b c → SameKnown a c
known_trans a b c p q = (λ k. q.0 (p.0 k), λ k. p.1 (q.1 k))

-- a file stands where it may be that nothing stands: nothing is known there
pub unknown_there : (old new : Entry) (x : List ℕ) → SameKnown old new → MayBeAbsent old → HasBytes old x → HasBytes new x
unknown_there Unknown Unknown x k h i = tt
unknown_there Unknown Absent x k h i = absurd (k.1 tt)
unknown_there Unknown (File c) x k h i = absurd (k.1 tt)
unknown_there Unknown (Folder c) x k h i = absurd (k.1 tt)
unknown_there Absent new x k h i = absurd i
unknown_there (File c) new x k h i = absurd h
unknown_there (Folder c) new x k h i = absurd h

-- two paths are one or not
pub by_path : (P : Type 0) (q path : List ℕ) → (q ≡ path → P) → (q ≢ path → P) → P
by_path P q path same apart = on (bytes_eq q path) refl where
  on : (b : Bool) → bytes_eq q path ≡ b → P
  on true e = same ((bytes_eq-Decides q path).0 e)
  on false e = apart (not_from_Decides (bytes_eq q path) (bytes_eq-Decides q path) e)
