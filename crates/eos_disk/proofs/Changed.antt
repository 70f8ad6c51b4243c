-- One change more of a disk in memory.
use Rattle.std.proofs.Common.{◌≡◌, ◌≢◌, ℕ, List, [], ◌∷◌, ◌++◌, refl, sym, ap, ◌∙◌, subst, bytes_eq, true, false, Bool, string_bytes, if◌then◌else◌, Option, None, Some, IfSome, take, drop, append-nil, inl, inr}
use Rattle.std.specs.Bool.{⊤}
use Rattle.std.proofs.lemmas.Slice.Eq.{bytes_eq-Decides}
use Rattle.std.proofs.lemmas.List.{take-append-drop}
use Rattle.eos_disk.specs.Entries.{IsKnown, HasBytes, MayBeAbsent}
use Rattle.eos_disk.specs.declared.memory.Change.{Change}
use Rattle.eos_disk.specs.declared.memory.Standing.{Standing}
use Rattle.eos_disk.specs.declared.memory.Standing.TheVariants.{Nothing, Bytes, Folder}
use Rattle.eos_disk.specs.Memory.{standing_after, standing_in, is_there, names_in, entry_of, held_in}
use Rattle.eos_disk.specs.steps.Found.{bytes_of, IsSet}
use Rattle.eos_disk.specs.Changes.{bare, SameAll, SameBut, SameKnown, IsMade, AreMade, AreMadeTo, IsPut, IsPutInPart, IsMoved, IsRemoved, IsFolder, IsSameOrFolder}
use Rattle.eos_disk.proofs.Kept.{by_path}

one_more : (s : Standing) (cs : List Change) (c : Change) (path : List ℕ)
    → standing_after s (cs ++ c ∷ []) path ≡ (if bytes_eq (string_bytes c.path) path then c.what else standing_after s cs path)
one_more s [] c path = refl
one_more s (d ∷ cs) c path = one_more (if bytes_eq (string_bytes d.path) path then d.what else s) cs c path

this : (b : Bool) (s t : Standing) → b ≡ true → (if b then s else t) ≡ s
this b s t e = rw e refl

other : (b : Bool) (s t : Standing) → (b ≡ true → ⊥) → (if b then s else t) ≡ t
other true s t n = absurd (n refl)
other false s t n = refl

pub set_is : (old new : List Change) (c : Change) (path : List ℕ) → string_bytes c.path ≡ path → new ≡ old ++ c ∷ [] → IsSet old path c.what new
set_is old new c path p e = record {
  at = ap (λ (cs : List Change). standing_in cs path) e ∙ (one_more Nothing old c path ∙ this _ _ _ ((bytes_eq-Decides (string_bytes c.path) path).1 p));
  others = λ q n. ap (λ (cs : List Change). standing_in cs q) e ∙ (one_more Nothing old c q ∙ other _ _ _ (λ t. n (sym ((bytes_eq-Decides (string_bytes c.path) q).0 t) ∙ p)));
}

is_known : (s : Standing) (names : List (List ℕ)) → IsKnown (entry_of s names)
is_known Nothing names = tt
is_known (Bytes bytes) names = tt
is_known Folder names = tt

known_both : (old new : List Change) (q : List ℕ) → SameKnown (held_in old q) (held_in new q)
known_both old new q = (λ k. is_known (standing_in new q) (names_in new q), λ k. is_known (standing_in old q) (names_in old q))

-- what stands there but for names
bare_of : (s : Standing) (names more : List (List ℕ)) → bare (entry_of s names) ≡ bare (entry_of s more)
bare_of Nothing names more = refl
bare_of (Bytes bytes) names more = refl
bare_of Folder names more = refl

same_at : (old new : List Change) (q : List ℕ) → standing_in new q ≡ standing_in old q → bare (held_in new q) ≡ bare (held_in old q)
same_at old new q e = ap (λ (s : Standing). bare (entry_of s (names_in new q))) e ∙ bare_of (standing_in old q) (names_in new q) (names_in old q)

same_others : (old new : List Change) (path : List ℕ) (what : Standing) → IsSet old path what new → SameBut path (held_in old) (held_in new)
same_others old new path what set q n = same_at old new q (set.others q n)

abbrev Holds : Bool → Type 0
Holds true = ⊤
Holds false = ⊥

free_of : (s : Standing) (names : List (List ℕ)) → is_there s ≡ false → MayBeAbsent (entry_of s names)
free_of Nothing names e = tt
free_of (Bytes bytes) names e = subst (λ (b : Bool). Holds b) e tt
free_of Folder names e = subst (λ (b : Bool). Holds b) e tt

pub free : (old : List Change) (path : List ℕ) → is_there (standing_in old path) ≡ false → MayBeAbsent (held_in old path)
free old path e = free_of (standing_in old path) (names_in old path) e

pub put_is : (old new : List Change) (path bytes : List ℕ) → is_there (standing_in old path) ≡ false → IsSet old path (Bytes bytes) new
    → IsPut (held_in old) path bytes (held_in new)
put_is old new path bytes e set = record {
  fresh = free old path e;
  at = subst (λ (s : Standing). HasBytes (entry_of s (names_in new path)) bytes) (sym set.at) refl;
  known = known_both old new path;
  others = same_others old new path (Bytes bytes) set;
}

pub unchanged : (old new : List Change) → new ≡ old → SameAll (held_in old) (held_in new)
unchanged old new e q = ap (λ (cs : List Change). bare (held_in cs q)) e

pub half_is : (old new : List Change) (path bytes : List ℕ) (n : ℕ) → IsPut (held_in old) path (take n bytes) (held_in new) → IsPutInPart (held_in old) path bytes (held_in new)
half_is old new path bytes n put = inr (take n bytes, drop n bytes, sym (take-append-drop n bytes), put)

is_folder : (new : List Change) (path : List ℕ) → standing_in new path ≡ Folder → IsFolder (held_in new path)
is_folder new path e = subst (λ (s : Standing). IsFolder (entry_of s (names_in new path))) (sym e) tt

pub made_is : (old new : List Change) (path : List ℕ) → is_there (standing_in old path) ≡ false → IsSet old path Folder new
    → IsMade (held_in old) path (held_in new)
made_is old new path e set = record {
  fresh = free old path e;
  at = is_folder new path set.at;
  known = known_both old new path;
  others = same_others old new path Folder set;
}

-- where one of the fronts is made
front_made : (old new : List Change) (path q : List ℕ) → is_there (standing_in old path) ≡ false → IsSet old path Folder new → IsSameOrFolder (held_in old q) (held_in new q)
front_made old new path q e set = by_path (IsSameOrFolder (held_in old q) (held_in new q)) q path
    (λ (s : q ≡ path). inr (subst (λ (r : List ℕ). MayBeAbsent (held_in old r)) (sym s) (free old path e), subst (λ (r : List ℕ). IsFolder (held_in new r)) (sym s) (is_folder new path set.at)))
    (λ (n : q ≢ path). inl (same_others old new path Folder set q n))

pub made_to : (old new : List Change) (path : List ℕ) → is_there (standing_in old path) ≡ false → IsSet old path Folder new → AreMade (held_in old) path (held_in new)
made_to old new path e set = (
  is_folder new path set.at,
  record {
    fronts = λ q f. front_made old new path q e set;
    known = known_both old new;
    others = λ q n. same_others old new path Folder set q (λ s. n ([], sym s ∙ sym (append-nil q)));
  },
)

pub none_made : (old new : List Change) (path : List ℕ) → new ≡ old → AreMadeTo (held_in old) path (held_in new)
none_made old new path e = record { fronts = λ q f. inl (unchanged old new e q); known = known_both old new; others = λ q n. unchanged old new e q }

pub removed_is : (old new : List Change) (path : List ℕ) → IsSet old path Nothing new → IsRemoved (held_in old) path (held_in new)
removed_is old new path set = record {
  at = free new path (ap is_there set.at);
  known = known_both old new path;
  others = same_others old new path Nothing set;
}

the_bytes : (s : Standing) (names : List (List ℕ)) (bytes more : List ℕ) → bytes_of s ≡ Some bytes → HasBytes (entry_of s names) more → more ≡ bytes
the_bytes Nothing names bytes more e h = absurd h
the_bytes (Bytes own) names bytes more e h = subst (λ (o : Option (List ℕ)). IfSome o (λ x. more ≡ x)) e h
the_bytes Folder names bytes more e h = absurd h

now_there : (new : List Change) (to bytes more : List ℕ) → standing_in new to ≡ Bytes bytes → more ≡ bytes → HasBytes (held_in new to) more
now_there new to bytes more e f = subst (λ (s : Standing). HasBytes (entry_of s (names_in new to)) more) (sym e) f

-- a file is not where nothing is
abbrev IsNone : Option (List ℕ) → Type 0
IsNone None = ⊤
IsNone (Some bytes) = ⊥

not_both : (s : Standing) (bytes : List ℕ) → is_there s ≡ false → bytes_of s ≡ Some bytes → ⊥
not_both Nothing bytes e has = subst (λ (o : Option (List ℕ)). IsNone o) has tt
not_both (Bytes own) bytes e has = subst (λ (b : Bool). Holds b) e tt
not_both Folder bytes e has = subst (λ (o : Option (List ℕ)). IsNone o) has tt

apart_of : (old : List Change) (from to bytes : List ℕ) → is_there (standing_in old to) ≡ false → bytes_of (standing_in old from) ≡ Some bytes → from ≢ to
apart_of old from to bytes e has s = not_both (standing_in old to) bytes e (subst (λ (r : List ℕ). bytes_of (standing_in old r) ≡ Some bytes) s has)

pub copied_is : (old new : List Change) (from to bytes : List ℕ) → is_there (standing_in old to) ≡ false → bytes_of (standing_in old from) ≡ Some bytes
    → IsSet old to (Bytes bytes) new → IsMoved (held_in old) from to (held_in new)
copied_is old new from to bytes e has set = record {
  fresh = free old to e;
  at = λ more h. now_there new to bytes more set.at (the_bytes (standing_in old from) (names_in old from) bytes more has h);
  known = known_both old new to;
  left = inl (same_others old new to (Bytes bytes) set from (apart_of old from to bytes e has));
  others = λ q n m. same_others old new to (Bytes bytes) set q n;
}

pub moved_is : (old mid new : List Change) (from to bytes : List ℕ) → is_there (standing_in old to) ≡ false → bytes_of (standing_in old from) ≡ Some bytes
    → IsSet old to (Bytes bytes) mid → IsSet mid from Nothing new → IsMoved (held_in old) from to (held_in new)
moved_is old mid new from to bytes e has set gone = record {
  fresh = free old to e;
  at = λ more h. now_there new to bytes more (gone.others to (λ s. apart_of old from to bytes e has (sym s)) ∙ set.at) (the_bytes (standing_in old from) (names_in old from) bytes more has h);
  known = known_both old new to;
  left = inr (free new from (ap is_there gone.at), known_both old new from);
  others = λ q n m. same_at old new q (gone.others q m ∙ set.others q n);
}
