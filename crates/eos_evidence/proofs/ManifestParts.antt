-- What a manifest says, part by part.
use Rattle.std.proofs.Common.{◌≡◌, List, [], ◌∷◌, ◌++◌, ℕ, Bool, true, false, Option, None, Some, option_map, Result, Ok, Err, IsUtf8, if◌then◌else◌, refl, sym, ap, subst, ◌∙◌, append_assoc}
use Rattle.std.specs.Prelude.{option_and_then}
use Rattle.std.proofs.lemmas.Str.{IsUtf8-from_is_utf8}
use Rattle.std.specs.Str.{is_utf8}
use Rattle.serde_json.specs.Data.{Data}
use Rattle.serde_json.specs.Read.{read as read_text}
use Rattle.eos_evidence.specs.declared.application.App.{App}
use Rattle.eos_evidence.specs.declared.ends.End.{End}
use Rattle.eos_evidence.specs.declared.fault.SpecFault.{SpecFault}
use Rattle.eos_evidence.specs.declared.fault.SpecFault.TheVariants as faults
use Rattle.eos_evidence.specs.declared.manifest_reader.Version.{Version}
use Rattle.eos_evidence.specs.SpecFields.{Answers}
use Rattle.eos_evidence.specs.Manifest.{apps_in, ends_in, version_in, version_test, accepted_parts, said_in, manifest_of, said_by, spec_said_by}

pub answers_fault : {X : Type 0} (said : Result X SpecFault) (fault : SpecFault) → said ≡ Err fault → Answers (Err fault) said
answers_fault said faults.Json is = is
answers_fault said faults.Field is = is
answers_fault said faults.Version is = is
answers_fault said faults.Limit is = is
answers_fault said faults.OutOfMemory is = tt

pub answers_same : {X : Type 0} (given said : Result X SpecFault) → given ≡ said → Answers given said
answers_same (Ok x) said is = sym is
answers_same (Err fault) said is = answers_fault said fault (sym is)

pub version_refused : (d : Data) (fault : SpecFault) → Err fault ≡ version_test (version_in d) → manifest_of d ≡ Err fault
unfolding manifest_of
version_refused d fault is = λ i. said_in (sym is i) d

pub manifest_is : (d : Data) (version : Version) (apps : Option (List App)) (ends : Option (List End)) → Ok version ≡ version_test (version_in d)
    → apps ≡ apps_in version d → ends ≡ ends_in d → manifest_of d ≡ accepted_parts apps ends
unfolding manifest_of
manifest_is d version apps ends is a e = (λ i. said_in (sym is i) d) ∙ (λ i. accepted_parts (sym a i) (sym e i))

pub not_json : (bytes : List ℕ) → (IsUtf8 bytes → read_text bytes ≡ None) → spec_said_by bytes ≡ Err faults.Json
unfolding spec_said_by
not_json bytes unread = by (is_utf8 bytes) refl
  where
    by : (b : Bool) → is_utf8 bytes ≡ b → (if b then said_by (read_text bytes) else Err faults.Json) ≡ Err faults.Json
    by true is = ap said_by (unread (IsUtf8-from_is_utf8 bytes is))
    by false is = refl

pub said_is : (bytes : List ℕ) (d : Data) → is_utf8 bytes ≡ true → read_text bytes ≡ Some d → spec_said_by bytes ≡ manifest_of d
unfolding spec_said_by
said_is bytes d text is = rw text (ap said_by is)

-- ---- one more of a list that is read one by one

abbrev pub with_rest : {X : Type 0} → List X → Option (List X) → Option (List X)
with_rest done rest = option_map (λ xs. done ++ xs) rest

abbrev pub one_before : {X : Type 0} → Option X → Option (List X) → Option (List X)
one_before said rest = option_and_then (λ x. option_map (λ xs. x ∷ xs) rest) said

pub one_more : {X : Type 0} (done : List X) (x : X) (said : Option X) (rest whole : Option (List X)) → Some x ≡ said → with_rest done (one_before said rest) ≡ whole
    → with_rest (done ++ x ∷ []) rest ≡ whole
one_more done x said None whole is h = subst (λ o. with_rest done (one_before o None) ≡ whole) (sym is) h
one_more done x said (Some rest) whole is h = ap Some (append_assoc done (x ∷ []) rest) ∙ subst (λ o. with_rest done (one_before o (Some rest)) ≡ whole) (sym is) h
