-- A spec's parts, written and read back, are accepted as they were.
use Rattle.std.proofs.Common.{◌≡◌, ℕ, zero, suc, ◌+◌, ◌<◌, ◌≤◌, ◌^◌, ◌==◌, ℤ, pos, negsuc, int_le, int_lt, List, [], ◌∷◌, ◌++◌, Bool, true, false, not, ◌&&◌, if◌then◌else◌, nat_le, nat_lt, Some, option_map, Ok, Err, length, IsPermutation, refl, sym, ap, ◌∙◌, subst, arith, append-nil, FitsSigned, drop, get_or, drop-cons, add-one}
use Rattle.std.specs.Fmt.{signed_decimal}
use Rattle.std.specs.Int.{w32, w64}
use Rattle.std.proofs.lemmas.Int.{ints}
use Rattle.std.specs.List.{list_all}
use Rattle.std.specs.Cmp.{first_so, second_so}
use Rattle.std.proofs.lemmas.Bool.{leb-true}
use Rattle.std.proofs.lemmas.Bool.Decides.{nat_tests}
use Rattle.std.proofs.lemmas.List.Sorted.{IsPermutation-sym}
use Rattle.serde_json.specs.Data.{Data, Members, number, depth, items_depth}
use Rattle.serde_json.specs.Find.{of_integer}
use Rattle.serde_json.specs.Read.{max_depth}
use Rattle.eos_evidence.specs.declared.application.App.{App}
use Rattle.eos_evidence.specs.declared.ends.End.{End}
use Rattle.eos_evidence.specs.declared.fault.SpecFault.TheVariants as faults
use Rattle.eos_evidence.specs.declared.manifest_reader.Version.TheVariants.{One, Two}
use Rattle.eos_evidence.specs.Topics.{is_topic, is_internal, are_unequal}
use Rattle.eos_evidence.specs.Ends.{is_within, is_legal_end, are_apart, ordered}
use Rattle.eos_evidence.specs.SpecFields.{SpecFields, IsAccepted, is_own_topic, is_legal_app, groups_of, outputs_of, are_legal_apps, accepted}
use Rattle.eos_evidence.specs.Manifest.{texts_of, app_in, apps_of, end_of, manifest_of, version_in, version_for}
use Rattle.eos_evidence.specs.steps.WrittenApps.{are_topics, items_of_texts, written_app, written_apps, written_one, written_two}
use Rattle.eos_evidence.specs.steps.WrittenEnds.{HoldsEnds}
use Rattle.eos_evidence.proofs.AcceptedParts.{Passed, gives_parts, legal_too}
use Rattle.eos_evidence.proofs.EndsInOrder.{in_order_is}
use Rattle.eos_evidence.proofs.ManifestParts.{manifest_is}
use Rattle.eos_evidence.proofs.WrittenSpecs.{name_back}

-- which tests an accepted spec passed
pub record PassedTests (parts : SpecFields) : Type 0 where
  pub apps : are_legal_apps parts.apps ≡ true
  pub ends : list_all is_legal_end parts.ends ≡ true
  pub few_apps : length parts.apps ≤ 256
  pub few : length parts.ends ≤ 4096

pub passed_tests : (parts : SpecFields) → IsAccepted parts → PassedTests parts
unfolding accepted
passed_tests parts holds = by (are_legal_apps parts.apps) (list_all is_legal_end parts.ends) (are_apart parts.ends) (nat_le (length parts.apps) 256) (nat_le (length parts.ends) 4096) refl refl refl refl holds.as_it_is
  where
    by : (t l a m n : Bool) → are_legal_apps parts.apps ≡ t → list_all is_legal_end parts.ends ≡ l → nat_le (length parts.apps) 256 ≡ m → nat_le (length parts.ends) 4096 ≡ n
        → (if t && (l && a) then (if m && n then Ok (record parts { ends = ordered parts.ends }) else Err faults.Limit) else Err faults.Field) ≡ Ok parts → PassedTests parts
    by false l a m n p q r s h = absurd (cc h)
    by true false a m n p q r s h = absurd (cc h)
    by true true false m n p q r s h = absurd (cc h)
    by true true true false n p q r s h = absurd (cc h)
    by true true true true false p q r s h = absurd (cc h)
    by true true true true true p q r s h = record { apps = p; ends = q; few_apps = leb-true _ _ r; few = leb-true _ _ s }

first_topics : (ts us : List (List ℕ)) → list_all is_own_topic (ts ++ us) ≡ true → list_all is_topic ts ≡ true
first_topics [] us h = refl
first_topics (t ∷ ts) us h =
    let own : is_own_topic t ≡ true = first_so (is_own_topic t) (list_all is_own_topic (ts ++ us)) h in
    rw (first_so (is_topic t) (not (is_internal t)) own) (first_topics ts us (second_so (is_own_topic t) (list_all is_own_topic (ts ++ us)) h))

last_topics : (ts us : List (List ℕ)) → list_all is_own_topic (ts ++ us) ≡ true → list_all is_own_topic us ≡ true
last_topics [] us h = h
last_topics (t ∷ ts) us h = last_topics ts us (second_so (is_own_topic t) (list_all is_own_topic (ts ++ us)) h)

topics_legal : (app : App) → is_legal_app app ≡ true → are_topics app ≡ true
topics_legal app legal =
    let own = first_so (list_all is_own_topic (app.sources ++ app.outputs)) (are_unequal (app.sources ++ app.outputs)) legal in
    let outputs : list_all is_own_topic app.outputs ≡ true = last_topics app.sources app.outputs own in
    rw (first_topics app.sources app.outputs own, first_topics app.outputs [] (subst (λ l. list_all is_own_topic l ≡ true) (sym (append-nil app.outputs)) outputs)) refl

all_topics : (apps : List App) → list_all is_legal_app apps ≡ true → list_all are_topics apps ≡ true
all_topics [] h = refl
all_topics (app ∷ apps) h =
    rw (topics_legal app (first_so (is_legal_app app) (list_all is_legal_app apps) h), all_topics apps (second_so (is_legal_app app) (list_all is_legal_app apps) h)) refl

-- the topics of an accepted spec can be written
pub apps_topics : (parts : SpecFields) → IsAccepted parts → list_all are_topics parts.apps ≡ true
apps_topics parts holds =
    let both = first_so (list_all is_legal_app parts.apps && are_unequal (groups_of parts.apps)) (are_unequal (outputs_of parts.apps)) (passed_tests parts holds).apps in
    all_topics parts.apps (first_so (list_all is_legal_app parts.apps) (are_unequal (groups_of parts.apps)) both)

pub topics_at : (apps : List App) (i : ℕ) (d : App) → i < length apps → list_all are_topics apps ≡ true → are_topics (get_or apps i d) ≡ true
topics_at [] i d lt h = absurd (omega (arith, lt))
topics_at (app ∷ apps) zero d lt h = first_so (are_topics app) (list_all are_topics apps) h
topics_at (app ∷ apps) (suc i) d lt h = topics_at apps i d (omega arith) (second_so (are_topics app) (list_all are_topics apps) h)

accepted_back : (parts : SpecFields) (given : List End) → IsAccepted parts → IsPermutation parts.ends given → accepted (record parts { ends = given }) ≡ Ok parts
accepted_back parts given holds shuffled =
    let tests = passed_tests parts holds in
    let passed : Passed (record parts { ends = given }) parts.ends = record {
      apps = tests.apps;
      ends = legal_too parts.ends given shuffled tests.ends;
      in_order = in_order_is given parts.ends (IsPermutation-sym parts.ends given shuffled) holds.ascending;
    } in
    gives_parts (record parts { ends = given }) parts.ends passed tests.few_apps tests.few

texts_back : (ts : List (List ℕ)) → texts_of (items_of_texts ts) ≡ Some ts
texts_back [] = refl
texts_back (t ∷ ts) = rw (texts_back ts) refl

app_back : (app : App) → app_in (written_app app) ≡ Some app
app_back app = rw (texts_back app.sources, texts_back app.outputs) refl

apps_back : (apps : List App) → apps_of (written_apps apps) ≡ Some apps
apps_back [] = refl
apps_back (app ∷ apps) = rw (app_back app, apps_back apps) refl

only_back : (app : App) (ms : Members) → app_in (written_one app ms) ≡ Some app
only_back app ms = rw (texts_back app.sources, texts_back app.outputs) refl

flat_texts : (ts : List (List ℕ)) → items_depth (items_of_texts ts) ≡ 0
flat_texts [] = refl
flat_texts (t ∷ ts) = omega (arith, flat_texts ts)

app_depth : (app : App) → depth (written_app app) ≤ 2
app_depth app = omega (arith, flat_texts app.sources, flat_texts app.outputs)

apps_depth : (apps : List App) → items_depth (written_apps apps) ≤ 2
apps_depth [] = omega arith
apps_depth (app ∷ apps) = omega (arith, app_depth app, apps_depth apps)

-- what is promised of a value that is written for parts
pub record IsWritten (parts : SpecFields) (d : Data) : Type 0 where
  pub says : manifest_of d ≡ Ok parts
  pub version : version_in d ≡ Some (version_for parts.apps)
  pub shallow : depth d ≤ max_depth

only_app : (apps : List App) (d : App) → length apps ≡ 1 → apps ≡ get_or apps 0 d ∷ []
only_app [] d one = absurd (omega (arith, one))
only_app (app ∷ []) d one = refl
only_app (app ∷ other ∷ apps) d one = absurd (omega (arith, one))

pub one_is_written : (parts : SpecFields) (apps : List App) (app : App) (ms : Members) → IsAccepted parts → HoldsEnds ms parts.ends → apps ≡ parts.apps → length apps ≡ 1
    → app ≡ get_or apps 0 app → IsWritten parts (written_one app ms)
one_is_written parts apps app ms holds ends apps_are one is =
    let only : parts.apps ≡ app ∷ [] = sym apps_are ∙ only_app apps app one ∙ ap (λ a. a ∷ []) (sym is) in
    record {
      says = manifest_is (written_one app ms) One (Some parts.apps) (Some ends.given) refl
          (ap Some only ∙ sym (ap (option_map (λ a. a ∷ [])) (only_back app ms))) (sym ends.given_is) ∙ accepted_back parts ends.given holds ends.shuffled;
      version = ap (λ l. Some (version_for l)) (sym only);
      shallow = omega (arith, ends.flat, flat_texts app.sources, flat_texts app.outputs);
    }

not_one : (n : ℕ) → (n ≡ 1 → ⊥) → (n == 1) ≡ false
not_one n other = grind (arith, nat_tests, other)

pub all_are_written : (parts : SpecFields) (apps : List App) (ms : Members) → IsAccepted parts → HoldsEnds ms parts.ends → apps ≡ parts.apps → (length apps ≡ 1 → ⊥) → IsWritten parts (written_two apps ms)
all_are_written parts apps ms holds ends apps_are several =
    let other : (length parts.apps == 1) ≡ false = not_one (length parts.apps) (λ one. several (ap length apps_are ∙ one)) in
    record {
      says = manifest_is (written_two apps ms) Two (Some parts.apps) (Some ends.given) refl (ap Some (sym apps_are) ∙ sym (apps_back apps)) (sym ends.given_is) ∙ accepted_back parts ends.given holds ends.shuffled;
      version = ap (λ b. Some (if b then pos 1 else pos 2)) (sym other);
      shallow = omega (arith, ends.flat, apps_depth apps);
    }

pub written_as : (parts : SpecFields) (d v : Data) → IsWritten parts d → v ≡ d → IsWritten parts v
written_as parts d v written is = subst (IsWritten parts) (sym is) written

end_made : (topic : List ℕ) (p z : ℤ) → int_le (pos 0) p ≡ true → int_le (pos 0) z ≡ true → ((n : ℕ) → p ≡ pos n → n < 2 ^ 31) → ((n : ℕ) → z ≡ pos n → n < 2 ^ 63)
    → end_of (topic ++ 45 ∷ signed_decimal p) (number (of_integer z)) ≡ Some (record { topic = topic; partition = p; end = z })
end_made topic (pos n) (pos m) hp hz small fits =
    let within : nat_lt m (2 ^ 63) ≡ true = grind (arith, nat_tests, fits m refl) in
    rw (name_back topic n (small n refl), within) refl
end_made topic (pos n) (negsuc m) hp hz small fits = absurd (cc hz)
end_made topic (negsuc n) z hp hz small fits = absurd (cc hp)

-- the member that is written for an end
pub end_back : (e : End) (name : List ℕ) (d : Data) → is_legal_end e ≡ true → name ≡ e.topic ++ 45 ∷ signed_decimal e.partition → d ≡ number (of_integer e.end)
    → FitsSigned w32 e.partition → FitsSigned w64 e.end → end_of name d ≡ Some e
end_back e name d legal name_is d_is small fits =
    let first : (is_topic e.topic && is_within (2 ^ 31) e.partition) ≡ true = first_so (is_topic e.topic && is_within (2 ^ 31) e.partition) (is_within (2 ^ 63) e.end) legal in
    let named : int_le (pos 0) e.partition ≡ true = first_so (int_le (pos 0) e.partition) (int_lt e.partition (pos (2 ^ 31))) (second_so (is_topic e.topic) (is_within (2 ^ 31) e.partition) first) in
    let ended : int_le (pos 0) e.end ≡ true = first_so (int_le (pos 0) e.end) (int_lt e.end (pos (2 ^ 63))) (second_so (is_topic e.topic && is_within (2 ^ 31) e.partition) (is_within (2 ^ 63) e.end) legal) in
    (λ i. end_of (name_is i) (d_is i)) ∙ end_made e.topic e.partition e.end named ended (λ n is. grind (arith, ints, small, is)) (λ n is. grind (arith, ints, fits, is))

-- the end at the place is legal, and those after it
pub legal_next : (es : List End) (i : ℕ) (e : End) → i < length es → e ≡ get_or es i e → list_all is_legal_end (drop i es) ≡ true → (is_legal_end e ≡ true) × (list_all is_legal_end (drop (i + 1) es) ≡ true)
legal_next es i e lt is legal =
    let whole : drop i es ≡ e ∷ drop (i + 1) es = drop-cons es i e lt ∙ ap (λ x. x ∷ drop (suc i) es) (sym is) ∙ ap (λ n. e ∷ drop n es) (sym (add-one i)) in
    let both : (is_legal_end e && list_all is_legal_end (drop (i + 1) es)) ≡ true = sym (ap (list_all is_legal_end) whole) ∙ legal in
    (first_so (is_legal_end e) (list_all is_legal_end (drop (i + 1) es)) both, second_so (is_legal_end e) (list_all is_legal_end (drop (i + 1) es)) both)
