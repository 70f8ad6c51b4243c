-- The first word that gives no application.
use Rattle.std.proofs.Common.{◌≡◌, ◌<◌, ◌≤◌, ◌+◌, ◌++◌, ◌∷◌, [], ℕ, suc, List, Option, Some, None, Bor, arith, map, length, take, drop, get_or, append_assoc, append-nil, refl, sym, ap, ◌∙◌, subst, option_map, option_and_then}
use Rattle.std.proofs.lemmas.List.{take_all, map-append, length-take}
use Rattle.eos_evidence.specs.declared.application.App.{App}
use Rattle.eos_manifest.specs.AppWords.{app_in_word}
use Rattle.eos_commands.specs.InitRefusals.{IsFirstWord}
use Rattle.eos_commands.specs.Making.{apps_in_words}
use Rattle.eos_commands.proofs.FoldsRefused.{parts_at, front_at}

abbrev pub texts_of : List (Bor (List ℕ)) → List (List ℕ)
texts_of words = map (λ w. w.now) words

-- these words give these applications, whatever words follow
abbrev pub GoBefore : List (List ℕ) → List App → Type 0
GoBefore front apps = (left : List (List ℕ)) (rest : List App) → apps_in_words left ≡ Some rest → apps_in_words (front ++ left) ≡ Some (apps ++ rest)

word_more : (front : List (List ℕ)) (word : List ℕ) (apps more : List App) (app : App) → GoBefore front apps → Some app ≡ app_in_word word → more ≡ apps ++ app ∷ [] → GoBefore (front ++ word ∷ []) more
word_more front word apps more app before is longer left rest h =
    ap apps_in_words (append_assoc front (word ∷ []) left)
    ∙ (before (word ∷ left) (app ∷ rest) (ap (λ (a : Option App). option_and_then (λ x. option_map (λ xs. x ∷ xs) (apps_in_words left)) a) (sym is) ∙ ap (λ (xs : Option (List App)). option_map (λ ys. app ∷ ys) xs) h)
    ∙ ap (λ (xs : List App). Some xs) (sym (append_assoc apps (app ∷ []) rest) ∙ ap (λ (xs : List App). xs ++ rest) (sym longer)))

pub word_next : (words : List (Bor (List ℕ))) (at : ℕ) (d : Bor (List ℕ)) (apps more : List App) (app : App) → at < length words → GoBefore (texts_of (take at words)) apps
    → Some app ≡ app_in_word (get_or words at d).now → more ≡ apps ++ app ∷ [] → GoBefore (texts_of (take (at + 1) words)) more
word_next words at d apps more app lt before is longer =
    let front : texts_of (take (at + 1) words) ≡ texts_of (take at words) ++ (get_or words at d).now ∷ []
    = ap texts_of (front_at words at d (get_or words at d) lt refl) ∙ map-append (λ (w : Bor (List ℕ)). w.now) (take at words) (get_or words at d ∷ []) in
    subst (λ (ws : List (List ℕ)). GoBefore ws more) (sym front) (word_more (texts_of (take at words)) (get_or words at d).now apps more app before is longer)

words_read : (words : List (List ℕ)) (apps : List App) → GoBefore words apps → apps_in_words words ≡ Some apps
words_read words apps before = ap apps_in_words (sym (append-nil words)) ∙ (before [] [] refl ∙ ap (λ (xs : List App). Some xs) (append-nil apps))

pub all_words : (words : List (Bor (List ℕ))) (at : ℕ) (apps : List App) → length words ≤ at → GoBefore (texts_of (take at words)) apps → apps_in_words (texts_of words) ≡ Some apps
all_words words at apps all before = ap (λ (ws : List (Bor (List ℕ))). apps_in_words (texts_of ws)) (sym (take_all at words all)) ∙ words_read (texts_of (take at words)) apps before

length_texts : (words : List (Bor (List ℕ))) → length (texts_of words) ≡ length words
length_texts [] = refl
length_texts (w ∷ words) = ap suc (length_texts words)

length_front : (words : List (Bor (List ℕ))) (at : ℕ) → at < length words → at ≡ length (texts_of (take at words))
length_front words at lt = omega (arith, lt, length_texts (take at words), length-take at words)

pub first_word : (words : List (Bor (List ℕ))) (at : ℕ) (d : Bor (List ℕ)) (apps : List App) → at < length words → GoBefore (texts_of (take at words)) apps
    → None ≡ app_in_word (get_or words at d).now → IsFirstWord (texts_of words) at
first_word words at d apps lt before none = record {
  before = texts_of (take at words);
  word = (get_or words at d).now;
  later = texts_of (drop (at + 1) words);
  are = ap texts_of (parts_at words at d (get_or words at d) lt refl) ∙ map-append (λ (w : Bor (List ℕ)). w.now) (take at words) (get_or words at d ∷ drop (at + 1) words);
  at_is = length_front words at lt;
  apps = apps;
  read = words_read (texts_of (take at words)) apps before;
  none = sym none;
}
