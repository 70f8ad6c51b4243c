-- The records of Kafka's own logs as they lie in a fold: what is pushed, lent and handed over.
use Rattle.std.proofs.Common.{◌≡◌, ℕ, zero, suc, ◌<◌, ◌≤◌, List, [], ◌∷◌, ◌++◌, length, map, get_or, slice_get, Option, Some, None, refl, sym, ap, ◌∙◌, subst, arith}
use Rattle.std.specs.Prelude.{All, option_map}
use Rattle.std.specs.Option.{option_or}
use Rattle.std.proofs.lemmas.List.Elements.{All-nil, All-cons, All-head, All-tail, All-push, All-map, All-weaker}
use Rattle.std.proofs.lemmas.List.{length-append}
use Rattle.eos_batch.specs.declared.record.Record.{Record}
use Rattle.eos_claims.specs.declared.claim.Claim.{Claim}
use Rattle.eos_claims.specs.declared.claim.ClaimRef.{ClaimRef}
use Rattle.eos_claims.specs.Headers.{claim_of}
use Rattle.eos_claims.specs.Slots.{plain_claim}
use Rattle.eos_reading.specs.Records.{record_of, ReadsBack}
use Rattle.eos_reading.specs.Wanted.{wanted_headers}
use Rattle.eos_fold_file.specs.Folds.{fold_text_of}
use Rattle.eos_fold_file.specs.Records.{FoldText}
use Rattle.eos_fold_file.specs.steps.Kept.{text_record}
use Rattle.eos_fold_file.specs.steps.TextLists.{text_with, texts_of, IsBare, IsUnsaid, AreTexts}
use Rattle.eos_fold_file.proofs.ClaimLimits.{none_back}

pub texts_length : (rs : List Record) (cs : List (Option Claim)) → length (texts_of rs cs) ≡ length rs
texts_length [] cs = refl
texts_length (r ∷ rs) [] = ap suc (texts_length rs [])
texts_length (r ∷ rs) (c ∷ cs) = ap suc (texts_length rs cs)

pub none_beside : (rs : List Record) → texts_of rs [] ≡ map fold_text_of rs
none_beside [] = refl
none_beside (r ∷ rs) = ap (λ (ts : List FoldText). fold_text_of r ∷ ts) (none_beside rs)

-- the one at this place
pub text_at : (rs : List Record) (cs : List (Option Claim)) (i : ℕ) (r : Record) → slice_get rs i ≡ Some r → slice_get (texts_of rs cs) i ≡ Some (text_with r (get_or cs i None))
text_at [] cs i r e = absurd cc
text_at (q ∷ rs) [] zero r e = let same : q ≡ r = cc in ap (λ (x : Record). Some (text_with x None)) same
text_at (q ∷ rs) [] (suc i) r e = text_at rs [] i r e
text_at (q ∷ rs) (c ∷ cs) zero r e = let same : q ≡ r = cc in ap (λ (x : Record). Some (text_with x c)) same
text_at (q ∷ rs) (c ∷ cs) (suc i) r e = text_at rs cs i r e

pub either_claim : (a b : Option ClaimRef) (c d : Option Claim) → option_map plain_claim a ≡ c → option_map plain_claim b ≡ d → option_map plain_claim (option_or a b) ≡ option_or c d
either_claim None b c d ea eb = eb ∙ ap (λ (x : Option Claim). option_or x d) ea
either_claim (Some a) b c d ea eb = ap (λ (x : Option Claim). option_or x d) ea

-- ---- one more

said_after : (rs : List Record) (cs : List (Option Claim)) (r : Record) → length cs ≤ length rs → texts_of (rs ++ r ∷ []) cs ≡ texts_of rs cs ++ text_with r None ∷ []
said_after [] [] r le = refl
said_after [] (c ∷ cs) r le = absurd (omega arith)
said_after (q ∷ rs) [] r le = ap (λ (ts : List FoldText). text_with q None ∷ ts) (said_after rs [] r (omega arith))
said_after (q ∷ rs) (c ∷ cs) r le = ap (λ (ts : List FoldText). text_with q c ∷ ts) (said_after rs cs r (omega arith))

beside_after : (rs : List Record) (cs : List (Option Claim)) (r : Record) (c : Option Claim) → length cs ≡ length rs → texts_of (rs ++ r ∷ []) (cs ++ c ∷ []) ≡ texts_of rs cs ++ text_with r c ∷ []
beside_after [] [] r c e = refl
beside_after [] (d ∷ cs) r c e = absurd (omega (arith, e))
beside_after (q ∷ rs) [] r c e = absurd (omega (arith, e))
beside_after (q ∷ rs) (d ∷ cs) r c e = ap (λ (ts : List FoldText). text_with q d ∷ ts) (beside_after rs cs r c (omega (arith, e)))

-- a place for a claim that isn't there changes nothing
padded : (rs : List Record) (cs : List (Option Claim)) → length cs < length rs → texts_of rs (cs ++ None ∷ []) ≡ texts_of rs cs
padded [] cs lt = absurd (omega arith)
padded (r ∷ rs) [] lt = refl
padded (r ∷ rs) (c ∷ cs) lt = ap (λ (ts : List FoldText). text_with r c ∷ ts) (padded rs cs (omega arith))

pub pad_more : (old cs next : List (Option Claim)) (count : ℕ) → length cs < count → next ≡ cs ++ None ∷ [] → ((rs : List Record) → length rs ≡ count → texts_of rs cs ≡ texts_of rs old)
    → (rs : List Record) → length rs ≡ count → texts_of rs next ≡ texts_of rs old
pad_more old cs next count lt e so rs len = ap (texts_of rs) e ∙ (padded rs cs (omega (arith, lt, len)) ∙ so rs len)

pub pad_unsaid : (old cs next : List (Option Claim)) → next ≡ cs ++ None ∷ [] → (All IsUnsaid old → All IsUnsaid cs) → All IsUnsaid old → All IsUnsaid next
pad_unsaid old cs next e so h = subst (All IsUnsaid) (sym e) (All-push IsUnsaid cs None (so h) tt)

abbrev text_made : Option (List ℕ) → Option (List ℕ) → Option Claim → FoldText
text_made key value claim = record { key = key; value = value; claim = claim }

pub pushed_bare : (key value : Option (List ℕ)) (claim : Option Claim) → ReadsBack claim → IsBare (record_of key value claim)
pushed_bare key value claim back = ap (record_of key value) (sym back)

-- with a claim that headers say
pub push_said : (rs now : List Record) (cs : List (Option Claim)) (old : List FoldText) (key value : Option (List ℕ)) (claim : Option Claim) → texts_of rs cs ≡ old → AreTexts rs cs → ReadsBack claim → now ≡ rs ++ record_of key value claim ∷ []
    → texts_of now cs ≡ old ++ record { key = key; value = value; claim = claim } ∷ []
push_said rs now cs old key value claim is kept back e =
    ap (λ (qs : List Record). texts_of qs cs) e
    ∙ (said_after rs cs (record_of key value claim) kept.few ∙ (ap (λ (ts : List FoldText). ts ++ text_made key value (claim_of (wanted_headers claim)) ∷ []) is ∙ ap (λ (c : Option Claim). old ++ text_made key value c ∷ []) back))

pub said_kept : (rs now : List Record) (cs : List (Option Claim)) (key value : Option (List ℕ)) (claim : Option Claim) → AreTexts rs cs → ReadsBack claim → now ≡ rs ++ record_of key value claim ∷ [] → AreTexts now cs
said_kept rs now cs key value claim kept back e = subst (λ (qs : List Record). AreTexts qs cs) (sym e) (record {
  bare = All-push IsBare rs (record_of key value claim) kept.bare (pushed_bare key value claim back);
  few = omega (arith, kept.few, length-append rs (record_of key value claim ∷ []));
  unsaid = kept.unsaid;
})

is_unsaid : (claim : Option Claim) → (ReadsBack claim → ⊥) → IsUnsaid claim
is_unsaid None un = tt
is_unsaid (Some c) un = un

-- with one that none say
pub push_unsaid : (rs now : List Record) (cs before after : List (Option Claim)) (old : List FoldText) (key value : Option (List ℕ)) (claim : Option Claim) → texts_of rs cs ≡ old
    → texts_of rs before ≡ texts_of rs cs → length before ≡ length rs → (ReadsBack claim → ⊥) → now ≡ rs ++ record_of key value None ∷ [] → after ≡ before ++ claim ∷ []
    → texts_of now after ≡ old ++ record { key = key; value = value; claim = claim } ∷ []
push_unsaid rs now cs before after old key value None is pad long un e f = absurd (un none_back)
push_unsaid rs now cs before after old key value (Some c) is pad long un e f =
    ap (λ (qs : List Record). texts_of qs after) e
    ∙ (ap (texts_of (rs ++ record_of key value None ∷ [])) f
    ∙ (beside_after rs before (record_of key value None) (Some c) long ∙ ap (λ (ts : List FoldText). ts ++ text_made key value (Some c) ∷ []) (pad ∙ is)))

pub unsaid_kept : (now : List Record) (before after : List (Option Claim)) (claim : Option Claim) → AreTexts now before → length before < length now → (ReadsBack claim → ⊥)
    → after ≡ before ++ claim ∷ [] → AreTexts now after
unsaid_kept now before after claim kept long un f = subst (AreTexts now) (sym f) (record {
  bare = kept.bare;
  few = omega (arith, long, length-append before (claim ∷ []));
  unsaid = All-push IsUnsaid before claim kept.unsaid (is_unsaid claim un);
})

pub pad_kept : (rs : List Record) (cs before : List (Option Claim)) → AreTexts rs cs → length before ≤ length rs → All IsUnsaid before → AreTexts rs before
pad_kept rs cs before kept few un = record { bare = kept.bare; few = few; unsaid = un }

-- ---- handed over

bare_back : (r : Record) → IsBare r → ReadsBack (claim_of r.headers)
bare_back r bare = ap claim_of (sym (ap (λ (q : Record). q.headers) bare))

all_none : (rs : List Record) (cs : List (Option Claim)) → All (λ (c : Option Claim). c ≡ None) cs → texts_of rs cs ≡ map fold_text_of rs
all_none [] cs none = refl
all_none (r ∷ rs) [] none = none_beside (r ∷ rs)
all_none (r ∷ rs) (c ∷ cs) none =
    let P : Option Claim → Type 0 = λ c. c ≡ None in
    ap (λ (d : Option Claim). text_with r d ∷ texts_of rs cs) (All-head P c cs none) ∙ ap (λ (ts : List FoldText). fold_text_of r ∷ ts) (all_none rs cs (All-tail P c cs none))

pub all_said : (rs : List Record) (cs : List (Option Claim)) → All IsBare rs → All (λ (c : Option Claim). c ≡ None) cs → All (λ (t : FoldText). ReadsBack t.claim) (texts_of rs cs)
all_said rs cs bare none =
    let P : FoldText → Type 0 = λ t. ReadsBack t.claim in
    let Q : Record → Type 0 = λ r. ReadsBack (claim_of r.headers) in
    subst (All P) (sym (all_none rs cs none)) (All-map P fold_text_of rs (All-weaker IsBare Q bare_back rs bare))

-- no claim that stands beside can be read back
pub none_unsaid : (rs : List Record) (cs : List (Option Claim)) → length cs ≤ length rs → All IsUnsaid cs → All (λ (t : FoldText). ReadsBack t.claim) (texts_of rs cs) → All (λ (c : Option Claim). c ≡ None) cs
none_unsaid [] [] le un back = All-nil (λ (c : Option Claim). c ≡ None)
none_unsaid [] (c ∷ cs) le un back = absurd (omega arith)
none_unsaid (r ∷ rs) [] le un back = All-nil (λ (c : Option Claim). c ≡ None)
none_unsaid (r ∷ rs) (None ∷ cs) le un back =
    let P : FoldText → Type 0 = λ t. ReadsBack t.claim in
    All-cons (λ (c : Option Claim). c ≡ None) None cs refl (none_unsaid rs cs (omega arith) (All-tail IsUnsaid None cs un) (All-tail P (text_with r None) (texts_of rs cs) back))
none_unsaid (r ∷ rs) (Some c ∷ cs) le un back =
    let P : FoldText → Type 0 = λ t. ReadsBack t.claim in
    absurd (All-head IsUnsaid (Some c) cs un (All-head P (text_with r (Some c)) (texts_of rs cs) back))

given_back : (rs : List Record) → All IsBare rs → map text_record (map fold_text_of rs) ≡ rs
given_back [] bare = refl
given_back (r ∷ rs) bare =
    ap (λ (q : Record). q ∷ map text_record (map fold_text_of rs)) (sym (All-head IsBare r rs bare)) ∙ ap (λ (qs : List Record). r ∷ qs) (given_back rs (All-tail IsBare r rs bare))

pub handed_over : (rs : List Record) (cs : List (Option Claim)) → All IsBare rs → All (λ (c : Option Claim). c ≡ None) cs → rs ≡ map text_record (texts_of rs cs)
handed_over rs cs bare none = sym (ap (map text_record) (all_none rs cs none) ∙ given_back rs bare)
