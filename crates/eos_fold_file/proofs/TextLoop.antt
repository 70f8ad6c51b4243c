-- Reading and writing records' texts one after the other, as a loop does.
use Rattle.std.proofs.Common.{◌≡◌, ℕ, suc, Bool, Option, ◌+◌, ◌-◌, ◌≤◌, ◌<◌, List, [], ◌∷◌, ◌++◌, length, drop, get_or, Result, Ok, Err, refl, sym, ap, ◌∙◌, append_assoc, arith}
use Rattle.std.proofs.Math.ListN.{drop_of_length-le}
use Rattle.std.proofs.lemmas.List.{append-nil, drop_more}
use Rattle.eos_claims.specs.declared.claim.Claim.{Claim}
use Rattle.eos_fold_file.specs.Records.{FoldText, optional_claim_from}
use Rattle.eos_fold_file.specs.declared.fault.FoldFault.{FoldFault}
use Rattle.eos_fold_file.specs.Faults.{Fails}
use Rattle.eos_fold_file.specs.Texts.{last_text, key_value_text, key_values_text, shared_from, key_value_from, key_values_from}
use Rattle.eos_fold_file.specs.steps.TextsRead.{text_there, IsTextRead}
use Rattle.eos_fold_file.proofs.Loop.{with_front, regroup, fails_through}

-- a key, a value and a claim were read, and pushed
pub text_read : (key value bytes k v behind_key behind_value rest : List ℕ) (a b : Bool) (claim : Option Claim) (pushed_key pushed_value : Option (List ℕ)) (texts now : List FoldText)
    → shared_from key bytes ≡ Ok (text_there a k, behind_key) → k ≡ last_text key (text_there a k)
    → shared_from value behind_key ≡ Ok (text_there b v, behind_value) → v ≡ last_text value (text_there b v)
    → optional_claim_from behind_value ≡ Ok (claim, rest) → pushed_key ≡ text_there a k → pushed_value ≡ text_there b v
    → now ≡ texts ++ record { key = pushed_key; value = pushed_value; claim = claim } ∷ [] → IsTextRead key value bytes texts (k, v, rest, now)
unfolding key_value_from
text_read key value bytes k v behind_key behind_value rest a b claim pushed_key pushed_value texts now e1 l1 e2 l2 e3 pk pv e =
    let made : Option (List ℕ) → Option (List ℕ) → FoldText = λ x y. record { key = x; value = y; claim = claim } in
    record {
      text = made (text_there a k) (text_there b v);
      reads = rw (e1, e2, e3) refl;
      key_is = l1;
      value_is = l2;
      texts_are = e ∙ (ap (λ (x : Option (List ℕ)). texts ++ made x pushed_value ∷ []) pk ∙ ap (λ (y : Option (List ℕ)). texts ++ made (text_there a k) y ∷ []) pv);
    }

pub goes_on : (front : List FoldText) (key value : List ℕ) (count i : ℕ) (bytes : List ℕ) (now : List ℕ × List ℕ × List ℕ × List FoldText) (total : Result (List FoldText × List ℕ) FoldFault)
    → i < count → IsTextRead key value bytes front now
    → with_front front (key_values_from key value (count - i) bytes) ≡ total → with_front now.3 (key_values_from now.0 now.1 (count - (i + 1)) now.2) ≡ total
unfolding key_values_from
goes_on front key value count i bytes now total lt one so_far =
    let t = one.text in
    let left : count - i ≡ suc (count - (i + 1)) = omega arith in
    let others = key_values_from (last_text key t.key) (last_text value t.value) (count - (i + 1)) now.2 in
    let same : with_front front (key_values_from key value (count - i) bytes) ≡ with_front (front ++ t ∷ []) others = rw (left, one.reads) (regroup front t others) in
    rw (one.key_is, one.value_is, one.texts_are) (sym same ∙ so_far)

pub ends : (e : FoldFault) (front : List FoldText) (key value : List ℕ) (count i : ℕ) (bytes : List ℕ) (total : Result (List FoldText × List ℕ) FoldFault)
    → i < count → Fails e (key_value_from key value bytes) → with_front front (key_values_from key value (count - i) bytes) ≡ total → Fails e total
unfolding key_values_from
ends e front key value count i bytes total lt one so_far =
    let left : count - i ≡ suc (count - (i + 1)) = omega arith in
    fails_through e (key_value_from key value bytes) total
    (λ f q. let same : with_front front (key_values_from key value (count - i) bytes) ≡ Err f = rw (left, q) refl in sym so_far ∙ same) one

pub is_done : (front : List FoldText) (key value : List ℕ) (count i : ℕ) (bytes : List ℕ) (total : Result (List FoldText × List ℕ) FoldFault)
    → count ≤ i → with_front front (key_values_from key value (count - i) bytes) ≡ total → total ≡ Ok (front, bytes)
unfolding key_values_from
is_done front key value count i bytes total le so_far =
    let left : count - i ≡ 0 = omega arith in
    let same : with_front front (key_values_from key value (count - i) bytes) ≡ Ok (front, bytes) = rw left (ap (λ (xs : List FoldText). Ok (xs, bytes)) (append-nil front)) in
    sym so_far ∙ same

-- after one more record
pub text_more : (total key value so_far next next_key next_value : List ℕ) (ts : List FoldText) (i : ℕ) (t d : FoldText) → i < length ts → t ≡ get_or ts i d
    → next_key ≡ last_text key t.key → next_value ≡ last_text value t.value
    → so_far ++ key_values_text key value (drop i ts) ≡ total → next ≡ so_far ++ key_value_text key value t → next ++ key_values_text next_key next_value (drop (i + 1) ts) ≡ total
text_more total key value so_far next next_key next_value ts i t d lt is nk nv before e =
    let others = key_values_text (last_text key t.key) (last_text value t.value) (drop (i + 1) ts) in
    let here : drop i ts ≡ t ∷ drop (i + 1) ts = drop_more ts i d lt ∙ ap (λ (u : FoldText). u ∷ drop (i + 1) ts) (sym is) in
    let parts : so_far ++ key_values_text key value (drop i ts) ≡ so_far ++ (key_value_text key value t ++ others) = ap (λ (us : List FoldText). so_far ++ key_values_text key value us) here in
    rw (e, nk, nv) (append_assoc so_far (key_value_text key value t) others ∙ (sym parts ∙ before))

pub texts_done : (total key value out : List ℕ) (ts : List FoldText) (i : ℕ) → length ts ≤ i → out ++ key_values_text key value (drop i ts) ≡ total → out ≡ total
texts_done total key value out ts i le e =
    let none : drop i ts ≡ [] = drop_of_length-le ts le in
    sym (append-nil out) ∙ (sym (ap (λ (us : List FoldText). out ++ key_values_text key value us) none) ∙ e)
