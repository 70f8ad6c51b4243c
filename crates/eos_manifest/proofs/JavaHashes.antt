-- Java's hash, unit by unit.
use Rattle.std.proofs.Common.{◌≡◌, ℕ, suc, ◌+◌, ◌*◌, ◌%◌, ◌^◌, ◌<◌, List, [], ◌∷◌, ◌++◌, length, length-append, append_assoc, take, get_or, ap, sym, ◌∙◌, arith}
use Rattle.std.proofs.Math.Nat.{pow-suc, mul_assoc, mod-mod, mod-add-mod}
use Rattle.std.proofs.lemmas.List.{take_more}
use Rattle.std.proofs.lemmas.Nat.{mul-mod}
use Rattle.eos_manifest.specs.Coordinators.{weighted}

-- with one unit more
pub weighted_more : (units : List ℕ) (unit : ℕ) → weighted (units ++ unit ∷ []) ≡ weighted units * 31 + unit
weighted_more [] unit = omega arith
weighted_more (u ∷ us) unit =
    let p : ℕ = 31 ^ length us in
    let one_more : length (us ++ unit ∷ []) ≡ suc (length us) = omega (arith, length-append us (unit ∷ [])) in
    let power : u * 31 ^ length (us ++ unit ∷ []) ≡ u * p * 31 = ap (λ n. u * 31 ^ n) one_more ∙ ap (λ n. u * n) (pow-suc 31 (length us)) ∙ sym (mul_assoc u p 31) in
    omega (arith, power, weighted_more us unit)

-- what wraps is lost in the low bits alone
pub hash_more : (units : List ℕ) (unit hash : ℕ) → hash ≡ weighted units % 2 ^ 32 → ((hash * 31) % 2 ^ 32 + unit) % 2 ^ 32 ≡ weighted (units ++ unit ∷ []) % 2 ^ 32
hash_more units unit hash is =
    let whole = weighted units in
    let limit : ℕ = 2 ^ 32 in
    let times : ((whole % limit) * 31) % limit ≡ (whole * 31) % limit = mul-mod (whole % limit) 31 limit ∙ ap (λ n. (n * (31 % limit)) % limit) (mod-mod whole limit) ∙ sym (mul-mod whole 31 limit) in
    ap (λ h. ((h * 31) % limit + unit) % limit) is
    ∙ ap (λ n. (n + unit) % limit) times
    ∙ mod-add-mod (whole * 31) limit unit
    ∙ ap (λ n. n % limit) (sym (weighted_more units unit))

-- with the unit at the place of a loop
pub unit_more : (front units : List ℕ) (i d before after : ℕ) → i < length units → before ≡ weighted (front ++ take i units) % 2 ^ 32
    → after ≡ ((before * 31) % 2 ^ 32 + get_or units i d) % 2 ^ 32 → after ≡ weighted (front ++ take (i + 1) units) % 2 ^ 32
unit_more front units i d before after lt so_far next =
    let unit : ℕ = get_or units i d in
    let taken : take (i + 1) units ≡ take i units ++ unit ∷ [] = take_more units i d lt in
    let all : (front ++ take i units) ++ unit ∷ [] ≡ front ++ take (i + 1) units = append_assoc front (take i units) (unit ∷ []) ∙ ap (λ us. front ++ us) (sym taken) in
    next ∙ hash_more (front ++ take i units) unit before so_far ∙ ap (λ us. weighted us % 2 ^ 32) all
