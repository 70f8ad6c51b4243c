-- The folders of partitions, by their names.
use Rattle.std.proofs.Common.{◌≡◌, ℕ, ◌<◌, ◌^◌, ℤ, pos, negsuc, int_le, int_lt, List, [], ◌∷◌, ◌++◌, Bool, true, false, not, ◌&&◌, ◌||◌, ◌==◌, Some, map, codes, inl, inr, refl, sym, ap, ◌∙◌, subst, arith}
use Rattle.std.specs.Cmp.{first_so, second_so}
use Rattle.std.specs.Cmp.Lexicographic.{slice_cmp}
use Rattle.std.specs.Fmt.{signed_decimal}
use Rattle.std.specs.List.{list_all, AllByRecursion}
use Rattle.std.specs.List.Sorted.{IsStrictlySortedBy}
use Rattle.std.specs.Ordering.{nat_cmp, int_cmp, ordering_then}
use Rattle.std.specs.Str.Lossy.{utf8_lossy}
use Rattle.std.specs.declared.cmp.Ordering.{Ordering}
use Rattle.std.specs.declared.cmp.Ordering.TheVariants.{Less, Equal}
use Rattle.std.proofs.lemmas.Bool.{false≢true}
use Rattle.std.proofs.lemmas.Bool.Decides.{nat_tests}
use Rattle.std.proofs.lemmas.Cmp.{nat_list_cmp_total, int_cmp_total, tied_itself}
use Rattle.std.proofs.lemmas.Int.{ints}
use Rattle.std.proofs.lemmas.List.Folds.{list_any-append}
use Rattle.std.proofs.lemmas.Str.{utf8_lossy-IsUtf8}
use Rattle.eos_base.specs.Members.{Has}
use Rattle.eos_evidence.specs.declared.ends.End.{End}
use Rattle.eos_evidence.specs.declared.partition.Partition.{Partition}
use Rattle.eos_evidence.specs.Ends.{end_cmp, is_within, is_legal_end}
use Rattle.eos_evidence.specs.PartitionNames.{partition_of}
use Rattle.eos_evidence.specs.Topics.{is_topic_byte, is_dots, has_topic_length, is_topic}
use Rattle.eos_evidence.proofs.WrittenSpecs.{topic_is_text, name_back}
use Rattle.eos_disk.specs.Written.{has_slash}
use Rattle.eos_disk.proofs.PaddedNames.{decimal_plain}

-- ---- the last slash

tail_is : (c d : ℕ) (xs ys : List ℕ) → (c ∷ xs) ≡ (d ∷ ys) → xs ≡ ys
tail_is c d xs ys e = cc e

head_is : (c d : ℕ) (xs ys : List ℕ) → (c ∷ xs) ≡ (d ∷ ys) → c ≡ d
head_is c d xs ys e = cc e

or_true : (b : Bool) → (b || true) ≡ true
or_true true = refl
or_true false = refl

slashed : (a x : List ℕ) → has_slash (a ++ (47 ∷ x)) ≡ true
slashed a x = list_any-append (λ c. c == 47) a (47 ∷ x) ∙ or_true (has_slash a)

not_within : (a x y : List ℕ) → has_slash y ≡ false → y ≡ a ++ (47 ∷ x) → ⊥
not_within a x y plain e = false≢true (sym plain ∙ (ap has_slash e ∙ slashed a x))

-- two texts that are equal have one last part
pub one_last : (a b x y : List ℕ) → has_slash x ≡ false → has_slash y ≡ false → a ++ (47 ∷ x) ≡ b ++ (47 ∷ y) → (a ≡ b) × (x ≡ y)
one_last [] [] x y p q e = (refl, tail_is 47 47 x y e)
one_last [] (d ∷ b) x y p q e = absurd (not_within b y x p (tail_is 47 d x (b ++ (47 ∷ y)) e))
one_last (c ∷ a) [] x y p q e = absurd (not_within a x y q (sym (tail_is c 47 (a ++ (47 ∷ x)) y e)))
one_last (c ∷ a) (d ∷ b) x y p q e =
    let rest = one_last a b x y p q (tail_is c d (a ++ (47 ∷ x)) (b ++ (47 ∷ y)) e) in
    let head = head_is c d (a ++ (47 ∷ x)) (b ++ (47 ∷ y)) e in
    let tail = rest.0 in
    ((λ i. head i ∷ tail i), rest.1)

-- ---- what a partition's folder is called

abbrev pub folder_name : List ℕ → ℤ → List ℕ
folder_name topic number = utf8_lossy topic ++ (codes "-" ++ signed_decimal number)

-- the name of a legal end
pub record IsNamed (e : End) : Type 0 where
  pub plain : has_slash (folder_name e.topic e.partition) ≡ false
  pub back : partition_of (folder_name e.topic e.partition) ≡ Some (e.topic, e.partition)

topic_plain : (t : List ℕ) → list_all is_topic_byte t ≡ true → has_slash t ≡ false
topic_plain [] h = refl
topic_plain (b ∷ bs) h =
    let byte : is_topic_byte b ≡ true = first_so (is_topic_byte b) (list_all is_topic_byte bs) h in
    let other : (b == 47) ≡ false = grind (arith, nat_tests, byte) in
    ap (λ (t : Bool). t || has_slash bs) other ∙ topic_plain bs (second_so (is_topic_byte b) (list_all is_topic_byte bs) h)

bytes_of : (t : List ℕ) → is_topic t ≡ true → list_all is_topic_byte t ≡ true
bytes_of t h = second_so (has_topic_length t) (list_all is_topic_byte t) (first_so (has_topic_length t && list_all is_topic_byte t) (not (is_dots t)) h)

named_plain : (t d : List ℕ) → has_slash t ≡ false → has_slash d ≡ false → has_slash (t ++ (45 ∷ d)) ≡ false
named_plain t d p q = list_any-append (λ c. c == 47) t (45 ∷ d) ∙ (ap (λ (b : Bool). b || has_slash d) p ∙ q)

named_by : (topic : List ℕ) (number : ℤ) (end : ℤ) → is_topic topic ≡ true → is_within (2 ^ 31) number ≡ true → IsNamed (record { topic = topic; partition = number; end = end })
named_by topic (pos n) end legal within =
    let low : int_lt (pos n) (pos (2 ^ 31)) ≡ true = second_so (int_le (pos 0) (pos n)) (int_lt (pos n) (pos (2 ^ 31))) within in
    let small : n < 2 ^ 31 = grind (arith, ints, low) in
    let text : utf8_lossy topic ≡ topic = utf8_lossy-IsUtf8 topic (topic_is_text topic legal) in
    let is : folder_name topic (pos n) ≡ topic ++ (45 ∷ signed_decimal (pos n)) = ap (λ (t : List ℕ). t ++ (45 ∷ signed_decimal (pos n))) text in
    record {
      plain = ap has_slash is ∙ named_plain topic (signed_decimal (pos n)) (topic_plain topic (bytes_of topic legal)) (decimal_plain n (omega arith));
      back = ap partition_of is ∙ name_back topic n small;
    }
named_by topic (negsuc n) end legal within = absurd (cc (first_so (int_le (pos 0) (negsuc n)) (int_lt (negsuc n) (pos (2 ^ 31))) within))

pub legal_named : (e : End) → is_legal_end e ≡ true → IsNamed e
legal_named e legal =
    let first : (is_topic e.topic && is_within (2 ^ 31) e.partition) ≡ true = first_so (is_topic e.topic && is_within (2 ^ 31) e.partition) (is_within (2 ^ 63) e.end) legal in
    named_by e.topic e.partition e.end (first_so (is_topic e.topic) (is_within (2 ^ 31) e.partition) first) (second_so (is_topic e.topic) (is_within (2 ^ 31) e.partition) first)

-- ---- each partition once

tied : (d e : End) → d.topic ≡ e.topic → d.partition ≡ e.partition → end_cmp d e ≡ Equal
tied d e t n =
    let topics : slice_cmp nat_cmp d.topic e.topic ≡ Equal = ap (slice_cmp nat_cmp d.topic) (sym t) ∙ tied_itself nat_list_cmp_total d.topic in
    let numbers : int_cmp d.partition e.partition ≡ Equal = ap (int_cmp d.partition) (sym n) ∙ tied_itself int_cmp_total d.partition in
    ap (λ (o : Ordering). ordering_then o (int_cmp d.partition e.partition)) topics ∙ numbers

not_tied : (d e : End) → d.topic ≡ e.topic → d.partition ≡ e.partition → end_cmp d e ≡ Less → ⊥
not_tied d e t n less = cc (less, tied d e t n)

abbrev pub ends_of : List Partition → List End
ends_of ps = map (λ p. p.end) ps

above : (e : End) (ps : List Partition) (p : Partition) → AllByRecursion (λ f. end_cmp e f ≡ Less) (ends_of ps) → Has ps p → end_cmp e p.end ≡ Less
above e [] p h k = absurd k
above e (q ∷ ps) p h (inl same) = subst (λ (r : Partition). end_cmp e r.end ≡ Less) same h.0
above e (q ∷ ps) p h (inr k) = above e ps p h.1 k

pub one_partition : (ps : List Partition) (p q : Partition) → IsStrictlySortedBy end_cmp (ends_of ps) → Has ps p → Has ps q → p.end.topic ≡ q.end.topic → p.end.partition ≡ q.end.partition → p ≡ q
unfolding IsStrictlySortedBy
one_partition [] p q up h k t n = absurd h
one_partition (r ∷ ps) p q up (inl e) (inl f) t n = sym e ∙ f
one_partition (r ∷ ps) p q up (inl e) (inr k) t n =
    absurd (not_tied r.end q.end (ap (λ (x : Partition). x.end.topic) e ∙ t) (ap (λ (x : Partition). x.end.partition) e ∙ n) (above r.end ps q up.0 k))
one_partition (r ∷ ps) p q up (inr h) (inl f) t n =
    absurd (not_tied r.end p.end (ap (λ (x : Partition). x.end.topic) f ∙ sym t) (ap (λ (x : Partition). x.end.partition) f ∙ sym n) (above r.end ps p up.0 h))
one_partition (r ∷ ps) p q up (inr h) (inr k) t n = one_partition ps p q up.1 h k t n
