-- An evidence has one list of logs.
use Rattle.std.proofs.Common.{◌≡◌, ◌↔◌, suc, inl, inr, true, List, [], ◌∷◌, refl, sym, ap, subst, ◌∙◌, arith}
use Rattle.std.specs.List.{All}
use Rattle.std.specs.Ordering.{is_lt, ordering_reverse}
use Rattle.std.specs.declared.cmp.Ordering.{Ordering}
use Rattle.std.specs.declared.cmp.Ordering.TheVariants.{Less, Equal, Greater}
use Rattle.eos_base.specs.Members.{Has}
use Rattle.eos_touch.proofs.AllTouches.{AllPairs-head, AllPairs-tail}
use Rattle.eos_batch.specs.declared.batch.Batch.{Batch}
use Rattle.eos_evidence.specs.declared.partition.Partition.{Partition}
use Rattle.eos_fold.specs.Items.{items_of}
use Rattle.eos_fold.specs.declared.close.Close.{Close}
use Rattle.eos_fold.specs.Closes.{close_cmp, closes_of}
use Rattle.eos_fold.specs.Parts.{PartLog, Ascends}
use Rattle.eos_fold.specs.Settling.{data_in}
use Rattle.eos_batch.specs.Marker.{markers_of}
use Rattle.eos_fold.proofs.ClosesOnce.{close_total}
use Rattle.eos_commits.specs.EvidenceLogs.{IsLogOf, AreLogsOf}
use Rattle.eos_check.proofs.FrontsUnique.{one_front}

-- ---- ascending lists of the same members

all_has : {X : Type 0} (P : X → Type 0) (xs : List X) → All P xs → (x : X) → Has xs x → P x
all_has P [] h x m = absurd m
all_has P (y ∷ ys) h x (inl e) = subst P e (h 0 y (omega arith))
all_has P (y ∷ ys) h x (inr m) = all_has P ys (λ k d l. h (suc k) d (omega (arith, l))) x m

abbrev Before : Close → Close → Type 0
Before c d = is_lt (close_cmp c d) ≡ true

behind : (c : Close) (cs : List Close) → Ascends (c ∷ cs) → (d : Close) → Has cs d → Before c d
behind c cs h = all_has (Before c) cs (AllPairs-head Before c cs h)

both_less : (a b : Ordering) → a ≡ ordering_reverse b → is_lt a ≡ true → is_lt b ≡ true → ⊥
both_less Less Less e p q = cc
both_less Less Equal e p q = cc
both_less Less Greater e p q = cc
both_less Equal b e p q = cc
both_less Greater b e p q = cc

not_both : (c d : Close) → Before c d → Before d c → ⊥
not_both c d p q = both_less (close_cmp c d) (close_cmp d c) (close_total.antisymm c d) p q

not_itself : (c : Close) → Before c c → ⊥
not_itself c p = not_both c c p p

one_list : (cs ds : List Close) → Ascends cs → Ascends ds → ((c : Close) → Has cs c → Has ds c) → ((c : Close) → Has ds c → Has cs c) → cs ≡ ds
one_list [] [] a b f g = refl
one_list [] (d ∷ ds) a b f g = absurd (g d (inl refl))
one_list (c ∷ cs) [] a b f g = absurd (f c (inl refl))
one_list (c ∷ cs) (d ∷ ds) a b f g =
    by_first (first (f c (inl refl)) (g d (inl refl))) (one_list cs ds (AllPairs-tail Before c cs a) (AllPairs-tail Before d ds b))
  where
    first : Has (d ∷ ds) c → Has (c ∷ cs) d → c ≡ d
    first (inl e) k = sym e
    first (inr h) (inl e) = e
    first (inr h) (inr k) = absurd (not_both c d (behind c cs a d k) (behind d ds b c h))

    forth : c ≡ d → (x : Close) → Has cs x → Has ds x
    forth e x h = choose (f x (inr h))
      where
        choose : Has (d ∷ ds) x → Has ds x
        choose (inl q) = absurd (not_itself c (subst (Before c) (sym (e ∙ q)) (behind c cs a x h)))
        choose (inr k) = k

    back : c ≡ d → (x : Close) → Has ds x → Has cs x
    back e x h = choose (g x (inr h))
      where
        choose : Has (c ∷ cs) x → Has cs x
        choose (inl q) = absurd (not_itself d (subst (Before d) (sym (sym e ∙ q)) (behind d ds b x h)))
        choose (inr k) = k

    by_first : c ≡ d → (((x : Close) → Has cs x → Has ds x) → ((x : Close) → Has ds x → Has cs x) → cs ≡ ds) → c ∷ cs ≡ d ∷ ds
    by_first e others = let tails = others (forth e) (back e) in λ i. e i ∷ tails i

abbrev Hold : List Close → List Batch → Type 0
Hold cs bs = (c : Close) → Has cs c ↔ Has (closes_of bs) c

one_closes : (bs : List Batch) (cs ds : List Close) → Ascends cs → Ascends ds → Hold cs bs → Hold ds bs → cs ≡ ds
one_closes bs cs ds up rise h k = one_list cs ds up rise (λ c m. (k c).1 ((h c).0 m)) (λ c m. (h c).1 ((k c).0 m))

-- ---- the logs

one_log : (p : Partition) (l m : PartLog) → IsLogOf p l → IsLogOf p m → l ≡ m
one_log p l m of are =
    let front = one_front 0 p.segments of.batches are.batches of.stop are.stop of.front are.front in
    let topic = of.log.of_topic ∙ sym are.log.of_topic in
    let number = of.log.of_number ∙ sym are.log.of_number in
    let end = of.log.until ∙ sym are.log.until in
    let segments = of.log.of_segments ∙ sym are.log.of_segments in
    let items = of.log.items ∙ (ap (λ (bs : List Batch). items_of (data_in bs)) front.0 ∙ sym are.log.items) in
    let markers = of.log.markers ∙ (ap markers_of front.0 ∙ sym are.log.markers) in
    let closes = one_closes are.batches l.closes m.closes of.ascends are.ascends (subst (λ (bs : List Batch). Hold l.closes bs) front.0 of.log.closes) are.log.closes in
    λ i. record { topic = topic i; number = number i; end = end i; segments = segments i; items = items i; closes = closes i; markers = markers i }

pub one_logs : (ps : List Partition) (ls ms : List PartLog) → AreLogsOf ps ls → AreLogsOf ps ms → ls ≡ ms
one_logs [] [] [] of are = refl
one_logs [] [] (m ∷ ms) of are = absurd are
one_logs [] (l ∷ ls) ms of are = absurd of
one_logs (p ∷ ps) [] ms of are = absurd of
one_logs (p ∷ ps) (l ∷ ls) [] of are = absurd are
one_logs (p ∷ ps) (l ∷ ls) (m ∷ ms) of are =
    let here = one_log p l m of.0 are.0 in
    let others = one_logs ps ls ms of.1 are.1 in
    λ i. here i ∷ others i
