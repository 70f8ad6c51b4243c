-- The logs as a story sees them.
use Rattle.std.proofs.Common.{◌≡◌, ◌∙◌, ◌++◌, ℕ, suc, List, [], ◌∷◌, length, map, take, slice_get, Option, Some, None, Bool, true, false, inl, inr, refl, sym, ap, subst, arith, append_assoc, append-nil, length-append}
use Rattle.std.proofs.lemmas.List.{map-append, length-map, take_all}
use Rattle.eos_base.specs.declared.partition_name.PartitionName.{PartitionName}
use Rattle.eos_commits.specs.EvidenceLogs.{IsLogOf, AreLogsOf}
use Rattle.eos_check.proofs.LogsUnique.{one_logs}
use Rattle.eos_evidence.specs.declared.application.App.{App}
use Rattle.eos_evidence.specs.declared.partition.Partition.{Partition}
use Rattle.eos_evidence.specs.Evidence.{EvidenceParts, IsEvidence}
use Rattle.eos_evidence.specs.SpecFields.{SpecFields}
use Rattle.eos_fold.specs.Parts.{PartLog}
use Rattle.eos_kept.specs.declared.part.Told.{Told}
use Rattle.eos_manifest.specs.Manifests.{is_judged}
use Rattle.eos_reading.specs.declared.wanted.Wanted.TheVariants.{Texts}
use Rattle.eos_reading.specs.Wanted.{kept_log, wanted_log, wanted_logs}
use Rattle.eos_sought.specs.Partitions.{partition_named}
use Rattle.eos_source.specs.Said.{Known}
use Rattle.eos_source_check.specs.Again.{IsNamedAgain, AreTextsOfRead, AreTextsNamed, name_of}
use Rattle.eos_explaining.specs.Seen.{seen_log, seen_logs}
use Rattle.eos_explaining.specs.steps.Found.{IsItsLog}
use Rattle.eos_explaining.specs.steps.Seen.{AreTextsBy, IsSeenBy, AreSeenSoFar, AreAllSeenBy, AreSeenBy}
use Rattle.eos_explaining.proofs.Covered.{none_there}
use Rattle.eos_explaining.proofs.NamedAgain.{none_again, named_again, none_read, one_read, both_read, them_first, them_more, there_named}
use Rattle.eos_explaining.proofs.OwnNames.{own_named}

one_log : (p : Partition) (l m : PartLog) → IsLogOf p l → IsLogOf p m → l ≡ m
one_log p l m of are =
    let both : l ∷ [] ≡ m ∷ [] = one_logs (p ∷ []) (l ∷ []) (m ∷ []) (of, tt) (are, tt) in
    cc both

-- the name of the log is its partition's
named_so : (e : EvidenceParts) (part log : PartLog) (name : PartitionName) (i : IsItsLog e part log) → name ≡ record { topic = part.topic; partition = part.number } → name ≡ name_of i.partition
named_so e part log name i is =
    let topic = i.topic ∙ i.of.log.of_topic in
    let number = i.number ∙ i.of.log.of_number in
    is ∙ (λ k. record { topic = topic k; partition = number k })

its_own : (e : EvidenceParts) (part log : PartLog) (name : PartitionName) (i : IsItsLog e part log) → IsEvidence e → name ≡ record { topic = part.topic; partition = part.number }
    → partition_named name e.partitions ≡ Some i.partition
its_own e part log name i is named =
    subst (λ (n : PartitionName). partition_named n e.partitions ≡ Some i.partition) (sym (named_so e part log name i named)) (own_named e i.place i.partition is i.there)

same_one : (p q : Partition) (o : Option Partition) → o ≡ Some p → o ≡ Some q → p ≡ q
same_one p q o a b = cc (a, b)

-- the keys, values and claims of the partition that was read are those of the log
texts_seen : (e : EvidenceParts) (part log texts whole : PartLog) (name : PartitionName) (p : Partition) → IsEvidence e → IsItsLog e part log
    → name ≡ record { topic = part.topic; partition = part.number } → partition_named name e.partitions ≡ Some p → IsLogOf p whole → texts ≡ wanted_log Texts whole → texts ≡ wanted_log Texts log
texts_seen e part log texts whole name p is i named found of wanted =
    let same : i.partition ≡ p = same_one i.partition p (partition_named name e.partitions) (its_own e part log name i is named) found in
    let one : whole ≡ log = one_log i.partition whole log (subst (λ (q : Partition). IsLogOf q whole) (sym same) of) i.of in
    wanted ∙ ap (wanted_log Texts) one

texts_by : (known : ℕ → Known) (shape : EvidenceParts) (part texts whole : PartLog) (name : PartitionName) (p : Partition) → name ≡ record { topic = part.topic; partition = part.number }
    → IsNamedAgain known 0 shape.partitions name (Some p) → IsLogOf p whole → texts ≡ wanted_log Texts whole → AreTextsBy known shape part texts
texts_by known shape part texts whole name p named again of wanted = record {
  also = p ∷ [];
  read = one_read known shape.partitions name p again;
  are = λ e log is spec has i. texts_seen e part log texts whole name p is i named (there_named e name p (named_again known 0 shape.partitions name p again) has) of wanted;
}

-- its partition is there
none_unread : (shape e : EvidenceParts) (part log : PartLog) (name : PartitionName) → IsEvidence shape → IsEvidence e → e.spec ≡ shape.spec → IsItsLog e part log
    → name ≡ record { topic = part.topic; partition = part.number } → partition_named name shape.partitions ≡ None → ⊥
none_unread shape e part log name is_shape is spec i named none =
    let there = its_own e part log name i is named in
    let not_there = none_there shape e name is_shape is spec none in
    cc (there, not_there)

no_texts : (known : ℕ → Known) (shape : EvidenceParts) (part texts : PartLog) (name : PartitionName) → IsEvidence shape → name ≡ record { topic = part.topic; partition = part.number }
    → IsNamedAgain known 0 shape.partitions name None → AreTextsBy known shape part texts
no_texts known shape part texts name is_shape named again = record {
  also = [];
  read = none_read known shape.partitions;
  are = λ e log is spec has i. absurd (none_unread shape e part log name is_shape is spec i named (none_again known 0 shape.partitions name again));
}

-- by its name

pub none_named : (known : ℕ → Known) (shape : EvidenceParts) (part texts : PartLog) (name : PartitionName) (found : Option Told) → IsEvidence shape → name ≡ record { topic = part.topic; partition = part.number }
    → found ≡ None → AreTextsNamed known shape.partitions name found → AreTextsBy known shape part texts
none_named known shape part texts name found is_shape named none texts_are = go t.read t.again t.are
  where
    t : AreTextsNamed known shape.partitions name None
    t = subst (AreTextsNamed known shape.partitions name) none texts_are

    go : (read : Option Partition) → IsNamedAgain known 0 shape.partitions name read → AreTextsOfRead read None → AreTextsBy known shape part texts
    go None again are = no_texts known shape part texts name is_shape named again
    go (Some p) again are = absurd are

pub told_named : (known : ℕ → Known) (shape : EvidenceParts) (part : PartLog) (name : PartitionName) (found : Option Told) (told : Told) → name ≡ record { topic = part.topic; partition = part.number }
    → found ≡ Some told → AreTextsNamed known shape.partitions name found → AreTextsBy known shape part told.part
told_named known shape part name found told named some texts_are = go t.read t.again t.are
  where
    t : AreTextsNamed known shape.partitions name (Some told)
    t = subst (AreTextsNamed known shape.partitions name) some texts_are

    go : (read : Option Partition) → IsNamedAgain known 0 shape.partitions name read → AreTextsOfRead read (Some told) → AreTextsBy known shape part told.part
    go None again are = absurd are
    go (Some p) again are = texts_by known shape part told.part are.part.log name p named again are.part.of are.part.wanted

-- ---- of a topic that is named or not

pub judged_as : (xs ys : List App) (t u : List ℕ) (b : Bool) → xs ≡ ys → t ≡ u → b ≡ is_judged xs t → is_judged ys u ≡ b
judged_as xs ys t u b same topic is = ap (λ (l : List App). is_judged l u) (sym same) ∙ (ap (is_judged xs) (sym topic) ∙ sym is)

seen_kept : (apps : List App) (part log : PartLog) → part ≡ kept_log apps log → is_judged apps part.topic ≡ true → part ≡ seen_log apps log
seen_kept apps part log is named =
    let topic : part.topic ≡ log.topic = ap (λ (l : PartLog). l.topic) is in
    let so : is_judged apps log.topic ≡ true = ap (is_judged apps) (sym topic) ∙ named in
    is ∙ rw so refl

seen_texts : (apps : List App) (part log texts : PartLog) → part ≡ kept_log apps log → is_judged apps part.topic ≡ false → texts ≡ wanted_log Texts log → texts ≡ seen_log apps log
seen_texts apps part log texts is unnamed same =
    let topic : part.topic ≡ log.topic = ap (λ (l : PartLog). l.topic) is in
    let so : is_judged apps log.topic ≡ false = ap (is_judged apps) (sym topic) ∙ unnamed in
    same ∙ rw so refl

pub kept_by : (known : ℕ → Known) (shape : EvidenceParts) (part : PartLog) → is_judged shape.spec.apps part.topic ≡ true → IsSeenBy known shape part part
kept_by known shape part judged = record {
  also = [];
  read = none_read known shape.partitions;
  is = λ e log is spec has i kept. seen_kept e.spec.apps part log kept (ap (λ (s : SpecFields). is_judged s.apps part.topic) spec ∙ judged);
}

pub texts_as_seen : (known : ℕ → Known) (shape : EvidenceParts) (part texts : PartLog) → is_judged shape.spec.apps part.topic ≡ false → AreTextsBy known shape part texts → IsSeenBy known shape part texts
texts_as_seen known shape part texts unjudged t = record {
  also = t.also;
  read = t.read;
  is = λ e log is spec has i kept. seen_texts e.spec.apps part log texts kept (ap (λ (s : SpecFields). is_judged s.apps part.topic) spec ∙ unjudged) (t.are e log is spec has i);
}

-- ---- one after the other

-- the next log, and its partition
record Next (apps : List App) (ps : List Partition) (logs : List PartLog) (n : ℕ) (part : PartLog) : Type 0 where
  pub log : PartLog
  pub partition : Partition
  pub there : slice_get ps n ≡ Some partition
  pub of : IsLogOf partition log
  pub kept : part ≡ kept_log apps log
  pub taken : take (suc n) logs ≡ take n logs ++ (log ∷ [])

next_here : (apps : List App) (ps : List Partition) (logs before after : List PartLog) (part : PartLog) → AreLogsOf ps logs → before ++ (part ∷ after) ≡ map (kept_log apps) logs → Next apps ps logs (length before) part
next_here apps ps [] [] after part of is = absurd cc
next_here apps ps [] (b ∷ bs) after part of is = absurd cc
next_here apps [] (l ∷ ls) before after part of is = absurd of
next_here apps (p ∷ ps) (l ∷ ls) [] after part of is = record { log = l; partition = p; there = refl; of = of.0; kept = cc; taken = refl }
next_here apps (p ∷ ps) (l ∷ ls) (b ∷ bs) after part of is =
    let rest : bs ++ (part ∷ after) ≡ map (kept_log apps) ls = cc in
    let next = next_here apps ps ls bs after part of.1 rest in
    record { log = next.log; partition = next.partition; there = next.there; of = next.of; kept = next.kept; taken = ap (λ (xs : List PartLog). l ∷ xs) next.taken }

its_log : (e : EvidenceParts) (logs before after : List PartLog) (part : PartLog) (next : Next e.spec.apps e.partitions logs (length before) part) → IsItsLog e part next.log
its_log e logs before after part next = record {
  place = length before;
  partition = next.partition;
  there = next.there;
  of = next.of;
  topic = ap (λ (l : PartLog). l.topic) next.kept;
  number = ap (λ (l : PartLog). l.number) next.kept;
}

next_log : (e : EvidenceParts) (logs before after : List PartLog) (part : PartLog) → AreLogsOf e.partitions logs → before ++ (part ∷ after) ≡ wanted_logs e.spec.apps logs → Next e.spec.apps e.partitions logs (length before) part
next_log e logs before after part of is = next_here e.spec.apps e.partitions logs before after part of is

seen_more : (apps : List App) (ps : List Partition) (logs seen : List PartLog) (n : ℕ) (part one : PartLog) (next : Next apps ps logs n part) → seen ≡ seen_logs apps (take n logs) → one ≡ seen_log apps next.log
    → seen ++ (one ∷ []) ≡ seen_logs apps (take (suc n) logs)
seen_more apps ps logs seen n part one next so is =
    let whole : seen_logs apps (take n logs ++ (next.log ∷ [])) ≡ seen_logs apps (take n logs) ++ (seen_log apps next.log ∷ []) = map-append (seen_log apps) (take n logs) (next.log ∷ []) in
    (λ i. so i ++ (is i ∷ [])) ∙ (sym whole ∙ ap (seen_logs apps) (sym next.taken))

pub none_seen : (known : ℕ → Known) (shape : EvidenceParts) (parts seen : List PartLog) → parts ≡ [] → seen ≡ [] → AreSeenSoFar known shape parts seen
none_seen known shape parts seen no_parts none = record {
  also = [];
  read = none_read known shape.partitions;
  are = λ e logs others is spec has of whole. none ∙ ap (λ (ps : List PartLog). seen_logs e.spec.apps (take (length ps) logs)) (sym no_parts);
}

pub one_seen : (known : ℕ → Known) (shape : EvidenceParts) (parts seen grown : List PartLog) (part one : PartLog) → AreSeenSoFar known shape parts seen → IsSeenBy known shape part one → grown ≡ seen ++ one ∷ [] → AreSeenSoFar known shape (parts ++ part ∷ []) grown
one_seen known shape parts seen grown part one s o more = record {
  also = s.also ++ o.also;
  read = both_read known shape.partitions s.also o.also s.read o.read;
  are = λ e logs others is spec has of whole.
      let all = sym (append_assoc parts (part ∷ []) others) ∙ whole in
      let next = next_log e logs parts others part of all in
      let so = s.are e logs (part ∷ others) is spec (them_first e s.also o.also has) of all in
      let this = o.is e next.log is spec (them_more e s.also o.also has) (its_log e logs parts others part next) next.kept in
      let many : length (parts ++ part ∷ []) ≡ suc (length parts) = length-append parts (part ∷ []) ∙ omega arith in
      more ∙ (seen_more e.spec.apps e.partitions logs seen (length parts) part one next so this ∙ ap (λ n. seen_logs e.spec.apps (take n logs)) (sym many));
}

pub all_so_far : (known : ℕ → Known) (shape : EvidenceParts) (yielded parts seen : List PartLog) → yielded ≡ parts → AreSeenSoFar known shape yielded seen → AreAllSeenBy known shape parts seen
all_so_far known shape yielded parts seen all s = record {
  also = s.also;
  read = s.read;
  are = λ e logs is spec has of whole.
      let these : yielded ++ [] ≡ wanted_logs e.spec.apps logs = append-nil yielded ∙ (all ∙ whole) in
      let many : length yielded ≡ length logs = ap length (all ∙ whole) ∙ length-map logs (kept_log e.spec.apps) in
      s.are e logs [] is spec has of these ∙ ap (seen_logs e.spec.apps) (ap (λ n. take n logs) many ∙ take_all (length logs) logs (omega arith));
}

-- ---- as a story sees them

pub seen_as_kept : (known : ℕ → Known) (shape : EvidenceParts) (parts : List PartLog) → AreSeenBy known shape parts parts
seen_as_kept known shape parts = record { also = []; read = none_read known shape.partitions; are = λ e logs is spec has of whole. inl whole }

pub seen_with_texts : (known : ℕ → Known) (shape : EvidenceParts) (parts seen : List PartLog) → AreAllSeenBy known shape parts seen → AreSeenBy known shape parts seen
seen_with_texts known shape parts seen s = record { also = s.also; read = s.read; are = λ e logs is spec has of whole. inr (s.are e logs is spec has of whole) }
