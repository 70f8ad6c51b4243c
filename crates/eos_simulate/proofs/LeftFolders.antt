-- What was left of a run, put together: just the evidence's files stand in the folder, and the history and the labels at their paths.
use Rattle.std.specs.Prelude.{⊤}
use Rattle.std.proofs.Common.{◌≡◌, ◌≢◌, ◌+◌, ℕ, Bool, true, false, List, [], ◌∷◌, ◌++◌, Bor, Option, None, Some, codes, length, is_some, option_map, refl, sym, ap, ◌∙◌, subst, arith, append_assoc, length-append}
use Rattle.eos_disk.specs.Entries.{Entry, HasBytes}
use Rattle.eos_disk.specs.Changes.{bare, IsMade}
use Rattle.eos_disk.specs.Paths.{manifest_path, path_of_end, segment_path}
use Rattle.eos_disk.specs.Putting.{beside}
use Rattle.eos_disk.specs.Reading.{IsReadWhole}
use Rattle.eos_disk.specs.Shapes.{AreKnown}
use Rattle.eos_disk.specs.Writing.{SegmentsWritten, PartitionsWritten, IsEvidenceWritten}
use Rattle.eos_disk.specs.Written.{below, IsEmptyAt, HasListings}
use Rattle.eos_disk.specs.declared.names.Form.TheVariants.{Log}
use Rattle.eos_disk.proofs.Kept.{absent_same, bytes_same}
use Rattle.eos_disk.proofs.JustWritten.{just_written}
use Rattle.eos_evidence.specs.declared.partition.Partition.{Partition}
use Rattle.eos_evidence.specs.declared.segment.Segment.{Segment}
use Rattle.eos_evidence.specs.Evidence.{EvidenceParts}
use Rattle.eos_words.specs.declared.request.Simulation.{Simulation}
use Rattle.eos_drive.specs.declared.deed.Deed.{Deed}
use Rattle.eos_machine.specs.declared.config.Config.{Config}
use Rattle.eos_machine.specs.declared.switches.Switches.{Switches}
use Rattle.eos_history_lines.specs.declared.line.Head.{Head}
use Rattle.eos_history_lines.specs.declared.schedule.Schedule.{Schedule}
use Rattle.eos_simulate.specs.declared.course.Course.{Course}
use Rattle.eos_simulate.specs.Folders.{Texts, head_said, wanted_by, IsOfScript, IsOfWords, IsOfLines, IsRun, IsRunBy, IsBegunIf, IsEndedIf, IsBelow, IsApartFrom, IsOther, AreApart, IsThereIf, IsSimulated}
use Rattle.eos_simulate.specs.HistoryTexts.{IsHistoryIf}
use Rattle.eos_simulate.specs.MistakeTexts.{collected_lines}
use Rattle.eos_simulate.specs.LabelTexts.{AreLabelsIf}
use Rattle.eos_simulate.specs.declared.made.WantedTexts.{WantedTexts}
use Rattle.eos_simulate.specs.Settings.{config_said, switches_said, unclean_said}
use Rattle.eos_simulate.specs.steps.Heads.{head_of}

-- ---- what lies below a folder, and what doesn't

not_itself : (folder name : List ℕ) → below folder name ≢ folder
not_itself folder name e =
    let same : length (folder ++ (codes "/" ++ name)) ≡ length folder = ap length e in
    let more : length (folder ++ (codes "/" ++ name)) ≡ length folder + length (codes "/" ++ name) = length-append folder (codes "/" ++ name) in
    omega (arith, same, more)

log_below : (folder : List ℕ) (s : Segment) → IsBelow folder (segment_path folder s Log)
log_below folder s = (_, append_assoc folder _ _)

folder_below : (folder : List ℕ) (p : Partition) → IsBelow folder (path_of_end folder p.end)
folder_below folder p = (_, refl)

manifest_below : (folder : List ℕ) → IsBelow folder (manifest_path folder)
manifest_below folder = (codes "evidence.json", refl)

beside_below : (folder : List ℕ) → IsBelow folder (beside (manifest_path folder))
beside_below folder = (codes "evidence.json" ++ codes ".new", append_assoc folder (codes "/evidence.json") (codes ".new"))

other_than : (folder q path : List ℕ) → (IsBelow folder q → ⊥) → IsBelow folder path → q ≢ path
other_than folder q path not_below is e = not_below (is.0, e ∙ is.1)

-- ---- writing the evidence leaves what doesn't lie below the folder

segments_aside : (old new : List ℕ → Entry) (folder q : List ℕ) (ss : List Segment) → (IsBelow folder q → ⊥) → SegmentsWritten old folder ss new → bare (new q) ≡ bare (old q)
segments_aside old new folder q [] aside h = ap (λ (x : List ℕ → Entry). bare (x q)) h
segments_aside old new folder q (s ∷ ss) aside h =
    segments_aside h.0 new folder q ss aside h.2 ∙ h.1.others q (other_than folder q (segment_path folder s Log) aside (log_below folder s))

partitions_aside : (old new : List ℕ → Entry) (folder q : List ℕ) (ps : List Partition) → (IsBelow folder q → ⊥) → PartitionsWritten old folder ps new → bare (new q) ≡ bare (old q)
partitions_aside old new folder q [] aside h = ap (λ (x : List ℕ → Entry). bare (x q)) h
partitions_aside old new folder q (p ∷ ps) aside h =
    partitions_aside h.0 new folder q ps aside h.2
    ∙ (segments_aside h.1.0 h.0 folder q p.segments aside h.1.2 ∙ h.1.1.others q (other_than folder q (path_of_end folder p.end) aside (folder_below folder p)))

evidence_aside : (old new : List ℕ → Entry) (folder q : List ℕ) (e : EvidenceParts) → (IsBelow folder q → ⊥) → IsEvidenceWritten old folder e new → bare (new q) ≡ bare (old q)
evidence_aside old new folder q e aside h =
    h.placed.others q (other_than folder q (manifest_path folder) aside (manifest_below folder)) (other_than folder q (beside (manifest_path folder)) aside (beside_below folder))
    ∙ partitions_aside old h.mid folder q e.partitions aside h.partitions

-- ---- the history leaves what lies below the folder

begun_aside : (history : Option (Bor (List ℕ))) (file : Option (List ℕ)) (old new : List ℕ → Entry) (folder name : List ℕ) → IsApartFrom folder history → IsBegunIf history file old new
    → bare (new (below folder name)) ≡ bare (old (below folder name))
begun_aside None None old new folder name apart h = ap (λ (x : List ℕ → Entry). bare (x (below folder name))) h
begun_aside None (Some file) old new folder name apart h = absurd h
begun_aside (Some path) None old new folder name apart h = absurd h
begun_aside (Some path) (Some file) old new folder name apart h = h.1.1.0.others (below folder name) (λ e. apart.1 (name, sym e))

ended_aside : (history : Option (Bor (List ℕ))) (file text : Option (List ℕ)) (old begun made new : List ℕ → Entry) (folder name : List ℕ) → IsApartFrom folder history → IsBegunIf history file old begun
    → IsEndedIf file text made new → bare (new (below folder name)) ≡ bare (made (below folder name))
ended_aside None None text old begun made new folder name apart b h = ap (λ (x : List ℕ → Entry). bare (x (below folder name))) h
ended_aside None (Some file) text old begun made new folder name apart b h = absurd b
ended_aside (Some path) None text old begun made new folder name apart b h = absurd b
ended_aside (Some path) (Some file) None old begun made new folder name apart b h =
    h.others.others (below folder name) (λ e. apart.1 (name, sym (e ∙ ap beside b.0)))
ended_aside (Some path) (Some file) (Some text) old begun made new folder name apart b h =
    h.others (below folder name) (λ e. apart.0 (name, sym (e ∙ b.0))) (λ e. apart.1 (name, sym (e ∙ ap beside b.0)))

-- nothing stands below the folder after what nothing stood there before
empty_on : (old new : List ℕ → Entry) (folder : List ℕ) → ((name : List ℕ) → bare (new (below folder name)) ≡ bare (old (below folder name))) → IsEmptyAt old folder → IsEmptyAt new folder
empty_on old new folder same empty name = absent_same (new (below folder name)) (old (below folder name)) (same name) (empty name)

empty_still : (history labels : Option (Bor (List ℕ))) (files texts : Texts) (old begun ready made labelled ended : List ℕ → Entry) (folder : List ℕ)
    → IsApartFrom folder history → IsApartFrom folder labels → IsBegunIf history files.0 old begun → IsBegunIf labels files.1 begun ready → IsMade ready folder made
    → IsEndedIf files.1 texts.1 made labelled → IsEndedIf files.0 texts.0 labelled ended → IsEmptyAt old folder → IsEmptyAt ended folder
empty_still history labels files texts old begun ready made labelled ended folder apart also b c m l e empty =
    empty_on labelled ended folder (λ name. ended_aside history files.0 texts.0 old begun labelled ended folder name apart b e)
    (empty_on made labelled folder (λ name. ended_aside labels files.1 texts.1 begun ready made labelled folder name also c l)
    (empty_on ready made folder (λ name. m.others (below folder name) (not_itself folder name))
    (empty_on begun ready folder (λ name. begun_aside labels files.1 begun ready folder name also c)
    (empty_on old begun folder (λ name. begun_aside history files.0 old begun folder name apart b) empty))))

-- ---- the history and the labels are there

abbrev IsSaidIf : Bool → Option (List ℕ) → Type 0
IsSaidIf true None = ⊥
IsSaidIf true (Some text) = ⊤
IsSaidIf false text = ⊤

history_said : (keeps : Bool) (h : Head) (deeds : List Deed) (text : Option (List ℕ)) → IsHistoryIf keeps h deeds text → IsSaidIf keeps text
history_said true h deeds None is = is
history_said true h deeds (Some text) is = tt
history_said false h deeds text is = tt

labels_said : (keeps : Bool) (c : Config) (stops : Bool) (deeds : List Deed) (text : Option (List ℕ)) → AreLabelsIf keeps c stops deeds text → IsSaidIf keeps text
labels_said true c stops deeds None is = is
labels_said true c stops deeds (Some text) is = tt
labels_said false c stops deeds text is = tt

abbrev AreSaidIf : Simulation → Texts → Type 0
AreSaidIf words texts = IsSaidIf (is_some words.history) texts.0 × IsSaidIf (is_some words.labels) texts.1

run_said : (schedule : Option (Bor (List ℕ))) (words : Simulation) (holds : List ℕ → Entry) (left rest : Option (List ℕ)) (e : EvidenceParts) (texts : Texts)
    → IsRunBy schedule words holds left rest e texts → AreSaidIf words texts
run_said None words holds left rest e texts is =
    (history_said (is_some words.history) (head_said words) is.deeds texts.0 is.texts_are.0, labels_said (is_some words.labels) (config_said words.sizes) words.stop_anywhere is.deeds texts.1 is.texts_are.1)
run_said (Some path) words holds left rest e texts is =
    (history_said (is_some words.history) is.0.head is.2.deeds texts.0 is.2.texts_are.0, labels_said (is_some words.labels) is.0.head.config words.stop_anywhere is.2.deeds texts.1 is.2.texts_are.1)

-- the labels that are wanted stay said, whatever is added to them
said_after : (keeps : Bool) (more : List ℕ) (text all : Option (List ℕ)) → all ≡ option_map (λ t. t ++ more) text → IsSaidIf keeps text → IsSaidIf keeps all
said_after keeps more text all e said = subst (λ (t : Option (List ℕ)). IsSaidIf keeps t) (sym e) (with_more keeps text said)
  where
    with_more : (keeps : Bool) (text : Option (List ℕ)) → IsSaidIf keeps text → IsSaidIf keeps (option_map (λ t. t ++ more) text)
    with_more true None s = s
    with_more true (Some t) s = tt
    with_more false text s = tt

all_said : (words : Simulation) (holds : List ℕ → Entry) (left rest : Option (List ℕ)) (e : EvidenceParts) (texts : Texts) → IsRun words holds left rest e texts → AreSaidIf words texts
all_said words holds left rest e texts is =
    let said = run_said words.schedule words holds left rest is.evidence is.said is.run in (
      subst (λ (t : Option (List ℕ)). IsSaidIf (is_some words.history) t) (sym is.collected.history) said.0,
      said_after (is_some words.labels) (collected_lines is.mistakes) is.said.1 texts.1 is.collected.labels said.1,
    )

-- a text that ended stands at its path
ended_there : (path : Bor (List ℕ)) (file : Option (List ℕ)) (text : List ℕ) (old begun made new : List ℕ → Entry) → IsBegunIf (Some path) file old begun → IsEndedIf file (Some text) made new
    → HasBytes (new path.now) text
ended_there path None text old begun made new b h = absurd b
ended_there path (Some file) text old begun made new b h = subst (λ (p : List ℕ). HasBytes (new p) text) b.0 h.at

history_there : (history : Option (Bor (List ℕ))) (file text : Option (List ℕ)) (old begun made ended new : List ℕ → Entry) (folder : List ℕ) (e : EvidenceParts) → IsBegunIf history file old begun
    → IsSaidIf (is_some history) text → IsEndedIf file text made ended → IsEvidenceWritten ended folder e new → IsApartFrom folder history → IsThereIf history text new
history_there None file text old begun made ended new folder e b s h w apart = tt
history_there (Some path) file None old begun made ended new folder e b s h w apart = absurd s
history_there (Some path) file (Some text) old begun made ended new folder e b s h w apart =
    bytes_same (new path.now) (ended path.now) text (evidence_aside ended new folder path.now e apart.0 w) (ended_there path file text old begun made ended b h)

-- what ends the file of the history leaves another
ended_other : (history : Option (Bor (List ℕ))) (other : Bor (List ℕ)) (file text : Option (List ℕ)) (old begun made new : List ℕ → Entry) → IsOther history (Some other) → IsBegunIf history file old begun
    → IsEndedIf file text made new → bare (new other.now) ≡ bare (made other.now)
ended_other None other None text old begun made new apart b h = ap (λ (x : List ℕ → Entry). bare (x other.now)) h
ended_other None other (Some file) text old begun made new apart b h = absurd b
ended_other (Some path) other None text old begun made new apart b h = absurd b
ended_other (Some path) other (Some file) None old begun made new apart b h = h.others.others other.now (λ e. apart.1 (e ∙ ap beside b.0))
ended_other (Some path) other (Some file) (Some text) old begun made new apart b h = h.others other.now (λ e. apart.0 (e ∙ b.0)) (λ e. apart.1 (e ∙ ap beside b.0))

labels_there : (history labels : Option (Bor (List ℕ))) (file other said text : Option (List ℕ)) (old begun ready made labelled ended new : List ℕ → Entry) (folder : List ℕ) (e : EvidenceParts)
    → IsBegunIf history file old begun → IsBegunIf labels other begun ready → IsSaidIf (is_some labels) text → IsEndedIf other text made labelled → IsEndedIf file said labelled ended
    → IsEvidenceWritten ended folder e new → IsApartFrom folder labels → IsOther history labels → IsThereIf labels text new
labels_there history None file other said text old begun ready made labelled ended new folder e b c s l h w apart also = tt
labels_there history (Some path) file other said None old begun ready made labelled ended new folder e b c s l h w apart also = absurd s
labels_there history (Some path) file other said (Some text) old begun ready made labelled ended new folder e b c s l h w apart also =
    bytes_same (new path.now) (ended path.now) text (evidence_aside ended new folder path.now e apart.0 w)
    (bytes_same (ended path.now) (labelled path.now) text (ended_other history path file said old begun labelled ended also b h)
    (ended_there path other text begun ready made labelled c l))

-- ---- all of it

pub simulated : (words : Simulation) (left rest : Option (List ℕ)) (old begun ready made labelled ended new : List ℕ → Entry) (files texts : Texts) (e : EvidenceParts)
    → IsBegunIf words.history files.0 old begun → IsBegunIf words.labels files.1 begun ready → IsRun words ready left rest e texts
    → IsMade ready words.folder.now made → IsEndedIf files.1 texts.1 made labelled → IsEndedIf files.0 texts.0 labelled ended → IsEvidenceWritten ended words.folder.now e new
    → (IsEmptyAt ended words.folder.now → AreKnown new words.folder.now → HasListings new → IsReadWhole new words.folder.now e) → IsSimulated words left rest old new e
simulated words left rest old begun ready made labelled ended new files texts e begins begins_labels run folder ends_labels ends written back =
    let empty = λ (none : IsEmptyAt old words.folder.now) (apart : AreApart words).
    empty_still words.history words.labels files texts old begun ready made labelled ended words.folder.now apart.0 apart.1 begins begins_labels folder ends_labels ends none in
    let said = all_said words ready left rest e texts run in
    record {
      is = record {
        begun = begun;
        ready = ready;
        made = made;
        labelled = labelled;
        ended = ended;
        files = files;
        texts = texts;
        begins = begins;
        begins_labels = begins_labels;
        run = run;
        folder = folder;
        ends_labels = ends_labels;
        ends = ends;
        written = written;
      };
      just = λ none apart. just_written ended new words.folder.now e (empty none apart) written;
      back = λ none apart. back (empty none apart);
      kept = λ apart. history_there words.history files.0 texts.0 old begun labelled ended new words.folder.now e begins said.0 ends written apart.0;
      labelled = λ apart. labels_there words.history words.labels files.0 files.1 texts.0 texts.1 old begun ready made labelled ended new words.folder.now e begins begins_labels said.1 ends_labels ends written apart.1 apart.2;
    }

-- ---- the run by words

abbrev IsOfParts : WantedTexts → EvidenceParts → Texts → Bool → ℕ → Config → Switches → ℕ → ℕ → Type 0
IsOfParts keeps e texts stops unclean c u seed count = IsOfScript c u stops unclean (record { config = c; switches = u; seed = seed; words = count }) keeps e texts

pub of_words : (words : Simulation) (course : Course) (keeps : WantedTexts) (e : EvidenceParts) (texts : Texts) → course.config ≡ config_said words.sizes
    → (course.seed ≡ words.seed) × (course.words ≡ words.events) → course.switches ≡ switches_said words.switches.items → course.stops ≡ words.stop_anywhere → course.unclean ≡ unclean_said words.mishaps.items → keeps ≡ wanted_by words
    → IsOfScript course.config course.switches course.stops course.unclean (head_of course) keeps e texts → IsOfWords words e texts
of_words words course keeps e texts config script switches stops unclean wanted is =
    let sizes = subst (λ (c : Config). IsOfParts keeps e texts course.stops course.unclean c course.switches course.seed course.words) config is in
    let rules = subst (λ (u : Switches). IsOfParts keeps e texts course.stops course.unclean (config_said words.sizes) u course.seed course.words) switches sizes in
    let seeded = subst (λ (n : ℕ). IsOfParts keeps e texts course.stops course.unclean (config_said words.sizes) (switches_said words.switches.items) n course.words) script.0 rules in
    let counted = subst (λ (n : ℕ). IsOfParts keeps e texts course.stops course.unclean (config_said words.sizes) (switches_said words.switches.items) words.seed n) script.1 seeded in
    let ended = subst (λ (b : Bool). IsOfParts keeps e texts b course.unclean (config_said words.sizes) (switches_said words.switches.items) words.seed words.events) stops counted in
    let unlost = subst (λ (n : ℕ). IsOfParts keeps e texts words.stop_anywhere n (config_said words.sizes) (switches_said words.switches.items) words.seed words.events) unclean ended in
    subst (λ (k : WantedTexts). IsOfParts k e texts words.stop_anywhere (unclean_said words.mishaps.items) (config_said words.sizes) (switches_said words.switches.items) words.seed words.events) wanted unlost

-- ---- the run by lines

pub of_lines : (words : Simulation) (s : Schedule) (stops : Bool) (keeps : WantedTexts) (e : EvidenceParts) (texts : Texts) → keeps ≡ wanted_by words → IsOfLines s stops keeps e texts → IsOfLines s stops (wanted_by words) e texts
of_lines words s stops keeps e texts wanted is = subst (λ (k : WantedTexts). IsOfLines s stops k e texts) wanted is
