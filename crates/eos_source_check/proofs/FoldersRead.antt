-- What is so of what was judged is so of what was read; and where it is known what stands below a folder, of the evidence that stands there.
use Rattle.std.proofs.Common.{◌≡◌, ◌∙◌, ℕ, Bool, true, false, List, [], refl, sym, subst}
use Rattle.eos_disk.specs.Entries.{Entry}
use Rattle.eos_disk.specs.Shapes.{IsShapeAt, AreKnown}
use Rattle.eos_disk.specs.declared.names.Form.{Form}
use Rattle.eos_disk.proofs.OneShape.{one_shape}
use Rattle.eos_evidence.specs.Evidence.{EvidenceParts, segments_of}
use Rattle.eos_source.specs.FolderLogs.{is_log_at}
use Rattle.eos_source.specs.Said.{Known, known_by}
use Rattle.eos_source.specs.Saying.{said_at, known_at, StandsAt}
use Rattle.eos_source.specs.Shapes.{HoldsAsSaid}
use Rattle.eos_source.proofs.SameShape.{holds_of_known}
use Rattle.eos_source_check.specs.AllFaults.{AreAllFaults}
use Rattle.eos_source_check.specs.Again.{AreThere}
use Rattle.eos_source_check.specs.Folders.{HoldsAsRead, HoldsIn}
use Rattle.eos_source_check.specs.Judged.{IsJudgedFor, IsJudgedOf}
use Rattle.eos_source_check.specs.Listed.{IsListOf}
use Rattle.eos_source_check.specs.declared.judged.Judged.{Judged}
use Rattle.eos_source_check.specs.steps.JudgedBy.{HoldsBy}
use Rattle.eos_source_check.proofs.KnownAgain.{there}
use Rattle.eos_verdict.specs.declared.verdict.Fault.{Fault}

-- ---- of what was judged

-- what needs no partition once more
pub by_judged : (known : ℕ → Known) (shape : EvidenceParts) (judged : Judged) (all : Bool) (Holds : EvidenceParts → Type 0) → ((e : EvidenceParts) → e.spec ≡ shape.spec → IsJudgedFor judged e → Holds e) → HoldsBy known shape judged all Holds
by_judged known shape judged all Holds h = record { again = []; once = λ _. refl; read = tt; are = λ e spec j there. h e spec j }

-- what needs the list of all faults
pub by_list : (known : ℕ → Known) (shape : EvidenceParts) (judged : Judged) (all : Bool) (Holds : EvidenceParts → Type 0) (faults : List Fault) → all ≡ true → IsListOf known shape judged.logs faults
    → ((e : EvidenceParts) → e.spec ≡ shape.spec → (j : IsJudgedFor judged e) → AreAllFaults e j.logs.whole j.logs.of faults → Holds e) → HoldsBy known shape judged all Holds
by_list known shape judged all Holds faults every list h = record {
  again = list.again;
  once = λ first. absurd (let bad : true ≡ false = sym every ∙ first in cc);
  read = list.read;
  are = λ e spec j there. h e spec j (list.are e j.is_evidence spec j.logs there);
}

pub by_too : (known : ℕ → Known) (shape : EvidenceParts) (judged : Judged) (all : Bool) (Holds Follows : EvidenceParts → Type 0) → ((e : EvidenceParts) → e.spec ≡ shape.spec → IsJudgedFor judged e → Holds e → Follows e)
    → HoldsBy known shape judged all Holds → HoldsBy known shape judged all Follows
by_too known shape judged all Holds Follows follows h =
    record { again = h.again; once = h.once; read = h.read; are = λ e spec j there. follows e spec j (h.are e spec j there) }

pub of_judged : (known : ℕ → Known) (shape : EvidenceParts) (judged : Judged) (all : Bool) (Holds : EvidenceParts → Type 0) → IsJudgedOf known shape judged → HoldsBy known shape judged all Holds → HoldsAsRead known shape all Holds
of_judged known shape judged all Holds j h = record {
  again = h.again;
  once = h.once;
  read = h.read;
  are = record { said = j.said; as_known = j.as_known; holds = λ e of there. h.are e of.spec (j.holds e of) there };
}

-- ---- of what was read

-- once
pub read_once : (known : ℕ → Known) (shape : EvidenceParts) (all : Bool) (Holds : EvidenceParts → Type 0) → HoldsAsSaid known shape Holds → HoldsAsRead known shape all Holds
read_once known shape all Holds h =
    record { again = []; once = λ _. refl; read = tt; are = record { said = h.said; as_known = h.as_known; holds = λ e of there. h.holds e of } }

pub so_too : (known : ℕ → Known) (shape : EvidenceParts) (all : Bool) (Holds Follows : EvidenceParts → Type 0) → ((e : EvidenceParts) → Holds e → Follows e) → HoldsAsRead known shape all Holds → HoldsAsRead known shape all Follows
so_too known shape all Holds Follows follows h = record {
  again = h.again;
  once = h.once;
  read = h.read;
  are = record { said = h.are.said; as_known = h.are.as_known; holds = λ e of there. follows e (h.are.holds e of there) };
}

-- ---- of a folder

pub in_folder : (holds : List ℕ → Entry) (folder : List ℕ) (shape : EvidenceParts) (forms : List Form) (Holds : (ℕ → Known) → EvidenceParts → Type 0) → IsShapeAt holds folder shape forms
    → Holds (known_at holds folder (segments_of shape.partitions) forms) shape → HoldsIn holds folder Holds
in_folder holds folder shape forms Holds is each = record { shape = shape; forms = forms; is = is; each = each }

pub in_too : (holds : List ℕ → Entry) (folder : List ℕ) (Holds Follows : (ℕ → Known) → EvidenceParts → Type 0) → ((known : ℕ → Known) (shape : EvidenceParts) → Holds known shape → Follows known shape)
    → HoldsIn holds folder Holds → HoldsIn holds folder Follows
in_too holds folder Holds Follows follows h =
    record { shape = h.shape; forms = h.forms; is = h.is; each = follows (known_at holds folder (segments_of h.shape.partitions) h.forms) h.shape h.each }

-- where it is known what stands below it, there is one shape
pub in_known : (holds : List ℕ → Entry) (folder : List ℕ) (Holds : (ℕ → Known) → EvidenceParts → Type 0) (e : EvidenceParts) → AreKnown holds folder → (at : StandsAt holds folder e) → HoldsIn holds folder Holds
    → Holds (known_at holds folder (segments_of at.shape.partitions) at.forms) at.shape
in_known holds folder Holds e known at h =
    let one = one_shape holds folder h.shape at.shape h.forms at.forms known h.is at.is in
    let of_shape = subst (λ (s : EvidenceParts). Holds (known_at holds folder (segments_of s.partitions) h.forms) s) one.0 h.each in
    subst (λ (f : List Form). Holds (known_at holds folder (segments_of at.shape.partitions) f) at.shape) one.1 of_shape

-- what was read of this shape is so of the evidence that stands there
pub stands_there : (holds : List ℕ → Entry) (folder : List ℕ) (all : Bool) (Holds : EvidenceParts → Type 0) (e : EvidenceParts) (at : StandsAt holds folder e)
    → HoldsAsRead (known_at holds folder (segments_of at.shape.partitions) at.forms) at.shape all Holds → Holds e
stands_there holds folder all Holds e at h =
    let names = segments_of at.shape.partitions in
    let known = known_by (said_at holds folder names at.forms) (is_log_at at.forms) in
    holds_of_known (said_at holds folder names at.forms) (is_log_at at.forms) at.stands.said at.shape e (λ x. AreThere h.again x.partitions → Holds x) at.stands.stands at.stands.is h.are
    (there known at.stands.said at.shape e h.again at.stands.stands at.stands.is h.read)

pub known_there : (holds : List ℕ → Entry) (folder : List ℕ) (all : Bool) (Holds : (ℕ → Known) → EvidenceParts → EvidenceParts → Type 0) (e : EvidenceParts) → AreKnown holds folder → (at : StandsAt holds folder e)
    → HoldsIn holds folder (λ known shape. HoldsAsRead known shape all (Holds known shape)) → Holds (known_at holds folder (segments_of at.shape.partitions) at.forms) at.shape e
known_there holds folder all Holds e known at h =
    stands_there holds folder all (Holds (known_at holds folder (segments_of at.shape.partitions) at.forms) at.shape) e at
    (in_known holds folder (λ known shape. HoldsAsRead known shape all (Holds known shape)) e known at h)

pub read_too : (holds : List ℕ → Entry) (folder : List ℕ) (all : Bool) (Holds Follows : (ℕ → Known) → EvidenceParts → EvidenceParts → Type 0) → ((known : ℕ → Known) (shape e : EvidenceParts) → Holds known shape e → Follows known shape e)
    → HoldsIn holds folder (λ known shape. HoldsAsRead known shape all (Holds known shape)) → HoldsIn holds folder (λ known shape. HoldsAsRead known shape all (Follows known shape))
read_too holds folder all Holds Follows follows h =
    in_too holds folder (λ known shape. HoldsAsRead known shape all (Holds known shape)) (λ known shape. HoldsAsRead known shape all (Follows known shape))
    (λ known shape. so_too known shape all (Holds known shape) (Follows known shape) (follows known shape)) h
