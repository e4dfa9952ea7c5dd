-- What a check has of a core, and how it ends.
use Rattle.std.proofs.Common.{◌≡◌, ◌≢◌, ℕ, List, refl, ap, sym, ◌∙◌, subst, inl, inr}
use Rattle.std.specs.Prelude.{◌⊎◌, Bool, true, false, Ok, Err}
use Rattle.outside.specs.Shelf.{Known, has_bytes}
use Rattle.outside.specs.declared.reading.ReadFault.{ReadFault}
use Rattle.outside.specs.declared.reading.ReadFault.TheVariants as read_fault
use Rattle.elf_core.specs.Cores.{core_of, IsRefusalOf}
use Rattle.elf_core.specs.declared.core_file.Core.{Core}
use Rattle.elf_core.specs.declared.faults.CoreFault.{CoreFault}
use Rattle.rights_report.specs.CoreLines.{core_line}
use Rattle.rights_report.specs.CoreRefusals.{core_refusal_line}
use Rattle.rights_report.specs.FixedLines.{core_too_long_line}
use Rattle.rights.specs.Ends.{AddsOutcome, Ends}
use Rattle.rights.specs.Jobs.{Job, one_line}
use Rattle.rights.specs.Run.{check_job, check_job_by, core_limit, EndsForCore, IsUnread}
use Rattle.rights.specs.Stopping.{ChecksCore, line_of, status_of, stop_of_core, stop_of_read, WritesLast}
use Rattle.rights.specs.declared.statuses.Status.{Status}
use Rattle.rights.specs.declared.statuses.Status.TheVariants.{Answered, CoreRefused, OutOfMemory, ReadFailed, Usage, WriteFailed}
use Rattle.rights.specs.declared.stopping.Stop.{Stop}
use Rattle.rights.specs.declared.stopping.Stop.TheVariants as stop
use Rattle.rights.proofs.Completeness.{end-whole, may_be-known}
use Rattle.rights.proofs.FileReading.{core_by, is_core_refusal, limit_of, long_core, refused_as, Stands, within_of}
use Rattle.rights.proofs.Finishing.{put-failed}
use Rattle.rights.proofs.PutPieces.{Pieces}

-- a core that isn't read
pub check-unread : (known : Known) (fault : ReadFault) → ChecksCore known (Err (stop_of_read fault))
check-unread known read_fault.Device = inl refl
check-unread known read_fault.Memory = inr (inl refl)

pub check-long : (known : Known) (bytes : List ℕ) (cut : Bool) → Stands known core_limit bytes cut → cut ≡ true → ChecksCore known (Err stop.LongCore)
check-long known bytes cut read is = inr (inr (record {
  core = read.content;
  core_is = read.may_be;
  line = core_too_long_line;
  line_is = refl;
  status_is = refl;
  job_is = ap check_job_by (long_core read.content (read.cut_is ∙ is));
}))

-- one that is refused
pub check-refused : (known : Known) (bytes : List ℕ) (fault : CoreFault) → Stands known core_limit bytes false → IsRefusalOf (core_of bytes) fault
    → ChecksCore known (Err (stop_of_core fault))
check-refused known bytes fault read refusal = elim (is_core_refusal fault) [
  | inl memory ↦ rw memory (inr (inl refl))
  | inr refused ↦ rw refused.1 (inr (inr (record {
    core = bytes;
    core_is = within_of known core_limit bytes read;
    line = core_refusal_line fault;
    line_is = refl;
    status_is = refl;
    job_is = ap check_job_by (core_by bytes (Err fault) (limit_of known core_limit bytes read) (refused_as (core_of bytes) fault refused.0 refusal));
  })))
]

-- one that is accepted
pub check-accepted : (known : Known) (bytes line : List ℕ) (core : Core) → Stands known core_limit bytes false → core_of bytes ≡ Ok core → line ≡ core_line core
    → ChecksCore known (Ok line)
check-accepted known bytes line core read is line_is = record {
  core = bytes;
  core_is = within_of known core_limit bytes read;
  job_is = ap check_job_by (core_by bytes (Ok core) (limit_of known core_limit bytes read) is) ∙ ap (λ text. one_line text Answered) (sym line_is);
}

-- its line was put, or the put failed
pub line-ends : (known : Known) (before now : Pieces) (line : List ℕ) (status : Status) → ChecksCore known (Ok line) → Ends (one_line line Answered) before now status
    → EndsForCore known before now status
line-ends known before now line status has ends =
    record { core = has.core; core_is = has.core_is; ends = subst (λ (job : Job). Ends job before now status) (sym has.job_is) ends }

-- a check that stops
pub stop-ends : (known : Known) (before now : Pieces) (why : Stop) (end : Status) → ChecksCore known (Err why) → WritesLast before now (line_of why) (status_of why) end
    → IsUnread before now end ⊎ EndsForCore known before now end
stop-ends known before now why end checks last = elim checks [
  | inl read ↦ let none = rw read at last in inl (record { nothing = none.0; why = inl none.1 })
  | inr other ↦ elim other [
    | inl memory ↦ let none = rw memory at last in inl (record { nothing = none.0; why = inr none.1 })
    | inr refuses ↦
        let ends = rw (refuses.line_is, refuses.status_is) at last in
        inr (record { core = refuses.core; core_is = refuses.core_is; ends = subst (λ (job : Job). Ends job before now end) (sym refuses.job_is) ends })
  ]
]

-- no put failed before
pub check-unput : (known : Known) (why : Stop) → ChecksCore known (Err why) → status_of why ≢ WriteFailed
check-unput known why checks failed = let is = put-failed why failed in elim checks [
  | inl read ↦ absurd (let never : stop.Put ≡ stop.Read = sym is ∙ read in cc)
  | inr other ↦ elim other [
    | inl memory ↦ absurd (let never : stop.Put ≡ stop.Memory = sym is ∙ memory in cc)
    | inr refuses ↦ absurd (let never : WriteFailed ≡ CoreRefused = sym failed ∙ refuses.status_is in cc)
  ]
]

pub check-used : (known : Known) (why : Stop) → ChecksCore known (Err why) → status_of why ≢ Usage
check-used known why checks is = elim checks [
  | inl read ↦ absurd (let never : ReadFailed ≡ Usage = sym (ap status_of read) ∙ is in cc)
  | inr other ↦ elim other [
    | inl memory ↦ absurd (let never : OutOfMemory ≡ Usage = sym (ap status_of memory) ∙ is in cc)
    | inr refuses ↦ absurd (let never : CoreRefused ≡ Usage = sym refuses.status_is ∙ is in cc)
  ]
]

-- where nothing failed, the outcome was written
pub check-complete : (known : Known) (bytes : List ℕ) (before now : Pieces) (status : Status) → known ≡ has_bytes bytes → status ≢ ReadFailed → status ≢ WriteFailed
    → IsUnread before now status ⊎ EndsForCore known before now status → AddsOutcome (check_job bytes) before now status ⊎ (status ≡ OutOfMemory)
check-complete known bytes before now status is read written ends = elim ends [
  | inl unread ↦ elim unread.why [ inl failed ↦ absurd (read failed) | inr memory ↦ inr memory ]
  | inr core ↦
      let same : core.core ≡ bytes = may_be-known known bytes core.core is core.core_is in
      end-whole (check_job bytes) before now status read written (subst (λ (b : List ℕ). Ends (check_job b) before now status) same core.ends)
]
