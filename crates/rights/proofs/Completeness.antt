-- A run in which nothing failed writes the outcome of its core and its log.
use Rattle.std.proofs.Common.{◌≡◌, ◌≢◌, ℕ, List, refl, ap, ◌∙◌, subst, inl, inr}
use Rattle.std.specs.Prelude.{◌⊎◌, Result, Ok, Err}
use Rattle.outside.specs.Shelf.{Known, has_bytes}
use Rattle.elf_core.specs.declared.core_file.Core.{Core}
use Rattle.rights.specs.Ends.{AddsOutcome, Ends}
use Rattle.audit_core.specs.Standing.{core_start}
use Rattle.history_model.specs.History.{begun}
use Rattle.rights.specs.Jobs.{Job, job_of_log}
use Rattle.rights.specs.Run.{core_or_refusal, EndsForFiles, IsAccepted, IsUnread, job_by, job_of, MayBe}
use Rattle.rights.specs.declared.statuses.Status.{Status}
use Rattle.rights.specs.declared.statuses.Status.TheVariants.{Answered, Stale, Usage, CoreRefused, LogRefused, ReadFailed, WriteFailed, OutOfMemory}
use Rattle.rights.proofs.FileReading.{is_accepted}
use Rattle.rights.proofs.PutPieces.{Pieces}

-- an end without a fault is that of the outcome
pub end-whole : (job : Job) (before now : Pieces) (status : Status) → status ≢ ReadFailed → status ≢ WriteFailed → Ends job before now status
    → AddsOutcome job before now status ⊎ (status ≡ OutOfMemory)
end-whole job before now Answered read written ends = inl ends
end-whole job before now Stale read written ends = inl ends
end-whole job before now Usage read written ends = inl ends
end-whole job before now CoreRefused read written ends = inl ends
end-whole job before now LogRefused read written ends = inl ends
end-whole job before now ReadFailed read written ends = absurd (read refl)
end-whole job before now WriteFailed read written ends = absurd (written refl)
end-whole job before now OutOfMemory read written ends = inr refl

-- where the core is refused the log doesn't matter
job-same : (core log other : List ℕ) (read : Result Core (List ℕ)) → core_or_refusal core ≡ read → (IsAccepted core → log ≡ other) → job_by read log ≡ job_by read other
job-same core log other (Ok taken) is same = ap (λ (l : List ℕ). job_of_log (begun (core_start taken)) l) (same (is_accepted core taken is))
job-same core log other (Err line) is same = refl

pub may_be-known : (known : Known) (content bytes : List ℕ) → known ≡ has_bytes content → MayBe known bytes → bytes ≡ content
may_be-known known content bytes is may_be = rw is at may_be

files-job : (core_known log_known : Known) (core_bytes log_bytes core log : List ℕ) → core_known ≡ has_bytes core_bytes → log_known ≡ has_bytes log_bytes
    → MayBe core_known core → (IsAccepted core → MayBe log_known log) → job_of core log ≡ job_of core_bytes log_bytes
files-job core_known log_known core_bytes log_bytes core log core_is log_is may_be log_may_be =
    let same : core ≡ core_bytes = may_be-known core_known core_bytes core core_is may_be in
    job-same core log log_bytes (core_or_refusal core) refl (λ taken. may_be-known log_known log_bytes log log_is (log_may_be taken))
    ∙ ap (λ (c : List ℕ). job_of c log_bytes) same

pub complete : (core_known log_known : Known) (core_bytes log_bytes : List ℕ) (before now : Pieces) (status : Status)
    → core_known ≡ has_bytes core_bytes → log_known ≡ has_bytes log_bytes → status ≢ ReadFailed → status ≢ WriteFailed
    → IsUnread before now status ⊎ EndsForFiles core_known log_known before now status
    → AddsOutcome (job_of core_bytes log_bytes) before now status ⊎ (status ≡ OutOfMemory)
complete core_known log_known core_bytes log_bytes before now status core_is log_is read written ends =
    elim ends [
      | inl unread ↦ elim unread.why [ inl failed ↦ absurd (read failed) | inr memory ↦ inr memory ]
      | inr files ↦
          let same = files-job core_known log_known core_bytes log_bytes files.core files.log core_is log_is files.core_is files.log_is in
          end-whole (job_of core_bytes log_bytes) before now status read written (subst (λ (j : Job). Ends j before now status) same files.ends)
    ]
