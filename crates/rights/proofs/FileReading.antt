-- What was read of a core, and the job that it has with a log.
use Rattle.std.proofs.Common.{◌≡◌, ◌≢◌, ℕ, ◌≤◌, List, [], ◌∷◌, ◌++◌, refl, arith, sym, ◌∙◌, subst, length, take, inl, inr}
use Rattle.std.proofs.lemmas.Grind.{common_steps}
use Rattle.std.proofs.lemmas.Bool.Decides.{nat_tests}
use Rattle.std.specs.Prelude.{Bool, true, false, IsTrue, nat_lt, Some, Result, Ok, Err, ◌⊎◌}
use Rattle.outside.specs.Shelf.{Known, unspecified, missing, has_bytes}
use Rattle.outside.specs.Whole.{IsWhole}
use Rattle.audit_core.specs.Standing.{core_start}
use Rattle.elf_core.specs.Cores.{core_of, IsRefusalOf}
use Rattle.elf_core.specs.declared.core_file.Core.{Core}
use Rattle.elf_core.specs.declared.faults.CoreFault.{CoreFault}
use Rattle.elf_core.specs.declared.faults.CoreFault.TheVariants as core_fault
use Rattle.history_model.specs.History.{begun}
use Rattle.rights_report.specs.CoreRefusals.{core_refusal_line}
use Rattle.rights_report.specs.FixedLines.{core_too_long_line}
use Rattle.rights.specs.LogPieces.{FailsAtReach, StopsAtReach}
use Rattle.outside.specs.declared.reading.ReadFault.{ReadFault}
use Rattle.outside.specs.declared.reading.ReadFault.TheVariants as read_fault
use Rattle.rights.specs.Run.{core_limit, core_or_refusal, IsAccepted, IsUnread, MayBe, job_of, or_refusal}
use Rattle.rights.specs.Stopping.{end_of, LacksLine, line_of, status_of, stop_of_core, stop_of_read, StopsForFiles, StopsForLog}
use Rattle.rights.specs.declared.statuses.Status.{Status}
use Rattle.rights.specs.declared.statuses.Status.TheVariants.{CoreRefused, ReadFailed}
use Rattle.rights.specs.declared.stopping.Stop.{Stop}
use Rattle.rights.specs.declared.stopping.Stop.TheVariants as stop
use Rattle.rights.proofs.PutPieces.{adds-none, Pieces}

-- bytes that may stand under a name, of which these were read
pub record Stands (known : Known) (limit : ℕ) (bytes : List ℕ) (cut : Bool) : Type 0 where
  pub content : List ℕ
  pub may_be : MayBe known content
  pub read : take limit content ≡ bytes
  pub cut_is : nat_lt limit (length content) ≡ cut

pub stands : (known : Known) (limit len : ℕ) (bytes : List ℕ) (cut : Bool) → len ≡ length bytes
    → ((content : List ℕ) → known ≡ has_bytes content → IsWhole content limit bytes cut)
    → (known ≡ missing → false ≡ true) → len ≤ limit → (IsTrue cut → len ≡ limit) → Stands known limit bytes cut
stands unspecified limit len bytes true len_is whole none bound full = record {
  content = bytes ++ 0 ∷ [];
  may_be = tt;
  read = let all : length bytes ≡ limit = sym len_is ∙ full refl in grind (arith, common_steps);
  cut_is = let all : length bytes ≡ limit = sym len_is ∙ full refl in grind (arith, nat_tests, common_steps);
}
stands unspecified limit len bytes false len_is whole none bound full = record {
  content = bytes;
  may_be = tt;
  read = grind (arith, common_steps);
  cut_is = grind (arith, nat_tests);
}
stands missing limit len bytes cut len_is whole none bound full = absurd (let never : false ≡ true = none refl in cc)
stands (has_bytes content) limit len bytes cut len_is whole none bound full =
    record { content = content; may_be = refl; read = sym (whole content refl).bytes_are; cut_is = sym (whole content refl).cut_is }

-- bytes of a core that aren't cut are all
all_read : (content bytes : List ℕ) (limit : ℕ) → take limit content ≡ bytes → nat_lt limit (length content) ≡ false → content ≡ bytes
all_read content bytes limit read is = grind (arith, nat_tests, common_steps)

pub within_of : (known : Known) (limit : ℕ) (bytes : List ℕ) → Stands known limit bytes false → MayBe known bytes
within_of known limit bytes read = subst (λ (b : List ℕ). MayBe known b) (all_read read.content bytes limit read.read read.cut_is) read.may_be

pub limit_of : (known : Known) (limit : ℕ) (bytes : List ℕ) → Stands known limit bytes false → nat_lt limit (length bytes) ≡ false
limit_of known limit bytes read = subst (λ (b : List ℕ). nat_lt limit (length b) ≡ false) (all_read read.content bytes limit read.read read.cut_is) read.cut_is

-- a core over its limit, one that is refused, and one that is accepted
pub long_core : (core : List ℕ) → nat_lt core_limit (length core) ≡ true → core_or_refusal core ≡ Err core_too_long_line
long_core core past = rw past refl

pub core_by : (core : List ℕ) (read : Result Core CoreFault) → nat_lt core_limit (length core) ≡ false → core_of core ≡ read → core_or_refusal core ≡ or_refusal read
core_by core read within is = rw (within, is) refl

pub not_accepted : (core : List ℕ) (line : List ℕ) → core_or_refusal core ≡ Err line → IsAccepted core → ⊥
not_accepted core line is accepted = let never : false ≡ true = rw is at accepted in cc

pub is_accepted : (core : List ℕ) (read : Core) → core_or_refusal core ≡ Ok read → IsAccepted core
is_accepted core read is = rw is refl

-- a refused core lacks its line
pub record LacksCoreLine (known log_known : Known) (before : Pieces) (line : List ℕ) : Type 0 where
  pub core : List ℕ
  pub log : List ℕ
  pub core_is : MayBe known core
  pub log_is : IsAccepted core → MayBe log_known log
  pub lacks : LacksLine (job_of core log) before before line CoreRefused

pub refused-core : (known log_known : Known) (before : Pieces) (core line : List ℕ) → MayBe known core → core_or_refusal core ≡ Err line
    → LacksCoreLine known log_known before line
refused-core known log_known before core line may_be is = record {
  core = core;
  log = [];
  core_is = may_be;
  log_is = λ accepted. absurd (not_accepted core line is accepted);
  lacks = rw is (record { lines = []; reaches = (refl, refl); outcome_is = refl; adds = adds-none before });
}

pub stops-refused : (known log_known : Known) (before : Pieces) (why : Stop) (line : List ℕ) → line_of why ≡ Some line → status_of why ≡ CoreRefused
    → LacksCoreLine known log_known before line → StopsForFiles known log_known before before (Err why)
stops-refused known log_known before why line line_is status_is lacks = record {
  core = lacks.core;
  log = lacks.log;
  core_is = lacks.core_is;
  log_is = lacks.log_is;
  stops = rw (line_is, status_is) lacks.lacks;
}

-- an accepted core has the job of its log
pub for_files : (known log_known : Known) (before now : Pieces) (result : Result Status Stop) (core : List ℕ) (read : Core) → MayBe known core → core_or_refusal core ≡ Ok read
    → StopsForLog (begun (core_start read)) log_known before now result → StopsForFiles known log_known before now result
for_files known log_known before now result core read may_be is log = record {
  core = core;
  log = log.log;
  core_is = may_be;
  log_is = λ accepted. log.log_is;
  stops = rw is log.stops;
}

-- a fault of a core that isn't that of memory is the defined refusal
pub refused_as : (defined : Result Core CoreFault) (fault : CoreFault) → (fault ≡ core_fault.Memory → ⊥) → IsRefusalOf defined fault → defined ≡ Err fault
refused_as defined fault known is = elim is [ inl memory ↦ absurd (known memory) | inr refusal ↦ refusal ]

-- a core that isn't parsed is refused, or memory ran out
pub is_core_refusal : (fault : CoreFault) → (fault ≡ core_fault.Memory) ⊎ ((fault ≡ core_fault.Memory → ⊥) × (stop_of_core fault ≡ stop.Core fault))
is_core_refusal core_fault.Short = inr ((λ is. cc), refl)
is_core_refusal core_fault.NotElf = inr ((λ is. cc), refl)
is_core_refusal core_fault.Class = inr ((λ is. cc), refl)
is_core_refusal core_fault.Encoding = inr ((λ is. cc), refl)
is_core_refusal core_fault.FileType = inr ((λ is. cc), refl)
is_core_refusal core_fault.FileMachine = inr ((λ is. cc), refl)
is_core_refusal core_fault.HeaderSize = inr ((λ is. cc), refl)
is_core_refusal core_fault.HeaderCount = inr ((λ is. cc), refl)
is_core_refusal core_fault.HeaderRange = inr ((λ is. cc), refl)
is_core_refusal (core_fault.SegmentRange number) = inr ((λ is. cc), refl)
is_core_refusal (core_fault.SegmentAddress number) = inr ((λ is. cc), refl)
is_core_refusal (core_fault.NoteRange number) = inr ((λ is. cc), refl)
is_core_refusal (core_fault.NoteState number broken) = inr ((λ is. cc), refl)
is_core_refusal core_fault.Memory = inl refl

pub stops-core : (known log_known : Known) (before : Pieces) (bytes : List ℕ) (fault : CoreFault) → Stands known core_limit bytes false → IsRefusalOf (core_of bytes) fault
    → IsUnread before before (end_of (Err (stop_of_core fault))) ⊎ StopsForFiles known log_known before before (Err (stop_of_core fault))
stops-core known log_known before bytes fault read refusal =
    elim (is_core_refusal fault) [
      | inl memory ↦ rw memory (inl (record { nothing = refl; why = inr refl }))
      | inr refused ↦
          rw refused.1 (inr (stops-refused known log_known before (stop.Core fault) (core_refusal_line fault) refl refl
          (refused-core known log_known before bytes (core_refusal_line fault) (within_of known core_limit bytes read)
          (core_by bytes (Err fault) (limit_of known core_limit bytes read) (refused_as (core_of bytes) fault refused.0 refusal)))))
    ]

-- a file that wasn't read
pub unread : (before : Pieces) (fault : ReadFault) → IsUnread before before (end_of (Err (stop_of_read fault)))
unread before read_fault.Device = record { nothing = refl; why = inl refl }
unread before read_fault.Memory = record { nothing = refl; why = inr refl }

pub device : (fault : ReadFault) → status_of (stop_of_read fault) ≡ ReadFailed → fault ≡ read_fault.Device
device read_fault.Device is = refl
device read_fault.Memory is = absurd (cc)

-- what was written where a read of a core failed, and where one of its log did
pub log-unread : (core_name log_name : List ℕ) (core_known : Known) (log : List ℕ) (reach_old reach_new : ℕ) (before : Pieces) → (log_name ≢ core_name → reach_new ≡ reach_old)
    → FailsAtReach core_name log_name core_known log reach_old reach_new before before
log-unread core_name log_name core_known log reach_old reach_new before same = record {
  nothing = λ none. refl;
  ended = λ other none some. absurd (some (same other ∙ none));
}

pub fails-after : (core_known : Known) (core_name log_name core log : List ℕ) (read : Core) {reach_old reach_mid reach_new : ℕ} {before now : Pieces} → MayBe core_known core
    → core_or_refusal core ≡ Ok read → (log_name ≢ core_name → reach_mid ≡ reach_old) → StopsAtReach (begun (core_start read)) log reach_mid reach_new before now
    → FailsAtReach core_name log_name core_known log reach_old reach_new before now
fails-after core_known core_name log_name core log read may_be is same stops = record {
  nothing = stops.nothing;
  ended = λ other none some. record { core = core; core_is = may_be; read = read; accepted = is; ended = stops.ended (same other ∙ none) };
}
