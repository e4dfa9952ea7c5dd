-- What a run that stops has written, once its last line is put.
use Rattle.std.proofs.Common.{◌≡◌, ℕ, List, [], ◌∷◌, ◌++◌, refl, ap, sym, ◌∙◌, subst, inl, inr}
use Rattle.std.specs.Prelude.{◌⊎◌, Bool, true, false, Option, Some, None, Result, Ok, Err, IsErrAnd}
use Rattle.outside.specs.Sink.{Puts}
use Rattle.outside.specs.Shelf.{Known}
use Rattle.rights.specs.Ends.{Adds, AddsOutcome, AddsPrefix, AddsTruncated, after_lines, Ends}
use Rattle.rights.specs.Jobs.{Job, one_line}
use Rattle.rights.specs.Outcome.{end_status}
use Rattle.rights.specs.Run.{EndsForFiles, IsUnread}
use Rattle.rights.specs.Stopping.{end_of, EndsByLine, LacksLine, line_of, status_of, StopsBy, StopsForFiles, WritesLast}
use Rattle.rights.specs.declared.statuses.Status.{Status}
use Rattle.rights.specs.declared.statuses.Status.TheVariants.{Answered, Stale, Usage, CoreRefused, LogRefused, ReadFailed, WriteFailed, OutOfMemory}
use Rattle.rights.specs.declared.stopping.Stop.{Stop}
use Rattle.rights.specs.declared.stopping.Stop.TheVariants as stop
use Rattle.rights.proofs.PutPieces.{adds-more, adds-none, Pieces, prefix-none, puts-line, puts-truncated}

-- a result that is known to be an error
pub by_err : {T E : Type 0} (P : Result T E → Type 0) (r : Result T E) (e : E) → IsErrAnd r (λ x. x ≡ e) → P (Err e) → P r
by_err P (Ok value) e is holds = absurd is
by_err P (Err error) e is holds = subst (λ x. P (Err x)) (sym is) holds

-- one line was put, or its put failed
pub line-put : (before now : Pieces) (line : List ℕ) (status : Status) → EndsByLine status → Adds before now (line ∷ []) → Ends (one_line line status) before now status
line-put before now line Usage among adds = record { outcome = record { lines = line ∷ []; status = Usage }; is = refl; status_is = refl; adds = adds }
line-put before now line CoreRefused among adds = record { outcome = record { lines = line ∷ []; status = CoreRefused }; is = refl; status_is = refl; adds = adds }
line-put before now line LogRefused among adds = record { outcome = record { lines = line ∷ []; status = LogRefused }; is = refl; status_is = refl; adds = adds }
line-put before now line Answered among adds = record { outcome = record { lines = line ∷ []; status = Answered }; is = refl; status_is = refl; adds = adds }
line-put before now line Stale among adds = record { outcome = record { lines = line ∷ []; status = Stale }; is = refl; status_is = refl; adds = adds }
line-put before now line ReadFailed among adds = elim among [ inl e ↦ absurd (cc) | inr e ↦ elim e [ inl d ↦ absurd (cc) | inr d ↦ elim d [ inl f ↦ absurd (cc) | inr f ↦ absurd (cc) ] ] ]
line-put before now line WriteFailed among adds = elim among [ inl e ↦ absurd (cc) | inr e ↦ elim e [ inl d ↦ absurd (cc) | inr d ↦ elim d [ inl f ↦ absurd (cc) | inr f ↦ absurd (cc) ] ] ]
line-put before now line OutOfMemory among adds = elim among [ inl e ↦ absurd (cc) | inr e ↦ elim e [ inl d ↦ absurd (cc) | inr d ↦ elim d [ inl f ↦ absurd (cc) | inr f ↦ absurd (cc) ] ] ]

pub line-puts : (E : Type 0) (before now : Pieces) (line : List ℕ) (status : Status) → EndsByLine status → Puts {E = E} before now (Ok tt) line
    → Ends (one_line line status) before now status
line-puts E before now line status among puts = line-put before now line status among (puts-line E before now line puts)

pub line-fails : {E : Type 0} (error : E) (before now : Pieces) (line : List ℕ) (status : Status) → Puts {E = E} before now (Err error) line
    → Ends (one_line line status) before now WriteFailed
line-fails error before now line status puts = record {
  lines = [];
  next = line ∷ [];
  reaches = (refl, refl);
  adds = subst (λ (o : Pieces). AddsTruncated o now (line ∷ [])) (adds-none before) (puts-truncated error before now line [] puts);
}

pub line-unput : (before : Pieces) (line : List ℕ) (status : Status) → Ends (one_line line status) before before OutOfMemory
line-unput before line status = record {
  lines = [];
  next = line ∷ [];
  reaches = (refl, refl);
  adds = subst (λ (o : Pieces). AddsPrefix o before (line ∷ [])) (adds-none before) (prefix-none before (line ∷ []));
}

-- nothing was written before the run stopped, and nothing is then
pub unread-last : (before mid now : Pieces) (why : Stop) (status : Status) → IsUnread before mid (status_of why) → WritesLast mid now (line_of why) (status_of why) status
    → IsUnread before now status
unread-last before mid now stop.Read status unread last = record { nothing = last.0 ∙ unread.nothing; why = inl last.1 }
unread-last before mid now stop.Memory status unread last = record { nothing = last.0 ∙ unread.nothing; why = inr last.1 }
unread-last before mid now stop.Put status unread last = elim unread.why [ inl is ↦ absurd (cc) | inr is ↦ absurd (cc) ]
unread-last before mid now stop.Usage status unread last = elim unread.why [ inl is ↦ absurd (cc) | inr is ↦ absurd (cc) ]
unread-last before mid now stop.LongCore status unread last = elim unread.why [ inl is ↦ absurd (cc) | inr is ↦ absurd (cc) ]
unread-last before mid now (stop.Core fault) status unread last = elim unread.why [ inl is ↦ absurd (cc) | inr is ↦ absurd (cc) ]
unread-last before mid now (stop.Line number cause) status unread last = elim unread.why [ inl is ↦ absurd (cc) | inr is ↦ absurd (cc) ]
unread-last before mid now stop.LongLog status unread last = elim unread.why [ inl is ↦ absurd (cc) | inr is ↦ absurd (cc) ]

-- the last line ends the job
lacked-line : (job : Job) (before mid now : Pieces) (line : List ℕ) (status end : Status) → LacksLine job before mid line status
    → AddsOutcome (one_line line status) mid now end → AddsOutcome job before now end
lacked-line job before mid now line status end lacks last = record {
  outcome = record { lines = lacks.lines ++ line ∷ []; status = status };
  is = lacks.outcome_is;
  status_is = ap (λ o. o.status) (sym last.is) ∙ last.status_is;
  adds = adds-more before mid now lacks.lines (line ∷ []) lacks.adds (subst (λ o. Adds mid now o.lines) last.is last.adds);
}

pub last-line : (job : Job) (before mid now : Pieces) (line : List ℕ) (status end : Status) → LacksLine job before mid line status
    → Ends (one_line line status) mid now end → Ends job before now end
last-line job before mid now line status Answered lacks last = lacked-line job before mid now line status Answered lacks last
last-line job before mid now line status Stale lacks last = lacked-line job before mid now line status Stale lacks last
last-line job before mid now line status Usage lacks last = lacked-line job before mid now line status Usage lacks last
last-line job before mid now line status CoreRefused lacks last = lacked-line job before mid now line status CoreRefused lacks last
last-line job before mid now line status LogRefused lacks last = lacked-line job before mid now line status LogRefused lacks last
last-line job before mid now line status ReadFailed lacks last = absurd (let none : line ∷ [] ≡ [] = sym last.reaches.1 ∙ last.adds.0 in cc)
last-line job before mid now line status WriteFailed lacks last = record {
  lines = lacks.lines;
  next = line ∷ [];
  reaches = lacks.reaches;
  adds =
      let truncated : AddsTruncated (after_lines mid []) now (line ∷ []) = rw (last.reaches.0, last.reaches.1) at last.adds in
      let from_mid : AddsTruncated mid now (line ∷ []) = subst (λ (o : Pieces). AddsTruncated o now (line ∷ [])) (sym (adds-none mid)) truncated in
      subst (λ (o : Pieces). AddsTruncated o now (line ∷ [])) lacks.adds from_mid;
}
last-line job before mid now line status OutOfMemory lacks last = record {
  lines = lacks.lines;
  next = line ∷ [];
  reaches = lacks.reaches;
  adds =
      let some : AddsPrefix (after_lines mid []) now (line ∷ []) = rw (last.reaches.0, last.reaches.1) at last.adds in
      let from_mid : AddsPrefix mid now (line ∷ []) = subst (λ (o : Pieces). AddsPrefix o now (line ∷ [])) (sym (adds-none mid)) some in
      subst (λ (o : Pieces). AddsPrefix o now (line ∷ [])) lacks.adds from_mid;
}

job-last : (job : Job) (before mid now : Pieces) (line : Option (List ℕ)) (status end : Status) → StopsBy job before mid line status → WritesLast mid now line status end
    → Ends job before now end
job-last job before mid now None status end stops last = rw (last.0, last.1) stops
job-last job before mid now (Some line) status end stops last = last-line job before mid now line status end stops last

-- an end after a stop
pub stops-last : (core_known log_known : Known) (before mid now : Pieces) (why : Stop) (end : Status)
    → IsUnread before mid (end_of (Err why)) ⊎ StopsForFiles core_known log_known before mid (Err why)
    → WritesLast mid now (line_of why) (status_of why) end
    → IsUnread before now end ⊎ EndsForFiles core_known log_known before now end
stops-last core_known log_known before mid now why end stops last =
    elim stops [
      | inl unread ↦ inl (unread-last before mid now why end unread last)
      | inr files ↦ inr (record {
        core = files.core;
        log = files.log;
        core_is = files.core_is;
        log_is = files.log_is;
        ends = job-last _ before mid now (line_of why) (status_of why) end files.stops last;
      })
    ]

-- a read failed
pub read-failed : (why : Stop) → status_of why ≡ ReadFailed → why ≡ stop.Read
read-failed stop.Read is = refl
read-failed stop.Put is = absurd (cc)
read-failed stop.Usage is = absurd (cc)
read-failed stop.LongCore is = absurd (cc)
read-failed (stop.Core fault) is = absurd (cc)
read-failed (stop.Line number cause) is = absurd (cc)
read-failed stop.LongLog is = absurd (cc)
read-failed stop.Memory is = absurd (cc)

-- a put failed
pub put-failed : (why : Stop) → status_of why ≡ WriteFailed → why ≡ stop.Put
put-failed stop.Put is = refl
put-failed stop.Read is = absurd (cc)
put-failed stop.Usage is = absurd (cc)
put-failed stop.LongCore is = absurd (cc)
put-failed (stop.Core fault) is = absurd (cc)
put-failed (stop.Line number cause) is = absurd (cc)
put-failed stop.LongLog is = absurd (cc)
put-failed stop.Memory is = absurd (cc)

-- a log that ends well had no failure
pub ends-well : (stale : Bool) (status : Status) → (status ≡ ReadFailed) ⊎ (status ≡ WriteFailed) → end_status stale ≡ status → ⊥
ends-well true status failed is = elim failed [ inl read ↦ absurd (let never : Stale ≡ ReadFailed = is ∙ read in cc) | inr write ↦ absurd (let never : Stale ≡ WriteFailed = is ∙ write in cc) ]
ends-well false status failed is = elim failed [ inl read ↦ absurd (let never : Answered ≡ ReadFailed = is ∙ read in cc) | inr write ↦ absurd (let never : Answered ≡ WriteFailed = is ∙ write in cc) ]

pub ends-files : (core_known log_known : Known) (before now : Pieces) (status : Status) → IsUnread before now status ⊎ StopsForFiles core_known log_known before now (Ok status)
    → IsUnread before now status ⊎ EndsForFiles core_known log_known before now status
ends-files core_known log_known before now status ends =
    elim ends [
      | inl unread ↦ inl unread
      | inr files ↦ inr (record { core = files.core; log = files.log; core_is = files.core_is; log_is = files.log_is; ends = files.stops })
    ]

-- what a run that ends by its last line failed by, it had failed by before, or that line's put failed
pub last-read : (why : Stop) (end : Status) → (end ≡ status_of why) ⊎ (end ≡ WriteFailed) ⊎ (end ≡ OutOfMemory) → end ≡ ReadFailed → status_of why ≡ ReadFailed
last-read why end among is = elim among [
  | inl same ↦ sym same ∙ is
  | inr other ↦ elim other [ inl failed ↦ absurd (let never : WriteFailed ≡ ReadFailed = sym failed ∙ is in cc) | inr memory ↦ absurd (let never : OutOfMemory ≡ ReadFailed = sym memory ∙ is in cc) ]
]
