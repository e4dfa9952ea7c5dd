-- A generated log is handled line by line, and counted.
use Rattle.std.proofs.Common.{◌≡◌, ℕ, zero, suc, ◌+◌, ◌<◌, ◌≤◌, List, [], ◌∷◌, ◌++◌, refl, ap, sym, ◌∙◌, subst, arith, inl, inr, append_assoc, length, true, false}
use Rattle.std.proofs.lemmas.Bool.{cases_lt}
use Rattle.std.proofs.lemmas.Bool.Decides.{nat_tests}
use Rattle.std.proofs.lemmas.Grind.{flat_map-append}
use Rattle.std.proofs.lemmas.List.Elements.{recursion_from_All}
use Rattle.std.proofs.lemmas.List.Sums.{sum_by-append}
use Rattle.std.specs.List.{list_any, sum_by}
use Rattle.std.specs.Prelude.{Bool, map, Option, Some, None, Result, Ok, Err, nat_lt}
use Rattle.audit_core.specs.Standing.{Holding, StandsFor, core_start}
use Rattle.audit_core.specs.Stepping.{AcceptsEvent}
use Rattle.elf_core.specs.Cores.{core_of, IsRefusalOf}
use Rattle.elf_core.specs.declared.core_file.Core.{Core}
use Rattle.elf_core.specs.declared.faults.CoreFault.{CoreFault}
use Rattle.edit_log.specs.Log.{lines_of}
use Rattle.edit_log.specs.LogLine.{event_of}
use Rattle.edit_log.specs.Reading.{AllSkipped, Gives, left_of, Passes, Reading}
use Rattle.edit_log.specs.declared.line_forms.LineFault.{LineFault}
use Rattle.history_model.specs.History.{History, after_event, begun, time}
use Rattle.history_model.specs.Refusals.{refusal}
use Rattle.history_model.specs.declared.answers.Answer.{Answer}
use Rattle.history_model.specs.declared.answers.Answer.TheVariants as answer
use Rattle.history_model.specs.declared.events.Event.{Event}
use Rattle.history_model.specs.declared.faults.StepFault.{StepFault}
use Rattle.image_gen.specs.Accepted.{AreAccepted, generated_start}
use Rattle.image_gen.specs.GeneratedCore.{generated_core}
use Rattle.image_gen.specs.StatedCore.{stated_core}
use Rattle.image_gen.specs.GeneratedLog.{event_of_line, generated_lines, lines_from, numbered_line}
use Rattle.image_gen.specs.LineTexts.{generated_log}
use Rattle.image_gen.specs.declared.lines.Line.{Line}
use Rattle.image_gen.proofs.CoreAccepted.{core-is-accepted, core-length}
use Rattle.image_gen.proofs.EachLine.{each-line}
use Rattle.image_gen.proofs.NoRefusals.{none-refused}
use Rattle.rights_report.specs.SummaryLines.{summary_lines}
use Rattle.rights_report.specs.declared.summaries.Summary.{Summary}
use Rattle.rights.specs.Generated.{IsCounted, IsSummaryOf, with_answer, with_event}
use Rattle.rights.specs.Ends.{Adds, AddsPrefix, AddsTruncated, Ends}
use Rattle.rights.specs.Jobs.{Job, summary}
use Rattle.rights.specs.Outcome.{end_status, has_findings, Outcome}
use Rattle.rights.specs.Run.{core_limit, EndsBySummary, gen_job, summary_job}
use Rattle.rights.specs.declared.statuses.Status.{Status}
use Rattle.rights.specs.declared.statuses.Status.TheVariants.{OutOfMemory, WriteFailed}
use Rattle.rights.specs.Stopping.{HandlesEvent, ReadsNext, stop_of_core, stop_of_event}
use Rattle.rights.specs.Summaries.{event_in, events_of, no_of, SaysSummary, summary_of}
use Rattle.rights.specs.declared.stopping.Stop.{Stop}
use Rattle.rights.specs.declared.stopping.Stop.TheVariants as stop
use Rattle.rights.proofs.FileReading.{core_by}
use Rattle.rights.proofs.PutPieces.{adds-none, Pieces, prefix-none}
use Rattle.rights.proofs.HandledLines.{answers-line, handles-append, handles-none}
use Rattle.rights.proofs.LogReading.{is_refusal, time-after}

-- what lines spell, that each have an event
abbrev spelled_by : Event → Result (Option Event) LineFault
spelled_by happened = Ok (Some happened)

pub map-twice : (lines : List Line) → map (λ line. spelled_by (event_of_line line)) lines ≡ map (λ happened. spelled_by happened) (map event_of_line lines)
map-twice [] = refl
map-twice (line ∷ rest) = ap (λ (others : List (Result (Option Event) LineFault)). spelled_by (event_of_line line) ∷ others) (map-twice rest)

pub length-lines : (number count state : ℕ) → length (map event_of_line (lines_from number count state)) ≡ count
length-lines number zero state = refl
length-lines number (suc count) state = ap suc (length-lines (number + 1) count (numbered_line number state).1)

-- the first line that isn't skipped, of lines that each have an event
pub record IsNext (lines : List (List ℕ)) (events : List Event) (skipped : List (List ℕ)) (line : List ℕ) (more : List (List ℕ)) : Type 0 where
  pub none : skipped ≡ []
  pub happened : Event
  pub others : List Event
  pub events_are : events ≡ happened ∷ others
  pub means : event_of line ≡ Ok (Some happened)
  pub rest : map event_of more ≡ map (λ one. Ok (Some one)) others

head-is : (a b : Result (Option Event) LineFault) (rest others : List (Result (Option Event) LineFault)) → a ∷ rest ≡ b ∷ others → (a ≡ b) × (rest ≡ others)
head-is a b rest others is = (cc, cc)

line-is : (a b : List ℕ) (rest others : List (List ℕ)) → a ∷ rest ≡ b ∷ others → (a ≡ b) × (rest ≡ others)
line-is a b rest others is = (cc, cc)

pub next-line : (lines : List (List ℕ)) (events : List Event) (skipped : List (List ℕ)) (line : List ℕ) (more : List (List ℕ))
    → map event_of lines ≡ map (λ one. Ok (Some one)) events → lines ≡ skipped ++ line ∷ more → AllSkipped skipped → IsNext lines events skipped line more
next-line [] events [] line more spelled is skip = absurd (cc)
next-line [] events (s ∷ skipped) line more spelled is skip = absurd (cc)
next-line (first ∷ rest) [] skipped line more spelled is skip = absurd (cc)
next-line (first ∷ rest) (happened ∷ others) [] line more spelled is skip =
    let both = head-is _ _ _ _ spelled in
    let same = line-is _ _ _ _ is in
    record {
      none = refl;
      happened = happened;
      others = others;
      events_are = refl;
      means = ap event_of (sym same.0) ∙ both.0;
      rest = ap (map event_of) (sym same.1) ∙ both.1;
    }
next-line (first ∷ rest) (happened ∷ others) (s ∷ skipped) line more spelled is skip =
    let both = head-is _ _ _ _ spelled in
    let same = line-is _ _ _ _ is in
    let none = (recursion_from_All (λ (one : List ℕ). event_of one ≡ Ok None) (s ∷ skipped) skip).0 in
    absurd (let never : ◌≡◌ {A = Result (Option Event) LineFault} (Ok None) (Ok (Some happened)) = sym none ∙ (ap event_of (sym same.0) ∙ both.0) in cc)

-- no line is left where all that are left are skipped
pub none-left : (lines : List (List ℕ)) (events : List Event) → map event_of lines ≡ map (λ one. Ok (Some one)) events → AllSkipped lines → lines ≡ []
none-left [] events spelled skip = refl
none-left (first ∷ rest) [] spelled skip = absurd (cc)
none-left (first ∷ rest) (happened ∷ others) spelled skip =
    let both = head-is _ _ _ _ spelled in
    let none = (recursion_from_All (λ (one : List ℕ). event_of one ≡ Ok None) (first ∷ rest) skip).0 in
    absurd (let never : ◌≡◌ {A = Result (Option Event) LineFault} (Ok None) (Ok (Some happened)) = sym none ∙ both.0 in cc)

-- a sum with one more
sum-last : {X : Type 0} (f : X → ℕ) (xs : List X) (x : X) → sum_by f (xs ++ x ∷ []) ≡ sum_by f xs + f x
sum-last f xs x = let sum = sum_by-append f xs (x ∷ []) in sum ∙ omega arith

events-last : (lines : List (List ℕ)) (line : List ℕ) (happened : Event) → event_of line ≡ Ok (Some happened) → events_of (lines ++ line ∷ []) ≡ events_of lines ++ happened ∷ []
events-last lines line happened means =
    flat_map-append (λ one. event_in (event_of one)) lines (line ∷ [])
    ∙ ap (λ spelled. events_of lines ++ (event_in spelled ++ [])) means

abbrev with_events : ℕ → Summary → Summary
with_events n sum = record sum { events = n }

abbrev without_events : Summary → Summary
without_events sum = with_events 0 sum

counts-last : (moment later : History) (events : List Event) (answers : List Answer) (happened : Event) (answer : Answer)
    → with_answer answer (with_event happened (without_events (summary_of moment events answers)))
    ≡ without_events (summary_of later (events ++ happened ∷ []) (answers ++ answer ∷ []))
counts-last moment later events answers happened answer =
    rw (
      sum-last Rattle.rights.specs.Summaries.writes_of events happened,
      sum-last Rattle.rights.specs.Summaries.sets_of events happened,
      sum-last Rattle.rights.specs.Summaries.invalidations_of events happened,
      sum-last Rattle.rights.specs.Summaries.granted_of answers answer,
      sum-last Rattle.rights.specs.Summaries.denied_of answers answer,
      sum-last Rattle.rights.specs.Summaries.areas_of answers answer,
      sum-last Rattle.rights.specs.Summaries.yes_of answers answer,
      sum-last Rattle.rights.specs.Summaries.no_of answers answer,
    ) refl

-- points with findings are those that make a log's end stale
pub stale-no : (answers : List Answer) → (list_any has_findings answers ≡ true → 0 < sum_by no_of answers) × (0 < sum_by no_of answers → list_any has_findings answers ≡ true)
stale-no [] = ((λ is. absurd (cc)), (λ some. absurd (omega arith)))
stale-no (answer.Nothing ∷ rest) = stale-no rest
stale-no (answer.Asked asked ∷ rest) = stale-no rest
stale-no (answer.Listed areas ∷ rest) = stale-no rest
stale-no (answer.ListTooLarge ∷ rest) = stale-no rest
stale-no (answer.Verdict [] ∷ rest) = stale-no rest
stale-no (answer.Verdict (finding ∷ others) ∷ rest) =
    let one : sum_by no_of (answer.Verdict (finding ∷ others) ∷ rest) ≡ 1 + sum_by no_of rest =
    sum_by-append no_of (answer.Verdict (finding ∷ others) ∷ []) rest in
    ((λ is. omega (arith, one)), (λ some. refl))

pub stale-is : (answers : List Answer) → nat_lt 0 (sum_by no_of answers) ≡ list_any has_findings answers
stale-is answers = by_test (list_any has_findings answers) refl (stale-no answers)
  where
    by_test : (b : Bool) → list_any has_findings answers ≡ b → (list_any has_findings answers ≡ true → 0 < sum_by no_of answers) × (0 < sum_by no_of answers → list_any has_findings answers ≡ true)
        → nat_lt 0 (sum_by no_of answers) ≡ b
    by_test true is both = let some = both.0 is in grind (arith, nat_tests, some)
    by_test false is both = elim (cases_lt 0 (sum_by no_of answers)) [
      | inl some ↦ absurd (let never : true ≡ false = sym (both.1 some) ∙ is in cc)
      | inr none ↦ grind (arith, nat_tests, none)
    ]

module _ (seed count : ℕ) where
  -- before the first line
  pub counted-none : (holding : Holding) (reading : Reading) (sum : Summary) → StandsFor holding (begun generated_start) → left_of reading ≡ lines_of (generated_log seed count)
      → reading.refused ≡ None → reading.finished ≡ true → count ≤ 100000
      → sum ≡ record { events = 0; writes = 0; sets = 0; invalidations = 0; granted = 0; denied = 0; areas = 0; yes = 0; no = 0 }
      → IsCounted seed count holding reading sum
  counted-none holding reading sum stands reads going finished most zeros = record {
    lines = [];
    left = lines_of (generated_log seed count);
    log_is = refl;
    answers = [];
    moment = begun generated_start;
    handles = handles-none (begun generated_start);
    stands = stands;
    reads = sym reads;
    going = going;
    finished = finished;
    events = map event_of_line (generated_lines seed count);
    spelled = each-line seed count ∙ map-twice (generated_lines seed count);
    accepted = none-refused seed count;
    few = let time = stands.has_all.time_is in let all = length-lines 1 count seed in omega (arith, time, all, most);
    counts = ap without_events zeros;
  }

  module _ (holding : Holding) (old : Reading) (counted : Summary) (so_far : IsCounted seed count holding old counted) where
    -- an event more
    next-given : (new : Reading) (happened : Event) (gives : Gives old new happened) → IsNext so_far.left so_far.events gives.skipped gives.line (left_of new)
    next-given new happened gives = next-line so_far.left so_far.events gives.skipped gives.line (left_of new) so_far.spelled (so_far.reads ∙ gives.left) gives.skips

    same-event : (new : Reading) (happened : Event) (gives : Gives old new happened) → (next-given new happened gives).happened ≡ happened
    same-event new happened gives =
        let both : ◌≡◌ {A = Result (Option Event) LineFault} (Ok (Some (next-given new happened gives).happened)) (Ok (Some happened)) = sym (next-given new happened gives).means ∙ gives.means in
        cc

    next-accepted : (new : Reading) (happened : Event) (gives : Gives old new happened)
        → (refusal so_far.moment happened ≡ None) × AreAccepted (after_event happened so_far.moment) (next-given new happened gives).others
    next-accepted new happened gives =
        let next = next-given new happened gives in
        let all : AreAccepted so_far.moment (next.happened ∷ next.others) = subst (AreAccepted so_far.moment) next.events_are so_far.accepted in
        subst (λ one. (refusal so_far.moment one ≡ None) × AreAccepted (after_event one so_far.moment) next.others) (same-event new happened gives) all

    pub counted-more : (newer : Holding) (new : Reading) (happened : Event) (one : Answer) → Gives old new happened → AcceptsEvent StandsFor holding newer happened one
        → IsCounted seed count newer new (with_answer one (with_event happened counted))
    counted-more newer new happened one gives accepts =
        let next = next-given new happened gives in
        let later = after_event happened so_far.moment in
        let stands = accepts.stands so_far.moment so_far.stands in
        record {
          lines = so_far.lines ++ gives.line ∷ [];
          left = left_of new;
          log_is = so_far.log_is
              ∙ (ap (λ left. so_far.lines ++ left) (so_far.reads ∙ (gives.left ∙ ap (λ skipped. skipped ++ gives.line ∷ left_of new) next.none))
              ∙ sym (append_assoc so_far.lines (gives.line ∷ []) (left_of new)));
          answers = so_far.answers ++ one ∷ [];
          moment = later;
          handles = handles-append so_far.lines (gives.line ∷ []) (begun generated_start) so_far.moment later so_far.answers (one ∷ []) so_far.handles
              (answers-line so_far.moment gives.line happened one gives.means
              (record { accepted = accepts.unrefused so_far.moment so_far.stands; answers = accepts.answered so_far.moment so_far.stands }));
          stands = stands;
          reads = refl;
          going = gives.takes.going;
          finished = gives.takes.finished ∙ so_far.finished;
          events = next.others;
          spelled = next.rest;
          accepted = (next-accepted new happened gives).1;
          few =
              let before_it = so_far.stands.has_all.time_is in
              let after_it = stands.has_all.time_is in
              let more = time-after happened so_far.moment in
              let few = so_far.few in
              let events = ap length next.events_are in
              omega (arith, before_it, after_it, more, few, events);
          counts = ap (λ sum. with_answer one (with_event happened sum)) so_far.counts
              ∙ (counts-last so_far.moment later (events_of so_far.lines) so_far.answers happened one
              ∙ ap (λ events. without_events (summary_of later events (so_far.answers ++ one ∷ []))) (sym (events-last so_far.lines gives.line happened gives.means)));
        }

    -- all lines are handled
    pub counted-all : (new : Reading) (whole : Summary) → Passes old new → whole ≡ with_events holding.happened counted → IsSummaryOf seed count whole
    counted-all new whole passes whole_is =
        let none = none-left so_far.left so_far.events so_far.spelled (subst AllSkipped (sym (so_far.reads ∙ passes.left)) passes.skips) in
        record {
          part = record {
            lines = so_far.lines;
            rest = so_far.left;
            log_is = so_far.log_is;
            answers = so_far.answers;
            moment = so_far.moment;
            handles = so_far.handles;
          };
          all = none;
          summary_is = whole_is
              ∙ (ap (λ (n : ℕ). with_events n counted) (sym so_far.stands.has_all.time_is)
              ∙ ap (with_events (time so_far.moment)) so_far.counts);
        }

    -- no line is refused
    pub read-fails : (new : Reading) (why : Stop) → ReadsNext old new (Err why) → why ≡ stop.Memory
    read-fails new (stop.Line number cause) reads =
        let refuses = reads.1.2 in
        elim refuses.why [
          | inl faulty ↦
              let next = next-line so_far.left so_far.events refuses.skipped faulty.line faulty.next.more so_far.spelled (so_far.reads ∙ faulty.next.left) faulty.next.skips in
              absurd (let never : ◌≡◌ {A = Result (Option Event) LineFault} (Ok (Some next.happened)) (Err reads.1.0) = sym next.means ∙ faulty.means in cc)
          | inr endless ↦ absurd (let never : true ≡ false = sym so_far.finished ∙ endless.unfinished in cc)
        ]
    read-fails new stop.Memory reads = refl
    read-fails new stop.Usage reads = absurd reads
    read-fails new stop.LongCore reads = absurd reads
    read-fails new (stop.Core fault) reads = absurd reads
    read-fails new stop.LongLog reads = absurd reads
    read-fails new stop.Read reads = absurd reads
    read-fails new stop.Put reads = absurd reads

    pub step-fails : (newer : Holding) (new : Reading) (happened : Event) (number : ℕ) (why : Stop) → Gives old new happened → HandlesEvent holding newer happened number (Err why)
        → why ≡ stop.Memory
    step-fails newer new happened number why gives fails = elim (is_refusal number fails.0) [
      | inl memory ↦ fails.1 ∙ ap (stop_of_event number) memory
      | inr other ↦
          let refuses = fails.2 other.0 in
          let reason = refuses.reason so_far.moment so_far.stands in
          let accepted = (next-accepted new happened gives).0 in
          absurd (let never : ◌≡◌ {A = Option StepFault} (Some fails.0) None = sym reason ∙ accepted in cc)
    ]

-- the core that the log is about
pub core-fails : (bytes : List ℕ) (fault : CoreFault) → bytes ≡ generated_core → IsRefusalOf (core_of bytes) fault → stop_of_core fault ≡ stop.Memory
core-fails bytes fault is refusal = elim refusal [
  | inl memory ↦ ap stop_of_core memory
  | inr refused ↦
      absurd (let never : ◌≡◌ {A = Result Core CoreFault} (Ok stated_core) (Err fault) = sym core-is-accepted ∙ (ap core_of (sym is) ∙ refused) in cc)
]

pub core-start-is : (bytes : List ℕ) (core : Core) → bytes ≡ generated_core → core_of bytes ≡ Ok core → core_start core ≡ generated_start
core-start-is bytes core is read =
    let both : ◌≡◌ {A = Result Core CoreFault} (Ok core) (Ok stated_core) = sym read ∙ (ap core_of is ∙ core-is-accepted) in
    let same : core ≡ stated_core = cc in
    ap core_start same

job-is : (seed count : ℕ) → gen_job seed count ≡ summary (begun generated_start) (generated_log seed count)
job-is seed count =
    let within : nat_lt core_limit (length generated_core) ≡ false = ap (nat_lt core_limit) core-length in
    ap (λ read. summary_job read (generated_log seed count)) (core_by generated_core (Ok stated_core) within core-is-accepted)

-- the outcome of a summary
module _ (seed count : ℕ) (sum : Summary) (is : IsSummaryOf seed count sum) where
  abbrev outcome : Outcome
  outcome = record { lines = summary_lines sum; status = end_status (list_any has_findings is.part.answers) }

  says : SaysSummary (begun generated_start) (generated_log seed count) outcome
  says = record {
    part = is.part;
    all = is.all;
    outcome_is = ap (λ (one : Summary). let at : Outcome = record { lines = summary_lines one; status = end_status (list_any has_findings is.part.answers) } in at) is.summary_is;
  }

  adds-summary : (stale : Bool) (before now : Pieces) → list_any has_findings is.part.answers ≡ stale → Adds before now (summary_lines sum)
      → Ends (summary (begun generated_start) (generated_log seed count)) before now (end_status stale)
  adds-summary true before now stale adds = record { outcome = outcome; is = says; status_is = ap end_status stale; adds = adds }
  adds-summary false before now stale adds = record { outcome = outcome; is = says; status_is = ap end_status stale; adds = adds }

  pub summary-ends : (before now : Pieces) (status : Status) → Adds before now (summary_lines sum) → status ≡ end_status (nat_lt 0 sum.no) → Ends (gen_job seed count) before now status
  summary-ends before now status adds status_is =
      let no : nat_lt 0 sum.no ≡ list_any has_findings is.part.answers = ap (λ (one : Summary). nat_lt 0 one.no) is.summary_is ∙ stale-is is.part.answers in
      subst (λ (job : Job). Ends job before now status) (sym (job-is seed count))
      (subst (λ (end : Status). Ends (summary (begun generated_start) (generated_log seed count)) before now end) (sym (status_is ∙ ap end_status no))
      (adds-summary (list_any has_findings is.part.answers) before now refl adds))

  pub summary-fails : (before now : Pieces) → AddsTruncated before now (summary_lines sum) → Ends (gen_job seed count) before now WriteFailed
  summary-fails before now adds =
      subst (λ (job : Job). Ends job before now WriteFailed) (sym (job-is seed count))
      (record {
        lines = [];
        next = summary_lines sum;
        reaches = (refl, inr (outcome, says, refl));
        adds = subst (λ (o : Pieces). AddsTruncated o now (summary_lines sum)) (adds-none before) adds;
      })

pub no-memory : (seed count : ℕ) (before : Pieces) → Ends (gen_job seed count) before before OutOfMemory
no-memory seed count before =
    subst (λ (job : Job). Ends job before before OutOfMemory) (sym (job-is seed count))
    (record {
      lines = [];
      next = [];
      reaches = (refl, inl refl);
      adds = subst (λ (o : Pieces). AddsPrefix o before []) (adds-none before) (prefix-none before []);
    })

pub ends-by-summary : (stale : Bool) (status : Status) → status ≡ end_status stale → EndsBySummary status
ends-by-summary true status is = inr (inl is)
ends-by-summary false status is = inl is

-- a summary without counts
pub zeros-are : (sum : Summary) → ((sum.events ≡ 0) × ((sum.writes ≡ 0) × ((sum.sets ≡ 0) × ((sum.invalidations ≡ 0) × ((sum.granted ≡ 0) × ((sum.denied ≡ 0) × ((sum.areas ≡ 0) × ((sum.yes ≡ 0) × (sum.no ≡ 0)))))))))
    → sum ≡ record { events = 0; writes = 0; sets = 0; invalidations = 0; granted = 0; denied = 0; areas = 0; yes = 0; no = 0 }
zeros-are sum is =
    (ap (λ (n : ℕ). let at : Summary = record { events = n; writes = sum.writes; sets = sum.sets; invalidations = sum.invalidations; granted = sum.granted; denied = sum.denied; areas = sum.areas; yes = sum.yes; no = sum.no } in at) (is.0)
    ∙ (ap (λ (n : ℕ). let at : Summary = record { events = 0; writes = n; sets = sum.sets; invalidations = sum.invalidations; granted = sum.granted; denied = sum.denied; areas = sum.areas; yes = sum.yes; no = sum.no } in at) (is.1.0)
    ∙ (ap (λ (n : ℕ). let at : Summary = record { events = 0; writes = 0; sets = n; invalidations = sum.invalidations; granted = sum.granted; denied = sum.denied; areas = sum.areas; yes = sum.yes; no = sum.no } in at) (is.1.1.0)
    ∙ (ap (λ (n : ℕ). let at : Summary = record { events = 0; writes = 0; sets = 0; invalidations = n; granted = sum.granted; denied = sum.denied; areas = sum.areas; yes = sum.yes; no = sum.no } in at) (is.1.1.1.0)
    ∙ (ap (λ (n : ℕ). let at : Summary = record { events = 0; writes = 0; sets = 0; invalidations = 0; granted = n; denied = sum.denied; areas = sum.areas; yes = sum.yes; no = sum.no } in at) (is.1.1.1.1.0)
    ∙ (ap (λ (n : ℕ). let at : Summary = record { events = 0; writes = 0; sets = 0; invalidations = 0; granted = 0; denied = n; areas = sum.areas; yes = sum.yes; no = sum.no } in at) (is.1.1.1.1.1.0)
    ∙ (ap (λ (n : ℕ). let at : Summary = record { events = 0; writes = 0; sets = 0; invalidations = 0; granted = 0; denied = 0; areas = n; yes = sum.yes; no = sum.no } in at) (is.1.1.1.1.1.1.0)
    ∙ (ap (λ (n : ℕ). let at : Summary = record { events = 0; writes = 0; sets = 0; invalidations = 0; granted = 0; denied = 0; areas = 0; yes = n; no = sum.no } in at) (is.1.1.1.1.1.1.1.0)
    ∙ ap (λ (n : ℕ). let at : Summary = record { events = 0; writes = 0; sets = 0; invalidations = 0; granted = 0; denied = 0; areas = 0; yes = 0; no = n } in at) (is.1.1.1.1.1.1.1.1)))))))))
