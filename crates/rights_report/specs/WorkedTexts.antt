-- Examples that pin the texts: their values were worked out by hand.
use Rattle.std.specs.Prelude.{◌≡◌, [], ◌∷◌, ◌++◌, map, true, false, Ok, Err, codes}
use Rattle.paging_model.specs.Memory.{Extent}
use Rattle.paging_model.specs.Registers.{machine_of}
use Rattle.paging_model.specs.declared.access.Rule.TheVariants as rule
use Rattle.paging_model.specs.declared.registers.Processor.{Processor}
use Rattle.paging_model.specs.declared.registers.RegRule.TheVariants as register
use Rattle.history_model.specs.declared.answers.Answer.TheVariants as answer
use Rattle.history_model.specs.declared.answers.Why.TheVariants.{NotCanonical, Absent, Denied}
use Rattle.history_model.specs.declared.faults.StepFault.TheVariants as fault
use Rattle.rights_report.specs.AnswerLines.{answer_lines, area_line, asked_line}
use Rattle.rights_report.specs.CoreLines.{core_line}
use Rattle.rights_report.specs.LogRefusals.{log_refusal_line}
use Rattle.rights_report.specs.SummaryLines.{summary_lines}
use Rattle.rights_report.specs.declared.refusals.Cause.TheVariants.{TooLong, Syntax, Step}
use Rattle.rights_report.specs.declared.summaries.Summary.{Summary}

-- three events, all of them invalidations
abbrev pub idle_summary : Summary
idle_summary = record {
  events = 3;
  writes = 0;
  sets = 0;
  invalidations = 3;
  granted = 0;
  denied = 0;
  areas = 0;
  yes = 0;
  no = 0;
}

-- some of everything
abbrev pub mixed_summary : Summary
mixed_summary = record {
  events = 90;
  writes = 21;
  sets = 2;
  invalidations = 13;
  granted = 24;
  denied = 5;
  areas = 116;
  yes = 7;
  no = 8;
}

pub record OfTexts : Type 0 where
  pub granted : asked_line (Ok 0x6234) ≡ codes "granted 0x6234" ++ 10 ∷ []
  pub denied : asked_line (Err (Absent 1)) ≡ codes "denied absent 1" ++ 10 ∷ []
  pub not_canonical : asked_line (Err NotCanonical) ≡ codes "denied not-canonical" ++ 10 ∷ []
  pub rule : asked_line (Err (Denied rule.Smap)) ≡ codes "denied smap" ++ 10 ∷ []
  pub areas : answer_lines (answer.Listed (record { first = 0x1000; last = 0x1fff; frame = 0x6000; rights = 109 } ∷ []))
      ≡ (codes "areas 1" ++ 10 ∷ []) ∷ (codes "0x1000 0x1fff 0x6000 r-xr-xr-" ++ 10 ∷ []) ∷ []
  pub zero : area_line (record { first = 0; last = 0xfff; frame = 0x5000; rights = 255 }) ≡ codes "0x0 0xfff 0x5000 rwxrwxrw" ++ 10 ∷ []
  pub too_large : answer_lines answer.ListTooLarge ≡ (codes "areas too large" ++ 10 ∷ []) ∷ []
  pub yes : answer_lines (answer.Verdict []) ≡ (codes "point yes" ++ 10 ∷ []) ∷ []
  pub no : answer_lines (answer.Verdict (record { cpu = 1; pcid = 2; page = 0x1000; frame = 0x6000; excess = 0 } ∷ []))
      ≡ (codes "point no 1" ++ 10 ∷ []) ∷ (codes "cpu 1 pcid 2 page 0x1000 frame 0x6000 --------" ++ 10 ∷ []) ∷ []
  pub nothing : answer_lines answer.Nothing ≡ []
  pub refused : log_refusal_line 12 Syntax ≡ codes "line 12 refused: syntax" ++ 10 ∷ []
  pub too_long : log_refusal_line 1 TooLong ≡ codes "line 1 refused: too long" ++ 10 ∷ []
  pub stranger : log_refusal_line 1 (Step (fault.NoProcessor 3)) ≡ codes "line 1 refused: no processor 3" ++ 10 ∷ []
  pub illegal : log_refusal_line 2 (Step (fault.Illegal register.PcidNotZero)) ≡ codes "line 2 refused: illegal pcid-not-zero" ++ 10 ∷ []
  pub crosses : log_refusal_line 1 (Step (fault.Crosses 0x2000)) ≡ codes "line 1 refused: crosses 0x2000" ++ 10 ∷ []
  pub idle : summary_lines idle_summary
      ≡ map (λ line. line ++ 10 ∷ [])
      (codes "events 3" ∷ codes "writes 0" ∷ codes "sets 0" ∷ codes "invalidations 3" ∷ codes "granted 0"
      ∷ codes "denied 0" ∷ codes "areas 0" ∷ codes "points yes 0" ∷ codes "points no 0" ∷ [])
  pub mixed : summary_lines mixed_summary
      ≡ map (λ line. line ++ 10 ∷ [])
      (codes "events 90" ∷ codes "writes 21" ∷ codes "sets 2" ∷ codes "invalidations 13" ∷ codes "granted 24"
      ∷ codes "denied 5" ∷ codes "areas 116" ∷ codes "points yes 7" ∷ codes "points no 8" ∷ [])
  pub core : (segment : Extent) (processor : Processor)
      → core_line (record { segments = segment ∷ []; stated = true; machine = machine_of 40 true; processors = processor ∷ [] })
      ≡ codes "core ok: segments 1, processors 1, machine 40 1" ++ 10 ∷ []
  pub without_processors : (one other : Extent)
      → core_line (record { segments = one ∷ other ∷ []; stated = true; machine = machine_of 52 false; processors = [] })
      ≡ codes "core ok: segments 2, processors 0, machine 52 0" ++ 10 ∷ []
