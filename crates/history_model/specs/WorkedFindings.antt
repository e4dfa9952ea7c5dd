-- Examples that pin where a point looks, what it finds there and what is answered: worked out by hand.
use Rattle.std.specs.Prelude.{◌≡◌, ℕ, true, false, Some, [], ◌∷◌}
use Rattle.paging_model.specs.Registers.{root_of, settings_of}
use Rattle.paging_model.specs.TableUses.{IsTooLarge}
use Rattle.paging_model.specs.WorkedSpaces.{small_areas}
use Rattle.paging_model.specs.declared.registers.RegChange.TheVariants as change
use Rattle.paging_model.specs.declared.registers.Regs.{Regs}
use Rattle.history_model.specs.Answering.{Answers}
use Rattle.history_model.specs.History.{History, begun, next, memory, machine, regs}
use Rattle.history_model.specs.StaleTranslations.{IsStale, IsWorst, NoneStale, AreFindings, scope}
use Rattle.history_model.specs.WorkedHistories.{entry_bytes, small_start, three_pcids}
use Rattle.history_model.specs.WorkedTranslations.{two_pages, with_first_entry, in_other_pcid, finding}
use Rattle.history_model.specs.declared.answers.Answer.TheVariants.{Listed, ListTooLarge, Verdict}
use Rattle.history_model.specs.declared.events.Event.TheVariants as event

-- a point looks under the current PCID of each processor, or under each that it has visited
pub record OfScopes : Type 0 where
  pub all : scope three_pcids true ≡ (0, 0) ∷ (0, 1) ∷ (0, 2) ∷ (1, 0) ∷ []
  pub current : scope three_pcids false ≡ (0, 2) ∷ (1, 0) ∷ []

-- the entry of page 0 leads to another frame, then to the first one without writes, and then to none
abbrev pub three_entries : History
three_entries =
    next (next (with_first_entry 0x7007) (event.Write 0x4000 (entry_bytes 0x5005))) (event.Write 0x4000 (entry_bytes 0))

-- of one page the least frame comes first, and of one frame the least excess
pub record OfOrder : Type 0 where
  pub greater_frame : IsStale three_entries (finding 0 0 0x7000 255)
  pub greater_excess : IsStale three_entries (finding 0 0 0x5000 255)
  pub first : IsWorst three_entries (finding 0 0 0x5000 109)

-- the supervisor's key 0 denies each data access; then the entry of page 0 becomes one of the supervisor's, without
-- fetches, and is cleared
abbrev pub without_rights : History
without_rights =
    next (next (next (next two_pages (event.Set 0 (change.Cr4 0x1000020))) (event.Set 0 (change.Pkrs 1)))
    (event.Write 0x4000 (3 ∷ 0x50 ∷ 0 ∷ 0 ∷ 0 ∷ 0 ∷ 0 ∷ 0x80 ∷ []))) (event.Write 0x4000 (entry_bytes 0))

-- a translation that grants nothing is stale where the page isn't mapped, and comes before one that grants something
pub record OfNoRights : Type 0 where
  pub first : IsWorst without_rights (finding 0 0 0x5000 0)

-- of each PCID the last root counts, and not the present one, of whose tables nothing is known
pub record OfLastRoots : Type 0 where
  pub none : AreFindings three_pcids (scope three_pcids true) []

-- the entry of page 0 is cleared, and processor 0 invalidates the page
abbrev pub after_invlpg : History
after_invlpg = next (with_first_entry 0) (event.Invlpg 0 0x0)

-- nothing is stale then: addresses that select the same entries, and aren't canonical, are in no page
pub record OfInvlpg : Type 0 where
  pub none : NoneStale after_invlpg 0 0

-- the answer to a list is the whole list of areas, or that the space is too large where it is
pub record OfAnswers : Type 0 where
  pub areas : Answers (begun small_start) (event.List 0) (Listed small_areas)
  pub too_large : (history : History) (cpu : ℕ) (known : Regs) → regs history cpu ≡ Some known
      → IsTooLarge (memory history) (settings_of known (machine history)) (root_of known (machine history))
      → Answers history (event.List cpu) ListTooLarge

-- a global translation of an unmapped page is found under the current PCID, and with `all` under the one that was left too
pub record OfPoints : Type 0 where
  pub current : Answers in_other_pcid (event.Point false) (Verdict (record (finding 0 0 0x5000 255) { pcid = 1 } ∷ []))
  pub all : Answers in_other_pcid (event.Point true)
      (Verdict (finding 0 0 0x5000 255 ∷ record (finding 0 0 0x5000 255) { pcid = 1 } ∷ []))
