-- Translations that a processor may use although the present tables don't justify them, and what a point finds.
-- SDM 3A, "Propagation of Paging-Structure Changes to Multiple Processors".
use Rattle.std.specs.Prelude.{◌≡◌, ◌≢◌, ℕ, ◌<◌, ◌≤◌, ◌==◌, ◌⊎◌, Bool, true, false, if◌then◌else◌, Option, Some, None, List, [], ◌∷◌, ◌++◌, map}
use Rattle.paging_model.specs.AccessSets.{has, minus_of}
use Rattle.paging_model.specs.LinearAddress.{IsPage}
use Rattle.paging_model.specs.Registers.{la57, pcid_of}
use Rattle.paging_model.specs.Translations.{Target, rights_of, present_target}
use Rattle.paging_model.specs.declared.access.Access.{Access}
use Rattle.paging_model.specs.declared.registers.Processor.{Processor}
use Rattle.paging_model.specs.declared.registers.Regs.{Regs}
use Rattle.history_model.specs.History.{History, memory, machine, processors, regs, visited_pcids, last_root}
use Rattle.history_model.specs.CachedTranslations.{Held, MayUse, frame_at}
use Rattle.history_model.specs.declared.caches.Finding.{Finding}

-- where a held translation takes a page, and what it grants there under these registers
abbrev pub held_target : Regs → ℕ → ℕ → Held → Target ℕ
held_target known level page held = record {
  frame = frame_at level page held;
  kind = rights_of known page (record { bits = held.bits; key = held.key });
}

-- the present tables map nothing, or another frame, or don't grant some access that is granted
abbrev pub Exceeds : Option (Target ℕ) → Target ℕ → Type 0
Exceeds None granted = Unit {0}
Exceeds (Some there) granted =
    (there.frame ≢ granted.frame)
    ⊎ ((access : Access) × (has granted.kind access ≡ true) × (has there.kind access ≡ false))

-- what is granted and isn't by the present tables: all of it where they map nothing or another frame
abbrev pub excess_over : Option (Target ℕ) → Target ℕ → ℕ
excess_over None granted = granted.kind
excess_over (Some there) granted =
    if there.frame == granted.frame then minus_of granted.kind there.kind else granted.kind

-- a translation that a processor may use at a page under a PCID, and that exceeds the present translation from the root
-- that the processor had last in that PCID
pub record IsStale (history : History) (finding : Finding) : Type 0 where
  pub known : Regs
  pub is_known : regs history finding.cpu ≡ Some known
  pub root : ℕ
  pub is_root : last_root history finding.cpu finding.pcid ≡ Some root
  pub page : IsPage (la57 known) finding.page
  pub level : ℕ
  pub held : Held
  pub may_use : MayUse history finding.cpu finding.pcid level finding.page held
  pub exceeds : Exceeds (present_target (memory history) (machine history) known root finding.page)
      (held_target known level finding.page held)
  pub frame : finding.frame ≡ frame_at level finding.page held
  pub excess : finding.excess ≡ excess_over (present_target (memory history) (machine history) known root finding.page)
      (held_target known level finding.page held)

-- by page, then by frame, then by the number of the excess
abbrev pub IsNotAfter : Finding → Finding → Type 0
IsNotAfter one other =
    (one.page < other.page)
    ⊎ ((one.page ≡ other.page) × ((one.frame < other.frame) ⊎ ((one.frame ≡ other.frame) × (one.excess ≤ other.excess))))

-- the stale translation of a processor and a PCID that comes first
pub record IsWorst (history : History) (finding : Finding) : Type 0 where
  pub stale : IsStale history finding
  pub first : (other : Finding) → other.cpu ≡ finding.cpu → other.pcid ≡ finding.pcid → IsStale history other
      → IsNotAfter finding other

-- no page has a stale translation under the PCID
abbrev pub NoneStale : History → ℕ → ℕ → Type 0
NoneStale history cpu c = (other : Finding) → other.cpu ≡ cpu → other.pcid ≡ c → IsStale history other → ⊥

-- the PCIDs of a processor that a point checks: all that it visited, or its current one
abbrev pub pcids_at : History → Processor → Bool → List ℕ
pcids_at history one all = if all then visited_pcids history one.number else pcid_of one.regs ∷ []

-- the pairs of these processors and their PCIDs
abbrev pub scope_of : History → List Processor → Bool → List (ℕ × ℕ)
scope_of history [] all = []
scope_of history (one ∷ rest) all = map (λ c. (one.number, c)) (pcids_at history one all) ++ scope_of history rest all

-- the pairs of a processor and a PCID that a point checks, ascending by processor and then by PCID
abbrev pub scope : History → Bool → List (ℕ × ℕ)
scope history all = scope_of history (processors history) all

-- the first stale translation of each pair that has one, in the order of the pairs
abbrev pub AreFindings : History → List (ℕ × ℕ) → List Finding → Type 0
AreFindings history [] findings = findings ≡ []
AreFindings history (at ∷ rest) findings =
    (NoneStale history at.0 at.1 × AreFindings history rest findings)
    ⊎ ((finding : Finding) × (others : List Finding) × (findings ≡ finding ∷ others)
    × (finding.cpu ≡ at.0) × (finding.pcid ≡ at.1) × IsWorst history finding × AreFindings history rest others)
