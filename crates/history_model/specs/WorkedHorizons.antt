-- Examples that pin for which processors nothing has changed since they lost everything: worked out by hand.
use Rattle.paging_model.specs.declared.access.Access.TheVariants as access
use Rattle.paging_model.specs.declared.registers.RegChange.TheVariants as change
use Rattle.history_model.specs.History.{History, begun, next}
use Rattle.history_model.specs.Horizons.{IsStill}
use Rattle.history_model.specs.WorkedHistories.{small_start, three_pcids, zeros}
use Rattle.history_model.specs.declared.events.Event.TheVariants as event

-- memory is written, and processor 0 loses everything after it
abbrev pub write_alone : History
write_alone = next (begun small_start) (event.Write 0x4008 zeros)

abbrev pub write_and_loss : History
write_and_loss = next write_alone (event.Invpcid 0 2 0 0)

-- then it invalidates a page and accesses one, and processor 1 clears NXE
abbrev pub other_events : History
other_events =
    next (next (next write_and_loss (event.Invlpg 0 0x0)) (event.Ask 0 access.Ur 0x0)) (event.Set 1 (change.Efer 0x500))

-- processor 0 clears NXE, and loses everything after it
abbrev pub without_nxe : History
without_nxe = next (begun small_start) (event.Set 0 (change.Efer 0x500))

abbrev pub without_nxe_and_loss : History
without_nxe_and_loss = next without_nxe (event.Invpcid 0 2 0 0)

-- processor 0 clears WP, changes its protection keys, and turns PCIDs on
abbrev pub other_registers : History
other_registers =
    next (next (next (begun small_start) (event.Set 0 (change.Cr0 0x80000001))) (event.Set 0 (change.Pkru 4)))
    (event.Set 0 (change.Cr4 0x20020))

-- processor 0 goes to PCID 1 and then to PCID 2, with one root
abbrev pub one_root : History
one_root =
    next (next (next (begun small_start) (event.Set 0 (change.Cr4 0x20020))) (event.Set 0 (change.Cr3 0x1001)))
    (event.Set 0 (change.Cr3 0x8000000000001002))

-- of processor 0: each of a write, another space, and another root in some PCID is a change since it lost everything
pub record OfStillProcessors : Type 0 where
  pub at_start : IsStill (begun small_start) 0
  pub since_a_write : IsStill write_alone 0 → ⊥
  pub since_its_loss : IsStill write_and_loss 0
  pub no_loss_of_another : IsStill write_and_loss 1 → ⊥
  pub since_other_events : IsStill other_events 0
  pub since_other_settings : IsStill without_nxe 0 → ⊥
  pub since_their_loss : IsStill without_nxe_and_loss 0
  pub since_other_registers : IsStill other_registers 0
  pub since_another_root : IsStill three_pcids 0 → ⊥
  pub with_other_roots : IsStill (next three_pcids (event.Invpcid 0 2 0 0)) 0 → ⊥
  pub with_one_root : IsStill one_root 0
