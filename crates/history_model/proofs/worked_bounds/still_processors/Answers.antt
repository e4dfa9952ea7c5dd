-- Moment by moment, the last one first; where there was a change, the condition that it breaks.
use Rattle.std.proofs.Common.{ℕ, Bool, false, Option, Some, None, refl, inl, inr, ap, sym, arith}
use Rattle.std.proofs.lemmas.Bool.{false≢true}
use Rattle.paging_model.specs.declared.spaces.SpaceKey.{SpaceKey}
use Rattle.history_model.specs.History.{begun, next}
use Rattle.history_model.specs.Horizons.{here, later}
use Rattle.history_model.specs.WorkedHistories.{small_start, three_pcids, zeros}
use Rattle.history_model.specs.WorkedHorizons.{write_and_loss, other_events, without_nxe_and_loss, other_registers, one_root}
use Rattle.history_model.specs.declared.events.Event.TheVariants as event
use Rattle.history_model.proofs.MomentsUpTo.{still_by}
use Rattle.history_model.proofs.worked_bounds.still_processors.Goals as goal

reads_xd : Option SpaceKey → Bool
reads_xd None = false
reads_xd (Some key) = key.settings.nxe

root_in : Option SpaceKey → ℕ
root_in None = 0
root_in (Some key) = key.root

number_in : Option ℕ → ℕ
number_in None = 0
number_in (Some n) = n

pub returns : goal.returns
unfolding reads_xd root_in number_in
returns c = record {
  at_start = still_by (begun small_start) 0 tt (λ since. refl) (λ since. (refl, tt));
  since_a_write = λ still. false≢true (sym (still.unwritten (begun small_start) (event.Write 0x4008 zeros) here (omega arith)));
  since_its_loss =
      still_by write_and_loss 0 (λ since. refl, (λ since. absurd (omega arith), tt))
      (λ since. refl, (λ since. absurd (omega arith), λ since. absurd (omega arith)))
      (λ since. (refl, tt), (λ since. absurd (omega arith), λ since. absurd (omega arith)));
  no_loss_of_another = λ still. false≢true (sym (still.unwritten (begun small_start) (event.Write 0x4008 zeros) (later _ here) (omega arith)));
  since_other_events =
      still_by other_events 0
      (λ since. refl, (λ since. refl, (λ since. refl, (λ since. refl, (λ since. absurd (omega arith), tt)))))
      (λ since. refl, (λ since. refl, (λ since. refl, (λ since. refl, (λ since. absurd (omega arith), λ since. absurd (omega arith))))))
      (λ since. (refl, tt), (λ since. (refl, tt), (λ since. (refl, tt), (λ since. (refl, tt), (λ since. absurd (omega arith), λ since. absurd (omega arith))))));
  since_other_settings = λ still. false≢true (sym (ap reads_xd (still.same_space (begun small_start) (later _ here) (omega arith))));
  since_their_loss =
      still_by without_nxe_and_loss 0 (λ since. refl, (λ since. refl, tt)) (λ since. refl, (λ since. absurd (omega arith), λ since. absurd (omega arith)))
      (λ since. (refl, tt), (λ since. absurd (omega arith), λ since. absurd (omega arith)));
  since_other_registers =
      still_by other_registers 0 (λ since. refl, (λ since. refl, (λ since. refl, tt)))
      (λ since. refl, (λ since. refl, (λ since. refl, λ since. refl)))
      (λ since. (refl, tt), (λ since. (refl, tt), (λ since. (refl, tt), λ since. (refl, tt))));
  since_another_root = λ still. absurd (omega (arith, ap root_in (still.same_space (begun small_start) (later _ (later _ (later _ here))) (omega arith))));
  with_other_roots = λ still. absurd (omega (arith, ap number_in (still.same_root (next three_pcids (event.Invpcid 0 2 0 0)) 1 here (omega arith) (inr (inl refl)))));
  with_one_root =
      still_by one_root 0 (λ since. refl, (λ since. refl, (λ since. refl, tt)))
      (λ since. refl, (λ since. refl, (λ since. refl, λ since. refl)))
      (λ since. (refl, (refl, (refl, tt))), (λ since. (refl, (refl, tt)), (λ since. (refl, tt), λ since. (refl, tt))));
}
