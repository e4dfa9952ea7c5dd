-- What holds of each moment on the way to another one; and so that nothing has changed for a processor.
use Rattle.std.proofs.Common.{◌≡◌, ℕ, ◌≤◌, false}
use Rattle.std.specs.Prelude.{option_map}
use Rattle.paging_model.specs.Registers.{root_of}
use Rattle.history_model.specs.History.{History, begun, next, time, machine, regs, visited_pcids, last_root}
use Rattle.history_model.specs.Horizons.{horizon, IsUpTo, here, later, space, is_memory_write, IsStill}
use Rattle.history_model.proofs.ListedThings.{EachOf, each_in}

abbrev pub AllUpTo : (History → Type 0) → History → Type 0
AllUpTo Holds (begun start) = Holds (begun start)
AllUpTo Holds (next before happened) = Holds (next before happened) × AllUpTo Holds before

at_the_end : (Holds : History → Type 0) (history : History) → AllUpTo Holds history → Holds history
at_the_end Holds (begun start) all = all
at_the_end Holds (next before happened) all = all.0

at_moment : (Holds : History → Type 0) {moment history : History} → IsUpTo moment history → AllUpTo Holds history → Holds moment
at_moment Holds {moment = moment} here all = at_the_end Holds moment all
at_moment Holds (later happened up) all = at_moment Holds up all.1

module _ (history : History) (cpu : ℕ) where
  -- the event that leads to a moment is no write, or before the horizon
  abbrev pub IsUnwritten : History → Type 0
  IsUnwritten (begun start) = Unit {0}
  IsUnwritten (next before happened) = horizon history cpu ≤ time before → is_memory_write happened ≡ false

  abbrev pub HasSpace : History → Type 0
  HasSpace moment = horizon history cpu ≤ time moment → space moment cpu ≡ space history cpu

  abbrev pub HasRoots : History → Type 0
  HasRoots moment =
      horizon history cpu ≤ time moment
      → EachOf (λ c. last_root moment cpu c ≡ option_map (λ known. root_of known (machine history)) (regs history cpu)) (visited_pcids moment cpu)

  pub still_by : AllUpTo IsUnwritten history → AllUpTo HasSpace history → AllUpTo HasRoots history → IsStill history cpu
  still_by unwritten spaces roots = record {
    unwritten = λ before happened up. at_moment IsUnwritten up unwritten;
    same_space = λ moment up. at_moment HasSpace up spaces;
    same_root = λ moment c up since visited. each_in _ (visited_pcids moment cpu) (at_moment HasRoots up roots since) c visited;
  }
