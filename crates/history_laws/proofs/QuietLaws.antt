-- While neither memory nor a register changes, what may be held is what the present walk comes to.
use Rattle.std.proofs.Common.{◌≡◌, ℕ, suc, ◌%◌, inl, inr, Bool, true, false, Option, Some, None, List, [], ◌∷◌, refl, sym, ap, ◌∙◌, arith, subst}
use Rattle.std.proofs.lemmas.Bool.Decides.{nat_tests}
use Rattle.std.specs.Prelude.{◌==◌, if◌then◌else◌, option_map}
use Rattle.paging_model.specs.Counting.{IsIn}
use Rattle.paging_model.specs.Memory.{Memory}
use Rattle.paging_model.specs.Registers.{pcid_of, root_of}
use Rattle.paging_model.specs.declared.registers.Machine.{Machine}
use Rattle.paging_model.specs.declared.registers.Processor.{Processor}
use Rattle.paging_model.specs.declared.registers.Regs.{Regs}
use Rattle.history_model.specs.History.{History, begun, next, memory, memory_after, machine, processors, processors_after, regs, regs_in, visited_pcids, with_number, with_pcid, last_root, last_root_under}
use Rattle.history_model.specs.CachedTranslations.{Held, MayHold, MayUse, kept, at_root, below}
use Rattle.history_model.specs.Horizons.{IsStill, IsUpTo, here, later, is_memory_write}
use Rattle.history_model.specs.KeptSpaces.{space_of}
use Rattle.history_model.specs.declared.events.Event.{Event}
use Rattle.history_model.specs.declared.events.Event.TheVariants as event
use Rattle.history_laws.specs.HeldLevels.{HasLevel}
use Rattle.history_laws.specs.QuietHistories.{is_quiet, IsQuiet, IsPresent}
use Rattle.history_laws.proofs.LevelLaws.{held_has_level}
use Rattle.history_laws.proofs.PcidLaws.{with_number-in}
use Rattle.history_laws.proofs.StillLaws.{unwritten_memory}
use Rattle.history_laws.proofs.WalkLaws.{some-same, Stands, stands_at_root, stands_below, present_when_it_stands}

quiet_unwritten : (happened : Event) → is_quiet happened ≡ true → is_memory_write happened ≡ false
quiet_unwritten (event.Machine m) h = refl
quiet_unwritten (event.Cpu cpu given) h = refl
quiet_unwritten (event.Write at bytes) h = absurd (cc)
quiet_unwritten (event.Set cpu change) h = refl
quiet_unwritten (event.Invlpg cpu address) h = refl
quiet_unwritten (event.Invpcid cpu kind pcid address) h = refl
quiet_unwritten (event.Ask cpu access pointer) h = refl
quiet_unwritten (event.List cpu) h = refl
quiet_unwritten (event.Point all) h = refl

pub quiet_memory : (happened : Event) (before : Memory) → is_quiet happened ≡ true → memory_after happened before ≡ before
quiet_memory happened before h = unwritten_memory happened before (quiet_unwritten happened h)

pub quiet_processors : (happened : Event) (before : List Processor) → is_quiet happened ≡ true → processors_after happened before ≡ before
quiet_processors (event.Machine m) before h = refl
quiet_processors (event.Cpu cpu given) before h = refl
quiet_processors (event.Write at bytes) before h = refl
quiet_processors (event.Set cpu change) before h = absurd (cc)
quiet_processors (event.Invlpg cpu address) before h = refl
quiet_processors (event.Invpcid cpu kind pcid address) before h = refl
quiet_processors (event.Ask cpu access pointer) before h = refl
quiet_processors (event.List cpu) before h = refl
quiet_processors (event.Point all) before h = refl

pub quiet_regs : (before : History) (happened : Event) (p : ℕ) → is_quiet happened ≡ true → regs (next before happened) p ≡ regs before p
quiet_regs before happened p h = ap (λ all. regs_in all p) (quiet_processors happened (processors before) h)

pub held_stands : {p c x : ℕ} {history : History} {level : ℕ} {held : Held} → IsQuiet history → MayHold history p c level x held
    → Stands (memory history) (machine history) (regs history p) c x level held
held_stands {p = p} {c = c} {x = x} quiet (kept {before = before} happened {level = level} {held = held} earlier is_known spares) =
    let stood : Stands (memory before) (machine before) (regs before p) c x level held = held_stands quiet.1 earlier in
    subst (λ now. Stands (memory_after happened (memory before)) (machine before) now c x level held) (sym (quiet_regs before happened p quiet.0))
    (subst (λ now. Stands now (machine before) (regs before p) c x level held) (sym (quiet_memory happened (memory before) quiet.0)) stood)
held_stands {p = p} {c = c} {x = x} quiet (at_root {history = history} {level = level} {held = held} {known = known} is_known current top is_made) =
    stands_at_root history p c x level held known is_known current top is_made
held_stands {p = p} {c = c} {x = x} quiet (below {history = history} {level = level} {held = held} {known = known} above is_known current above_held references is_made) =
    let over : HasLevel (suc level) above = held_has_level above_held in
    stands_below history p c x level held above known is_known current (over.of_table references) (held_stands quiet above_held) references is_made

-- what is held is held under the current PCID
pub quiet_pcid : {p c x : ℕ} {history : History} {level : ℕ} {held : Held} (known : Regs) → IsQuiet history → regs history p ≡ Some known
    → MayHold history p c level x held → c ≡ pcid_of known
quiet_pcid {p = p} {c = c} {x = x} {history = history} {level = level} {held = held} known quiet is_known may_hold =
    let stands : Stands (memory history) (machine history) (regs history p) c x level held = held_stands quiet may_hold in
    stands.current ∙ ap pcid_of (some-same stands.known known (sym stands.is_known ∙ is_known))

-- what may be used of a page is its present translation
pub used_is_present : (history : History) (p c page level : ℕ) (held : Held) (known : Regs) → IsQuiet history → regs history p ≡ Some known → page % 4096 ≡ 0
    → MayUse history p c level page held → IsPresent history known level page held
used_is_present history p c page level held known quiet is_known aligned may_use =
    present_when_it_stands history p may_use.under page level held known is_known aligned may_use.leaf (held_stands quiet may_use.held_there)

with_number-again : (n : ℕ) → with_number n (n ∷ []) ≡ n ∷ []
with_number-again n = let e : (n == n) ≡ true = grind (arith, nat_tests) in rw e refl

-- the current PCID is the only visited one
pub visited_quiet : (history : History) (p : ℕ) (known : Regs) → IsQuiet history → regs history p ≡ Some known → visited_pcids history p ≡ pcid_of known ∷ []
visited_quiet (begun start) p known quiet is_known = ap (λ now. with_pcid (option_map pcid_of now) []) is_known
visited_quiet (next before happened) p known quiet is_known =
    ap (λ now. with_pcid (option_map pcid_of now) (visited_pcids before p)) is_known
    ∙ ap (with_number (pcid_of known)) (visited_quiet before p known quiet.1 (sym (quiet_regs before happened p quiet.0) ∙ is_known))
    ∙ with_number-again (pcid_of known)

quiet_up_to : {moment history : History} → IsUpTo moment history → IsQuiet history → IsQuiet moment
quiet_up_to here quiet = quiet
quiet_up_to (later happened up_to) quiet = quiet_up_to up_to quiet.1

-- what the machine and a processor's registers give stays
quiet_now : {A : Type 0} (of : Machine → Regs → A) (p : ℕ) {moment history : History} → IsUpTo moment history → IsQuiet history
    → option_map (of (machine moment)) (regs moment p) ≡ option_map (of (machine history)) (regs history p)
quiet_now of p here quiet = refl
quiet_now of p (later {history = before} happened up_to) quiet =
    quiet_now of p up_to quiet.1 ∙ ap (option_map (of (machine before))) (sym (quiet_regs before happened p quiet.0))

abbrev root_in : Machine → Regs → ℕ
root_in machine known = root_of known machine

root_where : (is_here : Bool) (n c now : ℕ) (earlier : Option ℕ) (list : List ℕ) → (n ≡ c → is_here ≡ true) → (IsIn c list → earlier ≡ Some now)
    → IsIn c (with_number n list) → (if is_here then Some now else earlier) ≡ Some now
root_where true n c now earlier list f g i = refl
root_where false n c now earlier list f g i = elim (with_number-in c n list i) [
  | inl e ↦ absurd (let same : false ≡ true = f (sym e) in cc)
  | inr old ↦ g old
]

root_under : (now : Option Regs) (m : Machine) (c : ℕ) (earlier : Option ℕ) (list : List ℕ) → (IsIn c list → earlier ≡ option_map (λ known. root_of known m) now)
    → IsIn c (with_pcid (option_map pcid_of now) list) → last_root_under m now c earlier ≡ option_map (λ known. root_of known m) now
root_under None m c earlier list f i = f i
root_under (Some known) m c earlier list f i =
    root_where (pcid_of known == c) (pcid_of known) c (root_of known m) earlier list (λ e. grind (arith, nat_tests)) f i

-- the last root of each visited PCID is the present one
last_root_quiet : (history : History) (p c : ℕ) → IsQuiet history → IsIn c (visited_pcids history p) → last_root history p c ≡ option_map (root_in (machine history)) (regs history p)
last_root_quiet (begun start) p c quiet i = root_under _ start.machine c None [] (λ none. absurd none) i
last_root_quiet (next before happened) p c quiet i =
    root_under _ (machine before) c (last_root before p c) (visited_pcids before p)
    (λ old. last_root_quiet before p c quiet.1 old ∙ ap (option_map (root_in (machine before))) (sym (quiet_regs before happened p quiet.0))) i

pub quiet_is_still : (history : History) (p : ℕ) → IsQuiet history → IsStill history p
quiet_is_still history p quiet = record {
  unwritten = λ before happened up_to since. let now = quiet_up_to up_to quiet in quiet_unwritten happened now.0;
  same_space = λ moment up_to since. quiet_now space_of p up_to quiet;
  same_root = λ moment c up_to since visited. last_root_quiet moment p c (quiet_up_to up_to quiet) visited ∙ quiet_now root_in p up_to quiet;
}
