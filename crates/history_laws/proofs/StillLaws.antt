-- The present walk comes to all that a still processor may hold, under whatever PCID and with whatever registers it was made.
use Rattle.std.proofs.Common.{◌≡◌, ℕ, suc, ◌-◌, ◌≤◌, inl, inr, Bool, true, false, Option, Some, None, List, [], ◌∷◌, refl, sym, ap, ◌∙◌, arith, subst}
use Rattle.std.proofs.lemmas.Bool.Decides.{nat_tests}
use Rattle.std.specs.Prelude.{◌==◌, if◌then◌else◌, option_map}
use Rattle.paging_model.specs.Counting.{IsIn}
use Rattle.paging_model.specs.Memory.{Memory}
use Rattle.paging_model.specs.Registers.{pcid_of, pge, root_of}
use Rattle.paging_model.specs.Walking.{walk, walk_from}
use Rattle.paging_model.specs.declared.registers.Machine.{Machine}
use Rattle.paging_model.specs.declared.registers.Regs.{Regs}
use Rattle.paging_model.specs.declared.spaces.SpaceKey.{SpaceKey}
use Rattle.history_model.specs.History.{History, begun, next, time, memory, memory_after, machine, regs, visited_pcids, with_number, with_pcid, last_root, last_root_under}
use Rattle.history_model.specs.Horizons.{IsStill, IsUpTo, here, horizon, space, is_memory_write}
use Rattle.history_model.specs.KeptSpaces.{space_of}
use Rattle.history_model.specs.CachedTranslations.{Held, MayHold, kept, at_root, below, cache_key}
use Rattle.history_model.specs.StaleTranslations.{IsStale, AreFindings}
use Rattle.history_model.specs.declared.caches.Finding.{Finding}
use Rattle.history_model.specs.declared.events.Event.{Event}
use Rattle.history_model.specs.declared.events.Event.TheVariants as event
use Rattle.history_laws.specs.HeldLevels.{HasLevel}
use Rattle.history_laws.proofs.HorizonLaws.{horizon-spares, horizon-time}
use Rattle.history_laws.proofs.LevelLaws.{held_has_level}
use Rattle.history_laws.proofs.MomentLaws.{horizon-at, up_to_before}
use Rattle.history_laws.proofs.PcidLaws.{with_number-new, with_number-old}
use Rattle.history_laws.proofs.WalkLaws.{some-same, ComesTo, Stands, stands_at_root, stands_below, translation_of_page, translation_not_stale}

-- what writes nothing leaves memory
pub unwritten_memory : (happened : Event) (before : Memory) → is_memory_write happened ≡ false → memory_after happened before ≡ before
unwritten_memory (event.Machine m) before h = refl
unwritten_memory (event.Cpu cpu given) before h = refl
unwritten_memory (event.Write at bytes) before h = absurd (cc)
unwritten_memory (event.Set cpu change) before h = refl
unwritten_memory (event.Invlpg cpu address) before h = refl
unwritten_memory (event.Invpcid cpu kind pcid address) before h = refl
unwritten_memory (event.Ask cpu access pointer) before h = refl
unwritten_memory (event.List cpu) before h = refl
unwritten_memory (event.Point all) before h = refl

-- the walk in a space comes to what is held, whatever CR4.PGE was when it was made
pub record IsWalkedTo (memory : Memory) (key : SpaceKey) (x level : ℕ) (held : Held) : Type 0 where
  pub pages_are_global : Bool
  pub comes_to : ComesTo pages_are_global level x held (λ frame bits. walk_from memory key.settings (level - 1) x frame bits) (walk memory key.settings key.root x)

-- the space of a processor whose registers are known
space_at : (moment : History) (p : ℕ) {key : SpaceKey} (known : Regs) → space moment p ≡ Some key → regs moment p ≡ Some known → space_of (machine moment) known ≡ key
space_at moment p {key = key} known is_space is_known =
    some-same (space_of (machine moment) known) key (sym (ap (option_map (λ one. space_of (machine moment) one)) is_known) ∙ is_space)

walked_where_stands : (moment : History) (p : ℕ) {c x level : ℕ} {held : Held} {key : SpaceKey} → space moment p ≡ Some key
    → Stands (memory moment) (machine moment) (regs moment p) c x level held → IsWalkedTo (memory moment) key x level held
walked_where_stands moment p {x = x} {level = level} {held = held} is_space stands =
    subst (λ one. IsWalkedTo (memory moment) one x level held) (space_at moment p stands.known is_space stands.is_known)
    (record { pages_are_global = pge stands.known; comes_to = stands.comes_to })

module _ (history : History) (p : ℕ) (key : SpaceKey) (still : IsStill history p) (is_space : space history p ≡ Some key) where
  -- at each moment from the horizon on
  still_walked : {c x level : ℕ} {moment : History} {held : Held} → MayHold moment p c level x held → IsUpTo moment history → horizon history p ≤ time moment
      → IsWalkedTo (memory moment) key x level held
  still_walked {c = c} {x = x} (kept {before = before} happened {level = level} {held = held} {known = known} earlier is_known spares) up_to since =
      let same : horizon before p ≡ horizon history p = sym (horizon-spares before happened p known (cache_key c level x held) is_known spares) ∙ horizon-at p up_to since in
      let since_before : horizon history p ≤ time before = let within = horizon-time before p in omega (arith, same) in
      subst (λ now. IsWalkedTo now key x level held) (sym (unwritten_memory happened (memory before) (still.unwritten before happened up_to since_before)))
      (still_walked earlier (up_to_before up_to) since_before)
  still_walked {c = c} {x = x} (at_root {history = moment} {level = level} {held = held} {known = known} is_known current top is_made) up_to since =
      walked_where_stands moment p (still.same_space moment up_to since ∙ is_space) (stands_at_root moment p c x level held known is_known current top is_made)
  still_walked {c = c} {x = x} (below {history = moment} {level = level} {held = held} {known = known} above is_known current above_held references is_made) up_to since =
      let now : space moment p ≡ Some key = still.same_space moment up_to since ∙ is_space in
      let over : HasLevel (suc level) above = held_has_level above_held in
      let walked : IsWalkedTo (memory moment) key x (suc level) above = still_walked above_held up_to since in
      let walked_there : IsWalkedTo (memory moment) (space_of (machine moment) known) x (suc level) above =
      subst (λ one. IsWalkedTo (memory moment) one x (suc level) above) (sym (space_at moment p known now is_known)) walked in
      let over_stands : Stands (memory moment) (machine moment) (regs moment p) c x (suc level) above =
      record { known = known; is_known = is_known; current = current; comes_to = record { page = λ leaf. absurd (cc (leaf, references)); table = walked_there.comes_to.table } } in
      walked_where_stands moment p now (stands_below moment p c x level held above known is_known current (over.of_table references) over_stands references is_made)

visited_where : (is_here : Bool) (n c now root : ℕ) (earlier : Option ℕ) (list : List ℕ) → (is_here ≡ true → n ≡ c) → (earlier ≡ Some root → IsIn c list)
    → (if is_here then Some now else earlier) ≡ Some root → IsIn c (with_number n list)
visited_where true n c now root earlier list f g h = subst (λ one. IsIn one (with_number n list)) (f refl) (with_number-new n list)
visited_where false n c now root earlier list f g h = with_number-old c n list (g h)

visited_under : (now : Option Regs) (m : Machine) (c root : ℕ) (earlier : Option ℕ) (list : List ℕ) → (earlier ≡ Some root → IsIn c list)
    → last_root_under m now c earlier ≡ Some root → IsIn c (with_pcid (option_map pcid_of now) list)
visited_under None m c root earlier list f h = f h
visited_under (Some known) m c root earlier list f h =
    visited_where (pcid_of known == c) (pcid_of known) c (root_of known m) root earlier list (λ e. grind (arith, nat_tests)) f h

-- a PCID that has a last root was visited
last_root-visited : (history : History) (p c root : ℕ) → last_root history p c ≡ Some root → IsIn c (visited_pcids history p)
last_root-visited (begun start) p c root h = visited_under _ start.machine c root None [] (λ none. absurd (cc)) h
last_root-visited (next before happened) p c root h =
    visited_under _ (machine before) c root (last_root before p c) (visited_pcids before p) (last_root-visited before p c root) h

-- nothing is stale on a still processor
pub still_not_stale : (history : History) (finding : Finding) → IsStill history finding.cpu → IsStale history finding → ⊥
still_not_stale history finding still stale =
    let key : SpaceKey = space_of (machine history) stale.known in
    let now : horizon history finding.cpu ≤ time history = horizon-time history finding.cpu in
    let visited : IsIn finding.pcid (visited_pcids history finding.cpu) = last_root-visited history finding.cpu finding.pcid stale.root stale.is_root in
    let root : stale.root ≡ root_of stale.known (machine history) =
    some-same stale.root (root_of stale.known (machine history))
    (sym stale.is_root ∙ (still.same_root history finding.pcid here now visited ∙ ap (option_map (λ known. root_of known (machine history))) stale.is_known)) in
    let walked : IsWalkedTo (memory history) key finding.page stale.level stale.held =
    still_walked history finding.cpu key still (ap (option_map (λ known. space_of (machine history) known)) stale.is_known) stale.may_use.held_there here now in
    translation_not_stale history finding stale root
    (translation_of_page (memory history) (machine history) stale.known stale.level finding.page stale.held walked.pages_are_global stale.page.aligned
    (walked.comes_to.page stale.may_use.leaf))

-- a point finds nothing on still processors
pub still_silent : (history : History) (pairs : List (ℕ × ℕ)) → ((cpu c : ℕ) → IsIn (cpu, c) pairs → IsStill history cpu) → AreFindings history pairs []
still_silent history [] still = refl
still_silent history (at ∷ rest) still = inl (
  (λ other cpu pcid stale. still_not_stale history other (subst (λ p. IsStill history p) (sym cpu) (still at.0 at.1 (inl refl))) stale),
  still_silent history rest (λ cpu c is_in. still cpu c (inr is_in)),
)
