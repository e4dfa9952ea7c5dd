-- What is kept of a processor stands for one moment after another.
use Rattle.std.proofs.Common.{◌≡◌, ℕ, ◌+◌, ◌<◌, ◌≤◌, ◌^◌, inl, inr, ◌&&◌, Bool, true, false, map, Option, Some, None, refl, sym, ap, ◌∙◌, subst, arith}
use Rattle.std.specs.Prelude.{◌==◌, ◌||◌, option_map, if◌then◌else◌}
use Rattle.std.proofs.lemmas.Bool.{cases_lt}
use Rattle.std.proofs.lemmas.Bool.Decides.{nat_tests}
use Rattle.paging_model.specs.Registers.{la57, pcid_of, pge, root_of}
use Rattle.paging_model.specs.declared.registers.Regs.{Regs}
use Rattle.history_model.specs.History.{History, begun, next, machine, regs, time, processors, last_root, last_root_under, visited_pcids, with_number, with_pcid}
use Rattle.history_model.specs.Horizons.{horizon, takes_all}
use Rattle.history_model.specs.Invalidations.{loses_all}
use Rattle.history_model.specs.declared.caches.CacheKey.{CacheKey}
use Rattle.history_model.specs.declared.events.Event.{Event}
use Rattle.history_laws.specs.MomentsByTime.{moment_at, takes, taken_at}
use Rattle.history_laws.proofs.TimeLaws.{moment_at-now, moment_at-early, moment_at-late, taken_at-early, taken_at-late}
use Rattle.history_laws.proofs.WalkLaws.{some-same}
use Rattle.cache_rules.specs.declared.removals.Removal.{Removal}
use Rattle.cache_rules.specs.declared.stays.Stay.{Stay}
use Rattle.cache_rules.specs.Hosts.{Keeping, IsNoted, host_after, is_moved, new_stay, root_in, stay_from, with_home_of, with_removal, with_stay}
use Rattle.cache_rules.specs.Removals.{IsRemovalOf, removed_in, takes_if}
use Rattle.cache_rules.specs.Standing.{IsHostOf, IsStay, IsStayAt, stay_in}
use Rattle.cache_rules.proofs.KeptOrders.{before-after, ordered-after}
use Rattle.cache_rules.proofs.RegisterLaws.{pge-after}
use Rattle.cache_rules.proofs.KeptLists.{last_root-known, removed_in-with, root_in-with, same-stay, stay_in-early, stay_in-late, visited-known, with_number-pcids}

-- nothing is taken after the last moment
taken_at-none : (history : History) (p : ℕ) (key : CacheKey) (t : ℕ) → time history < t → taken_at history p key t ≡ false
taken_at-none (begun start) p key t h = refl
taken_at-none (next before happened) p key t h =
    let test : (t == time before + 1) ≡ false = grind (arith, nat_tests) in
    ap (λ (b : Bool). if b then takes happened p (regs before p) key else taken_at before p key t) test ∙ taken_at-none before p key t (omega arith)

or_nil : (a : Bool) → (a || false) ≡ a
or_nil true = refl
or_nil false = refl

module _ (old : Keeping) (history : History) (happened : Event) (removal : Option Removal) (after : Regs) (stands : IsHostOf old history)
    (removes : IsRemovalOf happened old.number old.regs removal) (is_known : regs (next history happened) old.number ≡ Some after) where
  abbrev now : ℕ
  now = time history + 1

  abbrev begins : Option Stay
  begins = new_stay now old.machine old.regs after

  removals-are : (key : CacheKey) → key.pcid < 2 ^ 16 → (u : ℕ) → removed_in (with_removal now removal old.removals) key u ≡ taken_at (next history happened) old.number key u
  removals-are key short u = removed_in-with removal old.removals key now u ∙ elim (cases_lt (time history) u) [
    | inr early ↦
        let other : (now == u) ≡ false = grind (arith, nat_tests) in
        ap (λ (b : Bool). removed_in old.removals key u || (b && takes_if removal key)) other
        ∙ (or_nil (removed_in old.removals key u) ∙ (stands.removals_are key short u ∙ sym (taken_at-early history happened old.number key u early)))
    | inl late ↦
        let none : removed_in old.removals key u ≡ false = stands.removals_are key short u ∙ taken_at-none history old.number key u late in
        ap (λ (a : Bool). a || (now == u && takes_if removal key)) none ∙ (elim (cases_lt now u) [
          | inr last ↦
              let here : u ≡ now = omega arith in
              let same : (now == u) ≡ true = grind (arith, nat_tests, here) in
              ap (λ (b : Bool). b && takes_if removal key) same
              ∙ (removes key short ∙ (sym (ap (λ one. takes happened old.number one key) stands.is_known) ∙ sym (taken_at-late history happened old.number key u here)))
          | inl past ↦
              let other : (now == u) ≡ false = grind (arith, nat_tests) in
              ap (λ (b : Bool). b && takes_if removal key) other ∙ sym (taken_at-none (next history happened) old.number key u past)
        ])
  ]

  -- the registers at an earlier time, and at the new one
  known-early : (t : ℕ) → t ≤ time history → regs (moment_at (next history happened) t) old.number ≡ regs (moment_at history t) old.number
  known-early t early = ap (λ m. regs m old.number) (moment_at-early history happened t early)

  known-late : (t : ℕ) → time history < t → regs (moment_at (next history happened) t) old.number ≡ Some after
  known-late t late = ap (λ m. regs m old.number) (moment_at-late history happened t late) ∙ is_known

  record IsNewStay (t : ℕ) : Type 0 where
    pub known : Regs
    pub stay : Stay
    pub known_is : regs (moment_at (next history happened) t) old.number ≡ Some known
    pub kept_is : stay_in (with_stay begins old.past) t ≡ Some stay
    pub stay_is : IsStay old.machine known stay

  late-stay : (moved : Bool) (t : ℕ) → is_moved old.machine old.regs after ≡ moved → time history < t → IsNewStay t
  late-stay true t moves late = record {
    known = after;
    stay = stay_from now old.machine after;
    known_is = known-late t late;
    kept_is = ap (λ (b : Bool). stay_in (with_stay (if b then Some (stay_from now old.machine after) else None) old.past) t) moves
        ∙ stay_in-late old.past (stay_from now old.machine after) t (omega arith);
    stay_is = record { pcid = refl; root = refl; nxe_is = refl; pge_is = refl };
  }
  late-stay false t stays late =
      let at : IsStayAt old history (time history) = stands.stays (time history) (omega arith) in
      let same : at.known ≡ old.regs =
      some-same at.known old.regs (sym at.is_known ∙ (ap (λ m. regs m old.number) (moment_at-now history) ∙ stands.is_known)) in
      record {
        known = after;
        stay = at.stay;
        known_is = known-late t late;
        kept_is = ap (λ (b : Bool). stay_in (with_stay (if b then Some (stay_from now old.machine after) else None) old.past) t) stays
            ∙ (stands.last_stays t (omega arith) ∙ at.is_kept);
        stay_is = same-stay old.machine old.regs after at.stay stays (subst (λ known. IsStay old.machine known at.stay) same at.is_stay);
      }

  new-stay : (t : ℕ) → t ≤ now → IsNewStay t
  new-stay t h = elim (cases_lt (time history) t) [
    | inr early ↦
        let at : IsStayAt old history t = stands.stays t early in
        record {
          known = at.known;
          stay = at.stay;
          known_is = known-early t early ∙ at.is_known;
          kept_is = stay_in-early (is_moved old.machine old.regs after) (stay_from now old.machine after) old.past t (omega arith) ∙ at.is_kept;
          stay_is = at.is_stay;
        }
    | inl late ↦ late-stay (is_moved old.machine old.regs after) t refl late
  ]

  last-stays : (moved : Bool) (t : ℕ) → now ≤ t
      → stay_in (with_stay (if moved then Some (stay_from now old.machine after) else None) old.past) t
      ≡ stay_in (with_stay (if moved then Some (stay_from now old.machine after) else None) old.past) now
  last-stays true t h =
      stay_in-late old.past (stay_from now old.machine after) t h ∙ sym (stay_in-late old.past (stay_from now old.machine after) now (omega arith))
  last-stays false t h = stands.last_stays t (omega arith) ∙ sym (stands.last_stays now (omega arith))

  -- the last root of a PCID after the event
  abbrev under : ℕ → Option ℕ
  under c = if pcid_of after == c then Some (root_of after old.machine) else last_root history old.number c

  root-after : (c : ℕ) → last_root (next history happened) old.number c ≡ under c
  root-after c =
      ap (λ one. last_root_under (machine history) one c (last_root history old.number c)) is_known
      ∙ ap (λ m. if pcid_of after == c then Some (root_of after m) else last_root history old.number c) stands.machine_is

  homes-are : (moved : Bool) (c : ℕ) → is_moved old.machine old.regs after ≡ moved
      → root_in (with_home_of (if moved then Some (stay_from now old.machine after) else None) old.homes) c ≡ under c
  homes-are true c moves =
      root_in-with (pcid_of after) (root_of after old.machine) old.homes c
      ∙ ap (λ root. if pcid_of after == c then Some (root_of after old.machine) else root) (stands.homes_are c)
  homes-are false c stays = stands.homes_are c ∙ by_test (pcid_of after == c) refl
    where
      same : IsStay old.machine after (stay_from now old.machine old.regs)
      same = same-stay old.machine old.regs after (stay_from now old.machine old.regs) stays (record { pcid = refl; root = refl; nxe_is = refl; pge_is = refl })

      by_test : (here : Bool) → (pcid_of after == c) ≡ here
          → last_root history old.number c ≡ (if here then Some (root_of after old.machine) else last_root history old.number c)
      by_test true test =
          let is : pcid_of old.regs ≡ c = same.pcid ∙ grind (arith, nat_tests, test) in
          ap (λ one. last_root history old.number one) (sym is)
          ∙ (last_root-known history old.number old.regs stands.is_known
          ∙ (ap (λ m. Some (root_of old.regs m)) stands.machine_is ∙ ap Some same.root))
      by_test false test = refl

  pcids-are : (moved : Bool) → is_moved old.machine old.regs after ≡ moved
      → map (λ (one : ℕ × ℕ). one.0) (with_home_of (if moved then Some (stay_from now old.machine after) else None) old.homes)
      ≡ with_number (pcid_of after) (visited_pcids history old.number)
  pcids-are true moves =
      with_number-pcids (pcid_of after) (root_of after old.machine) old.homes ∙ ap (with_number (pcid_of after)) stands.pcids_are
  pcids-are false stays =
      let same = same-stay old.machine old.regs after (stay_from now old.machine old.regs) stays (record { pcid = refl; root = refl; nxe_is = refl; pge_is = refl }) in
      stands.pcids_are
      ∙ (sym (visited-known history old.number old.regs stands.is_known)
      ∙ ap (λ c. with_number c (visited_pcids history old.number)) same.pcid)

  pge-is : (lost : Bool) (t : ℕ) (known : Regs) → loses_all happened old.number old.regs ≡ lost → (if lost then now else old.horizon) ≤ t → t ≤ now
      → regs (moment_at (next history happened) t) old.number ≡ Some known → pge known ≡ pge after
  pge-is lost t known loses since h at = elim (cases_lt (time history) t) [
    | inl late ↦ ap pge (some-same known after (sym at ∙ known-late t late))
    | inr early ↦ by_loss lost loses since early
  ]
    where
      by_loss : (lost : Bool) → loses_all happened old.number old.regs ≡ lost → (if lost then now else old.horizon) ≤ t → t ≤ time history → pge known ≡ pge after
      by_loss true loses since early = absurd (omega arith)
      by_loss false loses since early =
          stands.pge_is t known since early (sym (known-early t early) ∙ at)
          ∙ sym (pge-after happened old.number (processors history) old.regs after stands.is_known is_known loses)

  la57-is : la57 after ≡ la57 old.regs → (t : ℕ) (known : Regs) → t ≤ now → regs (moment_at (next history happened) t) old.number ≡ Some known → la57 known ≡ la57 after
  la57-is same t known h at = elim (cases_lt (time history) t) [
    | inl late ↦ ap la57 (some-same known after (sym at ∙ known-late t late))
    | inr early ↦ stands.la57_is t known early (sym (known-early t early) ∙ at) ∙ sym same
  ]

  pub after-stands : la57 after ≡ la57 old.regs → IsHostOf (host_after old now happened removal after) (next history happened)
  after-stands same = record {
    is_known = is_known;
    machine_is = stands.machine_is;
    horizon_is = ap (λ one. if takes_all happened old.number one then now else horizon history old.number) stands.is_known
        ∙ ap (λ h. if loses_all happened old.number old.regs then now else h) stands.horizon_is;
    ordered = ordered-after old now happened removal after stands.ordered stands.before;
    before = before-after old now happened removal after stands.before;
    removals_are = removals-are;
    stays = λ t h. let at : IsNewStay t = new-stay t h in record {
      known = at.known;
      stay = at.stay;
      is_known = at.known_is;
      is_kept = at.kept_is;
      is_stay = at.stay_is;
    };
    last_stays = last-stays (is_moved old.machine old.regs after);
    homes_are = λ c. homes-are (is_moved old.machine old.regs after) c refl ∙ sym (root-after c);
    pcids_are = pcids-are (is_moved old.machine old.regs after) refl
        ∙ sym (ap (λ one. with_pcid (option_map pcid_of one) (visited_pcids history old.number)) is_known);
    pge_is = λ t known since h at. pge-is (loses_all happened old.number old.regs) t known refl since h at;
    la57_is = la57-is same;
  }

pub noted-stands : (old new : Keeping) (history : History) (happened : Event) (after : Regs) → IsHostOf old history → IsNoted old (time history + 1) happened after new
    → regs (next history happened) old.number ≡ Some after → la57 after ≡ la57 old.regs → IsHostOf new (next history happened)
noted-stands old new history happened after stands noted is_known same =
    subst (λ host. IsHostOf host (next history happened)) (sym noted.is)
    (after-stands old history happened noted.removal after stands noted.removes is_known same)
