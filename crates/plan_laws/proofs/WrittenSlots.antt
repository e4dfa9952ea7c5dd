-- Which places a write to slots of a frame meets, and in which ranges the entries of a walk lie.
use Rattle.std.proofs.Common.{◌≡◌, ℕ, zero, suc, ◌+◌, ◌-◌, ◌*◌, ◌/◌, ◌%◌, ◌<◌, ◌≤◌, Bool, true, false, refl, sym, ap, ◌∙◌, subst, arith}
use Rattle.std.proofs.lemmas.Bool.Decides.{nat_tests}
use Rattle.std.proofs.lemmas.Nat.{div-add-mod', div-mul-add}
use Rattle.paging_model.specs.Memory.{Memory}
use Rattle.paging_model.specs.LinearAddress.{span, index}
use Rattle.paging_model.specs.declared.registers.Settings.{Settings}
use Rattle.paging_model.specs.declared.entries.Bits.{Bits}
use Rattle.paging_laws.specs.SpaceParts.{slot_prefix}
use Rattle.paging_laws.specs.ReachedSlots.{AreReached}
use Rattle.paging_laws.proofs.Reaching.{same_span_above, Reaches-same_span}
use Rattle.paging_laws.proofs.SlotRanges.{span_suc, slot_of, slot_ends, slot_starts, number_for}
use Rattle.kept_laws.specs.WrittenPlaces.{meets, meets_slots, ReadsNoneAbove}

met-before : (at n place : ℕ) → meets at n place ≡ true → place < at + n
met-before at n place is = grind (arith, nat_tests)

met-behind : (at n place : ℕ) → meets at n place ≡ true → at < place + 8
met-behind at n place is = grind (arith, nat_tests)

is-met : (at n place : ℕ) → place < at + n → at < place + 8 → meets at n place ≡ true
is-met at n place before behind = grind (arith, nat_tests)

-- an entry that is met is among the slots of the frame
pub met-slot : (frame first last table i : ℕ) → frame % 4096 ≡ 0 → table % 4096 ≡ 0 → i < 512 → first ≤ last → last < 512
    → meets_slots frame first last (table + 8 * i) ≡ true → (table ≡ frame) × (first ≤ i) × (i ≤ last)
met-slot frame first last table i whole whole' within order short is =
    let before = met-before (frame + 8 * first) (8 * (last + 1 - first)) (table + 8 * i) is in
    let behind = met-behind (frame + 8 * first) (8 * (last + 1 - first)) (table + 8 * i) is in
    let same : table ≡ frame = omega arith in
    (same, omega arith, omega arith)

pub slot-met : (frame first last i : ℕ) → first ≤ last → first ≤ i → i ≤ last → meets_slots frame first last (frame + 8 * i) ≡ true
slot-met frame first last i order from to =
    is-met (frame + 8 * first) (8 * (last + 1 - first)) (frame + 8 * i) (omega arith) (omega arith)

pub never-both : (test : Bool) → test ≡ true → test ≡ false → ⊥
never-both true is is_not = cc
never-both false is is_not = cc

pub false-unless : (test : Bool) → (test ≡ true → ⊥) → test ≡ false
false-unless true never = absurd (never refl)
false-unless false never = refl

-- addresses of one range have one range at each level above
same-above : (more level x y : ℕ) → 0 < level → x / span level ≡ y / span level → x / span (level + more) ≡ y / span (level + more)
same-above zero level x y some same = let is : level + 0 ≡ level = omega arith in rw is same
same-above (suc more) level x y some same =
    let is : level + suc more ≡ level + more + 1 = omega arith in
    rw is (same_span_above (level + more) x y (omega arith) (same-above more level x y some same))

same-from : (level l x y : ℕ) → 0 < level → level ≤ l → x / span level ≡ y / span level → x / span l ≡ y / span l
same-from level l x y some least same =
    let is : level + (l - level) ≡ l = omega arith in
    subst (λ (n : ℕ). x / span n ≡ y / span n) is (same-above (l - level) level x y some same)

-- what is read above a table is read alike in its whole range
pub none-moved : (memory : Memory) (written : ℕ → Bool) (settings : Settings) (root level x y : ℕ) → x / span (level + 1) ≡ y / span (level + 1)
    → ReadsNoneAbove memory written settings root x level → ReadsNoneAbove memory written settings root y level
none-moved memory written settings root level x y same none l table above more reached =
    let here : x / span l ≡ y / span l = same-from (level + 1) l x y (omega arith) (omega arith) same in
    let above_it : y / span (l + 1) ≡ x / span (l + 1) = sym (same-from (level + 1) (l + 1) x y (omega arith) (omega arith) same) in
    let read = none l table above more (Reaches-same_span reached above_it) in
    subst (λ (n : ℕ). written (table + 8 * n) ≡ false) (ap (λ (n : ℕ). n % 512) here) read

pub same-range : (w first x : ℕ) → first % w ≡ 0 → first ≤ x → x < first + w → x / w ≡ first / w
same-range w first x whole low high =
    let is : first ≡ first / w * w = omega (arith, div-add-mod' first w) in
    let e : x ≡ first / w * w + (x - first) = omega arith in
    ap (λ (n : ℕ). n / w) e ∙ div-mul-add (first / w) w (x - first) (omega arith)

pub range-has : (w first x : ℕ) → 0 < w → first % w ≡ 0 → x / w ≡ first / w → (first ≤ x) × (x < first + w)
range-has w first x some whole same =
    let is : first ≡ first / w * w = omega (arith, div-add-mod' first w) in
    let e : x / w * w ≡ first / w * w = ap (λ (n : ℕ). n * w) same in
    let parts = div-add-mod' x w in
    let small : x % w < w = omega arith in
    (omega arith, omega arith)

-- a table serves the range of one entry of the level above
pub longer : (level : ℕ) → 1 ≤ level → span (level + 1) ≡ 512 * span level
longer level some = let next : suc level ≡ level + 1 = omega arith in subst (λ (n : ℕ). span n ≡ 512 * span level) next (span_suc level some)

-- an address lies in the range of the entries among which is the one that serves it
pub in-part : (level prefix begin count from many x : ℕ) → prefix % (512 * span level) ≡ 0 → begin + count ≤ 512
    → slot_prefix level prefix begin ≤ x → x < slot_prefix level prefix (begin + count)
    → from ≤ index level x → index level x < from + many
    → (slot_prefix level prefix from ≤ x) × (x < slot_prefix level prefix (from + many))
in-part level prefix begin count from many x whole slots low high least less =
    let slot = number_for level prefix begin count x low high in
    let number : index level x ≡ slot.number =
    slot_of (span level) prefix slot.number x whole (omega (arith, slot.less)) slot.low slot.high in
    let starts = slot_starts (span level) prefix from slot.number (omega arith) in
    let ends = slot_ends (span level) prefix slot.number (from + many) (omega arith) in
    (omega (arith, slot.low), omega (arith, slot.high))

-- some of reached entries are reached
pub narrow : (memory : Memory) (settings : Settings) (root level table prefix : ℕ) (above : Bits) (from count begin many : ℕ)
    → AreReached memory settings root level table prefix above from count → from ≤ begin → begin + many ≤ from + count
    → AreReached memory settings root level table prefix above begin many
narrow memory settings root level table prefix above from count begin many all least most =
    let starts = slot_starts (span level) prefix from begin least in
    let ends = slot_starts (span level) prefix (begin + many) (from + count) most in
    record {
      whole = all.whole;
      slots = omega (arith, all.slots);
      ends = all.ends;
      canonical = λ x low high. all.canonical x (omega arith) (omega arith);
      reached = λ x low high. all.reached x (omega arith) (omega arith);
    }
