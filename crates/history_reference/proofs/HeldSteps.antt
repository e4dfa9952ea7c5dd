-- What may be held was kept or is made now, and is listed from the highest level down.
use Rattle.std.proofs.Common.{◌≡◌, ℕ, suc, ◌-◌, ◌<◌, ◌≤◌, ◌&&◌, ◌⊎◌, ◌↔◌, inl, inr, Bool, true, false, Option, Some, None, List, [], refl, sym, ap, ◌∙◌, subst, arith}
use Rattle.std.specs.Prelude.{◌==◌, not, option_map, if◌then◌else◌}
use Rattle.std.specs.List.{filter}
use Rattle.std.proofs.lemmas.Bool.{cases_lt}
use Rattle.std.proofs.lemmas.Bool.Decides.{nat_tests}
use Rattle.paging_model.specs.Counting.{IsIn}
use Rattle.paging_model.specs.Entries.{root_bits}
use Rattle.paging_model.specs.Registers.{pcid_of, root_of, settings_of}
use Rattle.paging_model.specs.Walking.{top_level}
use Rattle.paging_model.specs.declared.registers.Regs.{Regs}
use Rattle.history_model.specs.History.{Start, History, begun, next, machine, memory, regs}
use Rattle.history_model.specs.Invalidations.{kills}
use Rattle.history_model.specs.CachedTranslations.{Held, MayHold, kept, at_root, below, cache_key, fill_of}
use Rattle.history_model.specs.declared.events.Event.{Event}
use Rattle.history_laws.specs.Making.{IsMade}
use Rattle.history_laws.proofs.LevelLaws.{held_has_level}
use Rattle.history_laws.proofs.MakingLaws.{held_when_made}
use Rattle.history_reference.specs.CacheEntries.{HeldEntry, entry_of_level}
use Rattle.history_reference.specs.HeldLists.{AreHeld, AreStillHeld, IsMadeOver, IsStillHeld, made_below}
use Rattle.paging_reference.proofs.Membership.{IsIn-filter, IsIn-filter_only, IsIn-filter_map, IsIn-filter_map_only}

pub kept_or_made : {history : History} {p c level x : ℕ} {held : Held} → MayHold history p c level x held
    → IsStillHeld history p c level x held ⊎ IsMade history p c level x held
kept_or_made (kept happened {known = known} earlier is_known spares) = inl (known, is_known, earlier, spares)
kept_or_made (at_root {known = known} is_known current top is_made) =
    inr (inl (record { known = known; is_known = is_known; current = current; top = top; is_made = is_made }))
kept_or_made (below {known = known} above is_known current above_held references is_made) =
    inr (inr (record { known = known; is_known = is_known; current = current; above = above; above_held = above_held; references = references; is_made = is_made }))

pub held_when_kept : (history : History) (p c level x : ℕ) (held : Held) → IsStillHeld history p c level x held → MayHold history p c level x held
held_when_kept (begun start) p c level x held was = elim was [ ]
held_when_kept (next before happened) p c level x held was = kept happened was.2 was.1 was.3

either_held : (history : History) (p c level x : ℕ) (held : Held) → IsStillHeld history p c level x held ⊎ IsMade history p c level x held
    → MayHold history p c level x held
either_held history p c level x held (inl was) = held_when_kept history p c level x held was
either_held history p c level x held (inr made) = held_when_made made

same_some : {A : Type 0} (one other : A) → Some one ≡ Some other → one ≡ other
same_some one other same = cc

-- what is made as an entry of a level
of_level : (n k : ℕ) (held : Held) (fill : Option Held) → option_map (entry_of_level n) fill ≡ Some (entry_of_level k held) → (k ≡ n) × (fill ≡ Some held)
of_level n k held None same = absurd (cc)
of_level n k held (Some one) same =
    let entries : entry_of_level n one ≡ entry_of_level k held = same_some (entry_of_level n one) (entry_of_level k held) same in
    (sym (ap (λ (entry : HeldEntry). entry.level) entries), ap (λ (entry : HeldEntry). Some entry.held) entries)

at_level : (test : Bool) (n k : ℕ) (held : Held) (fill : Option Held) → (if test then option_map (entry_of_level n) fill else None) ≡ Some (entry_of_level k held)
    → (test ≡ true) × (k ≡ n) × (fill ≡ Some held)
at_level true n k held fill same = let is = of_level n k held fill same in (refl, is.0, is.1)
at_level false n k held fill same = absurd (cc)

equal_numbers : (m n : ℕ) → (m == n) ≡ true → m ≡ n
equal_numbers m n h = grind (arith, nat_tests)

test_of_equal : (m n : ℕ) → m ≡ n → (m == n) ≡ true
test_of_equal m n h = grind (arith, nat_tests)

of_table_above : (m n : ℕ) (leaf : Bool) → (m == n && not leaf) ≡ true → (m ≡ n) × (leaf ≡ false)
of_table_above m n true h = absurd (let two : (m == n && false) ≡ false = never (m == n) in cc)
  where
    never : (b : Bool) → (b && false) ≡ false
    never true = refl
    never false = refl
of_table_above m n false h = (equal_numbers m n (only (m == n) h), refl)
  where
    only : (b : Bool) → (b && true) ≡ true → b ≡ true
    only true e = refl
    only false e = e

test_of_table : (m n : ℕ) (leaf : Bool) → m ≡ n → leaf ≡ false → (m == n && not leaf) ≡ true
test_of_table m n leaf same is = rw (test_of_equal m n same, is) refl

-- the list has what was kept, and what is made of the levels above one
abbrev pub AreMadeAbove : History → ℕ → ℕ → ℕ → ℕ → List HeldEntry → Type 0
AreMadeAbove history p c x n list =
    (level : ℕ) (held : Held) →
    IsIn (entry_of_level level held) list ↔ (IsStillHeld history p c level x held ⊎ ((n < level) × IsMade history p c level x held))

module _ (history : History) (p c x : ℕ) where
  -- no level is above 5
  pub made_above-start : (list : List HeldEntry) → AreStillHeld history p c x list → AreMadeAbove history p c x 5 list
  made_above-start list kept_before level held = (
    λ is_in. inl ((kept_before level held).0 is_in),
    elim [ inl was ↦ (kept_before level held).1 was | inr over ↦ absurd (too_high over.0 over.1) ],
  )
    where
      too_high : 5 < level → IsMade history p c level x held → ⊥
      too_high above made = let most = (held_has_level (held_when_made made)).most in omega arith

  -- no level is below 1
  pub made_above-end : (list : List HeldEntry) → AreMadeAbove history p c x 0 list → AreHeld history p c x list
  made_above-end list all level held = (
    λ is_in. elim ((all level held).0 is_in) [
      | inl was ↦ held_when_kept history p c level x held was
      | inr over ↦ held_when_made over.1
    ],
    λ may_hold. (all level held).1 (elim (kept_or_made may_hold) [
      | inl was ↦ inl was
      | inr made ↦ inr (let least = (held_has_level (held_when_made made)).least in omega arith, made)
    ]),
  )

  -- nothing is made in a PCID that isn't current
  pub none_made : (list : List HeldEntry) → ((level : ℕ) (held : Held) → IsMade history p c level x held → ⊥)
      → AreStillHeld history p c x list → AreHeld history p c x list
  none_made list none kept_before level held = (
    λ is_in. held_when_kept history p c level x held ((kept_before level held).0 is_in),
    λ may_hold. elim (kept_or_made may_hold) [ inl was ↦ (kept_before level held).1 was | inr made ↦ absurd (none level held made) ],
  )

  module _ (known : Regs) (is_known : regs history p ≡ Some known) (current : c ≡ pcid_of known)
      (n : ℕ) (list : List HeldEntry) (all : AreMadeAbove history p c x n list) where
    -- what the list has of the level above is what may be held of it
    listed_above : (above : HeldEntry) → IsIn above list → MayHold history p c above.level x above.held
    listed_above above is_in =
        elim ((all above.level above.held).0 is_in) [
          | inl was ↦ held_when_kept history p c above.level x above.held was
          | inr over ↦ held_when_made over.1
        ]

    is_listed : (above : Held) → MayHold history p c (suc n) x above → IsIn (entry_of_level (suc n) above) list
    is_listed above may_hold =
        (all (suc n) above).1 (elim (kept_or_made may_hold) [ inl was ↦ inl was | inr made ↦ inr (omega arith, made) ])

    made_over : (k : ℕ) (held : Held) → IsMadeOver history known n x list (entry_of_level k held) → (k ≡ n) × IsMade history p c n x held
    made_over k held (inl made) =
        let is = at_level (n == top_level (settings_of known (machine history))) n k held
        (fill_of (memory history) (machine history) known n x (root_of known (machine history)) root_bits) made in (
          is.1,
          inl (record {
            known = known;
            is_known = is_known;
            current = current;
            top = equal_numbers n (top_level (settings_of known (machine history))) is.0;
            is_made = is.2;
          }),
        )
    made_over k held (inr made) =
        let from = IsIn-filter_map_only (made_below history known n x) (entry_of_level k held) list made in
        let above : HeldEntry = from.0 in
        let is = at_level (above.level == suc n && not above.held.leaf) n k held
        (fill_of (memory history) (machine history) known n x above.held.frame above.held.bits) from.2 in
        let table = of_table_above above.level (suc n) above.held.leaf is.0 in (
          is.1,
          inr (record {
            known = known;
            is_known = is_known;
            current = current;
            above = above.held;
            above_held = subst (λ level. MayHold history p c level x above.held) table.0 (listed_above above from.1);
            references = table.1;
            is_made = is.2;
          }),
        )

    over_made : (held : Held) → IsMade history p c n x held → IsMadeOver history known n x list (entry_of_level n held)
    over_made held (inl made) =
        let same : made.known ≡ known = same_some made.known known (sym made.is_known ∙ is_known) in
        let top : n ≡ top_level (settings_of known (machine history)) =
        subst (λ one. n ≡ top_level (settings_of one (machine history))) same made.top in
        let fill : fill_of (memory history) (machine history) known n x (root_of known (machine history)) root_bits ≡ Some held =
        subst (λ one. fill_of (memory history) (machine history) one n x (root_of one (machine history)) root_bits ≡ Some held) same made.is_made in
        inl (rw (test_of_equal n (top_level (settings_of known (machine history))) top, fill) refl)
    over_made held (inr made) =
        let same : made.known ≡ known = same_some made.known known (sym made.is_known ∙ is_known) in
        let fill : fill_of (memory history) (machine history) known n x made.above.frame made.above.bits ≡ Some held =
        subst (λ one. fill_of (memory history) (machine history) one n x made.above.frame made.above.bits ≡ Some held) same made.is_made in
        let one : made_below history known n x (entry_of_level (suc n) made.above) ≡ Some (entry_of_level n held) =
        rw (test_of_table (suc n) (suc n) made.above.leaf refl made.references, fill) refl in
        inr (IsIn-filter_map (made_below history known n x) (entry_of_level (suc n) made.above) (entry_of_level n held) list (is_listed made.above made.above_held) one)

    -- one level more
    pub made_above-next : (list' : List HeldEntry) → 1 ≤ n
        → ((entry : HeldEntry) → IsIn entry list' ↔ (IsIn entry list ⊎ IsMadeOver history known n x list entry))
        → AreMadeAbove history p c x (n - 1) list'
    made_above-next list' some now level held = (
      λ is_in. elim ((now (entry_of_level level held)).0 is_in) [
        | inl before ↦ elim ((all level held).0 before) [ inl was ↦ inl was | inr over ↦ inr (let above = over.0 in omega arith, over.1) ]
        | inr made ↦ let is = made_over level held made in inr (let same = is.0 in omega arith, subst (λ k. IsMade history p c k x held) (sym is.0) is.1)
      ],
      elim [
        | inl was ↦ (now (entry_of_level level held)).1 (inl ((all level held).1 (inl was)))
        | inr over ↦ (now (entry_of_level level held)).1 (by_level (cases level over.0) over.1)
      ],
    )
      where
        cases : (k : ℕ) → n - 1 < k → (k ≡ n) ⊎ (n < k)
        cases k above = elim (cases_lt n k) [ inl over ↦ inr over | inr up_to ↦ inl (omega arith) ]

        by_level : (level ≡ n) ⊎ (n < level) → IsMade history p c level x held → IsIn (entry_of_level level held) list ⊎ IsMadeOver history known n x list (entry_of_level level held)
        by_level (inl same) made = inr (subst (λ k. IsMadeOver history known n x list (entry_of_level k held)) (sym same) (over_made held (subst (λ k. IsMade history p c k x held) same made)))
        by_level (inr above) made = inl ((all level held).1 (inr (above, made)))

-- the registers aren't known, or are in another PCID: nothing is made
pub none_made_unknown : (history : History) (p c level x : ℕ) (held : Held) → regs history p ≡ None → IsMade history p c level x held → ⊥
none_made_unknown history p c level x held unknown (inl made) = nothing (sym unknown ∙ made.is_known)
  where
    nothing : {known : Regs} → None ≡ Some known → ⊥
    nothing same = cc
none_made_unknown history p c level x held unknown (inr made) = nothing (sym unknown ∙ made.is_known)
  where
    nothing : {known : Regs} → None ≡ Some known → ⊥
    nothing same = cc

pub none_made_elsewhere : (history : History) (p c level x : ℕ) (held : Held) (known : Regs) → regs history p ≡ Some known
    → (pcid_of known ≡ c → ⊥) → IsMade history p c level x held → ⊥
none_made_elsewhere history p c level x held known is_known other (inl made) =
    other (ap pcid_of (same_some known made.known (sym is_known ∙ made.is_known)) ∙ sym made.current)
none_made_elsewhere history p c level x held known is_known other (inr made) =
    other (ap pcid_of (same_some known made.known (sym is_known ∙ made.is_known)) ∙ sym made.current)

-- nothing is kept at the first moment, nor of a processor that wasn't known
pub none_kept_first : (start : Start) (p c x : ℕ) → AreStillHeld (begun start) p c x []
none_kept_first start p c x level held = (λ is_in. elim is_in [ ], λ was. elim was [ ])

pub none_kept_unknown : (before : History) (happened : Event) (p c x : ℕ) → regs before p ≡ None → AreStillHeld (next before happened) p c x []
none_kept_unknown before happened p c x unknown level held = (λ is_in. elim is_in [ ], λ was. absurd (nothing (sym unknown ∙ was.1)))
  where
    nothing : {known : Regs} → None ≡ Some known → ⊥
    nothing same = cc

not_true : (b : Bool) → not b ≡ true → b ≡ false
not_true true h = absurd (cc)
not_true false h = refl

-- what an event spares of what was held
pub kept_after : (before : History) (happened : Event) (p c x : ℕ) (known : Regs) (earlier list : List HeldEntry) → regs before p ≡ Some known
    → AreHeld before p c x earlier
    → list ≡ filter (λ (entry : HeldEntry). not (kills happened p known (cache_key c entry.level x entry.held))) earlier
    → AreStillHeld (next before happened) p c x list
kept_after before happened p c x known earlier list is_known held_before is_filtered level held = (
  λ is_in. let both = IsIn-filter_only test (entry_of_level level held) earlier (subst (λ (all : List HeldEntry). IsIn (entry_of_level level held) all) is_filtered is_in) in
      (known, is_known, (held_before level held).0 both.0, not_true (kills happened p known (cache_key c level x held)) both.1),
  λ was. let same : was.0 ≡ known = same_some was.0 known (sym was.1 ∙ is_known) in
      let spared : kills happened p known (cache_key c level x held) ≡ false =
      subst (λ one. kills happened p one (cache_key c level x held) ≡ false) same was.3 in
      subst (λ (all : List HeldEntry). IsIn (entry_of_level level held) all) (sym is_filtered)
      (IsIn-filter test (entry_of_level level held) earlier ((held_before level held).1 was.2) (ap not spared)),
)
  where
    test : HeldEntry → Bool
    test entry = not (kills happened p known (cache_key c entry.level x entry.held))
