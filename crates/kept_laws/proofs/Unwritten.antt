-- What two memories that differ in written places share.
use Rattle.std.proofs.Common.{◌≡◌, ℕ, zero, suc, ◌+◌, ◌*◌, ◌<◌, ◌≤◌, ◌⊎◌, inl, inr, Bool, true, false, Option, Some, None, refl, sym, ap, ◌∙◌, subst, arith}
use Rattle.std.specs.Prelude.{option_map, option_and_then}
use Rattle.std.proofs.lemmas.Bool.{cases_lt}
use Rattle.std.proofs.lemmas.Bool.Decides.{nat_tests}
use Rattle.paging_model.specs.Memory.{Memory, number_at, entry_at}
use Rattle.paging_model.specs.Entries.{entry_of, joined_bits, root_bits}
use Rattle.paging_model.specs.TableUses.{Reaches, at_root, below, IsUse}
use Rattle.paging_model.specs.Translations.{raw_target}
use Rattle.paging_model.specs.Walking.{entry_address, entry_read, top_level, walk}
use Rattle.paging_model.specs.declared.registers.Settings.{Settings}
use Rattle.paging_model.specs.declared.entries.Bits.{Bits}
use Rattle.paging_model.specs.declared.entries.Entry.{Entry}
use Rattle.paging_model.specs.declared.entries.Entry.TheVariants as entry
use Rattle.paging_model.specs.declared.spaces.TableUse.{TableUse}
use Rattle.paging_laws.proofs.Reaching.{Reaches-level, Reaches-one}
use Rattle.paging_laws.proofs.Readings.{walk-alike, raw_target-alike}
use Rattle.paging_laws.proofs.Serving.{Reaches-some}
use Rattle.kept_laws.specs.WrittenPlaces.{meets, AreAlikeBut, IsWrittenTo, ReadsNone, ReadsNoneAbove, IsOutermost, ReadsOne}

-- a number of bytes that a write doesn't meet
number-same : (old new : Memory) (n a : ℕ) → ((x : ℕ) → a ≤ x → x < a + n → old x ≡ new x) → number_at old n a ≡ number_at new n a
number-same old new zero a same = refl
number-same old new (suc n) a same =
    ap (λ (byte : Option ℕ). option_and_then (λ low. option_map (λ high. low + 256 * high) (number_at old n (a + 1))) byte) (same a (omega arith) (omega arith))
    ∙ ap (λ (rest : Option ℕ). option_and_then (λ low. option_map (λ high. low + 256 * high) rest) (new a))
    (number-same old new n (a + 1) (λ x from to. same x (omega arith) (omega arith)))

unmet : (at n place : ℕ) → meets at n place ≡ false → ((place + 8 ≤ at) ⊎ (at + n ≤ place))
unmet at n place is = elim (cases_lt place (at + n)) [
  | inl less ↦ elim (cases_lt at (place + 8)) [
    | inl more ↦ absurd (grind (arith, nat_tests))
    | inr before ↦ inl (omega arith)
  ]
  | inr behind ↦ inr (omega arith)
]

-- a write changes no entry that it doesn't meet
pub alike-but : (at n : ℕ) (old new : Memory) → IsWrittenTo at n old new → AreAlikeBut (meets at n) old new
unfolding entry_at
alike-but at n old new same place not_met = elim (unmet at n place not_met) [
  | inl before ↦ number-same old new 8 place (λ x from to. same x (inl (omega arith)))
  | inr behind ↦ number-same old new 8 place (λ x from to. same x (inr (omega arith)))
]

pub alike-back : (written : ℕ → Bool) (one other : Memory) → AreAlikeBut written one other → AreAlikeBut written other one
alike-back written one other alike place is = sym (alike place is)

module _ (written : ℕ → Bool) (one other : Memory) (settings : Settings) (root x : ℕ) (alike : AreAlikeBut written one other) where
  -- an entry that isn't written is read alike
  read-alike : (level table : ℕ) → written (entry_address level x table) ≡ false → entry_read one settings level x table ≡ entry_read other settings level x table
  read-alike level table unwritten = ap (option_map (λ value. entry_of level settings value)) (alike (entry_address level x table) unwritten)

  -- a walk that reads no written place is the same in both
  pub walk-unwritten : ReadsNone one written settings root x → walk one settings root x ≡ walk other settings root x
  walk-unwritten none =
      walk-alike one other settings root x (λ level table above reached. alike (entry_address level x table) (none level table above reached))

  pub raw_target-unwritten : ReadsNone one written settings root x → raw_target one settings root x ≡ raw_target other settings root x
  raw_target-unwritten none =
      raw_target-alike one other settings root x (λ level table above reached. alike (entry_address level x table) (none level table above reached))

  -- as far down as no written place is read, a walk comes to the same tables in both
  pub Reaches-there : (least : ℕ) → ReadsNoneAbove one written settings root x least → {level table : ℕ} {bits : Bits}
      → Reaches one settings root level x table bits → least ≤ level → Reaches other settings root level x table bits
  Reaches-there least none at_root most = at_root
  Reaches-there least none (below {level = level} {table = table} {above = above} reached read) most =
      below (Reaches-there least none reached (omega arith))
      (sym (read-alike (suc level) table (none (suc level) table above (omega arith) reached)) ∙ read)

  pub Reaches-back : (least : ℕ) → ReadsNoneAbove one written settings root x least → {level table : ℕ} {bits : Bits}
      → Reaches other settings root level x table bits → least ≤ level → Reaches one settings root level x table bits
  Reaches-back least none at_root most = at_root
  Reaches-back least none (below {level = level} {table = table} {above = above} reached read) most =
      let here = Reaches-back least none reached (omega arith) in
      below here (read-alike (suc level) table (none (suc level) table above (omega arith) here) ∙ read)

  pub none-above-there : (least : ℕ) → ReadsNoneAbove one written settings root x least → ReadsNoneAbove other written settings root x least
  none-above-there least none level table above more reached =
      none level table above more (Reaches-back least none reached (omega arith))

  pub none-there : ReadsNone one written settings root x → ReadsNone other written settings root x
  none-there none level table above reached =
      none level table above (Reaches-back 0 (λ l t b more came. none l t b came) reached (omega arith))

  -- the first written place that is read is the same in both
  pub outermost-there : (level table : ℕ) (above : Bits) → IsOutermost one written settings root x level table above
      → IsOutermost other written settings root x level table above
  outermost-there level table above first = record {
    reached = Reaches-there level first.none_above first.reached (omega arith);
    is_written = first.is_written;
    none_above = none-above-there level first.none_above;
  }

-- a walk reads no written place, or there is a first one
module _ (written : ℕ → Bool) (memory : Memory) (settings : Settings) (root x : ℕ) where
  -- a walk goes on below a table only by the entry that it reads there
  pub goes-on : {l t : ℕ} {b : Bits} (level table : ℕ) (above : Bits) → Reaches memory settings root l x t b → Reaches memory settings root level x table above → l < level
      → (frame : ℕ) × (own : Bits) × (entry_read memory settings level x table ≡ Some (entry.Table frame own))
  goes-on level table above at_root upper less = absurd (let most = Reaches-level upper in omega arith)
  goes-on level table above (below {level = l} {table = t} {frame = frame} {above = b} {bits = own} reached read) upper less = elim (cases_lt (suc l) level) [
    | inl deeper ↦ goes-on level table above reached upper deeper
    | inr same ↦
        let is : suc l ≡ level = omega arith in
        let there : Reaches memory settings root level x t b = subst (λ (n : ℕ). Reaches memory settings root n x t b) is reached in
        let one = Reaches-one level t table b above there upper in (
          frame,
          own,
          subst (λ (n : ℕ). entry_read memory settings level x n ≡ Some (entry.Table frame own)) one.0
              (subst (λ (n : ℕ). entry_read memory settings n x t ≡ Some (entry.Table frame own)) is read),
        )
  ]

  none-here : (lower table : ℕ) (above : Bits) → Reaches memory settings root (suc lower) x table above
      → ReadsNoneAbove memory written settings root x (suc lower) → written (entry_address (suc lower) x table) ≡ false
      → ReadsNoneAbove memory written settings root x lower
  none-here lower table above reached none unwritten level t b more came = elim (cases_lt (suc lower) level) [
    | inl higher ↦ none level t b higher came
    | inr same ↦
        let is : level ≡ suc lower = omega arith in
        let there : Reaches memory settings root (suc lower) x t b = subst (λ (n : ℕ). Reaches memory settings root n x t b) is came in
        let one = Reaches-one (suc lower) t table b above there reached in
        subst (λ (n : ℕ). written (entry_address n x t) ≡ false) (sym is)
        (subst (λ (n : ℕ). written (entry_address (suc lower) x n) ≡ false) (sym one.0) unwritten)
  ]

  -- where the entry that is read last references no table, nothing is read below
  ends-here : (lower table : ℕ) (above : Bits) → Reaches memory settings root (suc lower) x table above
      → ReadsNoneAbove memory written settings root x lower
      → ((frame : ℕ) (own : Bits) → entry_read memory settings (suc lower) x table ≡ Some (entry.Table frame own) → ⊥)
      → ReadsNone memory written settings root x
  ends-here lower table above reached none never level t b came = elim (cases_lt lower level) [
    | inl more ↦ none level t b more came
    | inr less ↦ let on = goes-on (suc lower) table above came reached (omega arith) in absurd (never on.0 on.1 on.2)
  ]

  look-entry : (lower table : ℕ) (above : Bits) → Reaches memory settings root (suc lower) x table above
      → ReadsNoneAbove memory written settings root x lower
      → ((frame : ℕ) (own : Bits) → entry_read memory settings (suc lower) x table ≡ Some (entry.Table frame own) → (ReadsNone memory written settings root x ⊎ ReadsOne memory written settings root x))
      → (read : Option Entry) → entry_read memory settings (suc lower) x table ≡ read
      → (ReadsNone memory written settings root x ⊎ ReadsOne memory written settings root x)
  look-entry lower table above reached none down None is = inl (ends-here lower table above reached none (λ frame own table_is. let both : None ≡ Some (entry.Table frame own) = sym is ∙ table_is in cc))
  look-entry lower table above reached none down (Some entry.Absent) is = inl (ends-here lower table above reached none (λ frame own table_is. let both : Some entry.Absent ≡ Some (entry.Table frame own) = sym is ∙ table_is in cc))
  look-entry lower table above reached none down (Some entry.Reserved) is = inl (ends-here lower table above reached none (λ frame own table_is. let both : Some entry.Reserved ≡ Some (entry.Table frame own) = sym is ∙ table_is in cc))
  look-entry lower table above reached none down (Some (entry.Leaf page bits key global)) is = inl (ends-here lower table above reached none (λ frame own table_is. let both : Some (entry.Leaf page bits key global) ≡ Some (entry.Table frame own) = sym is ∙ table_is in cc))
  look-entry lower table above reached none down (Some (entry.Table frame own)) is = down frame own is

  look-test : (lower table : ℕ) (above : Bits) → Reaches memory settings root (suc lower) x table above → ReadsNoneAbove memory written settings root x (suc lower)
      → ((frame : ℕ) (own : Bits) → Reaches memory settings root lower x frame (joined_bits above own) → ReadsNoneAbove memory written settings root x lower
      → (ReadsNone memory written settings root x ⊎ ReadsOne memory written settings root x))
      → (test : Bool) → written (entry_address (suc lower) x table) ≡ test
      → (ReadsNone memory written settings root x ⊎ ReadsOne memory written settings root x)
  look-test lower table above reached none down true is =
      inr (record { level = suc lower; table = table; above = above; outermost = record { reached = reached; is_written = is; none_above = none } })
  look-test lower table above reached none down false is =
      let next = none-here lower table above reached none is in
      look-entry lower table above reached next (λ frame own read. down frame own (below reached read) next)
      (entry_read memory settings (suc lower) x table) refl

  look-down : (level table : ℕ) (above : Bits) → Reaches memory settings root level x table above → ReadsNoneAbove memory written settings root x level
      → (ReadsNone memory written settings root x ⊎ ReadsOne memory written settings root x)
  look-down zero table above reached none = absurd (let some = Reaches-some reached in omega arith)
  look-down (suc lower) table above reached none =
      look-test lower table above reached none (λ frame own came next. look-down lower frame (joined_bits above own) came next)
      (written (entry_address (suc lower) x table)) refl

  pub none-or-first : ReadsNone memory written settings root x ⊎ ReadsOne memory written settings root x
  none-or-first = look-down (top_level settings) root root_bits at_root (λ level t b more came. absurd (let most = Reaches-level came in omega arith))

-- a use that no written place is read above stood before, and the other way round
pub use-there : (written : ℕ → Bool) (one other : Memory) (settings : Settings) (root : ℕ) (table : TableUse) → AreAlikeBut written one other
    → IsUse one settings root table → ReadsNoneAbove one written settings root table.prefix table.level → IsUse other settings root table
use-there written one other settings root table alike is_use none = record {
  serves = is_use.serves;
  reached = Reaches-there written one other settings root table.prefix alike table.level none is_use.reached (omega arith);
}
