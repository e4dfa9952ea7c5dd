-- All entries that a processor may hold for an address are in a list: it has what is made of the present tables, what is
-- made below each of its entries, and what was held before and isn't removed.
use Rattle.std.proofs.Common.{◌≡◌, ℕ, zero, suc, false, inl, inr, List, [], ◌∷◌, Option, Some, None, sym, subst, ◌∙◌}
use Rattle.std.proofs.lemmas.Option.{same_Some}
use Rattle.paging_model.specs.Counting.{IsIn}
use Rattle.paging_model.specs.Entries.{root_bits}
use Rattle.paging_model.specs.Registers.{pcid_of, root_of, settings_of}
use Rattle.paging_model.specs.Walking.{top_level}
use Rattle.paging_model.specs.declared.registers.Regs.{Regs}
use Rattle.history_model.specs.History.{Start, History, begun, next, memory, machine, regs}
use Rattle.history_model.specs.Invalidations.{kills}
use Rattle.history_model.specs.CachedTranslations.{Held, MayHold, kept, at_root, below, fill_of, cache_key}
use Rattle.history_model.specs.declared.events.Event.{Event}

-- the reference of a table with all rights
abbrev pub table_at : ℕ → Held
table_at frame = record { leaf = false; frame = frame; bits = root_bits; key = 0; global = false }

-- an entry of a level, if there is one, is in the list
abbrev pub IsAmong : List (ℕ × Held) → ℕ → Option Held → Type 0
IsAmong list level None = Unit {0}
IsAmong list level (Some held) = IsIn (level, held) list

is_in : (list : List (ℕ × Held)) (level : ℕ) (o : Option Held) (held : Held) → o ≡ Some held → IsAmong list level o → IsIn (level, held) list
is_in list level o held e among = subst (λ o. IsAmong list level o) e among

module _ (p c x : ℕ) where
  -- what is made below an entry of a level is in the list
  abbrev pub HasBelow : History → Regs → List (ℕ × Held) → ℕ → Held → Type 0
  HasBelow history known list zero above = Unit {0}
  HasBelow history known list (suc level) above =
      above.leaf ≡ false → IsAmong list level (fill_of (memory history) (machine history) known level x above.frame above.bits)

  abbrev pub HasAllBelow : History → Regs → List (ℕ × Held) → List (ℕ × Held) → Type 0
  HasAllBelow history known list [] = Unit {0}
  HasAllBelow history known list (one ∷ rest) = HasBelow history known list one.0 one.1 × HasAllBelow history known list rest

  -- what is made now is in the list
  abbrev pub HasMade : History → Regs → List (ℕ × Held) → Type 0
  HasMade history known list =
      c ≡ pcid_of known
      → IsAmong list (top_level (settings_of known (machine history))) (fill_of (memory history) (machine history) known (top_level (settings_of known (machine history))) x (root_of known (machine history)) root_bits)
      × HasAllBelow history known list list

  -- what was held and isn't removed is in the list
  abbrev pub HasKept : Event → Regs → List (ℕ × Held) → List (ℕ × Held) → Type 0
  HasKept happened known list [] = Unit {0}
  HasKept happened known list (one ∷ rest) =
      (kills happened p known (cache_key c one.0 x one.1) ≡ false → IsIn one list) × HasKept happened known list rest

  below_of : (history : History) (known : Regs) (list part : List (ℕ × Held)) (level : ℕ) (above : Held)
      → HasAllBelow history known list part → IsIn (suc level, above) part → HasBelow history known list (suc level) above
  below_of history known list [] level above all e = absurd e
  below_of history known list (one ∷ rest) level above all (inl e) =
      subst (λ one. HasBelow history known list one.0 one.1) (sym e) all.0
  below_of history known list (one ∷ rest) level above all (inr e) = below_of history known list rest level above all.1 e

  kept_of : (happened : Event) (known : Regs) (list before : List (ℕ × Held)) (level : ℕ) (held : Held)
      → HasKept happened known list before → IsIn (level, held) before → kills happened p known (cache_key c level x held) ≡ false
      → IsIn (level, held) list
  kept_of happened known list [] level held all e spared = absurd e
  kept_of happened known list (one ∷ rest) level held all (inl e) spared =
      subst (λ one. kills happened p known (cache_key c one.0 x one.1) ≡ false → IsIn one list) (sym e) all.0 spared
  kept_of happened known list (one ∷ rest) level held all (inr e) spared = kept_of happened known list rest level held all.1 e spared

  at_root_of : (history : History) (known other : Regs) (list : List (ℕ × Held)) (level : ℕ) (held : Held)
      → regs history p ≡ Some known → HasMade history known list → regs history p ≡ Some other → c ≡ pcid_of other
      → level ≡ top_level (settings_of other (machine history))
      → fill_of (memory history) (machine history) other level x (root_of other (machine history)) root_bits ≡ Some held
      → IsIn (level, held) list
  at_root_of history known other list level held is_known all is_other current is_top is_made =
      let same : other ≡ known = same_Some _ _ (sym is_other ∙ is_known) in
      let current : c ≡ pcid_of known = rw (← same) current in
      let top : level ≡ top_level (settings_of known (machine history)) = rw (← same) is_top in
      let is_made : fill_of (memory history) (machine history) known (top_level (settings_of known (machine history))) x (root_of known (machine history)) root_bits ≡ Some held =
      rw (← top, ← same) is_made in
      subst (λ level. IsIn (level, held) list) (sym top) (is_in list _ _ held is_made (all current).0)

  below_in : (history : History) (known other : Regs) (list : List (ℕ × Held)) (level : ℕ) (above held : Held)
      → regs history p ≡ Some known → HasMade history known list → regs history p ≡ Some other → c ≡ pcid_of other
      → IsIn (suc level, above) list → above.leaf ≡ false
      → fill_of (memory history) (machine history) other level x above.frame above.bits ≡ Some held
      → IsIn (level, held) list
  below_in history known other list level above held is_known all is_other current above_in no_leaf is_made =
      let same : other ≡ known = same_Some _ _ (sym is_other ∙ is_known) in
      let current : c ≡ pcid_of known = rw (← same) current in
      let is_made : fill_of (memory history) (machine history) known level x above.frame above.bits ≡ Some held = rw (← same) is_made in
      is_in list level _ held is_made (below_of history known list list level above (all current).1 above_in no_leaf)

  pub held_at_first : (start : Start) (known : Regs) (list : List (ℕ × Held))
      → regs (begun start) p ≡ Some known → HasMade (begun start) known list
      → (level : ℕ) (held : Held) → MayHold (begun start) p c level x held → IsIn (level, held) list
  held_at_first start known list is_known all level held (at_root {known = other} is_other current is_top is_made) =
      at_root_of (begun start) known other list level held is_known all is_other current is_top is_made
  held_at_first start known list is_known all level held (below {known = other} above is_other current above_held no_leaf is_made) =
      below_in (begun start) known other list level above held is_known all is_other current (held_at_first start known list is_known all (suc level) above above_held) no_leaf is_made

  pub held_at_next : (before : History) (happened : Event) (earlier known : Regs) (old_list list : List (ℕ × Held))
      → regs before p ≡ Some earlier
      → ((level : ℕ) (held : Held) → MayHold before p c level x held → IsIn (level, held) old_list)
      → HasKept happened earlier list old_list
      → regs (next before happened) p ≡ Some known → HasMade (next before happened) known list
      → (level : ℕ) (held : Held) → MayHold (next before happened) p c level x held → IsIn (level, held) list
  held_at_next before happened earlier known old_list list was earlier_in spared is_known all level held (kept happened1 {known = other} held_before is_other survives) =
      let same : other ≡ earlier = same_Some _ _ (sym is_other ∙ was) in
      kept_of happened earlier list old_list level held spared (earlier_in level held held_before) (rw (← same) survives)
  held_at_next before happened earlier known old_list list was earlier_in spared is_known all level held (at_root {known = other} is_other current is_top is_made) =
      at_root_of (next before happened) known other list level held is_known all is_other current is_top is_made
  held_at_next before happened earlier known old_list list was earlier_in spared is_known all level held (below {known = other} above is_other current above_held no_leaf is_made) =
      below_in (next before happened) known other list level above held is_known all is_other current (held_at_next before happened earlier known old_list list was earlier_in spared is_known all (suc level) above above_held) no_leaf is_made
