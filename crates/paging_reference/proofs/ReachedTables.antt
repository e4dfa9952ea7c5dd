-- The table of a level that a walk comes to, by the table above it; and uses and pages of given prefixes.
use Rattle.std.proofs.Common.{◌≡◌, ℕ, suc, ◌+◌, ◌<◌, ◌≤◌, ◌⊎◌, ◌↔◌, inl, inr, Bool, true, false, Option, Some, None, List, [], ◌∷◌, refl, sym, ap, ◌∙◌, subst, arith}
use Rattle.std.specs.Prelude.{if◌then◌else◌}
use Rattle.std.proofs.lemmas.Bool.{cases_lt}
use Rattle.paging_laws.proofs.Reaching.{begins, referenced, arrival, Reaches-level}
use Rattle.paging_model.specs.Counting.{IsIn}
use Rattle.paging_model.specs.Entries.{joined_bits, root_bits}
use Rattle.paging_model.specs.Memory.{Memory}
use Rattle.paging_model.specs.TableUses.{Reaches, at_root, below, Leaf, Serves}
use Rattle.paging_model.specs.Walking.{entry_read, top_level}
use Rattle.paging_model.specs.declared.entries.Bits.{Bits}
use Rattle.paging_model.specs.declared.entries.Entry.{Entry}
use Rattle.paging_model.specs.declared.entries.Entry.TheVariants as entry
use Rattle.paging_model.specs.declared.registers.Settings.{Settings}
use Rattle.paging_model.specs.declared.spaces.TableUse.{TableUse}
use Rattle.paging_reference.specs.TableLists.{IsLeafAmong, IsReached, IsUseAmong, IsUseAt}

abbrev pub use_of : ℕ → ℕ → ℕ → Bits → TableUse
use_of level prefix frame bits = record { level = level; prefix = prefix; frame = frame; bits = bits }

same_some : {A : Type 0} (one other : A) → Some one ≡ Some other → one ≡ other
same_some one other same = cc

nothing : {A : Type 0} {one : A} → None ≡ Some one → ⊥
nothing same = cc

same_use : (table : TableUse) (level x frame : ℕ) (bits : Bits) → table.level ≡ level → table.prefix ≡ x → table.frame ≡ frame → table.bits ≡ bits
    → table ≡ use_of level x frame bits
same_use table level x frame bits of_level of_address of_frame of_bits =
    ap (λ n. use_of n table.prefix table.frame table.bits) of_level
    ∙ (ap (λ n. use_of level n table.frame table.bits) of_address
    ∙ (ap (λ n. use_of level x n table.bits) of_frame ∙ ap (use_of level x frame) of_bits))

module _ (memory : Memory) (settings : Settings) (root level x : ℕ) where
  pub reached-above_top : (table : TableUse) → top_level settings < level → IsReached memory settings root level x table → ⊥
  reached-above_top table over is = let most = Reaches-level is.reached in absurd (omega arith)

  pub reached-top : (table : TableUse) → level ≡ top_level settings
      → (Some (use_of level x root root_bits) ≡ Some table) ↔ IsReached memory settings root level x table
  reached-top table top = (
    λ same. subst (IsReached memory settings root level x) (same_some (use_of level x root root_bits) table same) (record {
      of_level = refl;
      of_address = refl;
      reached = subst (λ n. Reaches memory settings root n x root root_bits) (sym top) at_root;
    }),
    λ is. elim (arrival is.reached) [
      | begins at_top is_root is_bits ↦ ap Some (sym (same_use table level x root root_bits is.of_level is.of_address is_root is_bits))
      | referenced upper above own reached read joins ↦ absurd (let most = Reaches-level reached in omega arith)
    ],
  )

  module _ (found : Option TableUse) (upper : (table : TableUse) → (found ≡ Some table) ↔ IsReached memory settings root (level + 1) x table)
      (under : level < top_level settings) where
    -- an entry of the table above references it
    pub record IsReferencedBy (one table : TableUse) : Type 0 where
      pub is_found : found ≡ Some one
      pub own : Bits
      pub read : entry_read memory settings (level + 1) x one.frame ≡ Some (entry.Table table.frame own)
      pub joins : table.bits ≡ joined_bits one.bits own

    by_entry : (table : TableUse) → IsReached memory settings root level x table → (one : TableUse) × IsReferencedBy one table
    by_entry table is =
        elim (arrival is.reached) [
          | begins at_top is_root is_bits ↦ absurd (omega arith)
          | referenced frame above own reached read joins ↦
              let next : suc level ≡ level + 1 = omega arith in
              let reached_above : Reaches memory settings root (level + 1) x frame above = subst (λ n. Reaches memory settings root n x frame above) next reached in (
                use_of (level + 1) x frame above,
                record {
                  is_found = (upper (use_of (level + 1) x frame above)).1 (record { of_level = refl; of_address = refl; reached = reached_above });
                  own = own;
                  read = subst (λ n. entry_read memory settings n x frame ≡ Some (entry.Table table.frame own)) next read;
                  joins = joins;
                },
              )
        ]

    -- there is no table above
    pub unreached : found ≡ None → (table : TableUse) → IsReached memory settings root level x table → ⊥
    unreached none table is = let by = by_entry table is in nothing (sym none ∙ by.1.is_found)

    module _ (one : TableUse) (is_one : found ≡ Some one) where
      -- how the entry reads by which the table is referenced
      pub reads : (table : TableUse) → IsReached memory settings root level x table
          → (own : Bits) × (entry_read memory settings (level + 1) x one.frame ≡ Some (entry.Table table.frame own)) × (table.bits ≡ joined_bits one.bits own)
      reads table is =
          let by = by_entry table is in
          let same : by.0 ≡ one = same_some by.0 one (sym by.1.is_found ∙ is_one) in (
            by.1.own,
            subst (λ (it : TableUse). entry_read memory settings (level + 1) x it.frame ≡ Some (entry.Table table.frame by.1.own)) same by.1.read,
            subst (λ (it : TableUse). table.bits ≡ joined_bits it.bits by.1.own) same by.1.joins,
          )

      -- the entry isn't known
      pub unread : entry_read memory settings (level + 1) x one.frame ≡ None → (table : TableUse) → IsReached memory settings root level x table → ⊥
      unread none table is = let by = reads table is in nothing (sym none ∙ by.1)

      -- it references no table
      pub no_table : (meaning : Entry) → entry_read memory settings (level + 1) x one.frame ≡ Some meaning
          → ((frame : ℕ) (bits : Bits) → meaning ≡ entry.Table frame bits → ⊥) → (table : TableUse) → IsReached memory settings root level x table → ⊥
      no_table meaning read not_table table is =
          let by = reads table is in
          not_table table.frame by.0 (same_some meaning (entry.Table table.frame by.0) (sym read ∙ by.1))

      -- it references this one
      pub reached-below : (frame : ℕ) (bits : Bits) → entry_read memory settings (level + 1) x one.frame ≡ Some (entry.Table frame bits)
          → (table : TableUse) → (Some (use_of level x frame (joined_bits one.bits bits)) ≡ Some table) ↔ IsReached memory settings root level x table
      reached-below frame bits read table = (
        λ same. subst (IsReached memory settings root level x) (same_some (use_of level x frame (joined_bits one.bits bits)) table same) (record {
          of_level = refl;
          of_address = refl;
          reached =
              let next : level + 1 ≡ suc level = omega arith in
              let above = (upper one).0 is_one in
              below (subst (λ n. Reaches memory settings root n x one.frame one.bits) next above.reached)
              (subst (λ n. entry_read memory settings n x one.frame ≡ Some (entry.Table frame bits)) next read);
        }),
        λ is. let by = reads table is in
            let same : entry.Table frame bits ≡ entry.Table table.frame by.0 = same_some (entry.Table frame bits) (entry.Table table.frame by.0) (sym read ∙ by.1) in
            let frames : frame ≡ table.frame = cc in
            let owns : bits ≡ by.0 = cc in
            ap Some (sym (same_use table level x frame (joined_bits one.bits bits) is.of_level is.of_address (sym frames)
            (by.2 ∙ ap (joined_bits one.bits) (sym owns)))),
      )

  -- a table that the walk of a prefix comes to is a use of it, where it may serve it
  pub use-reached : (found : Option TableUse) → ((table : TableUse) → (found ≡ Some table) ↔ IsReached memory settings root level x table)
      → Serves settings level x → (table : TableUse) → (found ≡ Some table) ↔ IsUseAt memory settings root level x table
  use-reached found reached serves table = (
    λ same. let is = (reached table).0 same in
        record {
          of_level = is.of_level;
          of_prefix = is.of_address;
          is_use = record {
            serves = subst (λ n. Serves settings n table.prefix) (sym is.of_level) (subst (Serves settings level) (sym is.of_address) serves);
            reached = subst (λ n. Reaches memory settings root n table.prefix table.frame table.bits) (sym is.of_level)
                (subst (λ n. Reaches memory settings root level n table.frame table.bits) (sym is.of_address) is.reached);
          };
        },
    λ is. (reached table).1 (record {
      of_level = is.of_level;
      of_address = is.of_prefix;
      reached = subst (λ n. Reaches memory settings root level n table.frame table.bits) is.of_prefix
          (subst (λ n. Reaches memory settings root n table.prefix table.frame table.bits) is.of_level is.is_use.reached);
    }),
  )

pub none_is_none : {A : Type 0} {found : Option A} {one : A} → found ≡ None → found ≡ Some one → ⊥
none_is_none none one = nothing (sym none ∙ one)

only : (one next : ℕ) → IsIn one (next ∷ []) → one ≡ next
only one next (inl same) = same
only one next (inr none) = elim none [ ]

module _ (memory : Memory) (settings : Settings) (root : ℕ) where
  -- a level more of a prefix
  pub uses-level : (level prefix : ℕ) (found : Option TableUse) (table : TableUse) {Old Before Now : Type 0}
      → (Before ↔ (Old ⊎ ((table.level < level) × IsUseAmong memory settings root (prefix ∷ []) table)))
      → ((found ≡ Some table) ↔ IsUseAt memory settings root level prefix table)
      → (Now ↔ (Before ⊎ (found ≡ Some table)))
      → Now ↔ (Old ⊎ ((table.level < level + 1) × IsUseAmong memory settings root (prefix ∷ []) table))
  uses-level level prefix found table before at now = (
    λ is_in. elim (now.0 is_in) [
      | inl earlier ↦ elim (before.0 earlier) [ inl old ↦ inl old | inr lower ↦ inr (let less = lower.0 in omega arith, lower.1) ]
      | inr one ↦ let is = at.0 one in
          inr (let same = is.of_level in omega arith, record { listed = inl is.of_prefix; is_use = is.is_use })
    ],
    elim [
      | inl old ↦ now.1 (inl (before.1 (inl old)))
      | inr among ↦ elim (cases_lt table.level level) [
        | inl lower ↦ now.1 (inl (before.1 (inr (lower, among.1))))
        | inr from ↦ now.1 (inr (at.1 (record {
          of_level = let less = among.0 in omega arith;
          of_prefix = only table.prefix prefix among.1.listed;
          is_use = among.1.is_use;
        })))
      ]
    ],
  )

  -- no level is below 1
  pub uses-start : (prefix : ℕ) (table : TableUse) {Old : Type 0} → Old ↔ (Old ⊎ ((table.level < 1) × IsUseAmong memory settings root (prefix ∷ []) table))
  uses-start prefix table = (λ old. inl old, elim [ inl old ↦ old | inr among ↦ absurd (too_low among.1.is_use.serves among.0) ])
    where
      four : (five_levels : Bool) → 4 ≤ (if five_levels then 5 else 4)
      four true = omega arith
      four false = omega arith

      too_low : Serves settings table.level table.prefix → table.level < 1 → ⊥
      too_low (inl top) less = let least = four settings.la57 in let is = top.0 in omega arith
      too_low (inr lower) less = let least = lower.0 in omega arith

  -- no level is above 5
  pub uses-end : (level prefix : ℕ) (table : TableUse) {Old Now : Type 0} → 6 ≤ level
      → (Now ↔ (Old ⊎ ((table.level < level) × IsUseAmong memory settings root (prefix ∷ []) table)))
      → Now ↔ (Old ⊎ IsUseAmong memory settings root (prefix ∷ []) table)
  uses-end level prefix table past now = (
    λ is_in. elim (now.0 is_in) [ inl old ↦ inl old | inr lower ↦ inr lower.1 ],
    elim [ inl old ↦ now.1 (inl old) | inr among ↦ now.1 (inr (low_enough among.is_use.serves, among)) ],
  )
    where
      five : (five_levels : Bool) → (if five_levels then 5 else 4) ≤ 5
      five true = omega arith
      five false = omega arith

      low_enough : Serves settings table.level table.prefix → table.level < level
      low_enough (inl top) = let most = five settings.la57 in let is = top.0 in omega arith
      low_enough (inr lower) = let most = five settings.la57 in let less = lower.1 in omega arith

  -- a prefix more
  pub uses-next : (prefixes prefixes' : List ℕ) (next : ℕ) (table : TableUse) {Before Now : Type 0}
      → ((prefix : ℕ) → IsIn prefix prefixes' ↔ (IsIn prefix prefixes ⊎ (prefix ≡ next)))
      → (Before ↔ IsUseAmong memory settings root prefixes table)
      → (Now ↔ (Before ⊎ IsUseAmong memory settings root (next ∷ []) table))
      → Now ↔ IsUseAmong memory settings root prefixes' table
  uses-next prefixes prefixes' next table more before now = (
    λ is_in. elim (now.0 is_in) [
      | inl earlier ↦ let is = before.0 earlier in record { listed = (more table.prefix).1 (inl is.listed); is_use = is.is_use }
      | inr is ↦ record { listed = (more table.prefix).1 (inr (only table.prefix next is.listed)); is_use = is.is_use }
    ],
    λ is. elim ((more table.prefix).0 is.listed) [
      | inl earlier ↦ now.1 (inl (before.1 (record { listed = earlier; is_use = is.is_use })))
      | inr same ↦ now.1 (inr (record { listed = inl same; is_use = is.is_use }))
    ],
  )

  pub leaves-next : (prefixes prefixes' : List ℕ) (next : ℕ) (found : Option Leaf) (leaf : Leaf) {Before Now : Type 0}
      → ((prefix : ℕ) → IsIn prefix prefixes' ↔ (IsIn prefix prefixes ⊎ (prefix ≡ next)))
      → (Before ↔ IsLeafAmong memory settings root prefixes leaf)
      → ((found ≡ Some leaf) ↔ IsLeafAmong memory settings root (next ∷ []) leaf)
      → (Now ↔ (Before ⊎ (found ≡ Some leaf)))
      → Now ↔ IsLeafAmong memory settings root prefixes' leaf
  leaves-next prefixes prefixes' next found leaf more before at now = (
    λ is_in. elim (now.0 is_in) [
      | inl earlier ↦ let is = before.0 earlier in record { listed = (more leaf.prefix).1 (inl is.listed); is_leaf = is.is_leaf }
      | inr one ↦ let is = at.0 one in record { listed = (more leaf.prefix).1 (inr (only leaf.prefix next is.listed)); is_leaf = is.is_leaf }
    ],
    λ is. elim ((more leaf.prefix).0 is.listed) [
      | inl earlier ↦ now.1 (inl (before.1 (record { listed = earlier; is_leaf = is.is_leaf })))
      | inr same ↦ now.1 (inr (at.1 (record { listed = inl same; is_leaf = is.is_leaf })))
    ],
  )
