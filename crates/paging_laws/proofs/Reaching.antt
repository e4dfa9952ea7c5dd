-- The tables that a walk comes to.
use Rattle.std.proofs.Common.{◌≡◌, ℕ, zero, suc, ◌+◌, ◌-◌, ◌*◌, ◌/◌, ◌^◌, ◌<◌, ◌≤◌, inl, inr, Some, refl, sym, ap, ◌∙◌, arith}
use Rattle.std.proofs.lemmas.Nat.{shr-shr}
use Rattle.paging_model.specs.Memory.{Memory}
use Rattle.paging_model.specs.LinearAddress.{span}
use Rattle.paging_model.specs.Entries.{joined_bits, root_bits}
use Rattle.paging_model.specs.Walking.{entry_read, top_level}
use Rattle.paging_model.specs.TableUses.{Reaches, at_root, below, IsUse}
use Rattle.paging_model.specs.declared.registers.Settings.{Settings}
use Rattle.paging_model.specs.declared.entries.Bits.{Bits}
use Rattle.paging_model.specs.declared.entries.Entry.TheVariants as entry
use Rattle.paging_model.specs.declared.spaces.TableUse.{TableUse}
use Rattle.paging_laws.specs.ServedAddresses.{IsServedBy}

-- how a walk came to a table: it begins there, or an entry of the table above references it
pub data Arrival (memory : Memory) (settings : Settings) (root x level table : ℕ) (bits : Bits) : Type 0 where
  begins : level ≡ top_level settings → table ≡ root → bits ≡ root_bits → Arrival memory settings root x level table bits
  referenced : (upper : ℕ) (above own : Bits) → Reaches memory settings root (suc level) x upper above
      → entry_read memory settings (suc level) x upper ≡ Some (entry.Table table own)
      → bits ≡ joined_bits above own → Arrival memory settings root x level table bits

-- what one entry references is one table, with one join of bits
same_reference : (memory : Memory) (settings : Settings) (x level upper upper' one other : ℕ) (above above' own own' bits more : Bits)
    → (upper ≡ upper') × (above ≡ above')
    → entry_read memory settings level x upper ≡ Some (entry.Table one own) → bits ≡ joined_bits above own
    → entry_read memory settings level x upper' ≡ Some (entry.Table other own') → more ≡ joined_bits above' own'
    → (one ≡ other) × (bits ≡ more)
same_reference memory settings x level upper upper' one other above above' own own' bits more same read is read' is' =
    let entries : Some (entry.Table one own) ≡ Some (entry.Table other own') =
    sym read ∙ (ap (λ table. entry_read memory settings level x table) same.0 ∙ read') in
    let tables : one ≡ other = cc in
    let owns : own ≡ own' = cc in
    (tables, is ∙ (ap (λ it. joined_bits it own) same.1 ∙ (ap (joined_bits above') owns ∙ sym is')))

module _ {memory : Memory} {settings : Settings} {root x : ℕ} where
  pub arrival : {level table : ℕ} {bits : Bits} → Reaches memory settings root level x table bits → Arrival memory settings root x level table bits
  arrival at_root = begins refl refl refl
  arrival (below {table = upper} {above = above} {bits = own} reached read) = referenced upper above own reached read refl

  -- no level is above the top
  pub Reaches-level : {level table : ℕ} {bits : Bits} → Reaches memory settings root level x table bits → level ≤ top_level settings
  Reaches-level at_root = omega arith
  Reaches-level (below reached read) = let upper = Reaches-level reached in omega arith

  -- the walk comes to one table of a level at most, with one join of bits; by the number of levels above it
  same_arrival : (higher level one other : ℕ) (bits more : Bits) → level + higher ≡ top_level settings
      → Reaches memory settings root level x one bits → Reaches memory settings root level x other more → (one ≡ other) × (bits ≡ more)
  same_arrival zero level one other bits more top first second =
      elim (arrival first) [
        | begins at_top table own ↦ elim (arrival second) [
          | begins at_top' table' own' ↦ (table ∙ sym table', own ∙ sym own')
          | referenced upper above own' reached read is ↦ absurd (let least = Reaches-level reached in omega arith)
        ]
        | referenced upper above own reached read is ↦ absurd (let least = Reaches-level reached in omega arith)
      ]
  same_arrival (suc higher) level one other bits more top first second =
      elim (arrival first) [
        | begins at_top table own ↦ absurd (omega arith)
        | referenced upper above own reached read is ↦ elim (arrival second) [
          | begins at_top table own' ↦ absurd (omega arith)
          | referenced upper' above' own' reached' read' is' ↦
              same_reference memory settings x (suc level) upper upper' one other above above' own own' bits more
              (same_arrival higher (suc level) upper upper' above above' (omega arith) reached reached') read is read' is'
        ]
      ]

  pub Reaches-one : (level one other : ℕ) (bits more : Bits)
      → Reaches memory settings root level x one bits → Reaches memory settings root level x other more → (one ≡ other) × (bits ≡ more)
  Reaches-one level one other bits more first second =
      let least = Reaches-level first in
      same_arrival (top_level settings - level) level one other bits more (omega arith) first second

-- one prefix at a level is one prefix at the level above
pub same_span_above : (level x y : ℕ) → 0 < level → x / span level ≡ y / span level → x / span (level + 1) ≡ y / span (level + 1)
same_span_above level x y some same =
    let longer : 12 + 9 * (level + 1 - 1) ≡ 12 + 9 * (level - 1) + 9 = omega arith in
    rw (longer, ← shr-shr x (12 + 9 * (level - 1)) 9, ← shr-shr y (12 + 9 * (level - 1)) 9) (ap (λ n. n / 2 ^ 9) same)

module _ {memory : Memory} {settings : Settings} {root x y : ℕ} where
  -- addresses in the range of one entry come to one table below it
  pub Reaches-same_span : {level table : ℕ} {bits : Bits} → Reaches memory settings root level x table bits
      → x / span (level + 1) ≡ y / span (level + 1) → Reaches memory settings root level y table bits
  Reaches-same_span at_root same = at_root
  Reaches-same_span (below {level = level} {table = table} reached read) same =
      let next : level + 1 ≡ suc level = omega arith in
      let here : x / span (suc level) ≡ y / span (suc level) = rw next at same in
      let above : x / span (suc level + 1) ≡ y / span (suc level + 1) = same_span_above (suc level) x y (omega arith) here in
      below (Reaches-same_span reached above) (rw (← here) read)

  -- the top table serves every address
  pub Reaches-top : {level table : ℕ} {bits : Bits} → level ≡ top_level settings
      → Reaches memory settings root level x table bits → Reaches memory settings root level y table bits
  Reaches-top {level = level} {table = table} {bits = bits} top reached =
      elim (arrival reached) [
        | begins at_top is_root is_own ↦ rw (at_top, is_root, is_own) at_root
        | referenced upper above own reached' read is ↦ absurd (let least = Reaches-level reached' in omega arith)
      ]

pub served_by_use : {memory : Memory} {settings : Settings} {root x : ℕ} (table : TableUse) → IsUse memory settings root table
    → IsServedBy settings table x → Reaches memory settings root table.level x table.frame table.bits
served_by_use table is_use (inl top) = Reaches-top top is_use.reached
served_by_use table is_use (inr same) = Reaches-same_span is_use.reached (sym same)

use_of : ℕ → ℕ → ℕ → Bits → TableUse
use_of level prefix frame bits = record { level = level; prefix = prefix; frame = frame; bits = bits }

same_use : (level level' prefix prefix' frame frame' : ℕ) (bits bits' : Bits) → level ≡ level' → prefix ≡ prefix' → frame ≡ frame'
    → bits ≡ bits' → use_of level prefix frame bits ≡ use_of level' prefix' frame' bits'
same_use level level' prefix prefix' frame frame' bits bits' levels prefixes frames joins = cc

pub use_is_one : {memory : Memory} {settings : Settings} {root : ℕ} (one other : TableUse)
    → IsUse memory settings root one → IsUse memory settings root other → one.level ≡ other.level → one.prefix ≡ other.prefix → one ≡ other
unfolding use_of
use_is_one {memory = memory} {settings = settings} {root = root} one other is_one is_other level prefix =
    let reached : Reaches memory settings root other.level other.prefix one.frame one.bits = rw (← level, ← prefix) is_one.reached in
    let same = Reaches-one other.level one.frame other.frame one.bits other.bits reached is_other.reached in
    same_use one.level other.level one.prefix other.prefix one.frame other.frame one.bits other.bits level prefix same.0 same.1
