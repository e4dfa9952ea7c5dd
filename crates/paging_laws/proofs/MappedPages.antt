-- The leaf that a walk ends at, and the range that it maps.
use Rattle.std.proofs.Common.{◌≡◌, ℕ, zero, suc, ◌-◌, ◌%◌, ◌^◌, ◌<◌, Bool, Option, Some, None, refl, sym, ap, ◌∙◌, subst, arith}
use Rattle.std.specs.Prelude.{IsTrue, option_map}
use Rattle.paging_model.specs.Memory.{Memory, entry_at}
use Rattle.paging_model.specs.LinearAddress.{span, is_canonical}
use Rattle.paging_model.specs.Entries.{entry_of, joined_bits, root_bits}
use Rattle.paging_model.specs.Walking.{walk, walk_from, at_value, at_entry, entry_address, entry_read, own_frame, top_level}
use Rattle.paging_model.specs.TableUses.{Reaches, at_root, below, Leaf, IsLeaf}
use Rattle.paging_model.specs.declared.registers.Settings.{Settings}
use Rattle.paging_model.specs.declared.entries.Bits.{Bits}
use Rattle.paging_model.specs.declared.entries.Entry.{Entry}
use Rattle.paging_model.specs.declared.entries.Entry.TheVariants as entry
use Rattle.paging_model.specs.declared.walks.Page.{Page}
use Rattle.paging_model.specs.declared.walks.Walk.{Walk}
use Rattle.paging_model.specs.declared.walks.Walk.TheVariants.{Mapped}
use Rattle.paging_model.proofs.WalkSteps.{walk_from-step}
use Rattle.paging_laws.specs.LeafRanges.{AreInOneRange, IsMappedAlike, LeafFor}
use Rattle.paging_laws.proofs.Reaching.{Reaches-level, Reaches-same_span, same_span_above}
use Rattle.paging_laws.proofs.Readings.{walk-reached}
use Rattle.paging_laws.proofs.Serving.{first_of, first_of-same, first_of-prefix, whole_is_one}

-- the page of a leaf
abbrev pub page_of : ℕ → ℕ → ℕ → Bits → ℕ → Bool → Page
page_of level x frame bits key global =
    record { frame = own_frame level x frame; level = level; bits = bits; key = key; global = global }

-- the walk of x comes to a leaf of a table, and ends at this page
pub record Ending (memory : Memory) (settings : Settings) (root x : ℕ) (page : Page) : Type 0 where
  pub lower : ℕ
  pub table : ℕ
  pub above : Bits
  pub frame : ℕ
  pub bits : Bits
  pub key : ℕ
  pub global : Bool
  pub reached : Reaches memory settings root (suc lower) x table above
  pub read : entry_read memory settings (suc lower) x table ≡ Some (entry.Leaf frame bits key global)
  pub is_page : page_of (suc lower) x frame (joined_bits above bits) key global ≡ page

module _ (memory : Memory) (settings : Settings) (root x : ℕ) (page : Page) where
  ending_at_entry : (lower table : ℕ) (above : Bits) → Reaches memory settings root (suc lower) x table above
      → ((frame : ℕ) (bits : Bits) → Reaches memory settings root lower x frame (joined_bits above bits)
      → walk_from memory settings lower x frame (joined_bits above bits) ≡ Mapped page → Ending memory settings root x page)
      → (meaning : Entry) → entry_read memory settings (suc lower) x table ≡ Some meaning
      → at_entry (λ frame bits. walk_from memory settings lower x frame bits) (suc lower) x above meaning ≡ Mapped page
      → Ending memory settings root x page
  ending_at_entry lower table above reached go entry.Absent read ends = absurd cc
  ending_at_entry lower table above reached go entry.Reserved read ends = absurd cc
  ending_at_entry lower table above reached go (entry.Table frame bits) read ends = go frame bits (below reached read) ends
  ending_at_entry lower table above reached go (entry.Leaf frame bits key global) read ends = record {
    lower = lower;
    table = table;
    above = above;
    frame = frame;
    bits = bits;
    key = key;
    global = global;
    reached = reached;
    read = read;
    is_page = cc;
  }

  ending_at_value : (lower table : ℕ) (above : Bits) → Reaches memory settings root (suc lower) x table above
      → ((frame : ℕ) (bits : Bits) → Reaches memory settings root lower x frame (joined_bits above bits)
      → walk_from memory settings lower x frame (joined_bits above bits) ≡ Mapped page → Ending memory settings root x page)
      → (value : Option ℕ) → entry_at memory (entry_address (suc lower) x table) ≡ value
      → at_value (λ frame bits. walk_from memory settings lower x frame bits) settings (suc lower) x above value ≡ Mapped page
      → Ending memory settings root x page
  ending_at_value lower table above reached go None is ends = absurd cc
  ending_at_value lower table above reached go (Some number) is ends =
      ending_at_entry lower table above reached go (entry_of (suc lower) settings number)
      (ap (option_map (λ value. entry_of (suc lower) settings value)) is) ends

  ending_from : (level table : ℕ) (above : Bits) → Reaches memory settings root level x table above
      → walk_from memory settings level x table above ≡ Mapped page → Ending memory settings root x page
  unfolding walk_from
  ending_from zero table above reached ends = absurd cc
  ending_from (suc lower) table above reached ends =
      ending_at_value lower table above reached (λ frame bits below_it ends_below. ending_from lower frame (joined_bits above bits) below_it ends_below)
      (entry_at memory (entry_address (suc lower) x table)) refl ends

  -- a walk that ends at a page came to the leaf of one
  pub ending : walk memory settings root x ≡ Mapped page → Ending memory settings root x page
  unfolding walk
  ending ends = ending_from (top_level settings) root root_bits at_root ends

pub ends_at_value : (go : ℕ → Bits → Walk) (settings : Settings) (level x : ℕ) (above : Bits) (value : Option ℕ) (frame : ℕ) (bits : Bits) (key : ℕ) (global : Bool)
    → option_map (λ number. entry_of level settings number) value ≡ Some (entry.Leaf frame bits key global)
    → at_value go settings level x above value ≡ Mapped (page_of level x frame (joined_bits above bits) key global)
ends_at_value go settings level x above None frame bits key global means = absurd cc
ends_at_value go settings level x above (Some number) frame bits key global means =
    let meaning : entry_of level settings number ≡ entry.Leaf frame bits key global = cc in
    rw meaning refl

module _ {memory : Memory} {settings : Settings} {root x : ℕ} {page : Page} where
  ending_level : (end : Ending memory settings root x page) → suc end.lower ≡ page.level
  ending_level end = ap (λ (it : Page). it.level) end.is_page

  -- a leaf maps each address of its range
  walk-in_range : (end : Ending memory settings root x page) (y : ℕ) → AreInOneRange (suc end.lower) x y
      → walk memory settings root y ≡ Mapped (page_of (suc end.lower) y end.frame (joined_bits end.above end.bits) end.key end.global)
  walk-in_range end y same =
      let reached : Reaches memory settings root (suc end.lower) y end.table end.above =
      Reaches-same_span end.reached (same_span_above (suc end.lower) x y (omega arith) same) in
      let read : entry_read memory settings (suc end.lower) y end.table ≡ Some (entry.Leaf end.frame end.bits end.key end.global) = rw (← same) end.read in
      walk-reached reached
      ∙ (walk_from-step memory settings y (suc end.lower) end.table end.above (omega arith)
      ∙ ends_at_value (λ frame bits. walk_from memory settings (suc end.lower - 1) y frame bits) settings (suc end.lower) y end.above
      (entry_at memory (entry_address (suc end.lower) y end.table)) end.frame end.bits end.key end.global read)

  alike_from : (end : Ending memory settings root x page) (y : ℕ) → AreInOneRange (suc end.lower) x y → IsMappedAlike memory settings root x y page
  alike_from end y same =
      let level = ending_level end in
      let frame : own_frame (suc end.lower) x end.frame ≡ page.frame = ap (λ (it : Page). it.frame) end.is_page in
      record {
        other = page_of (suc end.lower) y end.frame (joined_bits end.above end.bits) end.key end.global;
        mapped = walk-in_range end y same;
        frame = rw (← level) (omega arith);
        level = level;
        bits = ap (λ (it : Page). it.bits) end.is_page;
        key = ap (λ (it : Page). it.key) end.is_page;
        global = ap (λ (it : Page). it.global) end.is_page;
      }

  pub mapped_alike : walk memory settings root x ≡ Mapped page → (y : ℕ) → AreInOneRange page.level x y → IsMappedAlike memory settings root x y page
  mapped_alike maps y same =
      let end = ending memory settings root x page maps in
      alike_from end y (subst (λ (level : ℕ). AreInOneRange level x y) (sym (ending_level end)) same)

  -- each mapped page of a canonical address has a leaf that serves the address
  pub leaf_for : x < 2 ^ 64 → IsTrue (is_canonical settings.la57 x) → walk memory settings root x ≡ Mapped page → LeafFor memory settings root page.level x
  leaf_for is_below canonical maps =
      let end = ending memory settings root x page maps in
      let level : ℕ = suc end.lower in
      record {
        leaf = record { level = level; prefix = first_of level x };
        is_leaf = record {
          prefix = first_of-prefix settings level x (Reaches-level end.reached) is_below canonical;
          page = page_of level (first_of level x) end.frame (joined_bits end.above end.bits) end.key end.global;
          mapped = walk-in_range end (first_of level x) (first_of-same level x);
          level = refl;
        };
        served = first_of-same level x;
        is_level = ending_level end;
      }

-- the level of the page that a leaf maps an address of its range to
leaf_level : {memory : Memory} {settings : Settings} {root : ℕ} (leaf : Leaf) → IsLeaf memory settings root leaf
    → (x : ℕ) → AreInOneRange leaf.level x leaf.prefix → (page : Page) × (walk memory settings root x ≡ Mapped page) × (page.level ≡ leaf.level)
leaf_level {memory = memory} {settings = settings} {root = root} leaf is_leaf x served =
    let end = ending memory settings root leaf.prefix is_leaf.page is_leaf.mapped in
    let level : suc end.lower ≡ leaf.level = ending_level end ∙ is_leaf.level in
    let same : AreInOneRange (suc end.lower) leaf.prefix x = subst (λ (l : ℕ). AreInOneRange l leaf.prefix x) (sym level) (sym served) in
    (page_of (suc end.lower) x end.frame (joined_bits end.above end.bits) end.key end.global, walk-in_range end x same, level)

leaf_of : ℕ → ℕ → Leaf
leaf_of level prefix = record { level = level; prefix = prefix }

same_leaf : (level level' prefix prefix' : ℕ) → level ≡ level' → prefix ≡ prefix' → leaf_of level prefix ≡ leaf_of level' prefix'
same_leaf level level' prefix prefix' levels prefixes = cc

-- one leaf at most serves an address
pub leaf_is_one : {memory : Memory} {settings : Settings} {root : ℕ} (x : ℕ) (one other : Leaf)
    → IsLeaf memory settings root one → IsLeaf memory settings root other
    → AreInOneRange one.level x one.prefix → AreInOneRange other.level x other.prefix → one ≡ other
unfolding leaf_of
leaf_is_one {memory = memory} {settings = settings} {root = root} x one other is_one is_other served served' =
    let first : (page : Page) × (walk memory settings root x ≡ Mapped page) × (page.level ≡ one.level) = leaf_level one is_one x served in
    let second : (page : Page) × (walk memory settings root x ≡ Mapped page) × (page.level ≡ other.level) = leaf_level other is_other x served' in
    let walks : Mapped first.0 ≡ Mapped second.0 = sym first.1 ∙ second.1 in
    let pages : first.0 ≡ second.0 = cc in
    let level : one.level ≡ other.level = sym first.2 ∙ (ap (λ (page : Page). page.level) pages ∙ second.2) in
    let same : AreInOneRange one.level x other.prefix = subst (λ (l : ℕ). AreInOneRange l x other.prefix) (sym level) served' in
    let whole : other.prefix % span one.level ≡ 0 = subst (λ (l : ℕ). other.prefix % span l ≡ 0) (sym level) is_other.prefix.whole in
    let prefix : one.prefix ≡ other.prefix = whole_is_one one.prefix other.prefix (span one.level) (sym served ∙ same) is_one.prefix.whole whole in
    same_leaf one.level other.level one.prefix other.prefix level prefix
