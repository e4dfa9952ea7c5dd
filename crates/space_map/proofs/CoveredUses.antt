-- Which uses of a frame are covered by higher ones.
use Rattle.std.proofs.Common.{◌≡◌, ℕ, ◌+◌, ◌-◌, ◌*◌, ◌/◌, ◌<◌, ◌≤◌, inl, inr, true, false, Bool, List, [], ◌∷◌, length, get_or, refl, sym, ap, ◌∙◌, subst, lit≤, arith}
use Rattle.std.specs.Prelude.{if◌then◌else◌, ◌==◌, ◌↔◌}
use Rattle.std.proofs.lemmas.Bool.Decides.{nat_tests}
use Rattle.std.proofs.lemmas.Nat.{shl-shr}
use Rattle.std.proofs.Math.Nat.{mul-mod_left}
use Rattle.paging_model.specs.Counting.{IsIn}
use Rattle.paging_model.specs.LinearAddress.{span}
use Rattle.paging_model.specs.LinearAddress.{index as slot_of}
use Rattle.paging_model.specs.Walking.{top_level}
use Rattle.paging_model.specs.declared.registers.Settings.{Settings}
use Rattle.paging_model.specs.declared.spaces.TableUse.{TableUse}
use Rattle.paging_laws.specs.ServedAddresses.{IsServedBy}
use Rattle.paging_laws.proofs.Serving.{whole_is_one}
use Rattle.frame_index.specs.CountedUses.{AreOrdered, HaveOwnPlaces, IsAt}
use Rattle.frame_index.specs.declared.counted_use.CountedUse.{CountedUse}
use Rattle.space_map.specs.FramePatches.{IsCoveredAt}
use Rattle.space_map.specs.PatchWalks.{index_tables}
use Rattle.space_map.specs.ServingTables.{AreServing, IsServing}
use Rattle.space_map.proofs.IndexTables.{one-at, table-in, use-of_table}

most_of : (five : Bool) → (if five then 5 else 4) ≤ 5
most_of true = lit≤ tt
most_of false = lit≤ tt

pub top-most : (settings : Settings) → top_level settings ≤ 5
top-most settings = most_of settings.la57

pub never-true : false ≡ true → ⊥
never-true is = cc

pub some-tables : (n : ℕ) → false ≡ (n == 0) → 0 < n
some-tables n is = grind (arith, nat_tests)

-- the first of ordered uses is one of the highest level
pub highest-first : (first : TableUse) (rest : List TableUse) → AreOrdered (first ∷ rest) → (table : TableUse) → IsIn table (first ∷ rest)
    → table.level ≤ first.level
highest-first first rest ordered table (inl same) = omega (arith, ap (λ (it : TableUse). it.level) same)
highest-first first [] ordered table (inr is) = absurd is
highest-first first (two ∷ rest) ordered table (inr is) =
    let later = highest-first two rest ordered.1 table is in
    elim ordered.0 [ inl lower ↦ omega (arith, later, lower) | inr same ↦ omega (arith, later, same.0) ]

pub highest-is : (uses : List TableUse) (d : TableUse) → AreOrdered uses → (table : TableUse) → IsIn table uses → table.level ≤ (get_or uses 0 d).level
highest-is [] d ordered table is = absurd is
highest-is (first ∷ rest) d ordered table is = highest-first first rest ordered table is

pub first-in : (uses : List TableUse) (d : TableUse) → 0 < length uses → IsIn (get_or uses 0 d) uses
first-in [] d some = absurd (omega arith)
first-in (first ∷ rest) d some = inl refl

-- a table below the top one serves an address exactly if its prefix is the address rounded down
pub serves-lower : (settings : Settings) (level address w : ℕ) → level ≤ top_level settings → (level ≡ top_level settings → ⊥) → w ≡ span (level + 1)
    → (table : TableUse) → table.level ≡ level → IsServing settings level table.prefix
    → IsServedBy settings table address ↔ (table.prefix ≡ address / w * w)
serves-lower settings level address w most lower long table is serving = (
  λ served. elim served [
    | inl top ↦ absurd (lower (sym is ∙ top))
    | inr same ↦
        let here : address / span (level + 1) ≡ table.prefix / span (level + 1) =
        subst (λ (n : ℕ). address / span (n + 1) ≡ table.prefix / span (n + 1)) is same in
        whole_is_one table.prefix (address / span (level + 1) * span (level + 1)) (span (level + 1))
        (sym here ∙ sym (shl-shr (address / span (level + 1)) (12 + 9 * (level + 1 - 1))))
        (serving.3 (let less : level < top_level settings = omega (arith, most, lower) in less)).1
        (mul-mod_left (address / span (level + 1)) (span (level + 1)))
        ∙ ap (λ (n : ℕ). address / n * n) (sym long)
  ],
  λ same.
      let rounded : table.prefix ≡ address / span (level + 1) * span (level + 1) = same ∙ ap (λ (n : ℕ). address / n * n) long in
      inr (subst (λ (n : ℕ). address / span (n + 1) ≡ table.prefix / span (n + 1)) (sym is)
      (sym (ap (λ (n : ℕ). n / span (level + 1)) rounded ∙ shl-shr (address / span (level + 1)) (12 + 9 * (level + 1 - 1))))),
)

module _ (settings : Settings) (first last : ℕ) (uses : List CountedUse) (serving : AreServing settings uses) (table : TableUse) (level prefix : ℕ)
    (serves : (upper : TableUse) → upper.level ≡ level → IsServing settings level upper.prefix
    → IsServedBy settings upper table.prefix ↔ (upper.prefix ≡ prefix)) where
  -- a use of the index that covers the table at the level
  record Covering : Type 0 where
    one : CountedUse
    is_in : IsIn one uses
    at : IsAt level prefix one
    is_frame : one.table.frame ≡ table.frame
    from : first ≤ slot_of level table.prefix
    to : slot_of level table.prefix ≤ last

  serves-one : (one : CountedUse) → IsIn one uses → one.table.level ≡ level → IsServing settings level one.table.prefix
  serves-one one is_in is = subst (λ (n : ℕ). IsServing settings n one.table.prefix) is (serving one is_in)

  covering : IsCoveredAt settings first last table.frame (index_tables uses) table level → Covering
  covering at =
      let found = use-of_table uses at.covered.upper at.covered.is_in in
      let is : found.0.table.level ≡ level = ap (λ (it : TableUse). it.level) found.2 ∙ at.at in
      let served : IsServedBy settings found.0.table table.prefix =
      subst (λ (it : TableUse). IsServedBy settings it table.prefix) (sym found.2) at.covered.serves in
      record {
        one = found.0;
        is_in = found.1;
        at = (is, (serves found.0.table is (serves-one found.0 found.1 is)).0 served);
        is_frame = ap (λ (it : TableUse). it.frame) found.2 ∙ at.covered.is_frame;
        from = subst (λ (n : ℕ). first ≤ slot_of n table.prefix) at.at at.covered.from;
        to = subst (λ (n : ℕ). slot_of n table.prefix ≤ last) at.at at.covered.to;
      }

  -- no use is at the place
  pub covered-none : ((one : CountedUse) → IsIn one uses → IsAt level prefix one → ⊥)
      → IsCoveredAt settings first last table.frame (index_tables uses) table level → ⊥
  covered-none never at = let it = covering at in never it.one it.is_in it.at

  -- the entry isn't among the slots
  pub covered-slots : IsCoveredAt settings first last table.frame (index_tables uses) table level
      → (first ≤ slot_of level table.prefix) × (slot_of level table.prefix ≤ last)
  covered-slots at = let it = covering at in (it.from, it.to)

  module _ (own : HaveOwnPlaces uses) (found : CountedUse) (is_in : IsIn found uses) (is_at : IsAt level prefix found) where
    -- the use at the place is of another frame
    pub covered-frame : IsCoveredAt settings first last table.frame (index_tables uses) table level → found.table.frame ≡ table.frame
    covered-frame at =
        let it = covering at in
        let same : found ≡ it.one = one-at uses own found it.one is_in it.is_in (is_at.0 ∙ sym it.at.0) (is_at.1 ∙ sym it.at.1) in
        ap (λ (one : CountedUse). one.table.frame) same ∙ it.is_frame

    pub covered-by : found.table.frame ≡ table.frame → table.level < level → first ≤ slot_of level table.prefix
        → slot_of level table.prefix ≤ last → IsCoveredAt settings first last table.frame (index_tables uses) table level
    covered-by is_frame higher from to = record {
      covered = record {
        upper = found.table;
        is_in = table-in uses found is_in;
        is_frame = is_frame;
        higher = omega (arith, higher, is_at.0);
        serves = (serves found.table is_at.0 (serves-one found is_in is_at.0)).1 is_at.1;
        from = subst (λ (n : ℕ). first ≤ slot_of n table.prefix) (sym is_at.0) from;
        to = subst (λ (n : ℕ). slot_of n table.prefix ≤ last) (sym is_at.0) to;
      };
      at = is_at.0;
    }
