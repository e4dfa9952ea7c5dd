-- The patches of the uses of a frame, use by use.
use Rattle.std.proofs.Common.{◌≡◌, ℕ, ◌+◌, ◌<◌, ◌≤◌, ◌⊎◌, inl, inr, List, [], ◌∷◌, ◌++◌, length, take, drop, get_or, refl, sym, ap, ◌∙◌, subst, arith}
use Rattle.std.proofs.lemmas.List.{append-nil, drop_more, take_all, take_more, take-append-drop}
use Rattle.paging_model.specs.Counting.{IsIn}
use Rattle.paging_model.specs.Walking.{top_level}
use Rattle.paging_model.specs.declared.registers.Settings.{Settings}
use Rattle.paging_model.specs.declared.spaces.TableUse.{TableUse}
use Rattle.paging_laws.proofs.Membership.{in-append, append-left, append-right}
use Rattle.frame_index.specs.CountedUses.{AreOrdered, AreThose, Precedes}
use Rattle.frame_index.specs.declared.counted_use.CountedUse.{CountedUse}
use Rattle.kept_laws.specs.declared.patches.Patch.{Patch}
use Rattle.plan_laws.specs.Plans.{IsCovered, IsPartOf, lower_half, lower_part, upper_half}
use Rattle.space_map.specs.FramePatches.{ArePatchesOf, ArePushed, IsPatchOf}
use Rattle.space_map.specs.PatchWalks.{AreOfOwnUses, index_tables}
use Rattle.space_map.specs.ServingTables.{AreServing, IsServing}
use Rattle.space_map.proofs.IndexTables.{table-in, use-of_table}
use Rattle.space_map.proofs.PatchPasses.{in-take}

-- where a part of a use stands
abbrev pub StandsAs : Settings → TableUse → Patch → Type 0
StandsAs settings table patch =
    (patch.table.level ≡ table.level)
    × ((table.level < top_level settings) × (patch.table.prefix ≡ table.prefix) ⊎ (table.level ≡ top_level settings))

part-stands : (settings : Settings) (first last : ℕ) (table : TableUse) (patch : Patch) → IsPartOf settings first last table patch → StandsAs settings table patch
part-stands settings first last table patch (lower_part less is) =
    (ap (λ (it : Patch). it.table.level) is, inl (less, ap (λ (it : Patch). it.table.prefix) is))
part-stands settings first last table patch (lower_half top some is) = (ap (λ (it : Patch). it.table.level) is, inr top)
part-stands settings first last table patch (upper_half top some is) = (ap (λ (it : Patch). it.table.level) is, inr top)

-- patches of one place are of uses of one place
one-place : (settings : Settings) (one other : TableUse) (patch next : Patch) → IsServing settings one.level one.prefix
    → IsServing settings other.level other.prefix → StandsAs settings one patch → StandsAs settings other next
    → next.table.level ≡ patch.table.level → next.table.prefix ≡ patch.table.prefix → (one.level ≡ other.level) × (one.prefix ≡ other.prefix)
one-place settings one other patch next serves serves' (level, inl lower) (level', inl lower') same same' =
    (sym level ∙ sym same ∙ level', sym lower.1 ∙ sym same' ∙ lower'.1)
one-place settings one other patch next serves serves' (level, inl lower) (level', inr top) same same' =
    absurd (omega (arith, level, level', same, lower.0, top))
one-place settings one other patch next serves serves' (level, inr top) (level', inl lower) same same' =
    absurd (omega (arith, level, level', same, lower.0, top))
one-place settings one other patch next serves serves' (level, inr top) (level', inr top') same same' =
    (top ∙ sym top', serves.2 top ∙ sym (serves'.2 top'))

precedes-both : (one two three : TableUse) → Precedes one two → Precedes two three → Precedes one three
precedes-both one two three (inl a) (inl b) = inl (omega (arith, a, b))
precedes-both one two three (inl a) (inr b) = inl (omega (arith, a, b.0))
precedes-both one two three (inr a) (inl b) = inl (omega (arith, a.0, b))
precedes-both one two three (inr a) (inr b) = inr (a.0 ∙ b.0, omega (arith, a.1, b.1))

-- all uses before one precede it
precedes-later : (before : List TableUse) (one : TableUse) (rest : List TableUse) → AreOrdered (before ++ one ∷ rest)
    → (table : TableUse) → IsIn table before → Precedes table one
precedes-later [] one rest ordered table is = absurd is
precedes-later (first ∷ []) one rest ordered table (inl same) = subst (λ (it : TableUse). Precedes it one) (sym same) ordered.0
precedes-later (first ∷ []) one rest ordered table (inr is) = absurd is
precedes-later (first ∷ two ∷ more) one rest ordered table (inl same) =
    subst (λ (it : TableUse). Precedes it one) (sym same)
    (precedes-both first two one ordered.0 (precedes-later (two ∷ more) one rest ordered.1 two (inl refl)))
precedes-later (first ∷ two ∷ more) one rest ordered table (inr is) = precedes-later (two ∷ more) one rest ordered.1 table is

precedes-another : (one other : TableUse) → Precedes one other → one.level ≡ other.level → one.prefix ≡ other.prefix → ⊥
precedes-another one other (inl lower) level prefix = omega (arith, lower, level)
precedes-another one other (inr same) level prefix = omega (arith, same.1, prefix)

-- patches of other places are put after some
own-append : (before after : List Patch) → AreOfOwnUses before → AreOfOwnUses after
    → ((one other : Patch) → IsIn one before → IsIn other after → other.table.level ≡ one.table.level → other.table.prefix ≡ one.table.prefix → ⊥)
    → AreOfOwnUses (before ++ after)
own-append [] after own own' apart = own'
own-append (first ∷ rest) after own own' apart = (
  λ patch is level prefix. elim (in-append rest after patch is) [
    | inl here ↦ own.0 patch here level prefix
    | inr there ↦ apart first patch (inl refl) there level prefix
  ],
  own-append rest after own.1 own' (λ one other is. apart one other (inr is)),
)

module _ (settings : Settings) (first last : ℕ) (tables : List TableUse) (table : TableUse) (old : List Patch) where
  -- a use that is covered has none
  pub pushed-none : IsCovered settings first last table.frame tables table → ArePushed (IsPatchOf settings first last table.frame tables table) old old
  pushed-none covered = record {
    parts = [];
    is = sym (append-nil old);
    each = λ patch is. absurd is;
    all = λ patch has. absurd (has.free covered);
    own = tt;
  }

  -- all parts of another are its patches
  pub pushed-parts : (new : List Patch) → (IsCovered settings first last table.frame tables table → ⊥)
      → ArePushed (IsPartOf settings first last table) old new → ArePushed (IsPatchOf settings first last table.frame tables table) old new
  pushed-parts new free are = record {
    parts = are.parts;
    is = are.is;
    each = λ patch is. record { is_frame = refl; free = free; part = are.each patch is };
    all = λ patch has. are.all patch has.part;
    own = are.own;
  }

module _ (settings : Settings) (first last frame : ℕ) (index : List CountedUse) (serving : AreServing settings index) (uses : List TableUse)
    (those : AreThose (λ (table : TableUse). table.frame ≡ frame) index uses) where
  pub use-in : (table : TableUse) → IsIn table uses → IsIn table (index_tables index)
  use-in table is =
      let one = those.were table is in subst (λ (it : TableUse). IsIn it (index_tables index)) one.2 (table-in index one.0 one.1)

  pub use-serves : (table : TableUse) → IsIn table uses → IsServing settings table.level table.prefix
  use-serves table is =
      let one = those.were table is in subst (λ (it : TableUse). IsServing settings it.level it.prefix) one.2 (serving one.0 one.1)

  pub use-frame : (table : TableUse) → IsIn table uses → table.frame ≡ frame
  use-frame table is = (those.were table is).3

  pub use-has : (table : TableUse) → IsIn table (index_tables index) → table.frame ≡ frame → IsIn table uses
  use-has table is is_frame =
      let one = use-of_table index table is in
      subst (λ (it : TableUse). IsIn it uses) one.2 (those.others one.0 one.1 (ap (λ (it : TableUse). it.frame) one.2 ∙ is_frame))

  pub patches-begin : (patches : List Patch) → patches ≡ [] → ArePatchesOf settings first last frame (index_tables index) [] patches
  patches-begin patches none =
      subst (λ (it : List Patch). ArePatchesOf settings first last frame (index_tables index) [] it) (sym none)
      (record { each = λ patch is. absurd is; all = λ table patch is. absurd is; own = tt })

  -- of all uses of the frame
  pub patches-end : (i : ℕ) (patches : List Patch) → length uses ≤ i → ArePatchesOf settings first last frame (index_tables index) (take i uses) patches
      → ArePatchesOf settings first last frame (index_tables index) (index_tables index) patches
  patches-end i patches whole part =
      let are = subst (λ (it : List TableUse). ArePatchesOf settings first last frame (index_tables index) it patches) (take_all i uses whole) part in
      record {
        each = λ patch is. let one = are.each patch is in (one.0, use-in one.0 one.1, one.2);
        all = λ table patch is has. are.all table patch (use-has table is has.is_frame) has;
        own = are.own;
      }

  module _ (i : ℕ) (d : TableUse) (within : i < length uses) where
    -- a use
    pub use-at : IsIn (get_or uses i d) uses
    use-at =
        subst (λ (it : List TableUse). IsIn (get_or uses i d) it) (take-append-drop i uses)
        (append-right (take i uses) (drop i uses) (get_or uses i d)
        (subst (λ (it : List TableUse). IsIn (get_or uses i d) it) (sym (drop_more uses i d within)) (inl refl)))

    precedes : (table : TableUse) → IsIn table (take i uses) → Precedes table (get_or uses i d)
    precedes =
        let split : take i uses ++ get_or uses i d ∷ drop (i + 1) uses ≡ uses =
        ap (λ (it : List TableUse). take i uses ++ it) (sym (drop_more uses i d within)) ∙ take-append-drop i uses in
        precedes-later (take i uses) (get_or uses i d) (drop (i + 1) uses) (subst AreOrdered (sym split) those.ordered)

    -- the patches of one use more
    pub patches-next : (old new : List Patch) → ArePatchesOf settings first last frame (index_tables index) (take i uses) old
        → ArePushed (IsPatchOf settings first last (get_or uses i d).frame (index_tables index) (get_or uses i d)) old new
        → ArePatchesOf settings first last frame (index_tables index) (take (i + 1) uses) new
    patches-next old new are pushed =
        let here : ArePushed (IsPatchOf settings first last frame (index_tables index) (get_or uses i d)) old new =
        subst (λ (n : ℕ). ArePushed (IsPatchOf settings first last n (index_tables index) (get_or uses i d)) old new) (use-frame (get_or uses i d) use-at) pushed in
        let more : take (i + 1) uses ≡ take i uses ++ get_or uses i d ∷ [] = take_more uses i d within in
        subst (λ (it : List Patch). ArePatchesOf settings first last frame (index_tables index) (take (i + 1) uses) it) (sym here.is)
        (subst (λ (it : List TableUse). ArePatchesOf settings first last frame (index_tables index) it (old ++ here.parts)) (sym more)
        (record {
          each = λ patch is. elim (in-append old here.parts patch is) [
            | inl before ↦
                let one = are.each patch before in
                (one.0, append-left (take i uses) (get_or uses i d ∷ []) one.0 one.1, one.2)
            | inr part ↦ (get_or uses i d, append-right (take i uses) (get_or uses i d ∷ []) (get_or uses i d) (inl refl), here.each patch part)
          ];
          all = λ table patch is has. elim (in-append (take i uses) (get_or uses i d ∷ []) table is) [
            | inl before ↦ append-left old here.parts patch (are.all table patch before has)
            | inr one ↦ elim one [
              | inl same ↦
                  append-right old here.parts patch
                  (here.all patch (subst (λ (it : TableUse). IsPatchOf settings first last frame (index_tables index) it patch) same has))
              | inr none ↦ absurd none
            ]
          ];
          own = own-append old here.parts are.own here.own (λ patch next was is level prefix.
              let one = are.each patch was in
              let part = here.each next is in
              let place = one-place settings one.0 (get_or uses i d) patch next (use-serves one.0 (in-take uses i one.0 one.1))
              (use-serves (get_or uses i d) use-at) (part-stands settings first last one.0 patch one.2.part)
              (part-stands settings first last (get_or uses i d) next part.part) level prefix in
              precedes-another one.0 (get_or uses i d) (precedes one.0 one.1) place.0 place.1);
        }))
