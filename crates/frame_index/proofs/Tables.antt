-- The tables of records to which a part of a map leads.
use Rattle.std.proofs.Common.{◌≡◌, ℕ, ◌+◌, ◌-◌, ◌≤◌, ◌⊎◌, inl, inr, Option, None, Some, List, [], ◌∷◌, ◌++◌, Ordering, refl, sym, ap, ◌∙◌, subst, arith}
use Rattle.std.proofs.lemmas.List.{append-nil, append_assoc}
use Rattle.std.proofs.lemmas.Bool.{cases_eq}
use Rattle.std.proofs.lemmas.Map.Lookups.{CmpEqualImpliesEq}
use Rattle.std.specs.BTreeMap.{BTreeMap, IsOrdered}
use Rattle.std.specs.BTreeMap.Range.{IsInRange, entries_between}
use Rattle.std.specs.Cmp.{IsTotalOrder}
use Rattle.std.specs.Ordering.{nat_cmp}
use Rattle.std.specs.declared.cmp.Ordering.TheVariants.{Less}
use Rattle.std.specs.declared.ops.Bound.{Bound}
use Rattle.std.specs.declared.ops.Bound.TheVariants.{Included}
use Rattle.paging_model.specs.Counting.{IsIn}
use Rattle.paging_model.specs.declared.spaces.TableUse.{TableUse}
use Rattle.frame_index.specs.CountedUses.{AreOrdered, AreThose, IsUnder, Precedes}
use Rattle.frame_index.specs.Records.{AreFiled, LeadsToSlots, frame_cmp, frame_place_of, place_cmp, place_of, record_in, records_in, tables_of, with_table}
use Rattle.frame_index.specs.declared.counted_use.CountedUse.{CountedUse}
use Rattle.frame_index.proofs.Entries.{AreRising, between_is, between_rising, is_between}
use Rattle.frame_index.proofs.Orders.{frame_exact, frame_total, place_exact, place_total}
use Rattle.frame_index.proofs.Ranges.{IsOfLevel, below_from_less, first_of, frame_between, last_of, less_or_rest, level_between, of_frame, of_level}
use Rattle.frame_index.proofs.Slots.{is_in_from_slot, slot_from_is_in}

-- one more table at the end
pub one_more_table : (found : Option CountedUse) (items rest : List TableUse) → items ++ with_table found rest ≡ (items ++ with_table found []) ++ rest
one_more_table None items rest = ap (λ (xs : List TableUse). xs ++ rest) (sym (append-nil items))
one_more_table (Some one) items rest = sym (append_assoc items (one.table ∷ []) rest)

pub ordered_cons : (one : TableUse) (rest : List TableUse) → ((other : TableUse) → IsIn other rest → Precedes one other) → AreOrdered rest → AreOrdered (one ∷ rest)
ordered_cons one [] above ordered = tt
ordered_cons one (two ∷ rest) above ordered = (above two (inl refl), ordered)

pub in_append : (xs ys : List TableUse) (table : TableUse) → IsIn table (xs ++ ys) → (IsIn table xs ⊎ IsIn table ys)
in_append [] ys table is = inr is
in_append (one ∷ xs) ys table (inl same) = inl (inl same)
in_append (one ∷ xs) ys table (inr is) = elim (in_append xs ys table is) [ inl there ↦ inl (inr there) | inr there ↦ inr there ]

pub append_left : (xs ys : List TableUse) (table : TableUse) → IsIn table xs → IsIn table (xs ++ ys)
append_left [] ys table is = absurd is
append_left (one ∷ xs) ys table (inl same) = inl same
append_left (one ∷ xs) ys table (inr is) = inr (append_left xs ys table is)

pub append_right : (xs ys : List TableUse) (table : TableUse) → IsIn table ys → IsIn table (xs ++ ys)
append_right [] ys table is = is
append_right (one ∷ xs) ys table is = inr (append_right xs ys table is)

pub ordered_append : (xs ys : List TableUse) → AreOrdered xs → AreOrdered ys → ((x y : TableUse) → IsIn x xs → IsIn y ys → Precedes x y) → AreOrdered (xs ++ ys)
ordered_append [] ys before after across = after
ordered_append (one ∷ []) ys before after across = ordered_cons one ys (λ y is. across one y (inl refl) is) after
ordered_append (one ∷ two ∷ rest) ys before after across =
    (before.0, ordered_append (two ∷ rest) ys before.1 after (λ x y is_x is_y. across x y (inr is_x) is_y))

after_first : (found : Option CountedUse) (tables : List TableUse) (table : TableUse) → IsIn table tables → IsIn table (with_table found tables)
after_first None tables table is = is
after_first (Some one) tables table is = inr is

module _ {K : Type 0} (slots : List (Option CountedUse)) where
  -- an entry that leads to the record of a table
  pub record IsLed (es : List (K × ℕ)) (table : TableUse) : Type 0 where
    pub entry : K × ℕ
    pub is_in : IsIn entry es
    pub one : CountedUse
    pub is : record_in slots entry.1 ≡ Some one
    pub table_is : one.table ≡ table

  led_at : (found : Option CountedUse) (entry : K × ℕ) (rest : List (K × ℕ)) (table : TableUse) → record_in slots entry.1 ≡ found → (IsIn table (tables_of slots rest) → IsLed rest table) → IsIn table (with_table found (tables_of slots rest)) → IsLed (entry ∷ rest) table
  led_at None entry rest table is deeper is_in = let led = deeper is_in in record { entry = led.entry; is_in = inr led.is_in; one = led.one; is = led.is; table_is = led.table_is }
  led_at (Some one) entry rest table is deeper (inl same) = record { entry = entry; is_in = inl refl; one = one; is = is; table_is = sym same }
  led_at (Some one) entry rest table is deeper (inr there) = let led = deeper there in record { entry = led.entry; is_in = inr led.is_in; one = led.one; is = led.is; table_is = led.table_is }

  pub led : (es : List (K × ℕ)) (table : TableUse) → IsIn table (tables_of slots es) → IsLed es table
  led [] table is = absurd is
  led (entry ∷ rest) table is = led_at (record_in slots entry.1) entry rest table refl (led rest table) is

  pub in_tables : (es : List (K × ℕ)) (entry : K × ℕ) (one : CountedUse) → IsIn entry es → record_in slots entry.1 ≡ Some one → IsIn one.table (tables_of slots es)
  in_tables [] entry one is_in is = is_in
  in_tables (first ∷ rest) entry one (inl same) is =
      subst (λ (found : Option CountedUse). IsIn one.table (with_table found (tables_of slots rest)))
      (sym is ∙ ap (λ (e : K × ℕ). record_in slots e.1) same) (inl refl)
  in_tables (first ∷ rest) entry one (inr is_in) is = after_first (record_in slots first.1) (tables_of slots rest) one.table (in_tables rest entry one is_in is)

  module _ (R : K → K → Ordering) (total : IsTotalOrder R) (exact : CmpEqualImpliesEq R) (key_of : CountedUse → K) (map : BTreeMap K ℕ) (leads : LeadsToSlots R key_of slots map) (ordered : IsOrdered R map) (lo hi : Bound K) where
    -- a record whose key lies between the two
    pub record IsHere (one : CountedUse) : Type 0 where
      pub slot : ℕ
      pub is : record_in slots slot ≡ Some one
      pub within : IsInRange R lo hi (key_of one)

    here : (entry : K × ℕ) → IsIn entry (entries_between R lo hi map.entries) → (one : CountedUse) → record_in slots entry.1 ≡ Some one → IsHere one × (key_of one ≡ entry.0)
    here entry is_in one is =
        let between = between_is R total exact map ordered lo hi entry is_in in
        let found = leads.has entry.0 entry.1 between.1 in
        let is_found = found.1 in
        let same : found.0 ≡ one = cc in
        let key : key_of one ≡ entry.0 = ap key_of (sym same) ∙ found.2 in
        (record { slot = entry.1; is = is; within = subst (λ (k : K). IsInRange R lo hi k) (sym key) between.0 }, key)

    pub were_here : (table : TableUse) → IsIn table (tables_of slots (entries_between R lo hi map.entries)) → (one : CountedUse) × IsHere one × (one.table ≡ table)
    were_here table is =
        let found = led (entries_between R lo hi map.entries) table is in
        (found.one, (here found.entry found.is_in found.one found.is).0, found.table_is)

    pub others_here : (one : CountedUse) → IsIn one (records_in slots) → IsInRange R lo hi (key_of one) → IsIn one.table (tables_of slots (entries_between R lo hi map.entries))
    others_here one is within =
        let found = slot_from_is_in slots one is in
        in_tables (entries_between R lo hi map.entries) (key_of one, found.0) one
        (is_between R total exact map ordered lo hi (key_of one) found.0 (leads.leads found.0 one found.1) within) found.1

    module _ (precede : (x y : CountedUse) → IsHere x → IsHere y → R (key_of x) (key_of y) ≡ Less → Precedes x.table y.table) where
      in_order : (es : List (K × ℕ)) → AreRising R es → ((entry : K × ℕ) → IsIn entry es → IsIn entry (entries_between R lo hi map.entries)) → AreOrdered (tables_of slots es)
      in_order [] rising within = tt
      in_order (first ∷ rest) rising within =
          let between = between_is R total exact map ordered lo hi first (within first (inl refl)) in
          let found = leads.has first.0 first.1 between.1 in
          let at = here first (within first (inl refl)) found.0 found.1 in
          subst (λ (o : Option CountedUse). AreOrdered (with_table o (tables_of slots rest))) (sym found.1)
          (ordered_cons found.0.table (tables_of slots rest)
          (λ table is.
          let next = led rest table is in
          let there = here next.entry (within next.entry (inr next.is_in)) next.one next.is in
          let above = rising.0 next.entry next.is_in in
          let less : R (key_of found.0) (key_of next.one) ≡ Less = ap (λ (k : K). R k (key_of next.one)) at.1 ∙ ap (R first.0) there.1 ∙ above in
          subst (λ (t : TableUse). Precedes found.0.table t) next.table_is (precede found.0 next.one at.0 there.0 less))
          (in_order rest rising.1 (λ entry is. within entry (inr is))))

      pub ordered_here : AreOrdered (tables_of slots (entries_between R lo hi map.entries))
      ordered_here = in_order (entries_between R lo hi map.entries) (between_rising R total exact map ordered lo hi) (λ entry is. is)

-- the tables of some levels, down to one
pub record FoundDown (slots : List (Option CountedUse)) (first last level lower : ℕ) (tables : List TableUse) : Type 0 where
  pub were : (table : TableUse) → IsIn table tables → (one : CountedUse) × IsIn one (records_in slots) × (one.table ≡ table) × IsUnder first last level table × (lower ≤ table.level)
  pub others : (one : CountedUse) → IsIn one (records_in slots) → IsUnder first last level one.table → lower ≤ one.table.level → IsIn one.table tables
  pub ordered : AreOrdered tables

module _ (slots : List (Option CountedUse)) (places : BTreeMap (ℕ × ℕ) ℕ) (frames : BTreeMap (ℕ × (ℕ × ℕ)) ℕ) (pages : ℕ) (filed : AreFiled slots places frames pages) where
  pub those_of_frame : IsOrdered frame_cmp frames → (frame : ℕ) → AreThose (λ (table : TableUse). table.frame ≡ frame) (records_in slots) (tables_of slots (entries_between frame_cmp (first_of frame) (last_of frame) frames.entries))
  those_of_frame ordered frame = record {
    were = λ table is.
        let found = were_here slots frame_cmp frame_total frame_exact frame_place_of frames filed.by_frame ordered (first_of frame) (last_of frame) table is in (
          found.0,
          is_in_from_slot slots found.1.slot found.0 found.1.is,
          found.2,
          ap (λ (t : TableUse). t.frame) (sym found.2) ∙ of_frame frame (frame_place_of found.0) found.1.within,
        );
    others = λ one is same.
        let found = slot_from_is_in slots one is in
        let fits = filed.fits found.0 one found.1 in
        others_here slots frame_cmp frame_total frame_exact frame_place_of frames filed.by_frame ordered (first_of frame) (last_of frame) one is
        (frame_between frame (frame_place_of one) same (omega arith) fits.1);
    ordered = ordered_here slots frame_cmp frame_total frame_exact frame_place_of frames filed.by_frame ordered (first_of frame) (last_of frame)
        (λ x y is_x is_y less.
        let fits_x = (filed.fits is_x.slot x is_x.is).0 in
        let fits_y = (filed.fits is_y.slot y is_y.is).0 in
        let same_x = of_frame frame (frame_place_of x) is_x.within in
        let same_y = of_frame frame (frame_place_of y) is_y.within in
        elim (less_or_rest (place_cmp (frame_place_of x).1 (frame_place_of y).1) x.table.frame y.table.frame less) [
          | inl below ↦ absurd (omega (arith, below, same_x, same_y))
          | inr rest ↦ elim (less_or_rest (nat_cmp x.table.prefix y.table.prefix) (255 - x.table.level) (255 - y.table.level) rest.1) [
            | inl higher ↦ inl (omega (arith, higher))
            | inr last ↦ let level = last.0 in inr (omega (arith, level, fits_x, fits_y), below_from_less x.table.prefix y.table.prefix last.1)
          ]
        ]);
  }

  pub found_down_more : IsOrdered place_cmp places → (first last level lower : ℕ) (tables : List TableUse) → lower + 1 ≤ level → FoundDown slots first last level (lower + 1) tables → FoundDown slots first last level lower (tables ++ tables_of slots (entries_between place_cmp (Included (lower, first)) (Included (lower, last)) places.entries))
  found_down_more ordered first last level lower tables within found =
      let lo : Bound (ℕ × ℕ) = Included (lower, first) in
      let hi : Bound (ℕ × ℕ) = Included (lower, last) in
      let here : List TableUse = tables_of slots (entries_between place_cmp lo hi places.entries) in
      let at : (table : TableUse) → IsIn table here → (one : CountedUse) × IsIn one (records_in slots) × (one.table ≡ table) × IsOfLevel first last lower (table.level, table.prefix) = λ table is.
      let one = were_here slots place_cmp place_total place_exact place_of places filed.by_place ordered lo hi table is in (
        one.0,
        is_in_from_slot slots one.1.slot one.0 one.1.is,
        one.2,
        subst (λ (t : TableUse). IsOfLevel first last lower (t.level, t.prefix)) one.2 (of_level first last lower (place_of one.0) one.1.within),
      ) in
      record {
        were = λ table is. elim (in_append tables here table is) [
          | inl before ↦ let one = found.were table before in let from = one.4 in (one.0, one.1, one.2, one.3, omega (arith, from))
          | inr now ↦
              let one = at table now in
              let level_is = one.3.level_is in
              (one.0, one.1, one.2, record { lower = omega (arith, level_is, within); from = one.3.from; to = one.3.to }, omega (arith, level_is))
        ];
        others = λ one is under from. elim (cases_eq one.table.level lower) [
          | inl same ↦ append_right tables here one.table
              (others_here slots place_cmp place_total place_exact place_of places filed.by_place ordered lo hi one is
              (level_between first last lower (place_of one) same under.from under.to))
          | inr differs ↦ append_left tables here one.table (found.others one is under (omega (arith, from, differs)))
        ];
        ordered = ordered_append tables here found.ordered
            (ordered_here slots place_cmp place_total place_exact place_of places filed.by_place ordered lo hi
            (λ x y is_x is_y less.
            let level_x = (of_level first last lower (place_of x) is_x.within).level_is in
            let level_y = (of_level first last lower (place_of y) is_y.within).level_is in
            elim (less_or_rest (nat_cmp x.table.prefix y.table.prefix) x.table.level y.table.level less) [
              | inl below ↦ absurd (omega (arith, below, level_x, level_y))
              | inr rest ↦ inr (rest.0, below_from_less x.table.prefix y.table.prefix rest.1)
            ]))
            (λ x y is_x is_y.
            let from = (found.were x is_x).4 in
            let level_is = (at y is_y).3.level_is in
            inl (omega (arith, from, level_is)));
      }

  pub those_under : (first last level lower : ℕ) (tables : List TableUse) → FoundDown slots first last level lower tables → ((one : CountedUse) → IsUnder first last level one.table → lower ≤ one.table.level) → AreThose (IsUnder first last level) (records_in slots) tables
  those_under first last level lower tables found all = record {
    were = λ table is. let one = found.were table is in (one.0, one.1, one.2, one.3);
    others = λ one is under. found.others one is under (all one under);
    ordered = found.ordered;
  }
