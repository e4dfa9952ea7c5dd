-- The tables and the pages among the parts of a space.
use Rattle.std.proofs.Common.{◌≡◌, inl, inr, List, [], ◌∷◌, ap}
use Rattle.std.specs.Prelude.{filter_map}
use Rattle.paging_model.specs.Counting.{IsIn, AreDistinct, AreAll}
use Rattle.paging_model.specs.TableUses.{Leaf}
use Rattle.paging_model.specs.declared.spaces.TableUse.{TableUse}
use Rattle.paging_laws.specs.SpaceParts.{SpacePart, a_table, a_page, use_of_part, leaf_of_part}

pub in-tables : (parts : List SpacePart) (one : TableUse) → IsIn one (filter_map use_of_part parts) → IsIn (a_table one) parts
in-tables [] one is = absurd is
in-tables (a_table other ∷ rest) one (inl same) = inl (ap a_table same)
in-tables (a_table other ∷ rest) one (inr is) = inr (in-tables rest one is)
in-tables (a_page leaf ∷ rest) one is = inr (in-tables rest one is)

pub tables-in : (parts : List SpacePart) (one : TableUse) → IsIn (a_table one) parts → IsIn one (filter_map use_of_part parts)
tables-in [] one is = absurd is
tables-in (a_table other ∷ rest) one (inl same) = inl (let uses : one ≡ other = cc in uses)
tables-in (a_table other ∷ rest) one (inr is) = inr (tables-in rest one is)
tables-in (a_page leaf ∷ rest) one (inl same) = absurd cc
tables-in (a_page leaf ∷ rest) one (inr is) = tables-in rest one is

pub distinct-tables : (parts : List SpacePart) → AreDistinct parts → AreDistinct (filter_map use_of_part parts)
distinct-tables [] distinct = tt
distinct-tables (a_table one ∷ rest) distinct = (λ is. distinct.0 (in-tables rest one is), distinct-tables rest distinct.1)
distinct-tables (a_page leaf ∷ rest) distinct = distinct-tables rest distinct.1

pub in-pages : (parts : List SpacePart) (one : Leaf) → IsIn one (filter_map leaf_of_part parts) → IsIn (a_page one) parts
in-pages [] one is = absurd is
in-pages (a_page other ∷ rest) one (inl same) = inl (ap a_page same)
in-pages (a_page other ∷ rest) one (inr is) = inr (in-pages rest one is)
in-pages (a_table table ∷ rest) one is = inr (in-pages rest one is)

pub pages-in : (parts : List SpacePart) (one : Leaf) → IsIn (a_page one) parts → IsIn one (filter_map leaf_of_part parts)
pages-in [] one is = absurd is
pages-in (a_page other ∷ rest) one (inl same) = inl (let leaves : one ≡ other = cc in leaves)
pages-in (a_page other ∷ rest) one (inr is) = inr (pages-in rest one is)
pages-in (a_table table ∷ rest) one (inl same) = absurd cc
pages-in (a_table table ∷ rest) one (inr is) = pages-in rest one is

pub distinct-pages : (parts : List SpacePart) → AreDistinct parts → AreDistinct (filter_map leaf_of_part parts)
distinct-pages [] distinct = tt
distinct-pages (a_page one ∷ rest) distinct = (λ is. distinct.0 (in-pages rest one is), distinct-pages rest distinct.1)
distinct-pages (a_table table ∷ rest) distinct = distinct-pages rest distinct.1

module _ {Has : SpacePart → Type 0} (parts : List SpacePart) (all : AreAll Has parts) where
  -- where the parts are all that have a property, so are the tables and the pages
  pub all-tables : AreAll (λ (one : TableUse). Has (a_table one)) (filter_map use_of_part parts)
  all-tables = record {
    some = record {
      have = λ one is. all.some.have (a_table one) (in-tables parts one is);
      distinct = distinct-tables parts all.some.distinct;
    };
    all = λ one has. tables-in parts one (all.all (a_table one) has);
  }

  pub all-pages : AreAll (λ (one : Leaf). Has (a_page one)) (filter_map leaf_of_part parts)
  all-pages = record {
    some = record {
      have = λ one is. all.some.have (a_page one) (in-pages parts one is);
      distinct = distinct-pages parts all.some.distinct;
    };
    all = λ one has. pages-in parts one (all.all (a_page one) has);
  }
