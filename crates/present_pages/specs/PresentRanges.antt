-- What the present tables make of a range of addresses that one entry serves.
-- SDM 3A, "4-Level Paging and 5-Level Paging".
use Rattle.std.specs.Prelude.{◌≡◌, ℕ, ◌+◌, ◌-◌, ◌%◌, ◌^◌, ◌<◌, ◌≤◌, Option, Some, None}
use Rattle.std.proofs.Props.{props}
use Rattle.paging_model.specs.LinearAddress.{span}
use Rattle.paging_model.specs.Memory.{Memory}
use Rattle.paging_model.specs.Translations.{Target, Protection, raw_target_of}
use Rattle.paging_model.specs.Walking.{walk_from}
use Rattle.paging_model.specs.declared.registers.Settings.{Settings}
use Rattle.audit_laws.specs.AlikePages.{target_within}
use Rattle.present_pages.specs.declared.ranges.PresentPage.{PresentPage}
use Rattle.present_pages.specs.declared.ranges.PresentRange.{PresentRange}
use Rattle.present_pages.specs.declared.ranges.There.{There}
use Rattle.present_pages.specs.declared.ranges.There.TheVariants as there

-- where a page goes, and its protection
abbrev pub mapping_of : PresentPage → Target Protection
mapping_of page = record { frame = page.frame; kind = record { bits = page.bits; key = page.key } }

-- what an address of the range of an entry of a level, from its first address on, is mapped to
abbrev pub maps : Memory → Settings → ℕ → ℕ → There → ℕ → Option (Target Protection)
maps memory settings level first there.Nothing x = None
maps memory settings level first (there.Page page) x = target_within (Some (mapping_of page)) first x
maps memory settings level first (there.Table frame bits) x =
    raw_target_of (walk_from memory settings (level - 1) x frame bits)

-- a page lies below the greatest physical width to its end, and a table is of a level and whole
abbrev pub IsThere : ℕ → There → Type 0
IsThere level there.Nothing = Unit {0}
IsThere level (there.Page page) = (page.frame + span level ≤ 2 ^ 52) × (page.key < 16)
IsThere level (there.Table frame bits) = (2 ≤ level) × (frame % 4096 ≡ 0) × (frame < 2 ^ 52)

-- for ghost fields: there is one proof of it at most
pub is_there-prop : (level : ℕ) (at : There) → IsProp (IsThere level at)
is_there-prop level there.Nothing = Prim.hlevel props
is_there-prop level (there.Page page) = Prim.hlevel props
is_there-prop level (there.Table frame bits) = Prim.hlevel props

-- the range of an entry, from a multiple of its length on, and what the present tables make of it
pub record IsPresentRange (range : PresentRange) : Type 0 where
  pub least : 1 ≤ range.level
  pub whole : range.first % span range.level ≡ 0
  pub ends : range.first + span range.level ≤ 2 ^ 64
  pub there : IsThere range.level range.there
