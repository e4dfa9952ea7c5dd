-- The pages of a range at which a held translation exceeds what the present tables map them to.
-- SDM 3A, "Propagation of Paging-Structure Changes to Multiple Processors".
use Rattle.std.specs.Prelude.{◌≡◌, ℕ, ◌+◌, ◌%◌, ◌^◌, ◌<◌, ◌≤◌, true, false, Option, Some, None}
use Rattle.paging_model.specs.LinearAddress.{span}
use Rattle.paging_model.specs.Translations.{Target, Protection, granted_target}
use Rattle.paging_model.specs.declared.registers.Regs.{Regs}
use Rattle.history_model.specs.CachedTranslations.{Held, frame_at}
use Rattle.history_model.specs.StaleTranslations.{Exceeds, excess_over, held_target}
use Rattle.audit_laws.specs.declared.stale_pages.StalePage.{StalePage}
use Rattle.present_pages.specs.declared.stale_pages.HeldPage.{HeldPage}

-- a page of 4 KBytes, 2 MBytes or 1 GByte, to its end below the greatest physical width
pub record IsHeldPage (held : HeldPage) : Type 0 where
  pub least : 1 ≤ held.level
  pub most : held.level ≤ 3
  pub ends : held.frame + span held.level ≤ 2 ^ 52
  pub key : held.key < 16

-- what is held of the entry of a page; whether it is global doesn't matter to what it grants
abbrev pub translation_of : HeldPage → Held
translation_of page = record { leaf = true; frame = page.frame; bits = page.bits; key = page.key; global = false }

-- where a held page takes an address, and what it grants there
abbrev pub held_page_target : Regs → HeldPage → ℕ → Target ℕ
held_page_target regs held x = held_target regs held.level x (translation_of held)

-- a held page exceeds what an address is mapped to at present
abbrev pub ExceedsAt : Regs → HeldPage → Option (Target Protection) → ℕ → Type 0
ExceedsAt regs held there x = Exceeds (granted_target regs x there) (held_page_target regs held x)

-- a page at which it does, with the frame to which the held page takes it and the excess
pub record IsExcess (regs : Regs) (held : HeldPage) (there : Option (Target Protection)) (one : StalePage) : Type 0 where
  pub exceeds : ExceedsAt regs held there one.page
  pub frame : one.frame ≡ frame_at held.level one.page (translation_of held)
  pub excess : one.excess ≡ excess_over (granted_target regs one.page there) (held_page_target regs held one.page)

-- whether it does at one page
abbrev pub IsExcessAt : Regs → HeldPage → Option (Target Protection) → ℕ → Option StalePage → Type 0
IsExcessAt regs held there x None = ExceedsAt regs held there x → ⊥
IsExcessAt regs held there x (Some one) = (one.page ≡ x) × IsExcess regs held there one

-- a 4-KByte page from one address on and before another
pub record IsPageIn (from end page : ℕ) : Type 0 where
  pub least : from ≤ page
  pub below : page < end
  pub aligned : page % 4096 ≡ 0

-- a page of these at which a held page exceeds what the present tables map it to
pub record IsStaleIn (regs : Regs) (held : HeldPage) (mapped : ℕ → Option (Target Protection)) (from end : ℕ) (one : StalePage) : Type 0 where
  pub page : IsPageIn from end one.page
  pub excess : IsExcess regs held (mapped one.page) one
