-- The entry of a slot, for each address that it serves.
use Rattle.std.proofs.Common.{◌≡◌, ℕ, ◌+◌, ◌-◌, ◌*◌, ◌/◌, ◌%◌, ◌^◌, ◌<◌, ◌≤◌, Bool, Option, Some, None, sym, ap, ◌∙◌, arith}
use Rattle.std.proofs.lemmas.Nat.{div-mul-add, div-add-mod', pow_pos}
use Rattle.std.proofs.Math.Pow.{mod-mod-pow}
use Rattle.paging_model.proofs.WalkSteps.{walk_from-unknown, walk_from-entry}
use Rattle.paging_model.specs.LinearAddress.{span}
use Rattle.paging_model.specs.Memory.{Memory, entry_at}
use Rattle.paging_model.specs.Entries.{entry_of, joined_bits}
use Rattle.paging_model.specs.Translations.{Target, Protection, raw_target_of}
use Rattle.paging_model.specs.Walking.{at_entry, entry_address, own_frame, walk_from}
use Rattle.paging_model.specs.declared.entries.Bits.{Bits}
use Rattle.paging_model.specs.declared.entries.Entry.{Entry}
use Rattle.paging_model.specs.declared.entries.Entry.TheVariants as entry
use Rattle.paging_model.specs.declared.registers.Settings.{Settings}

-- an address of a range whose length divides its first address
pub same-quotient : (s first x : ℕ) → 0 < s → first % s ≡ 0 → first ≤ x → x < first + s → x / s ≡ first / s
same-quotient s first x some whole low high =
    let e : first / s * s ≡ first = let d = div-add-mod' first s in omega (arith, d, whole) in
    let x_is : x ≡ first / s * s + (x - first) = omega (arith, e) in
    ap (λ n. n / s) x_is ∙ div-mul-add (first / s) s (x - first) (omega arith)

same-entry : (level table first x place : ℕ) → first % span level ≡ 0 → first ≤ x → x < first + span level → place ≡ entry_address level first table → place ≡ entry_address level x table
same-entry level table first x place whole low high place_is =
    place_is ∙ ap (λ q. table + 8 * (q % 512)) (sym (same-quotient (span level) first x (pow_pos (12 + 9 * (level - 1))) whole low high))

own-frame : (level frame first x : ℕ) → first % span level ≡ 0 → first ≤ x → x < first + span level → x % 4096 ≡ 0 → own_frame level x frame ≡ frame + (x - first)
own-frame level frame first x whole low high aligned =
    let some : 0 < span level = pow_pos (12 + 9 * (level - 1)) in
    let q = same-quotient (span level) first x some whole low high in
    let e : first / span level * span level ≡ first = let d = div-add-mod' first (span level) in omega (arith, d, whole) in
    let d = div-add-mod' x (span level) in
    let qs : x / span level * span level ≡ first / span level * span level = ap (λ n. n * span level) q in
    let rest : x % span level ≡ x - first = omega (arith, d, qs, e) in
    let k : 12 + 9 * (level - 1) ≡ 9 * (level - 1) + 12 = omega arith in
    let page : x % span level % 4096 ≡ 0 = ap (λ n. x % 2 ^ n % 4096) k ∙ (mod-mod-pow x (9 * (level - 1)) 12 ∙ aligned) in
    let multiple : x % span level / 4096 * 4096 ≡ x % span level = by_pages (x % span level) page in
    ap (λ n. frame + n) (multiple ∙ rest)
  where
    by_pages : (n : ℕ) → n % 4096 ≡ 0 → n / 4096 * 4096 ≡ n
    by_pages n h = omega arith

abbrev page_at : ℕ → Bits → ℕ → Option (Target Protection)
page_at frame bits key = Some (record { frame = frame; kind = record { bits = bits; key = key } })

module _ (memory : Memory) (settings : Settings) (level table : ℕ) (bits : Bits) (first place x : ℕ) (some : 0 < level) (whole : first % span level ≡ 0) (low : first ≤ x) (high : x < first + span level) (place_is : place ≡ entry_address level first table) where
  pub slot-unknown : None ≡ entry_at memory place → None ≡ raw_target_of (walk_from memory settings level x table bits)
  slot-unknown read =
      sym (ap raw_target_of (walk_from-unknown memory settings x level table bits place some (same-entry level table first x place whole low high place_is) read))

  pub slot-entry : (value : ℕ) (meaning : Entry) → Some value ≡ entry_at memory place → meaning ≡ entry_of level settings value
      → raw_target_of (at_entry (λ frame above. walk_from memory settings (level - 1) x frame above) level x bits meaning)
      ≡ raw_target_of (walk_from memory settings level x table bits)
  slot-entry value meaning read means =
      sym (ap raw_target_of (walk_from-entry memory settings x level table bits place value meaning some (same-entry level table first x place whole low high place_is) read means))

  pub slot-page : (value frame key : ℕ) (below : Bits) (global : Bool) → x % 4096 ≡ 0 → Some value ≡ entry_at memory place
      → entry.Leaf frame below key global ≡ entry_of level settings value
      → page_at (frame + (x - first)) (joined_bits bits below) key ≡ raw_target_of (walk_from memory settings level x table bits)
  slot-page value frame key below global aligned read means =
      ap (λ n. page_at n (joined_bits bits below) key) (sym (own-frame level frame first x whole low high aligned))
      ∙ slot-entry value (entry.Leaf frame below key global) read means
