-- Which table serves an address.
use Rattle.std.proofs.Common.{◌≡◌, ℕ, zero, suc, ◌+◌, ◌-◌, ◌*◌, ◌/◌, ◌%◌, ◌^◌, ◌<◌, ◌≤◌, ◌⊎◌, inl, inr, Bool, true, false, Option, Some, None, refl, sym, ap, ◌∙◌, subst, lit≤, arith}
use Rattle.std.specs.Prelude.{IsTrue, ◌==◌, ◌||◌, if◌then◌else◌, option_map}
use Rattle.std.proofs.lemmas.Bool.{cases_lt}
use Rattle.std.proofs.Math.Nat.{mul-mod_left, div-mul-le_self}
use Rattle.std.proofs.lemmas.Nat.{shr-shr, shl-shr, div-add-mod'}
use Rattle.paging_model.specs.Memory.{Memory, entry_at}
use Rattle.paging_model.specs.LinearAddress.{span, is_canonical}
use Rattle.paging_model.specs.Entries.{entry_of, page_frame, bits_of, protection_key, is_global}
use Rattle.paging_model.specs.Walking.{entry_address, top_level}
use Rattle.paging_model.specs.TableUses.{Reaches, IsPrefix, Serves, IsUse}
use Rattle.paging_model.specs.declared.registers.Settings.{Settings}
use Rattle.paging_model.specs.declared.entries.Bits.{Bits}
use Rattle.paging_model.specs.declared.entries.Entry.TheVariants as entry
use Rattle.paging_model.specs.declared.spaces.TableUse.{TableUse}
use Rattle.paging_laws.specs.ServedAddresses.{IsServedBy, UseFor}
use Rattle.paging_laws.proofs.Reaching.{Arrival, begins, referenced, arrival, Reaches-level, Reaches-same_span, Reaches-top, use_is_one}

never_a_table : (absent reserved : Bool) (page table key : ℕ) (bits own : Bits) (global : Bool)
    → (if absent then entry.Absent else (if reserved then entry.Reserved else entry.Leaf page bits key global)) ≡ entry.Table table own → ⊥
never_a_table true reserved page table key bits own global same = cc
never_a_table false true page table key bits own global same = cc
never_a_table false false page table key bits own global same = cc

-- no entry of level 1 references a table
lowest_maps_pages : (settings : Settings) (value table : ℕ) (own : Bits) → entry_of 1 settings value ≡ entry.Table table own → ⊥
unfolding entry_of
lowest_maps_pages settings value table own same =
    never_a_table _ _ (page_frame 1 value) table (protection_key value) (bits_of value) own (is_global value) same

none_below_the_lowest : (settings : Settings) (value : Option ℕ) (table : ℕ) (own : Bits)
    → option_map (λ number. entry_of 1 settings number) value ≡ Some (entry.Table table own) → ⊥
none_below_the_lowest settings None table own same = cc
none_below_the_lowest settings (Some number) table own same =
    let means : entry_of 1 settings number ≡ entry.Table table own = cc in
    lowest_maps_pages settings number table own means

some_levels : (five_levels : Bool) → 1 ≤ (if five_levels then 5 else 4)
some_levels true = lit≤ tt
some_levels false = lit≤ tt

module _ {memory : Memory} {settings : Settings} {root x : ℕ} where
  arrival-some : (level : ℕ) {table : ℕ} {bits : Bits} → Arrival memory settings root x level table bits → 1 ≤ level
  arrival-some zero (begins top table bits) = let some = some_levels settings.la57 in omega arith
  arrival-some zero (referenced upper above own reached read bits) =
      absurd (none_below_the_lowest settings (entry_at memory (entry_address 1 x upper)) _ own read)
  arrival-some (suc level) came = omega arith

  -- no table has entries of level 0
  pub Reaches-some : {level table : ℕ} {bits : Bits} → Reaches memory settings root level x table bits → 1 ≤ level
  Reaches-some reached = arrival-some _ (arrival reached)

-- the bits above those that are rounded off
rounded_high : (x k i j : ℕ) → k + i ≡ j → x / 2 ^ k * 2 ^ k / 2 ^ j ≡ x / 2 ^ j
rounded_high x k i j is =
    subst (λ (n : ℕ). x / 2 ^ k * 2 ^ k / 2 ^ n ≡ x / 2 ^ n) is
    (sym (shr-shr (x / 2 ^ k * 2 ^ k) k i) ∙ (ap (λ n. n / 2 ^ i) (shl-shr (x / 2 ^ k) k) ∙ shr-shr x k i))

-- an address stays canonical where bits below those that are to be equal are rounded off
canonical_rounded : (five_levels : Bool) (x k : ℕ) → k ≤ (if five_levels then 56 else 47) → IsTrue (is_canonical five_levels x)
    → IsTrue (is_canonical five_levels (x / 2 ^ k * 2 ^ k))
canonical_rounded true x k few canonical =
    subst (λ (n : ℕ). IsTrue (n % 2 ^ 8 == 0 || n % 2 ^ 8 == 2 ^ 8 - 1)) (sym (rounded_high x k (56 - k) 56 (omega arith))) canonical
canonical_rounded false x k few canonical =
    subst (λ (n : ℕ). IsTrue (n % 2 ^ 17 == 0 || n % 2 ^ 17 == 2 ^ 17 - 1)) (sym (rounded_high x k (47 - k) 47 (omega arith))) canonical

few_bits : (five_levels : Bool) (level : ℕ) → level ≤ (if five_levels then 5 else 4) → 12 + 9 * (level - 1) ≤ (if five_levels then 56 else 47)
few_bits true level below = omega arith
few_bits false level below = omega arith

-- the first address of the range of an entry of a level that x lies in
unfoldable pub first_of : ℕ → ℕ → ℕ
first_of level x = x / span level * span level

pub first_of-same : (level x : ℕ) → x / span level ≡ first_of level x / span level
unfolding first_of
first_of-same level x = sym (shl-shr (x / span level) (12 + 9 * (level - 1)))

pub first_of-prefix : (settings : Settings) (level x : ℕ) → level ≤ top_level settings → x < 2 ^ 64
    → IsTrue (is_canonical settings.la57 x) → IsPrefix settings level (first_of level x)
unfolding first_of
first_of-prefix settings level x within below canonical = record {
  below = omega (arith, div-mul-le_self x (span level));
  whole = mul-mod_left (x / span level) (span level);
  canonical = canonical_rounded settings.la57 x (12 + 9 * (level - 1)) (few_bits settings.la57 level within) canonical;
}

module _ {memory : Memory} {settings : Settings} {root : ℕ} where
  -- each table that the walk of a canonical address comes to has a use that serves the address
  pub use_for : (x level table : ℕ) (bits : Bits) → x < 2 ^ 64 → IsTrue (is_canonical settings.la57 x)
      → Reaches memory settings root level x table bits → UseFor memory settings root level x table bits
  use_for x level table bits below canonical reached =
      elim (cases_lt level (top_level settings)) [
        | inl less ↦ record {
          table = record { level = level; prefix = first_of (level + 1) x; frame = table; bits = bits };
          is_use = record {
            serves = inr (Reaches-some reached, less, first_of-prefix settings (level + 1) x (omega arith) below canonical);
            reached = Reaches-same_span reached (first_of-same (level + 1) x);
          };
          served = inr (first_of-same (level + 1) x);
          is_level = refl;
          is_frame = refl;
          is_bits = refl;
        }
        | inr top_or_more ↦
            let top : level ≡ top_level settings = let least = Reaches-level reached in omega arith in
            record {
              table = record { level = level; prefix = 0; frame = table; bits = bits };
              is_use = record { serves = inl (top, refl); reached = Reaches-top top reached };
              served = inl top;
              is_level = refl;
              is_frame = refl;
              is_bits = refl;
            }
      ]

-- the first address of a range is known by any address of it
pub whole_is_one : (one other length : ℕ) → one / length ≡ other / length → one % length ≡ 0 → other % length ≡ 0 → one ≡ other
whole_is_one one other length same is_first is_first' =
    let starts : one / length * length ≡ other / length * length = ap (λ n. n * length) same in
    omega (arith, div-add-mod' one length, div-add-mod' other length)

same_prefix : (settings : Settings) (level one other x : ℕ) → Serves settings level one → Serves settings level other
    → (level ≡ top_level settings) ⊎ (x / span (level + 1) ≡ one / span (level + 1))
    → (level ≡ top_level settings) ⊎ (x / span (level + 1) ≡ other / span (level + 1)) → one ≡ other
same_prefix settings level one other x (inl top) (inl top') served served' = omega (arith, top.1, top'.1)
same_prefix settings level one other x (inl top) (inr lower) served served' = absurd (omega (arith, top.0, lower.1))
same_prefix settings level one other x (inr lower) (inl top) served served' = absurd (omega (arith, top.0, lower.1))
same_prefix settings level one other x (inr lower) (inr lower') (inl top) served' = absurd (omega (arith, lower.1))
same_prefix settings level one other x (inr lower) (inr lower') (inr same) (inl top) = absurd (omega (arith, lower.1))
same_prefix settings level one other x (inr lower) (inr lower') (inr same) (inr same') =
    whole_is_one one other (span (level + 1)) (sym same ∙ same') lower.2.whole lower'.2.whole

-- one table at most of a level serves an address
pub served_by_one : {memory : Memory} {settings : Settings} {root : ℕ} (x : ℕ) (one other : TableUse)
    → IsUse memory settings root one → IsUse memory settings root other → one.level ≡ other.level
    → IsServedBy settings one x → IsServedBy settings other x → one ≡ other
served_by_one {settings = settings} x one other is_one is_other level served served' =
    let serves : Serves settings one.level other.prefix = subst (λ (l : ℕ). Serves settings l other.prefix) (sym level) is_other.serves in
    let within : (one.level ≡ top_level settings) ⊎ (x / span (one.level + 1) ≡ other.prefix / span (one.level + 1)) =
    subst (λ (l : ℕ). (l ≡ top_level settings) ⊎ (x / span (l + 1) ≡ other.prefix / span (l + 1))) (sym level) served' in
    use_is_one one other is_one is_other level (same_prefix settings one.level one.prefix other.prefix x is_one.serves serves served within)
