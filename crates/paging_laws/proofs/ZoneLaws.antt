-- The same accesses reach every address of a zone, and those that share their bits from 47 on.
use Rattle.std.proofs.Common.{◌≡◌, ℕ, ◌+◌, ◌-◌, ◌/◌, ◌%◌, ◌^◌, ◌<◌, ◌≤◌, ◌⊎◌, inl, inr, Bool, true, false, Option, Some, None, ◌&&◌, refl, sym, ap, ◌∙◌, arith}
use Rattle.std.specs.Prelude.{IsTrue, ◌==◌, ◌||◌, not, nat_lt, if◌then◌else◌}
use Rattle.std.proofs.lemmas.Bool.Decides.{nat_tests}
use Rattle.std.proofs.lemmas.Bool.{cases_lt}
use Rattle.std.proofs.lemmas.Nat.{shr-shr}
use Rattle.paging_model.specs.AccessKinds.{is_fetch, is_user}
use Rattle.paging_model.specs.AccessRights.{smap_applies}
use Rattle.paging_model.specs.BitRanges.{bit, field, differs}
use Rattle.paging_model.specs.LinearAddress.{is_canonical}
use Rattle.paging_model.specs.Pointers.{address_of, is_masked, is_upper, lass_refuses, mask_width, number_if, reaches}
use Rattle.paging_model.specs.Registers.{la57, lass, lam_sup, lam_u57, lam_u48}
use Rattle.paging_model.specs.declared.registers.Regs.{Regs}
use Rattle.paging_model.specs.declared.access.Access.{Access}
use Rattle.paging_laws.specs.ReachedAddresses.{AreOfOneZone, is_same}
use Rattle.paging_laws.proofs.ReachLaws.{reaches_is}

same_test : (n x : ℕ) → n ≡ x → (n == x) ≡ true
same_test n x is = grind (arith, nat_tests)

other_test : (n x : ℕ) → (n ≡ x → ⊥) → (n == x) ≡ false
other_test n x isnt = grind (arith, nat_tests)

-- masking leaves the address as it is
abbrev fits : ℕ → ℕ → Bool
fits width x = is_same (address_of (Some width) x) x

fits-by : (width x : ℕ) (b c : Bool) → bit x 63 ≡ b → bit x (width - 1) ≡ c
    → fits width x ≡ is_same (if differs b c then None else Some (field x (width - 1) 0 + number_if c (2 ^ 63 - 2 ^ width) + number_if b (2 ^ 63))) x
fits-by width x b c upper top = rw (upper, top) refl

fits48-low : (x : ℕ) → x < 2 ^ 47 → fits 48 x ≡ true
fits48-low x h =
    fits-by 48 x false false (other_test (x / 2 ^ 63 % 2) 1 (λ e. absurd (omega arith))) (other_test (x / 2 ^ 47 % 2) 1 (λ e. absurd (omega arith)))
    ∙ same_test (field x 47 0 + 0 + 0) x (omega arith)

fits48-high : (x : ℕ) → 2 ^ 64 - 2 ^ 47 ≤ x → x < 2 ^ 64 → fits 48 x ≡ true
fits48-high x h k =
    fits-by 48 x true true (same_test (x / 2 ^ 63 % 2) 1 (omega arith)) (same_test (x / 2 ^ 47 % 2) 1 (omega arith))
    ∙ same_test (field x 47 0 + (2 ^ 63 - 2 ^ 48) + 2 ^ 63) x (omega arith)

fits57-low : (x : ℕ) → x < 2 ^ 56 → fits 57 x ≡ true
fits57-low x h =
    fits-by 57 x false false (other_test (x / 2 ^ 63 % 2) 1 (λ e. absurd (omega arith))) (other_test (x / 2 ^ 56 % 2) 1 (λ e. absurd (omega arith)))
    ∙ same_test (field x 56 0 + 0 + 0) x (omega arith)

fits57-high : (x : ℕ) → 2 ^ 64 - 2 ^ 56 ≤ x → x < 2 ^ 64 → fits 57 x ≡ true
fits57-high x h k =
    fits-by 57 x true true (same_test (x / 2 ^ 63 % 2) 1 (omega arith)) (same_test (x / 2 ^ 56 % 2) 1 (omega arith))
    ∙ same_test (field x 56 0 + (2 ^ 63 - 2 ^ 57) + 2 ^ 63) x (omega arith)

-- in the lower half from 2 ^ 47 on
fits48-middle : (x : ℕ) → 2 ^ 47 ≤ x → x < 2 ^ 63 → fits 48 x ≡ false
fits48-middle x h k = elim (cases_lt (x / 2 ^ 47 % 2) 1) [
  | inl none ↦
      fits-by 48 x false false (other_test (x / 2 ^ 63 % 2) 1 (λ e. absurd (omega arith))) (other_test (x / 2 ^ 47 % 2) 1 (λ e. absurd (omega arith)))
      ∙ other_test (field x 47 0 + 0 + 0) x (λ e. omega arith)
  | inr some ↦
      fits-by 48 x false true (other_test (x / 2 ^ 63 % 2) 1 (λ e. absurd (omega arith))) (same_test (x / 2 ^ 47 % 2) 1 (omega arith))
]

-- LASS goes by the half
abbrev lass-by : Regs → Access → Bool → Bool
lass-by regs access upper = if is_user access then upper else not upper && (is_fetch access || smap_applies regs access)

lass-half : (regs : Regs) (access : Access) (x y : ℕ) → is_upper x ≡ is_upper y → lass_refuses regs access x ≡ lass_refuses regs access y
lass-half regs access x y half = ap (lass-by regs access) half

one_of : (n all : ℕ) → IsTrue (n == 0 || n == all) → ((n ≡ 0) ⊎ (n ≡ all))
one_of n all is = elim (cases_lt 0 n) [
  | inl some ↦ inr (grind (arith, nat_tests))
  | inr none ↦ inl (omega arith)
]

one_is : (n : ℕ) → (n == 1) ≡ true → n ≡ 1
one_is n is = grind (arith, nat_tests)

not_one : (n : ℕ) → (n == 1) ≡ false → n < 2 → n ≡ 0
not_one n isnt few = grind (arith, nat_tests)

-- how far each half goes
high57 : (x : ℕ) → x < 2 ^ 64 → IsTrue (is_canonical true x) → is_upper x ≡ true → 2 ^ 64 - 2 ^ 56 ≤ x
high57 x below canonical upper =
    let bit_is : x / 2 ^ 63 % 2 ≡ 1 = one_is (x / 2 ^ 63 % 2) upper in
    elim (one_of (x / 2 ^ 56 % 2 ^ 8) (2 ^ 8 - 1) canonical) [ inl none ↦ omega arith | inr all ↦ omega arith ]

high48 : (x : ℕ) → x < 2 ^ 64 → IsTrue (is_canonical false x) → is_upper x ≡ true → 2 ^ 64 - 2 ^ 47 ≤ x
high48 x below canonical upper =
    let bit_is : x / 2 ^ 63 % 2 ≡ 1 = one_is (x / 2 ^ 63 % 2) upper in
    elim (one_of (x / 2 ^ 47 % 2 ^ 17) (2 ^ 17 - 1) canonical) [ inl none ↦ omega arith | inr all ↦ omega arith ]

low57 : (five : Bool) (x : ℕ) → x < 2 ^ 64 → IsTrue (is_canonical five x) → is_upper x ≡ false → x < 2 ^ 56
low57 true x below canonical lower =
    let bit_is : x / 2 ^ 63 % 2 ≡ 0 = not_one (x / 2 ^ 63 % 2) lower (omega arith) in
    elim (one_of (x / 2 ^ 56 % 2 ^ 8) (2 ^ 8 - 1) canonical) [ inl none ↦ omega arith | inr all ↦ omega arith ]
low57 false x below canonical lower =
    let bit_is : x / 2 ^ 63 % 2 ≡ 0 = not_one (x / 2 ^ 63 % 2) lower (omega arith) in
    elim (one_of (x / 2 ^ 47 % 2 ^ 17) (2 ^ 17 - 1) canonical) [ inl none ↦ omega arith | inr all ↦ omega arith ]

low63 : (x : ℕ) → x < 2 ^ 64 → is_upper x ≡ false → x < 2 ^ 63
low63 x below lower = let bit_is : x / 2 ^ 63 % 2 ≡ 0 = not_one (x / 2 ^ 63 % 2) lower (omega arith) in omega arith

lt_is : (x n : ℕ) → nat_lt x n ≡ true → x < n
lt_is x n is = grind (arith, nat_tests)

lt_not : (x n : ℕ) → nat_lt x n ≡ false → n ≤ x
lt_not x n is = grind (arith, nat_tests)

-- whether an address below 2 ^ 63 fits 48 bits
fits48-lower : (b : Bool) (x : ℕ) → nat_lt x (2 ^ 47) ≡ b → x < 2 ^ 63 → fits 48 x ≡ b
fits48-lower true x low half = fits48-low x (lt_is x (2 ^ 47) low)
fits48-lower false x low half = fits48-middle x (lt_not x (2 ^ 47) low) half

-- the width, by the half
abbrev width_by : Bool → Bool → Bool → Bool → Bool → Bool → Option ℕ
width_by is_masked upper sup u57 u48 five =
    if not is_masked then None else
    (if upper then (if sup then Some (if five then 57 else 48) else None) else (if u57 then Some 57 else (if u48 then Some 48 else None)))

kept-by : (is_masked upper sup u57 u48 five low : Bool) (x : ℕ) → is_upper x ≡ upper → x < 2 ^ 64 → IsTrue (is_canonical five x) → nat_lt x (2 ^ 47) ≡ low
    → is_same (address_of (width_by is_masked upper sup u57 u48 five) x) x ≡ (not is_masked || upper || u57 || not u48 || low)
kept-by false upper sup u57 u48 five low x half below canonical is = same_test x x refl
kept-by true true false u57 u48 five low x half below canonical is = same_test x x refl
kept-by true true true u57 u48 true low x half below canonical is = fits57-high x (high57 x below canonical half) below
kept-by true true true u57 u48 false low x half below canonical is = fits48-high x (high48 x below canonical half) below
kept-by true false sup true u48 five low x half below canonical is = fits57-low x (low57 five x below canonical half)
kept-by true false sup false true five low x half below canonical is = fits48-lower low x is (low63 x below half)
kept-by true false sup false false five low x half below canonical is = same_test x x refl

both : (a b p q r s : Bool) → IsTrue a → IsTrue b → p ≡ q → r ≡ s → ((a && p) && r) ≡ ((b && q) && s)
both a b p q r s one other kept lass_is = ap (λ (it : Bool). (it && p) && r) (one ∙ sym other) ∙ (ap (λ (it : Bool). (b && it) && r) kept ∙ ap (λ (it : Bool). (b && q) && it) lass_is)

module _ (regs : Regs) (access : Access) where
  kept-is : (x : ℕ) → x < 2 ^ 64 → IsTrue (is_canonical (la57 regs) x)
      → is_same (address_of (mask_width regs access x) x) x ≡ (not (is_masked access) || is_upper x || lam_u57 regs || not (lam_u48 regs) || nat_lt x (2 ^ 47))
  kept-is x below canonical =
      kept-by (is_masked access) (is_upper x) (lam_sup regs) (lam_u57 regs) (lam_u48 regs) (la57 regs) (nat_lt x (2 ^ 47)) x refl below canonical refl

  -- the same accesses reach the addresses of a zone
  pub reaches-zone : (x y : ℕ) → AreOfOneZone (la57 regs) x y → reaches regs access x ≡ reaches regs access y
  reaches-zone x y zone =
      reaches_is regs x access
      ∙ (both (is_canonical (la57 regs) x) (is_canonical (la57 regs) y) _ _ _ _ zone.canonical zone.other_canonical
      (kept-is x zone.below zone.canonical
      ∙ (ap (λ (b : Bool). not (is_masked access) || b || lam_u57 regs || not (lam_u48 regs) || nat_lt x (2 ^ 47)) zone.half
      ∙ (ap (λ (b : Bool). not (is_masked access) || is_upper y || lam_u57 regs || not (lam_u48 regs) || b) zone.low
      ∙ sym (kept-is y zone.other_below zone.other_canonical))))
      (ap (λ (b : Bool). not (lass regs && b)) (lass-half regs access x y zone.half))
      ∙ sym (reaches_is regs y access))

lt_true : (a b : ℕ) → a < b → nat_lt a b ≡ true
lt_true a b less = grind (arith, nat_tests)

lt_false : (a b : ℕ) → b ≤ a → nat_lt a b ≡ false
lt_false a b more = grind (arith, nat_tests)

upper_true : (x : ℕ) → 2 ^ 63 ≤ x → x < 2 ^ 64 → is_upper x ≡ true
upper_true x from below = same_test (x / 2 ^ 63 % 2) 1 (omega arith)

upper_false : (x : ℕ) → x < 2 ^ 63 → is_upper x ≡ false
upper_false x below = other_test (x / 2 ^ 63 % 2) 1 (λ e. absurd (omega arith))

-- no canonical address is where the halves would meet
never_between : (five : Bool) → IsTrue (is_canonical five (2 ^ 63)) → ⊥
never_between true canonical = cc
never_between false canonical = cc

-- a range of canonical addresses that doesn't go across 2 ^ 47 is of one zone
pub range-zone : (five : Bool) (first last x : ℕ) → ((y : ℕ) → first ≤ y → y ≤ last → IsTrue (is_canonical five y)) → last < 2 ^ 64
    → (first < 2 ^ 47 → last < 2 ^ 47) → first ≤ x → x ≤ last → AreOfOneZone five first x
range-zone five first last x canonical ends side from to = record {
  below = omega arith;
  other_below = omega arith;
  canonical = canonical first (omega arith) (omega arith);
  other_canonical = canonical x from to;
  half = elim (cases_lt x (2 ^ 63)) [
    | inl low ↦ upper_false first (omega arith) ∙ sym (upper_false x low)
    | inr high ↦ elim (cases_lt first (2 ^ 63)) [
      | inl low ↦ absurd (never_between five (canonical (2 ^ 63) (omega arith) (omega arith)))
      | inr up ↦ upper_true first up (omega arith) ∙ sym (upper_true x high (omega arith))
    ]
  ];
  low = elim (cases_lt first (2 ^ 47)) [
    | inl low ↦ lt_true first (2 ^ 47) low ∙ sym (lt_true x (2 ^ 47) (let h = side low in omega arith))
    | inr high ↦ lt_false first (2 ^ 47) high ∙ sym (lt_false x (2 ^ 47) (omega arith))
  ];
}

shifted : (x y k : ℕ) → x / 2 ^ 47 ≡ y / 2 ^ 47 → x / 2 ^ (47 + k) ≡ y / 2 ^ (47 + k)
shifted x y k h = sym (shr-shr x 47 k) ∙ (ap (λ n. n / 2 ^ k) h ∙ shr-shr y 47 k)

upper-same : (x y : ℕ) → x / 2 ^ 47 ≡ y / 2 ^ 47 → is_upper x ≡ is_upper y
upper-same x y h = ap (λ n. n % 2 == 1) (shifted x y 16 h)

canonical-same : (five_levels : Bool) (x y : ℕ) → x / 2 ^ 47 ≡ y / 2 ^ 47 → is_canonical five_levels x ≡ is_canonical five_levels y
canonical-same true x y h = ap (λ n. n % 2 ^ 8 == 0 || n % 2 ^ 8 == 2 ^ 8 - 1) (shifted x y 9 h)
canonical-same false x y h = ap (λ n. n % 2 ^ 17 == 0 || n % 2 ^ 17 == 2 ^ 17 - 1) h

low-same : (x y : ℕ) → x / 2 ^ 47 ≡ y / 2 ^ 47 → nat_lt x (2 ^ 47) ≡ nat_lt y (2 ^ 47)
low-same x y h = by_test (nat_lt x (2 ^ 47)) refl
  where
    by_test : (b : Bool) → nat_lt x (2 ^ 47) ≡ b → nat_lt x (2 ^ 47) ≡ nat_lt y (2 ^ 47)
    by_test true e = let less : x < 2 ^ 47 = grind (arith, nat_tests, e) in e ∙ (let other : y < 2 ^ 47 = omega arith in let is : nat_lt y (2 ^ 47) ≡ true = grind (arith, nat_tests, other) in sym is)
    by_test false e = let more : 2 ^ 47 ≤ x = grind (arith, nat_tests, e) in e ∙ (let other : 2 ^ 47 ≤ y = omega arith in let is : nat_lt y (2 ^ 47) ≡ false = grind (arith, nat_tests, other) in sym is)

-- no access reaches an address that isn't canonical
unreached : (known : Regs) (access : Access) (x : ℕ) → is_canonical (la57 known) x ≡ false → reaches known access x ≡ false
unreached known access x no_page =
    reaches_is known x access
    ∙ ap (λ (c : Bool). (c && is_same (address_of (mask_width known access x) x) x) && not (lass known && lass_refuses known access x)) no_page

-- addresses that share their bits from 47 on are reached by the same accesses
pub reaches-same : (known : Regs) (access : Access) (x y : ℕ) → x < 2 ^ 64 → x / 2 ^ 47 ≡ y / 2 ^ 47 → reaches known access x ≡ reaches known access y
reaches-same known access x y below h = by_test (is_canonical (la57 known) x) refl
  where
    other_canonical : is_canonical (la57 known) y ≡ is_canonical (la57 known) x
    other_canonical = sym (canonical-same (la57 known) x y h)

    by_test : (b : Bool) → is_canonical (la57 known) x ≡ b → reaches known access x ≡ reaches known access y
    by_test true e = reaches-zone known access x y (record {
      below = below;
      other_below = omega arith;
      canonical = e;
      other_canonical = other_canonical ∙ e;
      half = upper-same x y h;
      low = low-same x y h;
    })
    by_test false e = unreached known access x e ∙ sym (unreached known access y (other_canonical ∙ e))
