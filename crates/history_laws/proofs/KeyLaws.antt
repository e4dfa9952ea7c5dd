-- Keys of spaces are compared by value.
use Rattle.std.proofs.Common.{◌≡◌, ℕ, ◌≤◌, Bool, true, false, ◌&&◌, refl, ap, ◌∙◌, subst}
use Rattle.std.proofs.Math.Bridge.{le_prop}
use Rattle.std.proofs.lemmas.Bool.{and_parts, eq-eqb, eqb-true}
use Rattle.std.specs.Prelude.{◌==◌, ◌↔◌, not}
use Rattle.paging_model.specs.BitRanges.{differs}
use Rattle.paging_model.specs.declared.registers.Settings.{Settings}
use Rattle.paging_model.specs.declared.spaces.SpaceKey.{SpaceKey}
use Rattle.history_model.specs.KeptSpaces.{same_key, same_settings}

abbrev settings_with : (m : ℕ) (big la57 nxe : Bool) → 32 ≤ m → m ≤ 52 → Settings
settings_with m big la57 nxe least most = record { m = m; big = big; la57 = la57; nxe = nxe; least = least; most = most }

-- that the width is within its limits has one proof
same_width : (m m' : ℕ) (big la57 nxe : Bool) → m ≡ m' → (least : 32 ≤ m) (most : m ≤ 52) (least' : 32 ≤ m') (most' : m' ≤ 52)
    → settings_with m big la57 nxe least most ≡ settings_with m' big la57 nxe least' most'
same_width m m' big la57 nxe same least most =
    subst (λ (n : ℕ). (least' : 32 ≤ n) (most' : n ≤ 52) → settings_with m big la57 nxe least most ≡ settings_with n big la57 nxe least' most') same
    (λ least' most'. ap (λ one. settings_with m big la57 nxe one most) (le_prop least least') ∙ ap (settings_with m big la57 nxe least') (le_prop most most'))

settings_are_one : (one other : Settings) → one.m ≡ other.m → one.big ≡ other.big → one.la57 ≡ other.la57 → one.nxe ≡ other.nxe → one ≡ other
settings_are_one one other m big la57 nxe =
    ap (λ (b : Bool). settings_with one.m b one.la57 one.nxe one.least one.most) big
    ∙ (ap (λ (b : Bool). settings_with one.m other.big b one.nxe one.least one.most) la57
    ∙ (ap (λ (b : Bool). settings_with one.m other.big other.la57 b one.least one.most) nxe
    ∙ same_width one.m other.m other.big other.la57 other.nxe m one.least one.most other.least other.most))

same_bit : (one other : Bool) → not (differs one other) ≡ true → one ≡ other
same_bit true true h = refl
same_bit true false h = absurd (cc)
same_bit false true h = absurd (cc)
same_bit false false h = refl

same_bit-self : (one : Bool) → not (differs one one) ≡ true
same_bit-self true = refl
same_bit-self false = refl

same_settings-one : (one other : Settings) → same_settings one other ≡ true → one ≡ other
same_settings-one one other h =
    let nxe = and_parts (one.m == other.m && not (differs one.big other.big) && not (differs one.la57 other.la57)) (not (differs one.nxe other.nxe)) h in
    let la57 = and_parts (one.m == other.m && not (differs one.big other.big)) (not (differs one.la57 other.la57)) nxe.0 in
    let big = and_parts (one.m == other.m) (not (differs one.big other.big)) la57.0 in
    settings_are_one one other (eqb-true one.m other.m big.0) (same_bit one.big other.big big.1) (same_bit one.la57 other.la57 la57.1)
    (same_bit one.nxe other.nxe nxe.1)

same_settings-self : (one : Settings) → same_settings one one ≡ true
same_settings-self one = rw (eq-eqb one.m one.m refl, same_bit-self one.big, same_bit-self one.la57, same_bit-self one.nxe) refl

abbrev key_with : ℕ → Settings → SpaceKey
key_with root settings = record { root = root; settings = settings }

same_key-one : (one other : SpaceKey) → same_key one other ≡ true → one ≡ other
same_key-one one other h =
    let parts = and_parts (one.root == other.root) (same_settings one.settings other.settings) h in
    ap (λ root. key_with root one.settings) (eqb-true one.root other.root parts.0)
    ∙ ap (key_with other.root) (same_settings-one one.settings other.settings parts.1)

pub same_key-self : (one : SpaceKey) → same_key one one ≡ true
same_key-self one = rw (eq-eqb one.root one.root refl) (same_settings-self one.settings)

pub same_key-value : (one other : SpaceKey) → (same_key one other ≡ true) ↔ (one ≡ other)
same_key-value one other = (same_key-one one other, λ same. subst (λ it. same_key one it ≡ true) same (same_key-self one))
