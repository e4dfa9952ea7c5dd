-- Entries that are equal in each part.
use Rattle.std.proofs.Common.{◌≡◌, ℕ, Bool, true, false, ◌&&◌, eqb, refl, ap, ◌∙◌}
use Rattle.std.proofs.Math.Bool.{beq}
use Rattle.std.proofs.lemmas.Bool.{eqb-true, eq-eqb}
use Rattle.history_reference.specs.CacheEntries.{HeldEntry}

of_parts : ℕ → Bool → ℕ → Bool → Bool → Bool → ℕ → Bool → HeldEntry
of_parts level leaf frame write user xd key global = record {
  level = level;
  held = record { leaf = leaf; frame = frame; bits = record { write = write; user = user; xd = xd }; key = key; global = global };
}

same_parts : (level level' frame frame' key key' : ℕ) (leaf leaf' write write' user user' xd xd' global global' : Bool)
    → level ≡ level' → leaf ≡ leaf' → frame ≡ frame' → write ≡ write' → user ≡ user' → xd ≡ xd' → key ≡ key' → global ≡ global'
    → of_parts level leaf frame write user xd key global ≡ of_parts level' leaf' frame' write' user' xd' key' global'
same_parts level level' frame frame' key key' leaf leaf' write write' user user' xd xd' global global' a b c d e f g h = cc

both_hold : (one other : Bool) → (one && other) ≡ true → (one ≡ true) × (other ≡ true)
both_hold true other h = (refl, h)
both_hold false other h = absurd (cc)

same_bool : (one other : Bool) → beq one other ≡ true → one ≡ other
same_bool true true h = refl
same_bool false false h = refl
same_bool true false h = absurd (cc)
same_bool false true h = absurd (cc)

-- the tests of the parts, as the derived comparison has them
abbrev pub are_same : HeldEntry → HeldEntry → Bool
are_same one other =
    eqb one.level other.level && (beq one.held.leaf other.held.leaf && (eqb one.held.frame other.held.frame
    && ((beq one.held.bits.write other.held.bits.write && (beq one.held.bits.user other.held.bits.user && beq one.held.bits.xd other.held.bits.xd))
    && (eqb one.held.key other.held.key && beq one.held.global other.held.global))))

pub same_entry : (one other : HeldEntry) → are_same one other ≡ true → one ≡ other
unfolding of_parts
same_entry one other h =
    let level = both_hold _ _ h in
    let leaf = both_hold _ _ level.1 in
    let frame = both_hold _ _ leaf.1 in
    let bits = both_hold _ _ frame.1 in
    let write = both_hold _ _ bits.0 in
    let user = both_hold _ _ write.1 in
    let key = both_hold _ _ bits.1 in
    same_parts _ _ _ _ _ _ _ _ _ _ _ _ _ _ _ _
    (eqb-true _ _ level.0) (same_bool _ _ leaf.0) (eqb-true _ _ frame.0) (same_bool _ _ write.0) (same_bool _ _ user.0) (same_bool _ _ user.1)
    (eqb-true _ _ key.0) (same_bool _ _ key.1)

beq-itself : (b : Bool) → beq b b ≡ true
beq-itself true = refl
beq-itself false = refl

pub are_same-itself : (one : HeldEntry) → are_same one one ≡ true
are_same-itself one =
    rw (
      eq-eqb one.level one.level refl,
      eq-eqb one.held.frame one.held.frame refl,
      eq-eqb one.held.key one.held.key refl,
      beq-itself one.held.leaf,
      beq-itself one.held.bits.write,
      beq-itself one.held.bits.user,
      beq-itself one.held.bits.xd,
      beq-itself one.held.global,
    ) refl

pub not_same : (one other : HeldEntry) → are_same one other ≡ false → other ≡ one → ⊥
not_same one other differ same =
    let tested : are_same one other ≡ true = ap (λ it. are_same one it) same ∙ are_same-itself one in
    absurd (cc (differ, tested))
