-- The uses beneath patches are removed, patch by patch.
use Rattle.std.proofs.Common.{◌≡◌, ℕ, ◌+◌, ◌≤◌, inl, inr, List, [], ◌∷◌, length, take, refl, sym, subst, arith}
use Rattle.std.proofs.lemmas.List.{take_all}
use Rattle.paging_laws.proofs.Membership.{in-append, append-left, append-right}
use Rattle.frame_index.specs.CountedUses.{AreRemoved}
use Rattle.frame_index.specs.declared.counted_use.CountedUse.{CountedUse}
use Rattle.kept_laws.specs.Patches.{IsBeneath, high_of, low_of}
use Rattle.kept_laws.specs.declared.patches.Patch.{Patch}
use Rattle.space_map.specs.PatchWalks.{AreLeft, HaveLevels}
use Rattle.space_map.proofs.PatchPasses.{Done}

pub left-begins : (all : List CountedUse) → AreLeft [] all all
left-begins all = record { were = λ one is. is; none = λ one is patch never. absurd never; others = λ one is. inl is }

pub left-next : (patches : List Patch) (i : ℕ) (patch : Patch) (at : Done patches i patch) (all between left : List CountedUse) (first last : ℕ)
    → first ≡ low_of patch → last + 1 ≡ high_of patch → AreLeft (take i patches) all between → AreRemoved first last patch.table.level between left
    → AreLeft (take (i + 1) patches) all left
left-next patches i patch at all between left first last begins ends before removed =
    subst (λ (it : List Patch). AreLeft it all left) (sym at.before) (record {
      were = λ one is. before.were one (removed.were one is);
      none = λ one is other here beneath. elim (in-append (take i patches) (patch ∷ []) other here) [
        | inl earlier ↦ before.none one (removed.were one is) other earlier beneath
        | inr last_one ↦ elim last_one [
          | inl same ↦
              let it : IsBeneath patch one.table = subst (λ (p : Patch). IsBeneath p one.table) same beneath in
              removed.none one is (record { lower = it.lower; from = omega (arith, begins, it.low); to = omega (arith, ends, it.high) })
          | inr never ↦ never
        ]
      ];
      others = λ one is. elim (before.others one is) [
        | inl stays ↦ elim (removed.others one stays) [
          | inl still ↦ inl still
          | inr under ↦ inr (
            patch,
            append-right (take i patches) (patch ∷ []) patch (inl refl),
            record { lower = under.lower; low = omega (arith, begins, under.from); high = omega (arith, ends, under.to) },
          )
        ]
        | inr gone ↦ inr (gone.0, append-left (take i patches) (patch ∷ []) gone.0 gone.1, gone.2)
      ];
    })

pub left-ends : (patches : List Patch) (i : ℕ) (all left : List CountedUse) → length patches ≤ i → AreLeft (take i patches) all left → AreLeft patches all left
left-ends patches i all left whole are = subst (λ (it : List Patch). AreLeft it all left) (take_all i patches whole) are

-- nothing is beneath entries of level 1
pub left-lowest : (patches : List Patch) (i : ℕ) (patch : Patch) (at : Done patches i patch) (all left : List CountedUse) → HaveLevels all
    → patch.table.level ≤ 1 → AreLeft (take i patches) all left → AreLeft (take (i + 1) patches) all left
left-lowest patches i patch at all left levels lowest before =
    subst (λ (it : List Patch). AreLeft it all left) (sym at.before) (record {
      were = λ one is. before.were one is;
      none = λ one is other here beneath. elim (in-append (take i patches) (patch ∷ []) other here) [
        | inl earlier ↦ before.none one is other earlier beneath
        | inr last_one ↦ elim last_one [
          | inl same ↦
              let it : IsBeneath patch one.table = subst (λ (p : Patch). IsBeneath p one.table) same beneath in
              omega (arith, it.lower, lowest, levels one (before.were one is))
          | inr never ↦ never
        ]
      ];
      others = λ one is. elim (before.others one is) [
        | inl stays ↦ inl stays
        | inr gone ↦ inr (gone.0, append-left (take i patches) (patch ∷ []) gone.0 gone.1, gone.2)
      ];
    })
