-- Ranges of a map, one after another.
use Rattle.std.proofs.Common.{◌≡◌, ℕ, ◌%◌, ◌<◌, ◌≤◌, inl, inr, refl, sym, ◌∙◌, arith}
use Rattle.std.proofs.lemmas.Bool.{cases_lt}
use Rattle.space_map.specs.MappedRanges.{IsMappedIn, IsClear, Mapping}

-- an empty range is mapped as it should be
pub mapped-none : (low high : ℕ) (target old : Mapping) → high ≤ low → IsMappedIn low high target old old
mapped-none low high target old empty = record { inside = λ page is least less. absurd (omega arith); outside = λ x out. refl }

-- the same range with the same targets, said in another way
pub mapped-same : (low high low' high' : ℕ) (target other old new : Mapping) → low ≡ low' → high ≡ high'
    → IsMappedIn low high target old new
    → ((page : ℕ) → page % 4096 ≡ 0 → low' ≤ page → page < high' → other page ≡ target page)
    → IsMappedIn low' high' other old new
mapped-same low high low' high' target other old new lows highs mapped same = record {
  inside = λ page is least less. mapped.inside page is (omega arith) (omega arith) ∙ sym (same page is least less);
  outside = λ x out. elim out [ inl before ↦ mapped.outside x (inl (omega arith)) | inr after ↦ mapped.outside x (inr (omega arith)) ];
}

-- two ranges side by side
pub mapped-both : (low middle high : ℕ) (target old between new : Mapping) → low ≤ middle → middle ≤ high
    → IsMappedIn low middle target old between → IsMappedIn middle high target between new → IsMappedIn low high target old new
mapped-both low middle high target old between new first second lower upper = record {
  inside = λ page is least less. elim (cases_lt page middle) [
    | inl before ↦ upper.outside page (inl before) ∙ lower.inside page is least before
    | inr after ↦ upper.inside page is after less
  ];
  outside = λ x out. elim out [
    | inl before ↦ upper.outside x (inl (omega arith)) ∙ lower.outside x (inl before)
    | inr after ↦ upper.outside x (inr after) ∙ lower.outside x (inr (omega arith))
  ];
}

-- what comes after a mapped part of a clear range is clear yet
pub clear-after : (low middle next high : ℕ) (target old new : Mapping) → low ≤ middle → next ≤ high
    → IsMappedIn low middle target old new → IsClear low high old → IsClear middle next new
clear-after low middle next high target old new first last mapped clear =
    record { none = λ x least less. mapped.outside x (inr least) ∙ clear.none x (omega arith) (omega arith) }

-- the same range, said in another way
pub clear-moved : {low high low' high' : ℕ} {target : Mapping} → low' ≡ low → high' ≡ high → IsClear low high target → IsClear low' high' target
clear-moved lows highs clear = record { none = λ x least less. clear.none x (omega arith) (omega arith) }
