-- The PCIDs of a processor one by one, each with its times.
use Rattle.std.proofs.Common.{◌≡◌, ℕ, zero, suc, ◌+◌, ◌<◌, List, [], ◌∷◌, ◌++◌, length, map, take, get_or, sym, ap, ◌∙◌, arith}
use Rattle.std.specs.List.{All}
use Rattle.std.proofs.lemmas.List.{map-append, take_more}
use Rattle.std.proofs.lemmas.List.Elements.{All-append}
use Rattle.audit_points.specs.Audits.{pcids_timed}
use Rattle.audit_points.specs.declared.pcid_times.PcidTimes.{PcidTimes}

abbrev pub first_of : ℕ × ℕ → ℕ
first_of one = one.0

pub pcids-more : (times : List PcidTimes) (one : PcidTimes) (homes : List (ℕ × ℕ)) (i : ℕ) → i < length homes → pcids_timed times ≡ map first_of (take i homes)
    → one.pcid ≡ (get_or homes i (0, 0)).0 → pcids_timed (times ++ one ∷ []) ≡ map first_of (take (i + 1) homes)
pcids-more times one homes i h so_far is =
    map-append (λ (x : PcidTimes). x.pcid) times (one ∷ [])
    ∙ (ap (λ list. list ++ one.pcid ∷ []) so_far
    ∙ (ap (λ c. map first_of (take i homes) ++ c ∷ []) is
    ∙ sym (ap (map first_of) (take_more homes i (0, 0) h) ∙ map-append first_of (take i homes) (get_or homes i (0, 0) ∷ []))))

all-one : {X : Type 0} (P : X → Type 0) (one : X) → P one → All P (one ∷ [])
all-one P one p zero d h = p
all-one P one p (suc k) d h = absurd (omega (arith, h))

pub all-more : {X : Type 0} (P : X → Type 0) (list : List X) (one : X) → All P list → P one → All P (list ++ one ∷ [])
all-more P list one all p = All-append P list (one ∷ []) all (all-one P one p)
