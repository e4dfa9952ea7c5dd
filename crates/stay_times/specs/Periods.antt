-- The times through which a processor stayed where it is asked for. Source: our own.
use Rattle.std.specs.Prelude.{◌≡◌, ℕ, ◌-◌, ◌==◌, ◌&&◌, ◌||◌, not, Bool, true, false, if◌then◌else◌, List, [], ◌∷◌, Option, Some, None, map, min, max}
use Rattle.cache_rules.specs.declared.stays.Stay.{Stay}
use Rattle.stay_times.specs.declared.wanted.Wanted.{Wanted}
use Rattle.time_sets.specs.Sets.{has_time, is_within}

-- the flag is the one that is asked for
abbrev pub is_wanted_flag : Option Bool → Bool → Bool
is_wanted_flag None flag = true
is_wanted_flag (Some one) flag = if one then flag else not flag

-- the root is the one that is asked for
abbrev pub is_wanted_root : Option ℕ → ℕ → Bool
is_wanted_root None root = true
is_wanted_root (Some one) root = one == root

-- the stay is one that is asked for
abbrev pub is_wanted : Wanted → Stay → Bool
is_wanted wanted stay =
    stay.pcid == wanted.pcid && is_wanted_flag wanted.nxe stay.nxe && is_wanted_root wanted.root stay.root

-- the same, where there may be no stay
abbrev pub is_wanted_if : Wanted → Option Stay → Bool
is_wanted_if wanted None = false
is_wanted_if wanted (Some stay) = is_wanted wanted stay

-- the stays in a PCID under a root
abbrev pub under_root : ℕ → ℕ → Wanted
under_root pcid root = record { pcid = pcid; nxe = None; root = Some root }

-- the times at which stays began
abbrev pub starts : List Stay → List ℕ
starts past = map (λ (stay : Stay). stay.from) past

-- the number is in the set, where there is one
abbrev pub has_if : Option (List (ℕ × ℕ)) → ℕ → Bool
has_if None t = false
has_if (Some times) t = has_time times t

-- some number is in the set
pub record HasSomeTime (times : List (ℕ × ℕ)) : Type 0 where
  pub t : ℕ
  pub is : has_time times t ≡ true

-- the last time up to now before the next stay
abbrev pub last_before : List Stay → ℕ → ℕ
last_before [] now = now
last_before (next ∷ rest) now = min now (next.from - 1)

-- a time from a horizon to now, within a stay that is asked for
abbrev pub is_during : Wanted → ℕ → ℕ → List Stay → ℕ → Bool
is_during wanted horizon now [] t = false
is_during wanted horizon now (one ∷ rest) t =
    (is_wanted wanted one && is_within (max one.from horizon, last_before rest now) t)
    || is_during wanted horizon now rest t
