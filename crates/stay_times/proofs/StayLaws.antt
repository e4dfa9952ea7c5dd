-- Times within stays, stay by stay.
use Rattle.std.proofs.Common.{◌≡◌, ℕ, zero, suc, ◌+◌, ◌-◌, ◌<◌, ◌≤◌, ◌&&◌, Bool, true, false, List, [], ◌∷◌, length, get_or, drop, Option, Some, None, refl, sym, ap, ◌∙◌, arith}
use Rattle.std.specs.Prelude.{◌||◌, nat_le, if◌then◌else◌, min, max}
use Rattle.std.proofs.lemmas.List.{drop_more}
use Rattle.std.proofs.lemmas.Bool.Decides.{nat_tests}
use Rattle.time_sets.specs.Sets.{is_within}
use Rattle.cache_rules.specs.declared.stays.Stay.{Stay}
use Rattle.cache_rules.specs.Standing.{stay_in, last_stay}
use Rattle.stay_times.specs.declared.wanted.Wanted.{Wanted}
use Rattle.cache_rules.specs.Removals.{AreAscending}
use Rattle.stay_times.specs.Periods.{is_wanted, is_wanted_if, last_before, is_during, starts}

-- before the first stay there is none, and from it on there is one
stay-early : (low : ℕ) (list : List Stay) (t : ℕ) → AreAscending low (starts list) → t < low → stay_in list t ≡ None
stay-early low [] t r h = refl
stay-early low (one ∷ rest) t r h =
    let first = r.0 in
    let test : nat_le one.from t ≡ false = grind (arith, nat_tests, first) in
    ap (λ (b : Bool). last_stay (if b then Some one else None) (stay_in rest t)) test ∙ ap (last_stay None) (stay-early (one.from + 1) rest t r.1 (omega (arith, first)))

record IsSome (o : Option Stay) : Type 0 where
  pub stay : Stay
  pub is : o ≡ Some stay

stay-some : (one : Stay) (rest : List Stay) (t : ℕ) → one.from ≤ t → IsSome (stay_in (one ∷ rest) t)
stay-some one rest t h =
    let test : nat_le one.from t ≡ true = grind (arith, nat_tests) in
    by_rest (stay_in rest t) (ap (λ (b : Bool). last_stay (if b then Some one else None) (stay_in rest t)) test)
  where
    by_rest : (o : Option Stay) → stay_in (one ∷ rest) t ≡ last_stay (Some one) o → IsSome (stay_in (one ∷ rest) t)
    by_rest None e = record { stay = one; is = e }
    by_rest (Some z) e = record { stay = z; is = e }

and_false : (a b : Bool) → (a && (b && false)) ≡ false
and_false true true = refl
and_false true false = refl
and_false false b = refl

or_nil : (a : Bool) → (a || false) ≡ a
or_nil true = refl
or_nil false = refl

and_nil : (a : Bool) → (a && false) ≡ false
and_nil true = refl
and_nil false = refl

-- the stay that is in course
here : (wanted : Wanted) (one : Stay) (horizon now last t : ℕ) (w from : Bool) → is_wanted wanted one ≡ w → nat_le one.from t ≡ from → ((from ≡ true) → nat_le t last ≡ nat_le t now)
    → (w && is_within (max one.from horizon, last) t) ≡ (nat_le horizon t && (nat_le t now && is_wanted_if wanted (if from then Some one else None)))
here wanted one horizon now last t w true e f g = rw (e, ← g refl) (shuffle w (nat_le horizon t) (nat_le t last) (nat_le (max one.from horizon) t) (grind (arith, nat_tests, f)))
  where
    shuffle : (a b c d : Bool) → d ≡ b → (a && (d && c)) ≡ (b && (c && a))
    shuffle true true true d h = rw h refl
    shuffle true true false d h = rw h refl
    shuffle true false c d h = rw h refl
    shuffle false true true d h = refl
    shuffle false true false d h = refl
    shuffle false false c d h = refl
here wanted one horizon now last t w false e f g =
    let early : nat_le (max one.from horizon) t ≡ false = grind (arith, nat_tests, f) in
    rw early (and_nil w ∙ sym (and_false (nat_le horizon t) (nat_le t now)))

pub during-is : (wanted : Wanted) (horizon now low : ℕ) (list : List Stay) (t : ℕ) → AreAscending low (starts list) → is_during wanted horizon now list t ≡ (nat_le horizon t && (nat_le t now && is_wanted_if wanted (stay_in list t)))
during-is wanted horizon now low [] t r = sym (and_false (nat_le horizon t) (nat_le t now))
during-is wanted horizon now low (one ∷ []) t r = or_nil _ ∙ here wanted one horizon now now t (is_wanted wanted one) (nat_le one.from t) refl refl (λ e. refl)
during-is wanted horizon now low (one ∷ next ∷ rest) t r = by_test (nat_le next.from t) refl (during-is wanted horizon now (one.from + 1) (next ∷ rest) t r.1)
  where
    by_test : (b : Bool) → nat_le next.from t ≡ b → is_during wanted horizon now (next ∷ rest) t ≡ (nat_le horizon t && (nat_le t now && is_wanted_if wanted (stay_in (next ∷ rest) t)))
        → is_during wanted horizon now (one ∷ next ∷ rest) t ≡ (nat_le horizon t && (nat_le t now && is_wanted_if wanted (stay_in (one ∷ next ∷ rest) t)))
    by_test true e later =
        let rises = r.1.0 in
        let past : nat_le t (min now (next.from - 1)) ≡ false = grind (arith, nat_tests, e, rises) in
        let some = stay-some next rest t (grind (arith, nat_tests, e)) in
        let same : stay_in (one ∷ next ∷ rest) t ≡ stay_in (next ∷ rest) t = ap (last_stay (if nat_le one.from t then Some one else None)) some.is ∙ sym some.is in
        ap (λ (b : Bool). (is_wanted wanted one && (nat_le (max one.from horizon) t && b)) || is_during wanted horizon now (next ∷ rest) t) past
        ∙ (falls (is_wanted wanted one) (nat_le (max one.from horizon) t) _ ∙ (later ∙ ap (λ s. nat_le horizon t && (nat_le t now && is_wanted_if wanted s)) (sym same)))
      where
        falls : (a b c : Bool) → ((a && (b && false)) || c) ≡ c
        falls true true c = refl
        falls true false c = refl
        falls false b c = refl
    by_test false e later =
        let rises = r.1.0 in
        let none : stay_in (next ∷ rest) t ≡ None = stay-early (t + 1) (next ∷ rest) t (grind (arith, nat_tests, e), r.1.1) (omega arith) in
        let nothing : is_during wanted horizon now (next ∷ rest) t ≡ false = later ∙ (ap (λ s. nat_le horizon t && (nat_le t now && is_wanted_if wanted s)) none ∙ and_false (nat_le horizon t) (nat_le t now)) in
        ap (λ (b : Bool). (is_wanted wanted one && is_within (max one.from horizon, min now (next.from - 1)) t) || b) nothing
        ∙ (or_nil _ ∙ (here wanted one horizon now (min now (next.from - 1)) t (is_wanted wanted one) (nat_le one.from t) refl refl (λ f. grind (arith, nat_tests, e))
        ∙ ap (λ s. nat_le horizon t && (nat_le t now && is_wanted_if wanted (last_stay (if nat_le one.from t then Some one else None) s))) (sym none)))

-- one stay more
pub during-more : (wanted : Wanted) (horizon now : ℕ) (past : List Stay) (i : ℕ) (d : Stay) (t : ℕ) (old new whole : Bool) → i < length past
    → new ≡ (old || (is_wanted wanted (get_or past i d) && is_within (max (get_or past i d).from horizon, last_before (drop (i + 1) past) now) t))
    → (old || is_during wanted horizon now (drop i past) t) ≡ whole → (new || is_during wanted horizon now (drop (i + 1) past) t) ≡ whole
during-more wanted horizon now past i d t old new whole h n so_far =
    ap (λ b. b || is_during wanted horizon now (drop (i + 1) past) t) n ∙ (assoc old _ _ ∙ (ap (λ list. old || is_during wanted horizon now list t) (sym (drop_more past i d h)) ∙ so_far))
  where
    assoc : (a b c : Bool) → ((a || b) || c) ≡ (a || (b || c))
    assoc true b c = refl
    assoc false b c = refl

pub drop-none : (xs : List Stay) (n : ℕ) → length xs ≤ n → drop n xs ≡ []
drop-none [] zero h = refl
drop-none [] (suc n) h = refl
drop-none (x ∷ xs) zero h = absurd (omega arith)
drop-none (x ∷ xs) (suc n) h = drop-none xs n (omega arith)

pub all-times : (wanted : Wanted) (horizon now : ℕ) (past : List Stay) (i t : ℕ) (got : Bool) → length past ≤ i → AreAscending 0 (starts past)
    → (got || is_during wanted horizon now (drop i past) t) ≡ is_during wanted horizon now past t → got ≡ (nat_le horizon t && (nat_le t now && is_wanted_if wanted (stay_in past t)))
all-times wanted horizon now past i t got h ascending so_far =
    sym (or_nil got) ∙ (ap (λ list. got || is_during wanted horizon now list t) (sym (drop-none past i h)) ∙ (so_far ∙ during-is wanted horizon now 0 past t ascending))

abbrev pub no_stay : Stay
no_stay = record { from = 0; pcid = 0; root = 0; nxe = false; pge = false }

pub during-next : (wanted : Wanted) (horizon now : ℕ) (past : List Stay) (i : ℕ) (t : ℕ) (old new w : Bool) (first last : ℕ) → i < length past
    → w ≡ is_wanted wanted (get_or past i no_stay) → first ≡ max (get_or past i no_stay).from horizon → last ≡ last_before (drop (i + 1) past) now
    → new ≡ (old || (w && is_within (first, last) t))
    → (old || is_during wanted horizon now (drop i past) t) ≡ is_during wanted horizon now past t → (new || is_during wanted horizon now (drop (i + 1) past) t) ≡ is_during wanted horizon now past t
during-next wanted horizon now past i t old new w first last h e f g n so_far =
    during-more wanted horizon now past i no_stay t old new (is_during wanted horizon now past t) h (rw (← e, ← f, ← g) n) so_far
