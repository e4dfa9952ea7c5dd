-- The first of two collections, of equal ones, and that there is one first.
use Rattle.std.proofs.Common.{◌≡◌, ◌<◌, ◌≤◌, ◌⊎◌, ℕ, inl, inr, Bool, true, false, Option, Some, None, refl, ap, ◌∙◌, arith, subst}
use Rattle.std.specs.Prelude.{◌==◌, nat_lt, if◌then◌else◌}
use Rattle.std.proofs.lemmas.Bool.Decides.{nat_tests}
use Rattle.history_model.specs.History.{History}
use Rattle.history_model.specs.StaleTranslations.{IsStale, IsWorst, NoneStale}
use Rattle.history_model.specs.declared.caches.Finding.{Finding}
use Rattle.history_laws.proofs.VerdictLaws.{AreAlike, not_after-antisym}
use Rattle.audit_laws.specs.declared.stale_pages.StalePage.{StalePage}
use Rattle.audit_laws.specs.Firsts.{IsFirst, IsStaleUnder, ComesNotAfter, comes_after, finding_at, first_of_two}

pub not_after-trans : (a b c : StalePage) → ComesNotAfter a b → ComesNotAfter b c → ComesNotAfter a c
not_after-trans a b c (inl p) (inl q) = inl (omega arith)
not_after-trans a b c (inl p) (inr q) = inl (omega (arith, q.0))
not_after-trans a b c (inr p) (inl q) = inl (omega (arith, p.0))
not_after-trans a b c (inr p) (inr q) = inr (omega (arith, p.0, q.0), by_frame p.1 q.1)
  where
    by_frame : (a.frame < b.frame) ⊎ ((a.frame ≡ b.frame) × (a.excess ≤ b.excess)) → (b.frame < c.frame) ⊎ ((b.frame ≡ c.frame) × (b.excess ≤ c.excess))
        → (a.frame < c.frame) ⊎ ((a.frame ≡ c.frame) × (a.excess ≤ c.excess))
    by_frame (inl p) (inl q) = inl (omega arith)
    by_frame (inl p) (inr q) = inl (omega (arith, q.0))
    by_frame (inr p) (inl q) = inl (omega (arith, p.0))
    by_frame (inr p) (inr q) = inr (omega (arith, p.0, q.0), omega (arith, p.1, q.1))

pub not_after-self : (a : StalePage) → ComesNotAfter a a
not_after-self a = inr (refl, inr (refl, omega arith))

-- the test decides the order
record Decides (a b : StalePage) (after : Bool) : Type 0 where
  pub yes : after ≡ true → ComesNotAfter b a
  pub not_so : after ≡ false → ComesNotAfter a b

decided : (a b : StalePage) (same_page same_frame less_excess less_frame less_page : Bool)
    → (a.page == b.page) ≡ same_page → (a.frame == b.frame) ≡ same_frame → nat_lt b.excess a.excess ≡ less_excess → nat_lt b.frame a.frame ≡ less_frame → nat_lt b.page a.page ≡ less_page
    → Decides a b (if same_page then (if same_frame then less_excess else less_frame) else less_page)
decided a b true true le lf lp p f e g h = record {
  yes = λ t. inr (grind (arith, nat_tests, p), inr (grind (arith, nat_tests, f), grind (arith, nat_tests, e, t)));
  not_so = λ t. inr (grind (arith, nat_tests, p), inr (grind (arith, nat_tests, f), grind (arith, nat_tests, e, t)));
}
decided a b true false le lf lp p f e g h = record {
  yes = λ t. inr (grind (arith, nat_tests, p), inl (grind (arith, nat_tests, g, t)));
  not_so = λ t. inr (grind (arith, nat_tests, p), inl (grind (arith, nat_tests, f, g, t)));
}
decided a b false sf le lf lp p f e g h = record {
  yes = λ t. inl (grind (arith, nat_tests, h, t));
  not_so = λ t. inl (grind (arith, nat_tests, p, h, t));
}

order-decided : (a b : StalePage) → Decides a b (comes_after a b)
order-decided a b = decided a b (a.page == b.page) (a.frame == b.frame) (nat_lt b.excess a.excess) (nat_lt b.frame a.frame) (nat_lt b.page a.page) refl refl refl refl refl

pub after-is : (a b : StalePage) → comes_after a b ≡ true → ComesNotAfter b a
after-is a b h = let order : Decides a b (comes_after a b) = order-decided a b in order.yes h

pub not_after-is : (a b : StalePage) → comes_after a b ≡ false → ComesNotAfter a b
not_after-is a b h = let order : Decides a b (comes_after a b) = order-decided a b in order.not_so h

-- the first of two collections is the first of their firsts
pub first-either : (A B : StalePage → Type 0) (a b : Option StalePage) → IsFirst A a → IsFirst B b → IsFirst (λ one. A one ⊎ B one) (first_of_two a b)
first-either A B None None p q = λ one h. elim h [ inl x ↦ p one x | inr y ↦ q one y ]
first-either A B None (Some b) p q = (inr q.0, λ one h. elim h [ inl x ↦ absurd (p one x) | inr y ↦ q.1 one y ])
first-either A B (Some a) None p q = (inl p.0, λ one h. elim h [ inl x ↦ p.1 one x | inr y ↦ absurd (q one y) ])
first-either A B (Some a) (Some b) p q = by_test (comes_after a b) refl
  where
    by_test : (t : Bool) → comes_after a b ≡ t → IsFirst (λ one. A one ⊎ B one) (if t then Some b else Some a)
    by_test true e = (inr q.0, λ one h. elim h [ inl x ↦ not_after-trans b a one (after-is a b e) (p.1 one x) | inr y ↦ q.1 one y ])
    by_test false e = (inl p.0, λ one h. elim h [ inl x ↦ p.1 one x | inr y ↦ not_after-trans a b one (not_after-is a b e) (q.1 one y) ])

-- one first of collections that have the same
pub first-same : (A B : StalePage → Type 0) (a : Option StalePage) → ((one : StalePage) → A one → B one) → ((one : StalePage) → B one → A one) → IsFirst A a → IsFirst B a
first-same A B None f g p = λ one h. p one (g one h)
first-same A B (Some a) f g p = (f a p.0, λ one h. p.1 one (g one h))

-- all of another collection comes no earlier than the first of one
pub first-before : (A B : StalePage → Type 0) (a : StalePage) → IsFirst A (Some a) → ((one : StalePage) → B one → ComesNotAfter a one) → IsFirst (λ one. A one ⊎ B one) (Some a)
first-before A B a p later = (inl p.0, λ one h. elim h [ inl x ↦ p.1 one x | inr y ↦ later one y ])

same_stale : (one other : StalePage) → AreAlike (finding_at 0 0 one) (finding_at 0 0 other) → one ≡ other
same_stale one other alike =
    ap (λ n. let it : StalePage = record { page = n; frame = one.frame; excess = one.excess } in it) alike.page
    ∙ (ap (λ n. let it : StalePage = record { page = other.page; frame = n; excess = one.excess } in it) alike.frame
    ∙ ap (λ n. let it : StalePage = record { page = other.page; frame = other.frame; excess = n } in it) alike.excess)

-- a collection has one first
pub first-one : (A : StalePage → Type 0) (a b : Option StalePage) → IsFirst A a → IsFirst A b → a ≡ b
first-one A None None p q = refl
first-one A None (Some b) p q = absurd (p b q.0)
first-one A (Some a) None p q = absurd (q a p.0)
first-one A (Some a) (Some b) p q =
    ap (λ (one : StalePage). Some one) (same_stale a b (not_after-antisym (finding_at 0 0 a) (finding_at 0 0 b) (p.1 b q.0) (q.1 a p.0)))

-- a finding without whose it is
abbrev stale_of : Finding → StalePage
stale_of finding = record { page = finding.page; frame = finding.frame; excess = finding.excess }

stale-under : (history : History) (cpu pcid : ℕ) (other : Finding) → other.cpu ≡ cpu → other.pcid ≡ pcid → IsStale history other → IsStaleUnder history cpu pcid (stale_of other)
stale-under history cpu pcid other cpu_is pcid_is stale =
    subst (λ n. IsStale history (finding_at cpu n (stale_of other))) pcid_is (subst (λ n. IsStale history (finding_at n other.pcid (stale_of other))) cpu_is stale)

-- what is stale first is the finding
pub first-worst : (history : History) (cpu pcid : ℕ) (first : StalePage) → IsFirst (IsStaleUnder history cpu pcid) (Some first) → IsWorst history (finding_at cpu pcid first)
first-worst history cpu pcid first p = record {
  stale = p.0;
  first = λ other cpu_is pcid_is stale. p.1 (stale_of other) (stale-under history cpu pcid other cpu_is pcid_is stale);
}

pub first-none : (history : History) (cpu pcid : ℕ) → IsFirst (IsStaleUnder history cpu pcid) None → NoneStale history cpu pcid
first-none history cpu pcid p other cpu_is pcid_is stale = p (stale_of other) (stale-under history cpu pcid other cpu_is pcid_is stale)
