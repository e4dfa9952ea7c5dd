-- Spaces that are updated one after another, the last one first.
use Rattle.std.proofs.Common.{◌≡◌, ℕ, zero, suc, ◌+◌, ◌-◌, ◌*◌, ◌<◌, ◌≤◌, inl, inr, false, Result, Ok, Err, OnOk, List, [], ◌∷◌, ◌++◌, length, drop, get_or, set, refl, sym, subst, ap, ◌∙◌, arith, zero-add, add-zero}
use Rattle.std.specs.Prelude.{All, is_err, remove}
use Rattle.std.proofs.lemmas.List.{append-nil, append_assoc, length-map, map-append, get_or_at, set_at, take_at, nil_from_length}
use Rattle.std.proofs.lemmas.List.Elements.{All-cons, All-get_or, All-head, All-nil}
use Rattle.paging_model.specs.Counting.{AreDistinct, AtLeast, IsIn}
use Rattle.paging_model.specs.Memory.{Memory}
use Rattle.paging_model.specs.declared.spaces.SpaceKey.{SpaceKey}
use Rattle.history_model.specs.Bounds.{UpdateMayTake, UpdatesMayTake}
use Rattle.history_model.specs.KeptSpaces.{IsTouched, IsWrittenEntry, StayKept, TooLargeIn, WithinIn}
use Rattle.space_map.specs.Plans.{IsPlanOf, UpdateTakes, WasTrue}
use Rattle.space_map.specs.TrueSpaces.{IsTrueOf}
use Rattle.space_map.specs.declared.plans.Plan.{Plan}
use Rattle.space_map.specs.declared.space.Space.{Space}
use Rattle.kept_spaces.specs.Keys.{MayBeKept, keys_of}
use Rattle.kept_spaces.specs.Updating.{AreUpdated, IsUpdated, UpdatesTake, WereTrue}

-- ---- steps

none : {Thing : Type 0} (Has : Thing → Type 0) → AtLeast 0 Has
none Has = record { things = []; some = record { have = λ thing is. absurd is; distinct = tt }; many = omega arith }

no-update : (memory : Memory) (key : SpaceKey) (at n : ℕ) → UpdateMayTake memory key at n 0
no-update memory key at n = record {
  touched = 0;
  entries = 0;
  are_touched = none (IsTouched memory key at n);
  are_entries = none (IsWrittenEntry memory key at n);
  bound = omega arith;
}

updates-none : (memory : Memory) (at n : ℕ) (keys : List SpaceKey) → UpdatesMayTake memory at n keys 0
updates-none memory at n [] = refl
updates-none memory at n (key ∷ rest) = (0, 0, no-update memory key at n, updates-none memory at n rest, refl)

-- those in front may not be updated at all
updates-behind : (memory : Memory) (at n : ℕ) (front behind : List SpaceKey) (steps : ℕ) → UpdatesMayTake memory at n behind steps
    → UpdatesMayTake memory at n (front ++ behind) steps
updates-behind memory at n [] behind steps may = may
updates-behind memory at n (key ∷ front) behind steps may =
    (0, steps, no-update memory key at n, updates-behind memory at n front behind steps may, sym (zero-add steps))

updates-with : (memory : Memory) (at n : ℕ) (key : SpaceKey) (behind : List SpaceKey) (one others : ℕ)
    → UpdatesMayTake memory at n (key ∷ []) one → UpdatesMayTake memory at n behind others
    → UpdatesMayTake memory at n (key ∷ behind) (one + others)
updates-with memory at n key behind one others first may =
    (first.0, others, first.2, may, omega (arith, first.3, first.4))

-- ---- one space

pub was-planned : (space : Space) (frame first last : ℕ) (plan : Plan) (memory : Memory) → IsPlanOf space frame first last plan
    → WereTrue (space ∷ []) frame first last memory → WasTrue space plan memory
was-planned space frame first last plan memory is were = record {
  old = were.old;
  is_true = All-head (IsTrueOf were.old) space [] were.are_true;
  alike = rw (is.frame_is, is.first_is, is.last_is) were.alike;
}

pub one-taken : (memory : Memory) (space : Space) (frame first last : ℕ) (plan : Plan) (old new : ℕ)
    → IsPlanOf space frame first last plan → UpdateTakes memory space.key plan old new
    → UpdatesTake memory (space.key ∷ []) frame first last old new
one-taken memory space frame first last plan old new is takes = record {
  steps = takes.steps;
  may = (takes.steps, 0, rw (is.frame_is, is.first_is, is.last_is) at takes.may, refl, sym (add-zero takes.steps));
  bound = takes.bound;
}

pub none-taken : (memory : Memory) (key : SpaceKey) (frame first last steps : ℕ)
    → UpdatesTake memory (key ∷ []) frame first last steps steps
none-taken memory key frame first last steps = record {
  steps = 0;
  may = updates-none memory (frame + 8 * first) (8 * (last + 1 - first)) (key ∷ []);
  bound = omega arith;
}

-- ---- a loop over the spaces

-- a list is what stands before its last place, and the thing there
record EndsWith (spaces : List Space) (n : ℕ) : Type 0 where
  front : List Space
  space : Space
  is : spaces ≡ front ++ space ∷ []
  many : length front ≡ n

ends-with : (spaces : List Space) (n : ℕ) → length spaces ≡ suc n → EndsWith spaces n
ends-with [] n long = absurd (omega arith)
ends-with (one ∷ []) n long = record { front = []; space = one; is = refl; many = omega arith }
ends-with (one ∷ other ∷ rest) zero long = absurd (omega arith)
ends-with (one ∷ other ∷ rest) (suc n) long =
    let end = ends-with (other ∷ rest) n (omega arith) in
    record {
      front = one ∷ end.front;
      space = end.space;
      is = ap (λ more. one ∷ more) end.is;
      many = omega (arith, end.many);
    }

-- so many are left in front; the others were updated, of which some may have gone
pub record AreUnderway (memory : Memory) (frame first last : ℕ) (was now : List Space) (left old new : ℕ) : Type 0 where
  pub front : List Space
  pub behind : List Space
  pub done : List Space
  pub was_is : was ≡ front ++ behind
  pub now_is : now ≡ front ++ done
  pub many : length front ≡ left
  pub updated : AreUpdated memory behind done
  pub takes : UpdatesTake memory (keys_of behind) frame first last old new

-- the next one of them
pub record HasNext (memory : Memory) (frame first last : ℕ) (was now : List Space) (left old new : ℕ) : Type 0 where
  pub front : List Space
  pub space : Space
  pub behind : List Space
  pub done : List Space
  pub was_is : was ≡ front ++ space ∷ behind
  pub now_is : now ≡ front ++ space ∷ done
  pub many : length front ≡ left
  pub updated : AreUpdated memory behind done
  pub takes : UpdatesTake memory (keys_of behind) frame first last old new

pub begins : (memory : Memory) (frame first last : ℕ) (was : List Space) (left steps : ℕ) → length was ≡ left
    → AreUnderway memory frame first last was was left steps steps
begins memory frame first last was left steps many = record {
  front = was;
  behind = [];
  done = [];
  was_is = sym (append-nil was);
  now_is = sym (append-nil was);
  many = many;
  updated = record { keys = refl; are_true = All-nil (IsTrueOf memory) };
  takes = record { steps = 0; may = refl; bound = omega arith };
}

module _ (memory : Memory) (frame first last : ℕ) (was now : List Space) where
  joined : (front behind : List Space) (space : Space) (whole : List Space) → whole ≡ front ++ space ∷ [] → (list : List Space)
      → list ≡ whole ++ behind → list ≡ front ++ space ∷ behind
  joined front behind space whole is list list_is =
      list_is ∙ (ap (λ more. more ++ behind) is ∙ append_assoc front (space ∷ []) behind)

  pub next-of : (left old new : ℕ) → AreUnderway memory frame first last was now left old new → 0 < left
      → HasNext memory frame first last was now (left - 1) old new
  next-of left old new underway some =
      let end = ends-with underway.front (left - 1) (omega (arith, underway.many, some)) in
      record {
        front = end.front;
        space = end.space;
        behind = underway.behind;
        done = underway.done;
        was_is = joined end.front underway.behind end.space underway.front end.is was underway.was_is;
        now_is = joined end.front underway.done end.space underway.front end.is now underway.now_is;
        many = end.many;
        updated = underway.updated;
        takes = underway.takes;
      }

  -- the space that is read is the next one
  pub read-next : (left old new : ℕ) (space : Space) → (next : HasNext memory frame first last was now left old new)
      → space ≡ get_or now left space → space ≡ next.space
  read-next left old new space next is =
      is ∙ (ap (λ (list : List Space). get_or list left space) next.now_is ∙ get_or_at next.front next.space next.done space left next.many)

  -- it was true
  pub next-was : (left old new : ℕ) (space : Space) → (next : HasNext memory frame first last was now left old new)
      → space ≡ next.space → WereTrue was frame first last memory → WereTrue (space ∷ []) frame first last memory
  next-was left old new space next is were = record {
    old = were.old;
    are_true = All-cons (IsTrueOf were.old) space [] (subst (IsTrueOf were.old) (sym is) (at-front next.front next.space next.behind
        (subst (All (IsTrueOf were.old)) next.was_is were.are_true))) (All-nil (IsTrueOf were.old));
    alike = were.alike;
  }
    where
      within : (front : List Space) (one : Space) (behind : List Space) → length front < length (front ++ one ∷ behind)
      within [] one behind = omega arith
      within (other ∷ front) one behind = omega (arith, within front one behind)

      at-front : (front : List Space) (one : Space) (behind : List Space) → All (IsTrueOf were.old) (front ++ one ∷ behind) → IsTrueOf were.old one
      at-front front one behind all =
          subst (IsTrueOf were.old) (get_or_at front one behind one (length front) refl)
          (All-get_or (IsTrueOf were.old) (front ++ one ∷ behind) (length front) one (within front one behind) all)

  -- the steps so far, and those of the next one
  takes-more : (left old middle new : ℕ) (key : SpaceKey) → (next : HasNext memory frame first last was now left old middle)
      → key ≡ next.space.key → UpdatesTake memory (key ∷ []) frame first last middle new
      → UpdatesTake memory (keys_of (next.space ∷ next.behind)) frame first last old new
  takes-more left old middle new key next is takes = record {
    steps = takes.steps + next.takes.steps;
    may = updates-with memory (frame + 8 * first) (8 * (last + 1 - first)) next.space.key (keys_of next.behind) takes.steps next.takes.steps
        (subst (λ (one : SpaceKey). UpdatesMayTake memory (frame + 8 * first) (8 * (last + 1 - first)) (one ∷ []) takes.steps) is takes.may)
        next.takes.may;
    bound = omega (arith, takes.bound, next.takes.bound);
  }

  -- it is updated
  pub goes-on : (left old middle new : ℕ) (before after : Space) (later : List Space)
      → (next : HasNext memory frame first last was now left old middle) → before ≡ next.space
      → IsUpdated memory before after → UpdatesTake memory (before.key ∷ []) frame first last middle new
      → later ≡ set now left after → AreUnderway memory frame first last was later left old new
  goes-on left old middle new before after later next is updated takes later_is =
      let key_is : after.key ≡ next.space.key = updated.key ∙ ap (λ (one : Space). one.key) is in
      record {
        front = next.front;
        behind = next.space ∷ next.behind;
        done = after ∷ next.done;
        was_is = next.was_is;
        now_is = later_is ∙ (ap (λ (list : List Space). set list left after) next.now_is
            ∙ set_at next.front next.space next.done after left next.many);
        many = next.many;
        updated = record {
          keys = inr (
            keys_of next.done,
            subst (WithinIn memory) key_is updated.is_true.within,
            next.updated.keys,
            ap (λ (one : SpaceKey). one ∷ keys_of next.done) key_is,
          );
          are_true = All-cons (IsTrueOf memory) after next.done updated.is_true next.updated.are_true;
        };
        takes = takes-more left old middle new before.key next (ap (λ (one : Space). one.key) is) takes;
      }

  -- it is too large, and goes
  pub goes : (left old middle new : ℕ) (before after : Space) (later : List Space)
      → (next : HasNext memory frame first last was now left old middle) → before ≡ next.space
      → TooLargeIn memory before.key → UpdatesTake memory (before.key ∷ []) frame first last middle new
      → later ≡ remove (set now left after) left → AreUnderway memory frame first last was later left old new
  goes left old middle new before after later next is too_large takes later_is =
      let key_is : before.key ≡ next.space.key = ap (λ (one : Space). one.key) is in
      let set_is : set now left after ≡ next.front ++ after ∷ next.done =
      ap (λ (list : List Space). set list left after) next.now_is
      ∙ set_at next.front next.space next.done after left next.many in
      record {
        front = next.front;
        behind = next.space ∷ next.behind;
        done = next.done;
        was_is = next.was_is;
        now_is = later_is ∙ (ap (λ (list : List Space). remove list left) set_is ∙ removed next.front after next.done left next.many);
        many = next.many;
        updated = record {
          keys = inl (subst (TooLargeIn memory) key_is too_large, next.updated.keys);
          are_true = next.updated.are_true;
        };
        takes = takes-more left old middle new before.key next key_is takes;
      }
    where
      dropped : (front : List Space) (one : Space) (done : List Space) (n : ℕ) → length front ≡ n → drop (suc n) (front ++ one ∷ done) ≡ done
      dropped [] one done zero many = refl
      dropped [] one done (suc n) many = absurd (omega arith)
      dropped (other ∷ front) one done zero many = absurd (omega arith)
      dropped (other ∷ front) one done (suc n) many = dropped front one done n (omega arith)

      removed : (front : List Space) (one : Space) (done : List Space) (n : ℕ) → length front ≡ n
          → remove (front ++ one ∷ done) n ≡ front ++ done
      removed front one done n many =
          ap (λ (list : List Space). list ++ drop (suc n) (front ++ one ∷ done)) (take_at front (one ∷ done) n many)
          ∙ ap (λ (list : List Space). front ++ list) (dropped front one done n many)

  -- memory runs out at it
  pub stops : (left old middle new : ℕ) (before : Space) → (next : HasNext memory frame first last was now left old middle)
      → before ≡ next.space → UpdatesTake memory (before.key ∷ []) frame first last middle new
      → UpdatesTake memory (keys_of was) frame first last old new
  stops left old middle new before next is takes =
      let more = takes-more left old middle new before.key next (ap (λ (one : Space). one.key) is) takes in
      let keys_are : keys_of was ≡ keys_of next.front ++ keys_of (next.space ∷ next.behind) =
      ap keys_of next.was_is ∙ map-append (λ (one : Space). one.key) next.front (next.space ∷ next.behind) in
      record {
        steps = more.steps;
        may = subst (λ (keys : List SpaceKey). UpdatesMayTake memory (frame + 8 * first) (8 * (last + 1 - first)) keys more.steps) (sym keys_are)
            (updates-behind memory (frame + 8 * first) (8 * (last + 1 - first)) (keys_of next.front) (keys_of (next.space ∷ next.behind)) more.steps more.may);
        bound = more.bound;
      }

  -- none is left
  behind-is : (old new : ℕ) → (underway : AreUnderway memory frame first last was now 0 old new) → was ≡ underway.behind
  behind-is old new underway =
      underway.was_is ∙ ap (λ (front : List Space). front ++ underway.behind) (nil_from_length underway.front underway.many)

  done-is : (old new : ℕ) → (underway : AreUnderway memory frame first last was now 0 old new) → now ≡ underway.done
  done-is old new underway =
      underway.now_is ∙ ap (λ (front : List Space). front ++ underway.done) (nil_from_length underway.front underway.many)

  pub all-updated : (old new : ℕ) → AreUnderway memory frame first last was now 0 old new → AreUpdated memory was now
  all-updated old new underway =
      subst (λ (list : List Space). AreUpdated memory list now) (sym (behind-is old new underway))
      (subst (AreUpdated memory underway.behind) (sym (done-is old new underway)) underway.updated)

  pub all-taken : (old new : ℕ) → AreUnderway memory frame first last was now 0 old new
      → UpdatesTake memory (keys_of was) frame first last old new
  all-taken old new underway =
      subst (λ (list : List Space). UpdatesTake memory (keys_of list) frame first last old new) (sym (behind-is old new underway))
      underway.takes

-- ---- what is kept then

-- fewer of them
record IsPart (part whole : List SpaceKey) : Type 0 where
  few : length part ≤ length whole
  in_whole : (key : SpaceKey) → IsIn key part → IsIn key whole

stay-part : (memory : Memory) (earlier keys : List SpaceKey) → StayKept memory earlier keys → IsPart keys earlier
stay-part memory [] keys stay = subst (λ list. IsPart list []) (sym stay) (record { few = omega arith; in_whole = λ key is. is })
stay-part memory (one ∷ rest) keys (inl stay) =
    let part = stay-part memory rest keys stay.1 in
    record { few = omega (arith, part.few); in_whole = λ key is. inr (part.in_whole key is) }
stay-part memory (one ∷ rest) keys (inr stay) =
    let part = stay-part memory rest stay.0 stay.2 in
    subst (λ list. IsPart list (one ∷ rest)) (sym stay.3) (record {
      few = omega (arith, part.few);
      in_whole = λ key is. elim is [ inl same ↦ inl same | inr there ↦ inr (part.in_whole key there) ];
    })

stay-distinct : (memory : Memory) (earlier keys : List SpaceKey) → AreDistinct earlier → StayKept memory earlier keys → AreDistinct keys
stay-distinct memory [] keys distinct stay = subst (λ list. AreDistinct list) (sym stay) tt
stay-distinct memory (one ∷ rest) keys distinct (inl stay) = stay-distinct memory rest keys distinct.1 stay.1
stay-distinct memory (one ∷ rest) keys distinct (inr stay) =
    let part = stay-part memory rest stay.0 stay.2 in
    subst (λ list. AreDistinct list) (sym stay.3)
    ((λ is. distinct.0 (part.in_whole one is)), stay-distinct memory rest stay.0 distinct.1 stay.2)

pub updated-kept : {E : Type 0} (done : Result (Unit {0}) E) (memory : Memory) (old new : List Space) → is_err done ≡ false
    → OnOk done (AreUpdated memory old new) → MayBeKept old → MayBeKept new
updated-kept (Err e) memory old new none updated kept = absurd cc
updated-kept (Ok u) memory old new none updated kept = record {
  few =
      let part = stay-part memory (keys_of old) (keys_of new) updated.keys in
      omega (arith, part.few, kept.few, length-map old (λ (space : Space). space.key), length-map new (λ (space : Space). space.key));
  distinct = stay-distinct memory (keys_of old) (keys_of new) kept.distinct updated.keys;
}
