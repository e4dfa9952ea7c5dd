-- What a reader takes of a log stays taken, whatever bytes follow.
use Rattle.std.proofs.Common.{◌≡◌, ℕ, List, [], ◌∷◌, ◌++◌, refl, arith, ap, sym, ◌∙◌, inl, inr, append-nil, append_assoc}
use Rattle.std.specs.Prelude.{Bool, true, false, not, ◌⊎◌}
use Rattle.edit_log.proofs.Passing.{long-line}
use Rattle.edit_log.specs.Log.{lines_of, whole_lines, rest_of}
use Rattle.edit_log.specs.Reading.{Gives, IsEndless, IsFaulty, NextLine as NextLineOf, Reading, Refuses, Splits, Takes, left_of}
use Rattle.edit_log.specs.declared.line_forms.LineFault.{LineFault}
use Rattle.history_model.specs.declared.events.Event.{Event}
use Rattle.rights.specs.Partway.{fed_all, MayFollow}
use Rattle.rights.proofs.LineEnds.{ends, goes_on, lines_after, lines_left, NextLine, next_line, rest_later, rest_none, rest_unended}

-- lines that were taken stand before the others
split_left : (finished : Bool) (old rest : List ℕ) (lines : List (List ℕ)) → Splits finished old rest lines → lines_left finished old ≡ lines ++ lines_left finished rest
split_left finished old rest lines splits =
    elim splits.ends [
      | inl whole ↦
          let none : rest_of splits.prefix ≡ [] = rest_none splits.prefix (whole ∙ sym splits.split) in
          ap (lines_left finished) splits.bytes ∙ lines_after finished splits.prefix rest
          ∙ rw (whole, none) refl
      | inr all ↦
          rw (splits.bytes, all.0, all.1) (ap lines_of (append-nil splits.prefix) ∙ splits.split ∙ sym (append-nil lines))
    ]

splits_all : (finished : Bool) (old rest unread : List ℕ) (more : Bool) (lines : List (List ℕ)) → (finished ≡ true → (unread ≡ []) × (more ≡ false))
    → Splits finished old rest lines → Splits (not more) (old ++ unread) (rest ++ unread) lines
splits_all finished old rest unread more lines may splits = record {
  prefix = splits.prefix;
  bytes = ap (λ (bytes : List ℕ). bytes ++ unread) splits.bytes ∙ append_assoc splits.prefix rest unread;
  split = splits.split;
  ends = elim splits.ends [
    | inl whole ↦ inl whole
    | inr all ↦ let last = may all.0 in inr (ap not last.1, rw (all.1, last.0) refl)
  ];
}

pub takes_all : (old new : Reading) (unread : List ℕ) (more : Bool) (lines : List (List ℕ)) → MayFollow old unread more → Takes old new lines
    → Takes (fed_all old unread more) (fed_all new unread more) lines
takes_all old new unread more lines may takes = record {
  splits = splits_all old.finished old.rest new.rest unread more lines may takes.splits;
  count = takes.count;
  finished = refl;
  unrefused = takes.unrefused;
  going = takes.going;
}

pub takes_left : (old new : Reading) (lines : List (List ℕ)) → old.finished ≡ new.finished → Takes old new lines → left_of old ≡ lines ++ left_of new
takes_left old new lines same takes =
    split_left old.finished old.rest new.rest lines takes.splits ∙ ap (λ (finished : Bool). lines ++ lines_left finished new.rest) same

pub gives_all : (old new : Reading) (unread : List ℕ) (more : Bool) (happened : Event) → MayFollow old unread more → Gives old new happened
    → Gives (fed_all old unread more) (fed_all new unread more) happened
gives_all old new unread more happened may gives =
    let takes = takes_all old new unread more (gives.skipped ++ gives.line ∷ []) may gives.takes in
    record {
      skipped = gives.skipped;
      line = gives.line;
      skips = gives.skips;
      means = gives.means;
      left = takes_left (fed_all old unread more) (fed_all new unread more) (gives.skipped ++ gives.line ∷ []) refl takes
          ∙ append_assoc gives.skipped (gives.line ∷ []) (left_of (fed_all new unread more));
      takes = takes;
    }

-- a line that is refused
next_all : (old : Reading) (unread : List ℕ) (more : Bool) (skipped : List (List ℕ)) (line : List ℕ) → MayFollow old unread more → NextLineOf old skipped line
    → (finished : Bool) → old.finished ≡ finished → NextLineOf (fed_all old unread more) skipped line
next_all old unread more skipped line may next true complete = record {
  skips = next.skips;
  more = next.more;
  left = let last = may complete in rw (last.0, last.1) (ap lines_of (append-nil old.rest) ∙ rw complete at next.left);
}
next_all old unread more skipped line may next false going =
    let left : whole_lines old.rest ≡ skipped ++ line ∷ next.more = rw going at next.left in
    record {
      skips = next.skips;
      more = next.more ++ lines_left (not more) (rest_of old.rest ++ unread);
      left = lines_after (not more) old.rest unread
          ∙ ap (λ (lines : List (List ℕ)). lines ++ lines_left (not more) (rest_of old.rest ++ unread)) left
          ∙ append_assoc skipped (line ∷ next.more) (lines_left (not more) (rest_of old.rest ++ unread));
    }

endless_all : (old : Reading) (unread : List ℕ) (more : Bool) (skipped : List (List ℕ)) (fault : LineFault) → (endless : IsEndless old skipped fault)
    → NextLine (not more) (rest_of old.rest) unread → IsFaulty (fed_all old unread more) skipped fault ⊎ IsEndless (fed_all old unread more) skipped fault
endless_all old unread more skipped fault endless next =
    let left : whole_lines old.rest ≡ skipped = rw endless.unfinished at endless.left in
    let all : left_of (fed_all old unread more) ≡ skipped ++ lines_left (not more) (rest_of old.rest ++ unread)
    = lines_after (not more) old.rest unread ∙ ap (λ (lines : List (List ℕ)). lines ++ lines_left (not more) (rest_of old.rest ++ unread)) left in
    elim next [
      | ends line others is long ↦ inl (record {
        line = line;
        next = record { skips = endless.skips; more = others; left = all ∙ ap (λ (lines : List (List ℕ)). skipped ++ lines) is };
        means = rw endless.is (long-line line (omega (arith, endless.long, long)));
      })
      | goes_on unfinished none long ↦ inr (record {
        unfinished = unfinished;
        skips = endless.skips;
        left = all ∙ ap (λ (lines : List (List ℕ)). skipped ++ lines) none ∙ append-nil skipped;
        long = rw (rest_later old.rest unread) (omega (arith, endless.long, long));
        is = endless.is;
      })
    ]

why_all : (old : Reading) (unread : List ℕ) (more : Bool) (skipped : List (List ℕ)) (fault : LineFault) → MayFollow old unread more
    → IsFaulty old skipped fault ⊎ IsEndless old skipped fault → IsFaulty (fed_all old unread more) skipped fault ⊎ IsEndless (fed_all old unread more) skipped fault
why_all old unread more skipped fault may why =
    elim why [
      | inl faulty ↦ inl (record { line = faulty.line; next = next_all old unread more skipped faulty.line may faulty.next old.finished refl; means = faulty.means })
      | inr endless ↦
          endless_all old unread more skipped fault endless
          (next_line (not more) (rest_of old.rest) unread (omega (arith, endless.long)) (rest_unended old.rest))
    ]

pub refuses_all : (old new : Reading) (unread : List ℕ) (more : Bool) (fault : LineFault) → MayFollow old unread more → Refuses old new fault
    → Refuses (fed_all old unread more) (fed_all new unread more) fault
refuses_all old new unread more fault may refuses = record {
  skipped = refuses.skipped;
  why = why_all old unread more refuses.skipped fault may refuses.why;
  splits = splits_all old.finished old.rest new.rest unread more refuses.skipped may refuses.splits;
  count = refuses.count;
  finished = refl;
  refused = refuses.refused;
}
