-- What a reader's next event says of its bytes, by what a search finds in them.
use Rattle.std.proofs.Common.{◌≡◌, ℕ, ◌+◌, ◌<◌, List, [], ◌∷◌, ◌++◌, length, drop, refl, arith, sym, ap, ◌∙◌, append_assoc, append-nil, inl, inr}
use Rattle.std.proofs.lemmas.Grind.{common_steps}
use Rattle.std.specs.Prelude.{Bool, true, false, Option, Some, None, Result, Ok, Err, ◌⊎◌}
use Rattle.edit_log.specs.Log.{lines_of, rest_of}
use Rattle.history_model.specs.declared.events.Event.{Event}
use Rattle.edit_log.specs.declared.line_forms.LineFault.{LineFault}
use Rattle.edit_log.specs.LogLine.{event_of}
use Rattle.edit_log.specs.Reading.{Reading, NextLine, Gives, Passes, IsFaulty, IsEndless, IsRead, Refuses, RunsOut, SpellsWrite, count_after, left_of}
use Rattle.edit_log.specs.Scanning.{BeginsWithLine, HasLine, HasNextLine, HasNoLine, HasNothing, Skips, reading_after}
use Rattle.edit_log.proofs.Passing.{lefts, passed-left, passed-rest, before-splits, has-ended, passed-line, rest-no_end, too-long, whole-no_end}

one-more : (count : ℕ) (skipped : List (List ℕ)) (line : List ℕ) → count ≡ length skipped → count + 1 ≡ length (skipped ++ line ∷ [])
one-more count skipped line is = grind (arith, common_steps, is)

left-line : (old : Reading) (size count more : ℕ) (line : List ℕ) (skips : Skips old.finished old.rest size count) → HasLine old.finished (drop size old.rest) more line
    → left_of old ≡ skips.skipped ++ line ∷ lefts old.finished (drop (size + more) old.rest)
left-line old size count more line skips has =
    passed-left old.finished old.rest (drop (size + more) old.rest) (skips.skipped ++ line ∷ []) (passed-line old.finished old.rest size count more line skips has)
    ∙ append_assoc skips.skipped (line ∷ []) (lefts old.finished (drop (size + more) old.rest))

left-none : (finished : Bool) (bytes : List ℕ) → HasNoLine finished bytes → lefts finished bytes ≡ []
left-none true bytes has = ap lines_of (has.all refl)
left-none false bytes has = whole-no_end bytes has.no_end

left-skipped : (old : Reading) (size count : ℕ) (skips : Skips old.finished old.rest size count) → HasNoLine old.finished (drop size old.rest) → left_of old ≡ skips.skipped
left-skipped old size count skips has =
    passed-left old.finished old.rest (drop size old.rest) skips.skipped skips.passed
    ∙ ap (λ x. skips.skipped ++ x) (left-none old.finished (drop size old.rest) has) ∙ append-nil skips.skipped

rest-skipped : (old : Reading) (size count : ℕ) (skips : Skips old.finished old.rest size count) → HasNoLine old.finished (drop size old.rest) → old.finished ≡ false
    → rest_of old.rest ≡ drop size old.rest
rest-skipped old size count skips has going_on =
    passed-rest old.rest (drop size old.rest) skips.skipped (rw going_on at skips.passed) ∙ rest-no_end (drop size old.rest) has.no_end

not_finished : (finished : Bool) (bytes : List ℕ) → HasNoLine finished bytes → 0 < length bytes → finished ≡ false
not_finished true bytes has some = absurd (omega (arith, ap length (has.all refl), some))
not_finished false bytes has some = refl

next-line : (old : Reading) (size count more : ℕ) (line : List ℕ) (skips : Skips old.finished old.rest size count) → HasLine old.finished (drop size old.rest) more line
    → NextLine old skips.skipped line
next-line old size count more line skips has = record {
  skips = skips.skips;
  more = lefts old.finished (drop (size + more) old.rest);
  left = left-line old size count more line skips has;
}

-- the next line gives an event
pub gives-event : (old new : Reading) (read : Result (Option Event) LineFault) (before count after : ℕ) (line : List ℕ) (event : Event)
    → Skips old.finished old.rest before count → HasNextLine old.finished old.rest before after line → IsRead line read → old.refused ≡ None
    → new ≡ reading_after old read before after count → read ≡ Ok (Some event) → Gives old new event
gives-event old new read before count after line event skips next spells unrefused is reads =
    let means : event_of line ≡ Ok (Some event) = rw reads at spells in
    let has = has-ended old.finished (drop before old.rest) next.size line next.begins (λ long. absurd cc) in
    let now : new ≡ record old { rest = drop (before + next.size) old.rest; taken = count_after old.taken (count + 1) } = rw (reads, next.ends) at is in
    rw now (record {
      skipped = skips.skipped;
      line = line;
      skips = skips.skips;
      means = means;
      left = left-line old before count next.size line skips has;
      takes = record {
        splits = before-splits old.finished old.rest (drop (before + next.size) old.rest) (skips.skipped ++ line ∷ []) (passed-line old.finished old.rest before count next.size line skips has);
        count = ap (count_after old.taken) (one-more count skips.skipped line skips.counts);
        finished = refl;
        unrefused = unrefused;
        going = unrefused;
      };
    })

-- no line has come to its end
pub passes-all : (old new : Reading) (size count : ℕ) → Skips old.finished old.rest size count
    → HasNothing old.finished (drop size old.rest) → old.refused ≡ None
    → new ≡ record old { rest = drop size old.rest; taken = count_after old.taken count } → Passes old new
passes-all old new size count skips finds unrefused is = rw is (record {
  skipped = skips.skipped;
  skips = skips.skips;
  left = left-skipped old size count skips finds.has;
  takes = record {
    splits = before-splits old.finished old.rest (drop size old.rest) skips.skipped skips.passed;
    count = ap (count_after old.taken) skips.counts;
    finished = refl;
    unrefused = unrefused;
    going = unrefused;
  };
  none = left-none old.finished (drop size old.rest) finds.has;
  no_end = finds.has.no_end;
  short = finds.short;
  all = finds.has.all;
  begun = λ going_on. sym (rest-skipped old size count skips finds.has going_on);
})

-- the next line is refused
why-refused : (old : Reading) (fault : LineFault) (before count size : ℕ) (line : List ℕ) (skips : Skips old.finished old.rest before count)
    → BeginsWithLine old.finished (drop before old.rest) size line → event_of line ≡ Err fault
    → IsFaulty old skips.skipped fault ⊎ IsEndless old skips.skipped fault
why-refused old fault before count size line skips (inl has) means = inl (record {
  line = line;
  next = next-line old before count size line skips has;
  means = means;
})
why-refused old fault before count size line skips (inr long) means =
    let going_on = not_finished old.finished (drop before old.rest) long.has (omega (arith, long.long)) in
    let too_long = too-long old.finished (drop before old.rest) size line long in
    inr (record {
      unfinished = going_on;
      skips = skips.skips;
      left = left-skipped old before count skips long.has;
      long = rw (rest-skipped old before count skips long.has going_on) long.long;
      is = cc;
    })

pub refuses-line : (old new : Reading) (before count after : ℕ) (line : List ℕ) (fault : LineFault)
    → Skips old.finished old.rest before count → HasNextLine old.finished old.rest before after line → event_of line ≡ Err fault
    → new ≡ record old { rest = drop before old.rest; taken = count_after old.taken (count + 1); refused = Some fault } → Refuses old new fault
refuses-line old new before count after line fault skips next means is = rw is (record {
  skipped = skips.skipped;
  why = why-refused old fault before count next.size line skips next.begins means;
  splits = before-splits old.finished old.rest (drop before old.rest) skips.skipped skips.passed;
  count = ap (λ n. count_after old.taken (n + 1)) skips.counts;
  finished = refl;
  refused = refl;
})

-- out of memory for the next line
pub runs-out : (old : Reading) (before count after : ℕ) (line : List ℕ) → Skips old.finished old.rest before count
    → HasNextLine old.finished old.rest before after line → SpellsWrite line → RunsOut old old
runs-out old before count after line skips next write =
    let spells = write.spells in
    let has = has-ended old.finished (drop before old.rest) next.size line next.begins (λ long. absurd cc) in
    record {
      skipped = skips.skipped;
      line = line;
      next = next-line old before count next.size line skips has;
      write = write;
      same = refl;
    }
