-- The pieces that are read of a log, and the log that they may be of.
use Rattle.std.proofs.Common.{◌≡◌, ℕ, ◌+◌, ◌<◌, ◌≤◌, List, [], ◌∷◌, ◌++◌, refl, arith, ap, sym, ◌∙◌, length, length-append, append-nil, take, drop}
use Rattle.std.proofs.lemmas.Grind.{common_steps}
use Rattle.std.proofs.lemmas.Bool.Decides.{nat_tests}
use Rattle.std.proofs.lemmas.List.{take-append-drop}
use Rattle.std.proofs.Math.Seq.{take-add}
use Rattle.std.specs.Prelude.{Bool, true, false, nat_lt, Result, Ok}
use Rattle.history_model.specs.History.{History}
use Rattle.outside.specs.Shelf.{Known, unspecified, missing, has_bytes, Reads, ReadsFrom}
use Rattle.outside.specs.Whole.{IsBytePrefix}
use Rattle.rights.specs.HandledLines.{log_limit}
use Rattle.rights.specs.Jobs.{answers}
use Rattle.rights.specs.LogPieces.{HasRead, IsPieceAfter, MayHaveMore}
use Rattle.rights.specs.Run.{MayBe}
use Rattle.rights.specs.Stopping.{EndsOrStops, StopsForLog}
use Rattle.rights.specs.declared.statuses.Status.{Status}
use Rattle.rights.specs.declared.stopping.Stop.{Stop}
use Rattle.rights.proofs.PutPieces.{Pieces}

-- a log that may stand under a name, of which these bytes were read, and these are unread up to its limit
pub record IsLogOf (known : Known) (read unread : List ℕ) (more : Bool) : Type 0 where
  pub log : List ℕ
  pub may_be : MayBe known log
  pub bytes : take log_limit log ≡ read ++ unread
  pub more_is : nat_lt log_limit (length log) ≡ more

pub record SomeLog (known : Known) (read : List ℕ) : Type 0 where
  pub unread : List ℕ
  pub more : Bool
  pub is : IsLogOf known read unread more
  pub within : length read + length unread ≤ log_limit

-- bytes within a limit, and up to it
take_all : (limit : ℕ) (bytes : List ℕ) → length bytes ≤ limit → take limit bytes ≡ bytes ++ []
take_all limit bytes within = grind (arith, common_steps)

within_limit : (limit : ℕ) (bytes : List ℕ) → length bytes ≤ limit → nat_lt limit (length bytes) ≡ false
within_limit limit bytes within = grind (arith, nat_tests)

past_limit : (limit : ℕ) (bytes : List ℕ) → limit < length bytes → nat_lt limit (length bytes) ≡ true
past_limit limit bytes past = grind (arith, nat_tests)

take_more : (limit : ℕ) (bytes more : List ℕ) → length bytes ≡ limit → take limit (bytes ++ more) ≡ bytes ++ []
take_more limit bytes more full = grind (arith, common_steps)

take_parts : (limit size : ℕ) (content : List ℕ) → size ≤ limit → take limit content ≡ take size content ++ drop size (take limit content)
take_parts limit size content within =
    sym (take-append-drop size (take limit content)) ∙ ap (λ (first : List ℕ). first ++ drop size (take limit content)) (take_less limit size content within)
  where
    take_less : (limit size : ℕ) (content : List ℕ) → size ≤ limit → take size (take limit content) ≡ take size content
    take_less limit size content within = grind (arith, common_steps)

drop_within : (limit size : ℕ) (content : List ℕ) → size ≤ limit → size + length (drop size (take limit content)) ≤ limit
drop_within limit size content within = grind (arith, common_steps)

-- the log ends where it was read to its end, and has more where it was read to its limit
pub ended_log : (known : Known) (read : List ℕ) → length read ≤ log_limit → MayBe known read → IsLogOf known read [] false
ended_log known read within may_be = record {
  log = read;
  may_be = may_be;
  bytes = take_all log_limit read within;
  more_is = within_limit log_limit read within;
}

pub long_log : (known : Known) (read : List ℕ) → length read ≡ log_limit → HasRead known read → MayHaveMore known read → IsLogOf known read [] true
long_log unspecified read full has more = record {
  log = read ++ 0 ∷ [];
  may_be = tt;
  bytes = take_more log_limit read (0 ∷ []) full;
  more_is = past_limit log_limit (read ++ 0 ∷ []) (omega (arith, full, length-append read (0 ∷ [])));
}
long_log missing read full has more = absurd more
long_log (has_bytes content) read full has more = record {
  log = content;
  may_be = refl;
  bytes = rw full at (sym has.same) ∙ sym (append-nil read);
  more_is = past_limit log_limit content (omega (arith, full, more));
}

-- some log has what was read
pub some_log : (known : Known) (read : List ℕ) → 0 < length read → length read ≤ log_limit → HasRead known read → SomeLog known read
some_log unspecified read some within has = record {
  unread = [];
  more = false;
  is = ended_log unspecified read within tt;
  within = omega (arith, within);
}
some_log missing read some within has = absurd (omega (arith, some, ap length has))
some_log (has_bytes content) read some within has = record {
  unread = drop (length read) (take log_limit content);
  more = nat_lt log_limit (length content);
  is = record {
    log = content;
    may_be = refl;
    bytes = take_parts log_limit (length read) content within ∙ ap (λ (bytes : List ℕ). bytes ++ drop (length read) (take log_limit content)) (sym has.same);
    more_is = refl;
  };
  within = drop_within log_limit (length read) content within;
}

pub stops_log : (start : History) (known : Known) (before now : Pieces) (result : Result Status Stop) (read unread : List ℕ) (more : Bool) → IsLogOf known read unread more
    → EndsOrStops (answers start more (read ++ unread)) before now result → StopsForLog start known before now result
stops_log start known before now result read unread more is stops = record {
  log = is.log;
  log_is = is.may_be;
  stops = rw (is.more_is, is.bytes) stops;
}

-- a read after what was read gives a piece after it
next_bytes : (content : List ℕ) (size count : ℕ) → size + count ≤ length content → take size content ++ take count (drop size content) ≡ take (size + count) content
next_bytes content size count within = sym (take-add size count content)

prefix_more : (content before piece : List ℕ) (at count : ℕ) (into : List ℕ) → length before ≡ at → IsBytePrefix content before → ReadsFrom content at count into
    → piece ≡ take count into → length piece ≡ count → IsBytePrefix content (before ++ piece)
prefix_more content before piece at count into at_is prefix reads is size =
    let there : at + count ≤ length content = omega (arith, reads.there, prefix.within, at_is) in
    let all : length (before ++ piece) ≡ at + count = length-append before piece ∙ omega (arith, at_is, size) in
    let first : before ≡ take at content = rw at_is at prefix.same in
    let second : piece ≡ take count (drop at content) = is ∙ reads.same in
    record {
      within = omega (arith, all, there);
      same = rw all (ap (λ (bytes : List ℕ). bytes ++ piece) first ∙ ap (λ (bytes : List ℕ). take at content ++ bytes) second ∙ next_bytes content at count there);
    }

pub size_of : (count : ℕ) (into : List ℕ) → count ≤ length into → length (take count into) ≡ count
size_of count into within = grind (arith, common_steps)

pub piece_after : (E : Type 0) (known : Known) (before piece : List ℕ) (at count : ℕ) (into : List ℕ) → length before ≡ at → HasRead known before
    → Reads {E = E} known at (Ok count) into → piece ≡ take count into → count ≤ length into → 0 < count → at + count ≤ log_limit → IsPieceAfter known before piece
piece_after E known before piece at count into at_is has reads is within some limit =
    let size : length piece ≡ count = ap length is ∙ size_of count into within in
    record {
      some = omega (arith, size, some);
      within = omega (arith, size, at_is, limit);
      read = by_known known size has reads;
    }
  where
    by_known : (known : Known) → length piece ≡ count → HasRead known before → Reads {E = E} known at (Ok count) into → HasRead known (before ++ piece)
    by_known unspecified size has reads = tt
    by_known missing size has reads = absurd (let never : false ≡ true = reads in cc)
    by_known (has_bytes content) size has reads = prefix_more content before piece at count into at_is has reads is size

-- a read that gives nothing is at the end, and one that gives some isn't
all_bytes : (content before : List ℕ) → length content ≤ length before → IsBytePrefix content before → before ≡ content
all_bytes content before end prefix =
    let same : before ≡ take (length before) content = prefix.same in same ∙ take_whole (length before) content end
  where
    take_whole : (size : ℕ) (bytes : List ℕ) → length bytes ≤ size → take size bytes ≡ bytes
    take_whole size bytes within = grind (arith, common_steps)

pub nothing_after : (E : Type 0) (known : Known) (before : List ℕ) (at count : ℕ) (into : List ℕ) → length before ≡ at → HasRead known before
    → Reads {E = E} known at (Ok count) into → count ≡ 0 → 0 < length into → MayBe known before
nothing_after E unspecified before at count into at_is has reads none room = tt
nothing_after E missing before at count into at_is has reads none room = absurd (let never : false ≡ true = reads in cc)
nothing_after E (has_bytes content) before at count into at_is has reads none room =
    let end : length content ≤ at = reads.none none room in
    all_bytes content before (omega (arith, end, at_is)) has

pub more_after : (E : Type 0) (known : Known) (before : List ℕ) (at count : ℕ) (into : List ℕ) → length before ≡ at → Reads {E = E} known at (Ok count) into → 0 < count
    → MayHaveMore known before
more_after E unspecified before at count into at_is reads some = tt
more_after E missing before at count into at_is reads some = absurd (let never : false ≡ true = reads in cc)
more_after E (has_bytes content) before at count into at_is reads some = omega (arith, at_is, reads.there, some)
