-- Lines that have come to their end, one after another.
use Rattle.std.proofs.Common.{◌≡◌, ◌≢◌, ℕ, ◌+◌, ◌-◌, ◌<◌, List, [], ◌∷◌, ◌++◌, length, take, drop, get_or, refl, arith, sym, ap, ◌∙◌, append_assoc, append-nil, inl, inr, subst}
use Rattle.std.proofs.lemmas.Grind.{common_steps}
use Rattle.std.proofs.lemmas.Bool.Decides.{nat_tests}
use Rattle.std.proofs.lemmas.Bool.{false≢true}
use Rattle.std.proofs.lemmas.List.{length-take-le}
use Rattle.std.proofs.lemmas.List.Elements.{recursion_from_All, All-push, All-from_get_or}
use Rattle.memchr.specs.Find.{Nowhere, Passes, is_byte}
use Rattle.std.specs.List.{AllByRecursion}
use Rattle.std.specs.Prelude.{All, Ok, Err, None, Bool, true, false, ◌≤◌, ◌⊎◌, if◌then◌else◌}
use Rattle.edit_log.specs.Log.{lines_of, whole_lines, rest_of, has_end}
use Rattle.edit_log.specs.LogLine.{event_of, line_limit}
use Rattle.edit_log.specs.declared.line_forms.LineFault.TheVariants.{TooLong}
use Rattle.edit_log.specs.Reading.{Splits}
use Rattle.edit_log.specs.Scanning.{BeginsWithLine, Heads, Tails, LinesBefore, HasLine, HasNoLine, IsTooLong, Skips}

-- bytes in which no line ends
pub no_end : (bytes : List ℕ) → AllByRecursion (λ b. b ≢ 10) bytes → has_end bytes ≡ false
no_end [] none = refl
no_end (b ∷ bytes) none = grind (arith, nat_tests, no_end bytes none.1, none.0)

pub whole-no_end : (bytes : List ℕ) → has_end bytes ≡ false → whole_lines bytes ≡ []
whole-no_end [] none = refl
whole-no_end (b ∷ bytes) none = grind (arith, nat_tests, none)

pub rest-no_end : (bytes : List ℕ) → has_end bytes ≡ false → rest_of bytes ≡ bytes
rest-no_end [] none = refl
rest-no_end (b ∷ bytes) none = grind (arith, nat_tests, none)

-- a line with its LF
end-line : (line more : List ℕ) → has_end (line ++ 10 ∷ more) ≡ true
end-line [] more = refl
end-line (b ∷ line) more = grind (arith, nat_tests, end-line line more)

lines-line : (line more : List ℕ) → AllByRecursion (λ b. b ≢ 10) line → lines_of (line ++ 10 ∷ more) ≡ line ∷ lines_of more
lines-line [] more none = refl
lines-line (b ∷ line) more none = grind (arith, nat_tests, lines-line line more none.1, none.0)

whole-line : (line more : List ℕ) → AllByRecursion (λ b. b ≢ 10) line → whole_lines (line ++ 10 ∷ more) ≡ line ∷ whole_lines more
whole-line [] more none = refl
whole-line (b ∷ line) more none = grind (arith, nat_tests, whole-line line more none.1, end-line line more, none.0)

rest-lf : (more : List ℕ) → rest_of (10 ∷ more) ≡ rest_of more
rest-lf more = let none : has_end more ≡ false → rest_of more ≡ more = rest-no_end more in grind (arith, nat_tests)

rest-line : (line more : List ℕ) → AllByRecursion (λ b. b ≢ 10) line → rest_of (line ++ 10 ∷ more) ≡ rest_of more
rest-line [] more none = rest-lf more
rest-line (b ∷ line) more none = grind (arith, nat_tests, rest-line line more none.1, end-line line more, none.0)

-- a last line without LF
lines-last : (b : ℕ) (line : List ℕ) → AllByRecursion (λ b. b ≢ 10) (b ∷ line) → lines_of (b ∷ line) ≡ (b ∷ line) ∷ []
lines-last b [] none = grind (arith, nat_tests, none.0)
lines-last b (c ∷ line) none = grind (arith, nat_tests, lines-last c line none.1, none.0)

lf_then : (line more : List ℕ) → (line ++ 10 ∷ []) ++ more ≡ line ++ 10 ∷ more
lf_then line more = append_assoc line (10 ∷ []) more

heads-line : (line : List ℕ) → AllByRecursion (λ b. b ≢ 10) line → Heads (line ++ 10 ∷ []) (line ∷ [])
heads-line line none = record {
  all = λ more. ap lines_of (lf_then line more) ∙ lines-line line more none;
  whole = λ more. ap whole_lines (lf_then line more) ∙ whole-line line more none;
  rest = λ more. ap rest_of (lf_then line more) ∙ rest-line line more none;
}

heads-nothing : Heads [] []
heads-nothing = record { all = λ more. refl; whole = λ more. refl; rest = λ more. refl }

heads-more : (a b : List ℕ) (first later : List (List ℕ)) → Heads a first → Heads b later → Heads (a ++ b) (first ++ later)
heads-more a b first later one two = record {
  all = λ more. ap lines_of (append_assoc a b more) ∙ one.all (b ++ more) ∙ ap (λ x. first ++ x) (two.all more) ∙ sym (append_assoc first later (lines_of more));
  whole = λ more. ap whole_lines (append_assoc a b more) ∙ one.whole (b ++ more) ∙ ap (λ x. first ++ x) (two.whole more) ∙ sym (append_assoc first later (whole_lines more));
  rest = λ more. ap rest_of (append_assoc a b more) ∙ one.rest (b ++ more) ∙ two.rest more;
}

pub passed-nothing : (finished : Bool) (bytes : List ℕ) → LinesBefore finished bytes bytes []
passed-nothing finished bytes = record { prefix = []; bytes = refl; ends = inl heads-nothing }

passed-ends : (finished : Bool) (b c a d : List ℕ) (first later : List (List ℕ)) → 0 < length b → b ≡ d ++ c
    → Heads a first ⊎ Tails finished a b first → Heads d later ⊎ Tails finished d c later
    → Heads (a ++ d) (first ++ later) ⊎ Tails finished (a ++ d) c (first ++ later)
passed-ends finished b c a d first later some is (inr tails) next = absurd (omega (arith, ap length tails.none))
passed-ends finished b c a d first later some is (inl heads) (inl more) = inl (heads-more a d first later heads more)
passed-ends finished b c a d first later some is (inl heads) (inr tails) = inr (record {
  last = tails.last;
  none = tails.none;
  all = heads.all d ∙ ap (λ x. first ++ x) tails.all;
})

pub passed-more : (finished : Bool) (a b c : List ℕ) (first later : List (List ℕ)) → 0 < length b
    → LinesBefore finished a b first → LinesBefore finished b c later → LinesBefore finished a c (first ++ later)
passed-more finished a b c first later some one two = record {
  prefix = one.prefix ++ two.prefix;
  bytes = one.bytes ∙ ap (λ x. one.prefix ++ x) two.bytes ∙ sym (append_assoc one.prefix two.prefix c);
  ends = passed-ends finished b c one.prefix two.prefix first later some two.bytes one.ends two.ends;
}

abbrev pub lefts : Bool → List ℕ → List (List ℕ)
lefts finished bytes = if finished then lines_of bytes else whole_lines bytes

left-ends : (finished : Bool) (prefix b : List ℕ) (lines : List (List ℕ)) → Heads prefix lines ⊎ Tails finished prefix b lines → lefts finished (prefix ++ b) ≡ lines ++ lefts finished b
left-ends true prefix b lines (inl heads) = heads.all b
left-ends false prefix b lines (inl heads) = heads.whole b
left-ends finished prefix b lines (inr tails) = rw (tails.last, tails.none, append-nil prefix, append-nil lines) tails.all

-- the lines left, before and after
pub passed-left : (finished : Bool) (a b : List ℕ) (lines : List (List ℕ)) → LinesBefore finished a b lines → lefts finished a ≡ lines ++ lefts finished b
passed-left finished a b lines passed = rw passed.bytes (left-ends finished passed.prefix b lines passed.ends)

rest-ends : (prefix b : List ℕ) (lines : List (List ℕ)) → Heads prefix lines ⊎ Tails false prefix b lines → rest_of (prefix ++ b) ≡ rest_of b
rest-ends prefix b lines (inl heads) = heads.rest b
rest-ends prefix b lines (inr tails) = absurd cc

pub passed-rest : (a b : List ℕ) (lines : List (List ℕ)) → LinesBefore false a b lines → rest_of a ≡ rest_of b
passed-rest a b lines passed = rw passed.bytes (rest-ends passed.prefix b lines passed.ends)

split-ends : (finished : Bool) (prefix b : List ℕ) (lines : List (List ℕ)) → Heads prefix lines ⊎ Tails finished prefix b lines → lines_of prefix ≡ lines
split-ends finished prefix b lines (inl heads) = rw (append-nil prefix, append-nil lines) at (heads.all [])
split-ends finished prefix b lines (inr tails) = tails.all

whole-ends : (finished : Bool) (prefix b : List ℕ) (lines : List (List ℕ)) → Heads prefix lines ⊎ Tails finished prefix b lines → (whole_lines prefix ≡ lines) ⊎ ((finished ≡ true) × (b ≡ []))
whole-ends finished prefix b lines (inl heads) = inl (rw (append-nil prefix, append-nil lines) at (heads.whole []))
whole-ends finished prefix b lines (inr tails) = inr (tails.last, tails.none)

pub before-splits : (finished : Bool) (a b : List ℕ) (lines : List (List ℕ)) → LinesBefore finished a b lines → Splits finished a b lines
before-splits finished a b lines passed = record {
  prefix = passed.prefix;
  bytes = passed.bytes;
  split = split-ends finished passed.prefix b lines passed.ends;
  ends = whole-ends finished passed.prefix b lines passed.ends;
}

-- the first line of bytes, which LF ends
pub has-line : (finished : Bool) (bytes : List ℕ) (end : ℕ) → end < length bytes → get_or bytes end 0 ≡ 10 → All (λ b. b ≢ 10) (take end bytes)
    → HasLine finished bytes (end + 1) (take end bytes)
has-line finished bytes end within is before = record {
  some = omega arith;
  within = omega arith;
  passed = record {
    prefix = take end bytes ++ 10 ∷ [];
    bytes = grind (arith, common_steps);
    ends = inl (heads-line (take end bytes) (recursion_from_All _ _ before));
  };
}

-- the last line, without LF
pub has-last : (finished : Bool) (bytes : List ℕ) → finished ≡ true → 0 < length bytes → All (λ b. b ≢ 10) bytes
    → HasLine finished bytes (length bytes) bytes
has-last finished [] last some none = absurd (omega (arith, some))
has-last finished (b ∷ bytes) last some none = record {
  some = some;
  within = omega arith;
  passed = record {
    prefix = b ∷ bytes;
    bytes = grind (arith, common_steps);
    ends = inr (record {
      last = last;
      none = grind (arith, common_steps);
      all = lines-last b bytes (recursion_from_All (λ x. x ≢ 10) (b ∷ bytes) none);
    });
  };
}

pub has-no_line : (finished : Bool) (bytes : List ℕ) → (finished ≡ true → bytes ≡ []) → All (λ b. b ≢ 10) bytes → HasNoLine finished bytes
has-no_line finished bytes all none = record { no_end = no_end bytes (recursion_from_All _ _ none); all = all }

-- after an index all that is left
pub rest_after : (xs : List ℕ) (n : ℕ) → take (length xs - n) (drop n xs) ≡ drop n xs
rest_after xs n = grind (arith, common_steps)

-- one line more
pub passed-line : (finished : Bool) (bytes : List ℕ) (size count more : ℕ) (line : List ℕ) (first : Skips finished bytes size count) → HasLine finished (drop size bytes) more line
    → LinesBefore finished bytes (drop (size + more) bytes) (first.skipped ++ line ∷ [])
passed-line finished bytes size count more line first has =
    let on : drop (size + more) bytes ≡ drop more (drop size bytes) = grind (arith, common_steps) in
    rw on (passed-more finished bytes (drop size bytes) (drop more (drop size bytes)) first.skipped (line ∷ []) (omega (arith, has.some, has.within)) first.passed has.passed)

pub skips-more : (finished : Bool) (bytes : List ℕ) (size count more : ℕ) (line : List ℕ) → Skips finished bytes size count → HasLine finished (drop size bytes) more line
    → event_of line ≡ Ok None → Skips finished bytes (size + more) (count + 1)
skips-more finished bytes size count more line first has means =
    let there : length (drop size bytes) ≡ length bytes - size = grind (arith, common_steps) in
    record {
      within = omega (arith, first.within, has.within, there);
      skipped = first.skipped ++ line ∷ [];
      skips = All-push (λ line. event_of line ≡ Ok None) first.skipped line first.skips means;
      passed = passed-line finished bytes size count more line first has;
      counts = grind (arith, common_steps, first.counts);
      few = omega (arith, first.few, has.some);
    }

-- a line that is too long already
pub long-line : (line : List ℕ) → line_limit < length line → event_of line ≡ Err TooLong
unfolding event_of
long-line line long = grind (arith, nat_tests, long)

pub too-long : (finished : Bool) (bytes : List ℕ) (size : ℕ) (line : List ℕ) → IsTooLong finished bytes size line → event_of line ≡ Err TooLong
too-long finished bytes size line long = long-line line (rw long.whole long.long)

-- of any other, the end has come
pub has-ended : (finished : Bool) (bytes : List ℕ) (size : ℕ) (line : List ℕ) → BeginsWithLine finished bytes size line → event_of line ≢ Err TooLong
    → HasLine finished bytes size line
has-ended finished bytes size line (inl has) other = has
has-ended finished bytes size line (inr long) other = absurd (other (too-long finished bytes size line long))

pub begins-some : (finished : Bool) (bytes : List ℕ) (size : ℕ) (line : List ℕ) → BeginsWithLine finished bytes size line → (0 < size) × (size ≤ length bytes)
begins-some finished bytes size line (inl has) = (has.some, has.within)
begins-some finished bytes size line (inr long) = (omega (arith, long.long, long.all), omega (arith, long.all))

-- bytes without LF are a line where no more will come, or where they are too many already
pub unended-line : (finished : Bool) (bytes : List ℕ) → All (λ b. b ≢ 10) bytes → ((finished ≡ true) × (0 < length bytes)) ⊎ (line_limit < length bytes)
    → BeginsWithLine finished bytes (length bytes) bytes
unended-line true bytes none (inl last) = inl (has-last true bytes refl last.1 none)
unended-line true bytes none (inr long) = inl (has-last true bytes refl (omega (arith, long)) none)
unended-line false bytes none (inl last) = absurd (false≢true last.0)
unended-line false bytes none (inr long) = inr (record {
  has = has-no_line false bytes (λ last. absurd (false≢true last)) none;
  long = long;
  whole = refl;
  all = refl;
})

-- what a search for LF says
no_feed : (bytes : List ℕ) (n i : ℕ) → n ≤ length bytes → Nowhere (Passes (is_byte 10) bytes) 0 n → i < length (take n bytes) → get_or (take n bytes) i 0 ≢ 10
no_feed bytes n i within nowhere below is =
    let here : i < n = rw (length-take-le n bytes within) at below in
    let same : get_or bytes i 0 ≡ 10 = grind (arith, common_steps) in
    nowhere i (omega arith) here (rw same refl)

pub no_feeds_before : (bytes : List ℕ) (n : ℕ) → n ≤ length bytes → Nowhere (Passes (is_byte 10) bytes) 0 n → All (λ b. b ≢ 10) (take n bytes)
no_feeds_before bytes n within nowhere = All-from_get_or (λ b. b ≢ 10) (take n bytes) 0 (λ i below. no_feed bytes n i within nowhere below)

pub no_feeds : (bytes : List ℕ) → Nowhere (Passes (is_byte 10) bytes) 0 (length bytes) → All (λ b. b ≢ 10) bytes
no_feeds bytes nowhere =
    let all : take (length bytes) bytes ≡ bytes = grind (arith, common_steps) in
    let none : All (λ b. b ≢ 10) (take (length bytes) bytes) = no_feeds_before bytes (length bytes) (omega arith) nowhere in
    subst (λ (xs : List ℕ). All (λ b. b ≢ 10) xs) all none
