-- How a sink's pieces come to be the lines of a job.
use Rattle.std.proofs.Common.{◌≡◌, ℕ, List, [], ◌∷◌, ◌++◌, refl, ap, sym, ◌∙◌, append_assoc, append-nil, subst}
use Rattle.std.specs.Prelude.{Option, Some, None, Ok, Err}
use Rattle.outside.specs.Sink.{Puts, PutsBytePrefix}
use Rattle.rights.specs.Ends.{Adds, AddsPrefix, AddsTruncated, after_lines}

abbrev pub Pieces : Type 0
Pieces = Option (List (List ℕ))

-- nothing was put so far
pub adds-none : (before : Pieces) → Adds before before []
adds-none None = refl
adds-none (Some pieces) = ap Some (sym (append-nil pieces))

pub after_lines-append : (before : Pieces) (lines text : List (List ℕ)) → after_lines (after_lines before lines) text ≡ after_lines before (lines ++ text)
after_lines-append None lines text = refl
after_lines-append (Some pieces) lines text = ap Some (append_assoc pieces lines text)

pub adds-more : (before now later : Pieces) (lines text : List (List ℕ)) → Adds before now lines → Adds now later text → Adds before later (lines ++ text)
adds-more before now later lines text adds more =
    more ∙ ap (λ (o : Pieces). after_lines o text) adds ∙ after_lines-append before lines text

-- a put that succeeded, and one that failed
pub puts-line : (E : Type 0) (before now : Pieces) (line : List ℕ) → Puts {E = E} before now (Ok tt) line → Adds before now (line ∷ [])
puts-line E None now line puts = puts
puts-line E (Some pieces) now line puts = puts.1 ∙ ap Some puts.2

pub puts-truncated : {E : Type 0} (error : E) (before now : Pieces) (line : List ℕ) (more : List (List ℕ)) → Puts {E = E} before now (Err error) line
    → AddsTruncated before now (line ∷ more)
puts-truncated error None now line more puts = puts
puts-truncated error (Some pieces) now line more puts = (
  puts.0,
  puts.1,
  record {
    whole = [];
    line = line;
    more = more;
    lines_are = refl;
    puts = subst (λ (ps : List (List ℕ)). PutsBytePrefix ps puts.0 line) (sym (append-nil pieces)) puts.2;
  },
)

-- lines of which the last is truncated, after those that were put before
pub truncated-after : (before now : Pieces) (lines next : List (List ℕ)) → AddsTruncated (after_lines before lines) now next → AddsTruncated before now (lines ++ next)
truncated-after None now lines next adds = adds
truncated-after (Some pieces) now lines next adds = (
  adds.0,
  adds.1,
  record {
    whole = lines ++ adds.2.whole;
    line = adds.2.line;
    more = adds.2.more;
    lines_are = ap (λ (ls : List (List ℕ)). lines ++ ls) adds.2.lines_are ∙ sym (append_assoc lines adds.2.whole (adds.2.line ∷ adds.2.more));
    puts = subst (λ (ps : List (List ℕ)). PutsBytePrefix ps adds.0 adds.2.line) (append_assoc pieces lines adds.2.whole) adds.2.puts;
  },
)

-- with more lines after them
pub truncated-more : (before now : Pieces) (lines more : List (List ℕ)) → AddsTruncated before now lines → AddsTruncated before now (lines ++ more)
truncated-more None now lines more adds = adds
truncated-more (Some pieces) now lines more adds = (
  adds.0,
  adds.1,
  record {
    whole = adds.2.whole;
    line = adds.2.line;
    more = adds.2.more ++ more;
    lines_are = ap (λ (ls : List (List ℕ)). ls ++ more) adds.2.lines_are ∙ append_assoc adds.2.whole (adds.2.line ∷ adds.2.more) more;
    puts = adds.2.puts;
  },
)

-- a prefix of lines, after those that were put before
pub prefix-after : (before now : Pieces) (lines next : List (List ℕ)) → AddsPrefix (after_lines before lines) now next → AddsPrefix before now (lines ++ next)
prefix-after before now lines next adds = record {
  whole = lines ++ adds.whole;
  more = adds.more;
  lines_are = ap (λ (ls : List (List ℕ)). lines ++ ls) adds.lines_are ∙ sym (append_assoc lines adds.whole adds.more);
  adds = adds.adds ∙ after_lines-append before lines adds.whole;
}

pub prefix-more : (before now : Pieces) (lines more : List (List ℕ)) → AddsPrefix before now lines → AddsPrefix before now (lines ++ more)
prefix-more before now lines more adds = record {
  whole = adds.whole;
  more = adds.more ++ more;
  lines_are = ap (λ (ls : List (List ℕ)). ls ++ more) adds.lines_are ∙ append_assoc adds.whole adds.more more;
  adds = adds.adds;
}

-- no line of them
pub prefix-none : (now : Pieces) (lines : List (List ℕ)) → AddsPrefix now now lines
prefix-none now lines = record { whole = []; more = lines; lines_are = refl; adds = adds-none now }

pub truncated-at : (before now later : Pieces) (all lines next : List (List ℕ)) → all ≡ lines ++ next → Adds before now lines → AddsTruncated now later next
    → AddsTruncated before later all
truncated-at before now later all lines next is adds truncated =
    rw is (truncated-after before later lines next (subst (λ (o : Pieces). AddsTruncated o later next) adds truncated))
