use Rattle.std.proofs.Common.{◌≡◌, ℕ, ◌+◌, ◌*◌, ◌/◌, ◌<◌, ◌≤◌, Ok, ap, arith, nat_eq, rules, subst, true}
use Rattle.paging_model.specs.Memory.{entry_at}
use Rattle.phys_view.specs.Ranges.{SeenEntries}
use Rattle.phys_view.specs.Seen.{Seen, memory_of}
use Rattle.version_store.specs.Changes.{changes_of, last_time}
use Rattle.stale_audit.specs.SteadyTables.{IsAbsent}
use Rattle.stale_audit.proofs.SteadyTableLaws.{all-below, known-more, last_steady, steady-absent, steady-on, table-steady}
use Rattle.stale_audit.proofs.steady_tables.+search.Goals as goal

pub is_steady-returns-then-level-eq1-clause-steady : goal.is_steady-returns-then-level-eq1-clause-steady
is_steady-returns-then-level-eq1-clause-steady g t c is =
    let unchanged : last_time (changes_of c.args.point.now.kept (c.args.table / 4096)) ≤ c.args.point.now.host.horizon = search rules in
    let level : c.args.level ≡ 1 = search rules in
    rw level (last_steady c.args.point.now c.args.table c.requires.frame.aligned unchanged)

pub is_steady-returns-clause-steady : goal.is_steady-returns-clause-steady
is_steady-returns-clause-steady g t c is =
    let unchanged : last_time (changes_of c.args.point.now.kept (c.args.table / 4096)) ≤ c.args.point.now.host.horizon = search rules in
    let all : nat_eq c.in_ok-steady.field-0 512 ≡ true = search rules in
    table-steady c.args.point.now c.args.level c.args.table c.requires.least c.requires.frame.aligned unchanged
    (all-below c.args.point.now c.args.level c.entries-entries.result.at c.args.table c.in_ok-steady.field-0
    (ap (λ (one : SeenEntries). one.at) c.entries-entries.ensures.value) c.in_ok-steady.ensures.steady all)

pub is_steady-returns-clause-known : goal.is_steady-returns-clause-known
is_steady-returns-clause-known g t c =
    let unchanged : last_time (changes_of c.args.point.now.kept (c.args.table / 4096)) ≤ c.args.point.now.host.horizon = search rules in
    known-more c.args.point.now c.next_unsteady.new.known c.remember.new.known c.args.level c.args.table (c.args.table + c.from.result) (nat_eq c.in_ok-steady.field-0 512)
    c.requires.most c.requires.frame.aligned (ap (λ n. c.args.table + n) c.from.ensures)
    c.next_unsteady.ensures.known
    (λ all. table-steady c.args.point.now c.args.level c.args.table c.requires.least c.requires.frame.aligned unchanged
    (all-below c.args.point.now c.args.level c.entries-entries.result.at c.args.table c.in_ok-steady.field-0
    (ap (λ (one : SeenEntries). one.at) c.entries-entries.ensures.value) c.in_ok-steady.ensures.steady all))
    c.in_ok-remember.ensures.same c.in_ok-remember.ensures.others

pub next_unsteady-loop-i-init : goal.next_unsteady-loop-i-init
next_unsteady-loop-i-init g t c = record {
  known = c.requires.known;
  least = c.next_present-i.ensures.least;
  most = c.next_present-i.ensures.most;
  steady = steady-absent c.args.point.now c.args.level c.args.entries.now.at c.args.from c.next_present-i.result
      (subst (λ (seen : Seen). (k : ℕ) → c.args.from ≤ k → k < c.next_present-i.result → IsAbsent (entry_at (memory_of seen) (c.args.entries.now.at + 8 * k)))
      c.requires.seen c.next_present-i.ensures.absent);
}

pub next_unsteady-loop-i-preserved : goal.next_unsteady-loop-i-preserved
next_unsteady-loop-i-preserved g t c = record {
  known = c.is_steady_below.ensures.known;
  least = let before = c.loop-i.invariant.least in let next = c.next_present-i-in-loop-i.ensures.least in omega (arith, before, next);
  most = c.next_present-i-in-loop-i.ensures.most;
  steady = steady-on c.args.point.now c.args.level c.args.entries.now.at c.args.from c.loop-i.i c.next_present-i-in-loop-i.result c.loop-i.invariant.steady
      (let steady : c.in_ok-is_steady_below.field-0 ≡ true = search rules in c.in_ok-is_steady_below.ensures.steady (ap Ok steady))
      (subst (λ (seen : Seen). (k : ℕ) → c.loop-i.i + 1 ≤ k → k < c.next_present-i-in-loop-i.result → IsAbsent (entry_at (memory_of seen) (c.args.entries.now.at + 8 * k)))
      c.requires.seen c.next_present-i-in-loop-i.ensures.absent);
}
