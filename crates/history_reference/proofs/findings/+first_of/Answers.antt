use Rattle.std.proofs.Common.{List, Some, sym, subst}
use Rattle.paging_model.specs.Counting.{IsIn}
use Rattle.history_model.specs.declared.caches.Finding.{Finding}
use Rattle.history_reference.specs.GivenPages.{IsFirstFinding}
use Rattle.history_reference.proofs.FirstFindings.{first-alone, first-head, first-later}
use Rattle.history_reference.proofs.findings.+first_of.Goals as goal

pub returns-then-is_not_after : goal.returns-then-is_not_after
returns-then-is_not_after t c =
    subst (λ (all : List Finding). IsFirstFinding (λ finding. IsIn finding all) (Some c.in-Some.one.now)) (sym c.in-Some.ensures.cases.0)
    (first-head c.in-Some.one.now c.in-Some-first_of.other c.in-Some.others.now c.if-is_not_after.ensures c.in-Some-first_of.ensures)

pub returns : goal.returns
returns t c =
    subst (λ (all : List Finding). IsFirstFinding (λ finding. IsIn finding all) (Some c.in-Some-first_of.other)) (sym c.in-Some.ensures.cases.0)
    (first-later c.in-Some.one.now c.in-Some-first_of.other c.in-Some.others.now c.if-is_not_after.ensures c.in-Some-first_of.ensures)

pub returns-in_default-first_of : goal.returns-in_default-first_of
returns-in_default-first_of t c =
    subst (λ (all : List Finding). IsFirstFinding (λ finding. IsIn finding all) (Some c.in-Some.one.now)) (sym c.in-Some.ensures.cases.0)
    (first-alone c.in-Some.one.now c.in-Some.others.now c.in_default-first_of.ensures)
