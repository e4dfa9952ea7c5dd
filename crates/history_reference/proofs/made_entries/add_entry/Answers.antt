use Rattle.std.proofs.Common.{inl, inr, rules, subst, sym}
use Rattle.paging_model.specs.Counting.{IsIn}
use Rattle.paging_reference.proofs.Membership.{IsIn-append_one}
use Rattle.history_reference.proofs.made_entries.add_entry.Goals as goal

pub returns-then-has_entry : goal.returns-then-has_entry
returns-then-has_entry c other =
    let there : IsIn c.args.entry c.args.list.now.items = rw c.deref.ensures.value at (c.has_entry.ensures.0 (search (rules, c.if-has_entry.true))) in
    (λ before. inl before, elim [ inl before ↦ before | inr same ↦ subst (λ one. IsIn one c.args.list.now.items) (sym same) there ])

pub returns : goal.returns
returns c other = rw c.in_ok-push.ensures.items (IsIn-append_one other c.args.list.now.items c.args.entry)
