use Rattle.std.proofs.Common.{arith, sym, ◌∙◌, refl}
use Rattle.phys_view.proofs.Writing.{found_block, full-refused, not_found, page_of-is, writes-insert, writes-put}
use Rattle.phys_view.proofs.view.View.write.Goals as goal

pub returns-then-put-clause-ok : goal.returns-then-put-clause-ok
returns-then-put-clause-ok g c =
    let known = rw (sym c.self.view_is) at c.in_default.ensures.value in
    let found = found_block _ c.if-put.ensures.found in
    let changed = c.put.ensures.changed found.0 found.1 in
    rw (sym c.self.view_is) (writes-put _ _ c.args.pool.now c.args.pool.now c.args.at found.0 c.args.bytes.now
    (record { known = sym known; some = c.requires.some; within = c.if-offset-bytes-gt-BLOCK_LEN.false })
    found.1 changed.0 refl changed.1 c.put.ensures.count refl)

pub returns-then-len-ge-PAGE_LIMIT-clause-refused : goal.returns-then-len-ge-PAGE_LIMIT-clause-refused
returns-then-len-ge-PAGE_LIMIT-clause-refused g c =
    let known = rw (sym c.self.view_is) at c.in_default.ensures.value in
    let absent = not_found _ c.if-put.ensures.found in
    let count = c.len.ensures ∙ c.put.ensures.count in
    rw (sym c.self.view_is) (λ other. full-refused _ c.args.at _
    (record { known = sym known; some = c.requires.some; within = c.if-offset-bytes-gt-BLOCK_LEN.false })
    absent (omega (arith, count, c.if-len-ge-PAGE_LIMIT.true)))

pub returns-clause-ok : goal.returns-clause-ok
returns-clause-ok g c =
    let known = rw (sym c.self.view_is) at c.in_default.ensures.value in
    let absent = not_found _ c.if-put.ensures.found in
    let count = c.len.ensures ∙ c.put.ensures.count in
    let filled = rw (page_of-is c.args.at) at c.in-Ok.ensures.known in
    let inserted = rw (c.put.ensures.absent absent) at c.in_default-insert.ensures.ok in
    rw (sym c.self.view_is) (writes-insert _ _ c.args.pool.now c.block_of.new.pool c.args.at c.in-Ok.block c.put-2.new.self c.args.bytes.now
    (record { known = sym known; some = c.requires.some; within = c.if-offset-bytes-gt-BLOCK_LEN.false })
    absent (omega (arith, count, c.if-len-ge-PAGE_LIMIT.false))
    c.in-Ok.ensures.len filled c.put-2.ensures.value refl inserted c.in-Ok.ensures.ok)
