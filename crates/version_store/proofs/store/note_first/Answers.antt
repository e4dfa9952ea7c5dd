use Rattle.std.proofs.Common.{◌≡◌, List, [], ◌∷◌, ◌++◌, ◌+◌, ap, ◌∙◌, arith}
use Rattle.version_store.specs.Changes.{kept_blocks, blocks_for}
use Rattle.version_store.specs.declared.change.Change.{Change}
use Rattle.version_store.proofs.Frames.{kept_blocks-insert}
use Rattle.version_store.proofs.store.note_first.Goals as goal

pub returns-clause-blocks : goal.returns-clause-blocks
returns-clause-blocks c =
    ap kept_blocks c.in_default.ensures.entries
    ∙ (kept_blocks-insert _ _ _ c.insert.ensures.was_ordered c.requires.none
    ∙ ap (λ n. kept_blocks c.args.frames.now.entries + n) (ap blocks_for (c.in_ok-push.ensures.ok ∙ ap (λ (changes : List Change). changes ++ c.args.change ∷ []) c.new-changes.ensures)))

pub returns-clause-counts : goal.returns-clause-counts
returns-clause-counts c =
    let blocks : kept_blocks c.insert.new.self.entries ≡ kept_blocks c.args.frames.now.entries + blocks_for c.push.new.self =
    ap kept_blocks c.in_default.ensures.entries ∙ kept_blocks-insert _ _ _ c.insert.ensures.was_ordered c.requires.none in
    let counts = c.push.ensures.counts in
    let none : blocks_for c.new-changes.result ≡ 0 = ap blocks_for c.new-changes.ensures in
    omega (arith, blocks, counts, none)
