use Rattle.std.proofs.Common.{◌≡◌, ◌++◌, List, sym, ap, ◌∙◌, subst}
use Rattle.std.specs.BTreeMap.Range.{entries_between}
use Rattle.paging_model.specs.declared.spaces.TableUse.{TableUse}
use Rattle.frame_index.specs.CountedUses.{AreThose}
use Rattle.frame_index.specs.Records.{frame_cmp, records_in, tables_of}
use Rattle.frame_index.proofs.Flags.{none_of_frame}
use Rattle.frame_index.proofs.Ranges.{first_of, last_of}
use Rattle.frame_index.proofs.Tables.{those_of_frame}
use Rattle.frame_index.proofs.records.Records.of_frame.Goals as goal

pub returns : goal.returns
returns c =
    subst (λ (tables : List TableUse). AreThose (λ (table : TableUse). table.frame ≡ c.args.frame) (records_in c.args.self.now.slab.slots) tables)
    (sym (c.in_ok-push_frame.ensures.tables ∙ ap (λ (tables : List TableUse). tables
    ++ tables_of c.args.self.now.slab.slots (entries_between frame_cmp (first_of c.args.frame) (last_of c.args.frame) c.args.self.now.frames.entries))
    c.new-tables.ensures.items))
    (those_of_frame _ _ _ _ c.requires.filed c.push_frame.ensures.ordered c.args.frame)

pub returns-then-not-has : goal.returns-then-not-has
returns-then-not-has c =
    subst (λ (tables : List TableUse). AreThose (λ (table : TableUse). table.frame ≡ c.args.frame) (records_in c.args.self.now.slab.slots) tables)
    (sym c.new-tables.ensures.items)
    (none_of_frame c.args.self.now.slab.slots c.args.self.now.seen.flags.items c.args.frame c.requires.flags (sym c.has.ensures ∙ c.if-not-has.true))
