use Rattle.std.proofs.Common.{sym, ◌∙◌}
use Rattle.edit_log.proofs.Splitting.{word_at, word_whole}
use Rattle.edit_log.proofs.words.Words.next.Goals as goal

pub returns-in-Some-clause-ok : goal.returns-in-Some-clause-ok
returns-in-Some-clause-ok c =
    sym c.self.view_is ∙ word_at c.self.inside.line.now c.in-Some.end c.in-Some.ensures.within c.in-Some.ensures.space c.in-Some.ensures.before

pub returns-in-None-clause-err : goal.returns-in-None-clause-err
returns-in-None-clause-err c = record { word = c.self.inside.line.now; is = sym c.self.view_is ∙ word_whole c.self.inside.line.now c.in-None.ensures.none }
