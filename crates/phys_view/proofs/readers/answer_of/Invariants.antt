use Rattle.phys_view.proofs.readers.answer_of.Given as goal

abbrev pub ghosts-answer_with : goal.ghosts-answer_with
ghosts-answer_with g a = record { name = a.blank.name; parts = a.blank.parts }
