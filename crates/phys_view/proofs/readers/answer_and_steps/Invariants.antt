use Rattle.phys_view.proofs.readers.answer_and_steps.Given as goal

abbrev pub ghosts-answer_and_steps_with : goal.ghosts-answer_and_steps_with
ghosts-answer_and_steps_with g a = record { name = a.blank.name; parts = a.blank.parts }
