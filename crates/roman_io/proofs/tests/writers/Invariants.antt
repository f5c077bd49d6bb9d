use Rattle.roman_io.proofs.tests.writers.Given as goal

abbrev pub ghosts-count_two : goal.ghosts-count_two
ghosts-count_two g a = record { name = a.blank.name; parts = a.blank.parts }
