use Rattle.roman_c.proofs.roman_check.Given as goal

abbrev pub ghosts-worked : goal.ghosts-worked
ghosts-worked a = record { name = a.blank.name; parts = a.blank.parts }
