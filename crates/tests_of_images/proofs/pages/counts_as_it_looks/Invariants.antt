-- Nothing is counted: the ledger is the blank one.
use Rattle.tests_of_images.proofs.pages.counts_as_it_looks.Given as goal

abbrev pub ghosts-looked : goal.ghosts-looked
ghosts-looked a = record { name = a.blank.name; parts = a.blank.parts }
