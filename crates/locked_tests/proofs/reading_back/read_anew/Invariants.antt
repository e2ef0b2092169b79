use Rattle.nf_base.specs.Functions.{function_of}
use Rattle.locked_tests.proofs.reading_back.read_anew.Given as goal

-- the book that was just opened, the function, and one seat
abbrev pub ghosts-read_back : goal.ghosts-read_back
ghosts-read_back g a = record { book = a.book.seen.book; function = function_of a.func.now; seats = 1 }
