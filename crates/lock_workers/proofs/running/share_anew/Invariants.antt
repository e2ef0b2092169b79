use Rattle.nf_base.specs.Functions.{function_of}
use Rattle.lock_workers.proofs.running.share_anew.Given as goal

-- the book that was just opened, the function, and as many seats as workers
abbrev pub ghosts-share : goal.ghosts-share
ghosts-share g a = record { book = a.book.seen.book; function = function_of a.func.now; seats = a.workers }
