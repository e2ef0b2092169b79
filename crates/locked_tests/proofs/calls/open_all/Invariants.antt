use Rattle.std.proofs.Common.{◌≡◌, ◌+◌, ℕ, length, Some, slice_get}
use Rattle.packet_feed.specs.Told.{EachFile}
use Rattle.locked_tests.proofs.calls.open_all.Given as goal
use Rattle.nf_files.specs.Told.{IsRead}

-- those so far are opened, and numbered in order
abbrev pub invariant-loop-name : goal.invariant-loop-name
invariant-loop-name g l =
    let told = g.F.Files.told in
    record {
      count : length l.opened.items ≡ l.name-index;
      next : (told l.files).next ≡ (told l.fn.files).next + l.name-index;
      numbered : (i f : ℕ) → slice_get l.opened.items i ≡ Some f → f ≡ (told l.fn.files).next + i;
      readable : EachFile (IsRead (g.F.Files.told l.files)) l.opened.items;
    }
