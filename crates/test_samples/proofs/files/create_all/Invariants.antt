use Rattle.std.proofs.Common.{◌≡◌, ◌+◌, ◌≤◌, ℕ, length, Some, slice_get}
use Rattle.nf_files.specs.Told.{IsEmptyIfTold, IsRead, IsWritten}
use Rattle.packet_feed.specs.Told.{EachFile}
use Rattle.test_samples.proofs.files.create_all.Given as goal

-- those so far are created and empty, and numbered in order
abbrev pub invariant-loop-name : goal.invariant-loop-name
invariant-loop-name g l =
    let told = g.F.Files.told in
    record {
      count : length l.made.items ≡ l.name-index;
      next : (told l.files).next ≡ (told l.fn.files).next + l.name-index;
      numbered : (i f : ℕ) → slice_get l.made.items i ≡ Some f → f ≡ (told l.fn.files).next + i;
      from_two : (i f : ℕ) → slice_get l.made.items i ≡ Some f → 2 ≤ f;
      writable : EachFile (IsWritten (g.F.Files.told l.files)) l.made.items;
      empty : EachFile (λ file. IsEmptyIfTold ((told l.files).given file)) l.made.items;
      reads : (h : ℕ) → IsRead (told l.fn.files) h → IsRead (told l.files) h;
    }
