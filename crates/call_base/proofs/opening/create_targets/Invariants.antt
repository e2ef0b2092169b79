use Rattle.std.proofs.Common.{◌≡◌, ◌+◌, ◌≤◌, ℕ, List, length, Some, string_bytes, slice_get}
use Rattle.nf_files.specs.Causes.{asking}
use Rattle.call_base.specs.Names.{name_at, created_by}
use Rattle.call_base.specs.Opened.{AreCreated}
use Rattle.call_base.proofs.opening.create_targets.Given as goal
use Rattle.nf_files.specs.Told.{IsWritten}

-- the files so far are created
abbrev pub invariant-places : goal.invariant-places
invariant-places g l =
    let told = g.F.Files.told in
    record {
      count : length l.targets.items ≡ l.place;
      behind : (told l.files).next ≡ l.last + 1;
      numbers : (i f : ℕ) → slice_get l.targets.items i ≡ Some f → f ≡ (told l.fn.files).next + i;
      created : AreCreated (told l.fn.files) (told l.files) (name_at l.format (string_bytes l.out) l.ports) l.place;
      writable : (i f : ℕ) → slice_get l.targets.items i ≡ Some f → IsWritten (g.F.Files.told l.files) f;
      asked : g.F.Files.counted l.files ≡ asking (created_by l.format (string_bytes l.out) l.ports l.place) (g.F.Files.counted l.fn.files);
    }
