use Rattle.std.proofs.Common.{◌≡◌, ◌<◌, ◌+◌, ℕ, List, map, take, length, Some, string_bytes, slice_get}
use Rattle.nf_files.specs.Causes.{asking}
use Rattle.call_base.specs.Outside.{IsUntouched}
use Rattle.call_base.specs.Names.{reading}
use Rattle.call_base.specs.Opened.{AreOpened}
use Rattle.call_base.proofs.opening.open_captures.Given as goal
use Rattle.nf_files.specs.declared.kind.Kind.{Kind}
use Rattle.nf_files.specs.Told.{IsRead}

-- the names so far are opened
abbrev pub invariant-loop-name : goal.invariant-loop-name
invariant-loop-name g l =
    let told = g.F.Files.told in
    record {
      count : length l.opened.items ≡ l.name-index;
      behind : (told l.files).next ≡ l.last + 1;
      from : (told l.files).next ≡ (told l.fn.files).next + l.name-index;
      opened : AreOpened (told l.fn.files) (told l.files) (map string_bytes l.names) l.opened.items;
      readable : (i f : ℕ) → slice_get l.opened.items i ≡ Some f → IsRead (g.F.Files.told l.files) f;
      untouched : IsUntouched (told l.fn.files) (told l.files);
      kinds : (n : ℕ) (kind : Kind) → (told l.fn.files).kind n ≡ Some kind → (told l.files).kind n ≡ Some kind;
      rests : (n : ℕ) → n < (told l.fn.files).next → (told l.files).rest n ≡ (told l.fn.files).rest n;
      asked : g.F.Files.counted l.files ≡ asking (take l.name-index (map reading (map string_bytes l.names))) (g.F.Files.counted l.fn.files);
    }
