use Rattle.std.proofs.Common.{◌≡◌, ◌-◌, ◌≤◌, ℕ, true, length}
use Rattle.nf_files.specs.Reads.{Keeps}
use Rattle.pcap_file.specs.Held.{Skips}
use Rattle.pcap_file.proofs.front.Front.skip.Given as goal

-- so much was stepped over so far, and the same bytes are held
abbrev pub invariant-loop-left : goal.invariant-loop-left
invariant-loop-left g l =
    let told = g.F.Files.told in
    let file = l.fn.self.file in
    record {
      same : l.self ≡ l.fn.self;
      held : l.held ≡ length l.fn.self.bytes;
      less : l.left ≤ l.fn.count;
      done : Skips (l.fn.count - l.left) ((told l.fn.files).rest file) ((told l.files).rest file) true;
      kept : Keeps (told l.fn.files) (told l.files) file;
      count : g.F.Files.counted l.files ≡ g.F.Files.counted l.fn.files;
    }

abbrev pub decreases-loop-left : goal.decreases-loop-left
decreases-loop-left g l = l.left
