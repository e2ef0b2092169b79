use Rattle.std.proofs.Common.{◌≡◌, ◌≤◌, ◌<◌, ◌-◌, ◌^◌, ℕ, List, Option, Some}
use Rattle.nf_files.specs.Reads.{Keeps}
use Rattle.pcap_file.specs.declared.reader.State.TheVariants.{Going}
use Rattle.pcapng_file.specs.Heard.{Stream}
use Rattle.pcapng_file.specs.Reading.{left}
use Rattle.pcapng_file.proofs.reader.NgReader.advance.Given as goal

-- the blocks that were taken so far were no packets: the same is left
abbrev pub invariant-loop-next : goal.invariant-loop-next
invariant-loop-next g l =
    let told = g.F.Files.told in
    record {
      left_is : (before : Stream) → left l.fn.self (told l.fn.files) ≡ Some before → left l.self (told l.files) ≡ Some before;
      frame_is : l.frame.items ≡ l.fn.frame.items;
      behind : l.fn.self.offset ≤ l.self.offset;
      going : l.self.state ≡ Going;
      file_is : l.self.file ≡ l.fn.self.file;
      kept : Keeps (told l.fn.files) (told l.files) l.fn.self.file;
      count : g.F.Files.counted l.files ≡ g.F.Files.counted l.fn.files;
    }

abbrev pub decreases-loop-next : goal.decreases-loop-next
decreases-loop-next g l = 2 ^ 32 - l.self.quiet
