use Rattle.std.proofs.Common.{◌≡◌, ◌-◌, ◌≤◌, ℕ, length}
use Rattle.pcap_file.specs.Held.{Grows}
use Rattle.pcap_file.proofs.front.Front.fill.Given as goal

-- what was taken so far is still to come
abbrev pub invariant-loop-self : goal.invariant-loop-self
invariant-loop-self g l =
    let told = g.F.Files.told in
    record {
      grows : Grows l.fn.self l.self (told l.fn.files) (told l.files);
      most : length l.self.bytes ≤ l.wanted;
      count : g.F.Files.counted l.files ≡ g.F.Files.counted l.fn.files;
    }

abbrev pub decreases-loop-self : goal.decreases-loop-self
decreases-loop-self g l = l.wanted - length l.self.bytes
