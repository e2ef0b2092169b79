-- Laws of captures.
use Rattle.std.specs.Prelude.{◌≡◌, ℕ, ◌<◌, ◌^◌, List, ◌++◌, length, Some}
use Rattle.std.specs.List.{All, AllByRecursion}
use Rattle.pcap_file.specs.Record.{Record, Fits}
use Rattle.pcap_file.specs.Capture.{Capture, capture_from, capture_of, behind}
use Rattle.pcap_file.specs.Spelled.{IsSpelled, written_form, capture_bytes}

-- what bytes come to is spelled by them
abbrev pub CapturesAreSpelled : Type 0
CapturesAreSpelled =
    (bytes : List ℕ) (c : Capture) → All (λ b. b < 256) bytes → capture_of bytes ≡ Some c → IsSpelled bytes c

-- what is spelled by bytes is what they come to
abbrev pub SpelledIsRead : Type 0
SpelledIsRead =
    (bytes : List ℕ) (c : Capture) → length bytes < 2 ^ 64 → IsSpelled bytes c → capture_of bytes ≡ Some c

-- what was written is read again, whatever follows it
abbrev pub WrittenIsRead : Type 0
WrittenIsRead =
    (rs : List Record) (left : List ℕ) → AllByRecursion Fits rs → length (capture_bytes rs) < 2 ^ 64 →
    capture_of (capture_bytes rs ++ left)
    ≡ Some (behind rs (capture_from written_form (length (capture_bytes rs)) left))
