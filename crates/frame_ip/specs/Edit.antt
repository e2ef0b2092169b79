-- The edits of a packet, written into its frame. An edit of an address of the other version of IP leaves
-- the frame as it is.
use Rattle.std.specs.Prelude.{ℕ, List, if◌then◌else◌}
use Rattle.nf_base.specs.declared.done.Edits.{Edits}
use Rattle.frame_ip.specs.Frame.{is_four}
use Rattle.frame_ip.specs.Writes.{Write, put_all}
use Rattle.frame_ip.specs.FourEdit as four
use Rattle.frame_ip.specs.SixEdit as six
pub use Rattle.frame_ip.specs.Writes.{IsUnedited}

-- the words that are written into a handled frame, by its version of IP, in the order in which they stand
abbrev pub writes : Edits → List ℕ → List Write
writes edits frame = if is_four frame then four.writes edits frame else six.writes edits frame

-- a handled frame with the edits in it
unfoldable pub edited : Edits → List ℕ → List ℕ
edited edits frame = put_all (writes edits frame) frame
