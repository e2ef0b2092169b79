-- Which frames are handled, of which version of IP they are, and what their fields are.
use Rattle.std.specs.Prelude.{ℕ, Bool, ◌||◌, List, if◌then◌else◌, Option, Some, None}
use Rattle.nf_base.specs.declared.packet.Family.{Family}
use Rattle.nf_base.specs.declared.packet.Family.TheVariants as family
use Rattle.nf_base.specs.declared.packet.Fields.{Fields}
use Rattle.frame_ip.specs.FourFrame as four
use Rattle.frame_ip.specs.SixFrame as six
pub use Rattle.frame_ip.specs.FourFrame.{is_four}
pub use Rattle.frame_ip.specs.SixFrame.{is_six}

-- IPv4 or IPv6 in Ethernet with a TCP or UDP header
abbrev pub is_handled : List ℕ → Bool
is_handled frame = is_four frame || is_six frame

-- the version of IP of a frame, and none of one that is skipped
abbrev pub family_in : List ℕ → Option Family
family_in frame = if is_four frame then Some family.Four else (if is_six frame then Some family.Six else None)

-- the fields of a frame whose original length is known, and none of one that is skipped
abbrev pub fields_in : List ℕ → ℕ → Option Fields
fields_in frame original =
    if is_four frame then Some (four.fields_at frame original)
    else (if is_six frame then Some (six.fields_at frame original) else None)

-- the fields of a frame that is handled
abbrev pub fields_at : List ℕ → ℕ → Fields
fields_at frame original = if is_four frame then four.fields_at frame original else six.fields_at frame original

-- a frame as it is seen: its captured bytes, and how many it had
pub record Seen : Type 0 where
  pub frame : List ℕ
  pub original : ℕ
