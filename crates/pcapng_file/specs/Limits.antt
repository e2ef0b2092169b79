-- Blocks and captures at the limits, worked out by hand.
use Rattle.std.specs.Prelude.{◌≡◌, ℕ, ◌-◌, ◌^◌, List, [], ◌∷◌, ◌++◌, replicate, true, Some, None}
use Rattle.pcap_file.specs.declared.form.Endian.TheVariants.{Big}
use Rattle.pcapng_file.specs.declared.interface.Interface.{Interface}
use Rattle.pcapng_file.specs.Heard.{Heard, Stream}
use Rattle.pcapng_file.specs.Blocks.{Section, Nothing, Describes, Gives, opened, bounded, heard_of, interface_said, block_in}
use Rattle.pcapng_file.specs.Captures.{stream_from}
use Rattle.pcapng_file.specs.Rows.{three, heard_at, big_packet}

-- a block of 12 bytes that is stepped over
abbrev pub least : List ℕ
least = 0 ∷ 0 ∷ 0 ∷ 7 ∷ 0 ∷ 0 ∷ 0 ∷ 12 ∷ 0 ∷ 0 ∷ 0 ∷ 12 ∷ []

-- an Ethernet in nanoseconds with no bound
abbrev pub ethernet : Interface
ethernet = record { link = 1; most = 0; resolution = 9 }

-- a section with so many of them
abbrev pub section_of : ℕ → Section
section_of count = record { order = Big; interfaces = replicate count ethernet }

-- the body that describes one
abbrev pub described : List ℕ
described = 0 ∷ 1 ∷ 0 ∷ 0 ∷ 0 ∷ 0 ∷ 0 ∷ 0 ∷ 0 ∷ 9 ∷ 0 ∷ 1 ∷ 9 ∷ 0 ∷ 0 ∷ 0 ∷ []

-- a capture that ends, or is torn
abbrev pub nothing : Stream
nothing = record { heard = []; torn = None }

abbrev pub torn_at : ℕ → Stream
torn_at offset = record { heard = []; torn = Some offset }

pub record LimitRows : Type 0 where
  pub last_byte : block_in (opened Big) (2 ^ 64 - 13) least ≡ Some (record { size = 12; said = Nothing })
  pub past_it : block_in (opened Big) (2 ^ 64 - 12) least ≡ None
  pub last_quiet : stream_from (opened Big) (2 ^ 32 - 2) 28 least ≡ nothing
  pub too_quiet : stream_from (opened Big) (2 ^ 32 - 1) 28 least ≡ torn_at 28
  pub one_after_another : stream_from (opened Big) (2 ^ 32 - 2) 28 (least ++ least) ≡ torn_at 40
  pub not_quiet : stream_from (section_of 1) (2 ^ 32 - 1) 28 (big_packet 0 3 ++ least) ≡ record { heard = heard_at 3 ∷ []; torn = None }
  pub last_interface : interface_said (section_of 255) described ≡ Some (Describes ethernet)
  pub too_many : interface_said (section_of 256) described ≡ None
  pub no_bound : bounded 0 7 ≡ 7
  pub a_bound : bounded 2 7 ≡ 2
  pub a_wide_bound : bounded 9 7 ≡ 7
  pub no_data : heard_of ethernet 5 7 0 [] ≡ Some (Gives (record { time = 5; original = 7; frame = []; is_ethernet = true }))
  pub too_few : heard_of ethernet 5 7 4 three ≡ None
