-- What a pcapng capture comes to.
use Rattle.std.specs.Prelude.{ℕ, zero, suc, ◌+◌, ◌^◌, List, [], ◌∷◌, ◌++◌, length, drop, nat_le, if◌then◌else◌, Option, Some, None}
use Rattle.std.specs.Option.{option_map}
use Rattle.pcapng_file.specs.Heard.{Heard, Stream, behind}
use Rattle.pcapng_file.specs.Blocks.{Section, Said, Begins, Describes, Gives, Nothing, Whole, opened, is_section, header_in, block_in}

-- the section after a block
abbrev pub section_after : Section → Said → Section
section_after s (Begins next) = next
section_after s (Describes interface) = record { order = s.order; interfaces = s.interfaces ++ interface ∷ [] }
section_after s (Gives h) = s
section_after s Nothing = s

-- the packet of a block
abbrev pub heard_by : Said → List Heard
heard_by (Begins s) = []
heard_by (Describes interface) = []
heard_by (Gives h) = h ∷ []
heard_by Nothing = []

-- how many blocks in a row were no packet, after one more
abbrev pub quiet_after : ℕ → Said → ℕ
quiet_after quiet (Begins s) = suc quiet
quiet_after quiet (Describes interface) = suc quiet
quiet_after quiet (Gives h) = 0
quiet_after quiet Nothing = suc quiet

-- where no block follows that can be taken: the end, or a torn one
abbrev pub no_block : ℕ → List ℕ → Stream
no_block offset [] = record { heard = []; torn = None }
no_block offset (b ∷ bytes) = record { heard = []; torn = Some offset }

-- with a whole block in front, unless it is the 2^32-th in a row that is no packet
abbrev pub with_block : Option Whole → ℕ → (Whole → Stream) → Stream → Stream
with_block None quiet go stop = stop
with_block (Some w) quiet go stop =
    if nat_le (2 ^ 32) (quiet_after quiet w.said) then stop else behind (heard_by w.said) (go w)

-- what a capture comes to from an offset on, up to so many blocks
unfoldable pub stream_within : ℕ → Section → ℕ → ℕ → List ℕ → Stream
stream_within zero s quiet offset bytes = no_block offset bytes
stream_within (suc most) s quiet offset bytes =
    with_block (block_in s offset bytes) quiet
    (λ w. stream_within most (section_after s w.said) (quiet_after quiet w.said) (offset + w.size) (drop w.size bytes))
    (no_block offset bytes)

-- what a capture comes to from an offset on, in a section, after so many blocks in a row that were no
-- packet: there are fewer blocks than bytes
unfoldable pub stream_from : Section → ℕ → ℕ → List ℕ → Stream
stream_from s quiet offset bytes = stream_within (length bytes) s quiet offset bytes

-- The capture that bytes are, and none where their first block is no right header of a section. That
-- header is the first block of its own section.
abbrev pub ng_stream_of : List ℕ → Option Stream
ng_stream_of bytes =
    if is_section bytes
    then option_map (λ order. stream_from (opened order) 0 0 bytes) (header_in bytes)
    else None
