-- One step of a reader, from what was taken.
use Rattle.std.proofs.Common.{◌≡◌, ◌≢◌, ℕ, suc, ◌+◌, ◌^◌, ◌≤◌, ◌<◌, Bool, true, false, cond, List, [], ◌∷◌, ◌++◌, length, take, drop, Option, Some, None, Result, Ok, Err, refl, sym, ap, subst, ◌∙◌, arith}
use Rattle.std.specs.Option.{option_map}
use Rattle.std.specs.Result.{IfOk}
use Rattle.nf_files.specs.Told.{Told}
use Rattle.pcap_file.specs.declared.form.Endian.{Endian}
use Rattle.pcap_file.specs.declared.form.Endian.TheVariants.{Little}
use Rattle.pcap_file.specs.declared.head.Head.{Head}
use Rattle.pcap_file.specs.declared.reader.State.{State}
use Rattle.pcap_file.specs.declared.reader.State.TheVariants.{Going}
use Rattle.pcap_file.specs.declared.fault.CapFault.{CapFault}
use Rattle.pcap_file.specs.Held.{Held, to_come}
use Rattle.pcapng_file.specs.declared.block.Block.{Block}
use Rattle.pcapng_file.specs.declared.block.Taken.{Taken}
use Rattle.pcapng_file.specs.declared.block.Taken.TheVariants.{Nothing, Torn, Whole}
use Rattle.pcapng_file.specs.declared.reader.Next.{Next}
use Rattle.pcapng_file.specs.declared.reader.Next.TheVariants.{Frame, Other, End}
use Rattle.pcapng_file.specs.declared.step.Step.{Step}
use Rattle.pcapng_file.specs.Heard.{Heard, Stream, behind}
use Rattle.pcapng_file.specs.Blocks.{Section, Said, Gives, block_order, is_closed, total_in, said_in, whole_of, block_by, block_in}
use Rattle.pcapng_file.specs.Captures.{section_after, heard_by, quiet_after, no_block, stream_from}
use Rattle.pcapng_file.specs.Taking.{IsBlockFront, IsAccepted, IsTaken}
use Rattle.pcapng_file.specs.Places.{Place, place_after, IsQuiet, IsPacket, IsStopped, Hears}
use Rattle.pcapng_file.specs.Reading.{Reading, none_left, left_in, left, IsNext, Steps}
use Rattle.pcapng_file.proofs.Streaming.{stream_steps, stream_stops, stream_ends, nothing_left, closed_within, closed_sized}

-- a reader, of its parts
abbrev pub reading_of : Place → Held → State → Reading
reading_of p front state = record {
  section = p.section;
  quiet = p.quiet;
  offset = p.offset;
  held = front.bytes;
  file = front.file;
  state = state;
}

-- what is left from a place on
abbrev pub stream_at : Place → List ℕ → Stream
stream_at p bytes = stream_from p.section p.quiet p.offset bytes

-- the bytes that are still to come, where what is left of a capture is told
pub record IsLeft (p : Place) (front : Held) (told : Told) (before : Stream) : Type 0 where
  pub bytes : List ℕ
  pub held_is : to_come front.bytes (told.rest front.file) ≡ Some bytes
  pub stream_is : before ≡ stream_at p bytes

some_is : (x y : Stream) → Some x ≡ Some y → x ≡ y
some_is x y e = cc

bytes_left : (p : Place) (front : Held) (told : Told) (before : Stream) (o : Option (List ℕ)) → to_come front.bytes (told.rest front.file) ≡ o → option_map (stream_at p) o ≡ Some before → IsLeft p front told before
bytes_left p front told before None is e = absurd cc
bytes_left p front told before (Some bytes) is e = record { bytes = bytes; held_is = is; stream_is = sym (some_is (stream_at p bytes) before e) }

pub is_left : (p : Place) (front : Held) (state : State) (told : Told) (before : Stream) → state ≡ Going → left (reading_of p front state) told ≡ Some before → IsLeft p front told before
is_left p front state told before going e =
    bytes_left p front told before (to_come front.bytes (told.rest front.file)) refl
    (sym (ap (λ (s : State). left_in s p.section p.quiet p.offset (to_come front.bytes (told.rest front.file))) going) ∙ e)

-- ---- nothing, or a torn block

pub ends_so : (p : Place) (bytes : List ℕ) → bytes ≡ [] → stream_at p bytes ≡ none_left None
ends_so p bytes none = ap (stream_at p) none ∙ nothing_left p.section p.quiet p.offset

torn_at : (offset : ℕ) (bytes : List ℕ) → bytes ≢ [] → no_block offset bytes ≡ none_left (Some offset)
torn_at offset [] ne = absurd (ne refl)
torn_at offset (b ∷ bytes) ne = refl

refused_by : (s : Section) (offset : ℕ) (bytes : List ℕ) (o : Option Endian) → block_order s.order bytes ≡ o → ((found : Endian) → block_order s.order bytes ≡ Some found → is_closed found offset bytes ≡ false) → block_by s offset bytes o ≡ None
refused_by s offset bytes None is none = refl
refused_by s offset bytes (Some order) is none =
    ap (λ (b : Bool). cond b (whole_of (total_in order bytes) (said_in s order bytes)) None) (none order is)

pub torn_so : (p : Place) (bytes : List ℕ) → bytes ≢ [] → ((found : Endian) → block_order p.section.order bytes ≡ Some found → is_closed found p.offset bytes ≡ false) → stream_at p bytes ≡ none_left (Some p.offset)
torn_so p bytes ne none =
    stream_stops p.section p.quiet p.offset bytes (refused_by p.section p.offset bytes (block_order p.section.order bytes) refl none) ∙ torn_at p.offset bytes ne

-- ---- a whole block

-- a block that was taken, and what it says
accepted_said : (s : Section) (offset : ℕ) (bytes held : List ℕ) (rest : Option (List ℕ)) (found : Endian) (total : ℕ) (o : Option Said) → IsAccepted s.order offset bytes held rest found total → said_in s found bytes ≡ o → block_in s offset bytes ≡ whole_of total o
accepted_said s offset bytes held rest found total o a is =
    ap (block_by s offset bytes) a.order_is
    ∙ ap (λ (b : Bool). cond b (whole_of (total_in found bytes) (said_in s found bytes)) None) a.closed
    ∙ ap (λ (n : ℕ). whole_of n (said_in s found bytes)) (sym a.total_is)
    ∙ ap (whole_of total) is

some_bytes : (bytes : List ℕ) → 12 ≤ length bytes → bytes ≢ []
some_bytes [] le e = omega arith
some_bytes (b ∷ bytes) le e = cc

accepted_some : (order : Endian) (offset : ℕ) (bytes held : List ℕ) (rest : Option (List ℕ)) (found : Endian) (total : ℕ) → IsAccepted order offset bytes held rest found total → bytes ≢ []
accepted_some order offset bytes held rest found total a =
    let z = closed_sized found offset bytes a.closed in
    let w = closed_within found offset bytes a.closed in
    some_bytes bytes (omega (arith, z.least, w))

stopped_by : (p : Place) (bytes : List ℕ) (total : ℕ) (o : Option Said) → block_in p.section p.offset bytes ≡ whole_of total o → IsStopped p.quiet o → stream_at p bytes ≡ no_block p.offset bytes
stopped_by p bytes total None is stop = stream_stops p.section p.quiet p.offset bytes is
stopped_by p bytes total (Some what) is stop = stream_ends p.section p.quiet p.offset bytes (record { size = total; said = what }) is stop

pub stopped_so : (p : Place) (bytes held : List ℕ) (rest : Option (List ℕ)) (block : Block) → IsAccepted p.section.order p.offset bytes held rest block.order block.total → IsStopped p.quiet (said_in p.section block.order bytes) → stream_at p bytes ≡ none_left (Some p.offset)
stopped_so p bytes held rest block a stop =
    stopped_by p bytes block.total (said_in p.section block.order bytes) (accepted_said p.section p.offset bytes held rest block.order block.total (said_in p.section block.order bytes) a refl) stop
    ∙ torn_at p.offset bytes (accepted_some p.section.order p.offset bytes held rest block.order block.total a)

-- one block more
block_more : (p new : Place) (bytes held : List ℕ) (rest : Option (List ℕ)) (block : Block) (what : Said) → IsAccepted p.section.order p.offset bytes held rest block.order block.total
    → said_in p.section block.order bytes ≡ Some what → quiet_after p.quiet what < 2 ^ 32 → new ≡ place_after p block.total what → stream_at p bytes ≡ behind (heard_by what) (stream_at new (drop block.total bytes))
block_more p new bytes held rest block what a is few place =
    stream_steps p.section p.quiet p.offset bytes (record { size = block.total; said = what }) (accepted_said p.section p.offset bytes held rest block.order block.total (Some what) a is) few
    ∙ ap (λ (q : Place). behind (heard_by what) (stream_at q (drop block.total bytes))) (sym place)

pub quiet_so : (p new : Place) (bytes held : List ℕ) (rest : Option (List ℕ)) (block : Block) → IsAccepted p.section.order p.offset bytes held rest block.order block.total
    → IsQuiet p new block.total (said_in p.section block.order bytes) → stream_at p bytes ≡ stream_at new (drop block.total bytes)
quiet_so p new bytes held rest block a q =
    block_more p new bytes held rest block q.what a q.said_is q.few q.place_is
    ∙ ap (λ (hs : List Heard). behind hs (stream_at new (drop block.total bytes))) q.none

pub packet_so : (ethernet : Bool) (p new : Place) (bytes held frame : List ℕ) (rest : Option (List ℕ)) (block : Block) (head : Head) → IsAccepted p.section.order p.offset bytes held rest block.order block.total
    → IsPacket ethernet p new block.total (said_in p.section block.order bytes) frame head → IsNext ethernet (stream_at p bytes) (stream_at new (drop block.total bytes)) frame head
packet_so ethernet p new bytes held frame rest block head a k = record {
  next = k.what;
  first = block_more p new bytes held rest block (Gives k.what) a k.said_is (omega arith) k.place_is;
  kind = k.kind;
  frame_is = k.frame_is;
  head_is = k.head_is;
}

-- ---- the reader behind it

-- what is left behind a block
pub left_behind : (new : Place) (last : Held) (state : State) (told : Told) (file : ℕ) (bytes : List ℕ) → state ≡ Going → last ≡ record { file = file; bytes = [] } → told.rest file ≡ Some bytes → left (reading_of new last state) told ≡ Some (stream_at new bytes)
left_behind new last state told file bytes going is rest =
    ap (λ (s : State). left (reading_of new last s) told) going
    ∙ ap (λ (h : Held). left (reading_of new h Going) told) is
    ∙ ap (λ (o : Option (List ℕ)). option_map (stream_at new) (to_come [] o)) rest

-- what was taken, and what it came to
pub heard_so : {E : Type 0} (p new : Place) (held slice frame : List ℕ) (rest : Option (List ℕ)) (order : Endian) (offset : ℕ) (bytes : List ℕ) (t : Taken) (block : Block) (r : Result Step E) (s : Step)
    → order ≡ p.section.order → offset ≡ p.offset → IsTaken order offset bytes held rest t → t ≡ Whole block → slice ≡ held
    → ((all : List ℕ) → IsBlockFront block.order block.total slice all → IfOk r (Hears p new block.total (said_in p.section block.order all) frame))
    → r ≡ Ok s
    → IsAccepted p.section.order p.offset bytes held rest block.order block.total × Hears p new block.total (said_in p.section block.order bytes) frame s
heard_so {E = E} p new held slice frame rest order offset bytes t block r s order_is offset_is taken whole slice_is hears is =
    let a = subst (λ (x : Taken). IsTaken order offset bytes held rest x) whole taken in
    let b = subst (λ (o : Endian). IsAccepted o offset bytes held rest block.order block.total) order_is a in
    let d = subst (λ (n : ℕ). IsAccepted p.section.order n bytes held rest block.order block.total) offset_is b in
    let within = closed_within block.order p.offset bytes d.closed in
    let front : IsBlockFront block.order block.total slice bytes = record { total_is = d.total_is; within = omega (arith, within, d.total_is); held_is = slice_is ∙ d.held_is } in
    let h = subst (λ (x : Result Step E). IfOk x (Hears p new block.total (said_in p.section block.order bytes) frame)) is (hears bytes front) in
    (d, h)
