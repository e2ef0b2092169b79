-- A learning bridge, and what it does with a few packets.
--
-- nf bridge {
--   ports 2;
--   chain macs 4 lifetime 10 { map by_mac(m: 48); free at: 8; }
--   on 0 {
--     get e = macs.by_mac(src_mac) { touch e; e.at = 0; }
--     else { new f = macs(m = src_mac) { f.at = 0; } }
--     get g = macs.by_mac(dst_mac) { forward g.at; }
--     flood;
--   }
--   on 1 {
--     get e = macs.by_mac(src_mac) { touch e; e.at = 1; }
--     else { new f = macs(m = src_mac) { f.at = 1; } }
--     get g = macs.by_mac(dst_mac) { forward g.at; }
--     flood;
--   }
-- }
use Rattle.std.specs.Prelude.{◌≡◌, ℕ, ◌+◌, [], ◌∷◌, Option, Some, map}
use Rattle.nf_base.specs.Doors.{only_four}
use Rattle.nf_base.specs.declared.packet.Addresses.TheVariants as addresses
use Rattle.nf_base.specs.declared.width.Width.TheVariants.{W8, W48}
use Rattle.nf_base.specs.declared.decl.ObjectId.TheVariants as object
use Rattle.nf_base.specs.declared.packet.Field.TheVariants.{SrcMac, DstMac}
use Rattle.nf_base.specs.declared.packet.Fields.{Fields}
use Rattle.nf_base.specs.declared.done.Action.TheVariants.{To, Flood}
use Rattle.nf_base.specs.Text.{Number, Column, Forward, Touch, Write, Get, Block, End, Do, Ask, Make, Function}
use Rattle.nf_base.specs.Text as text
use Rattle.nf_base.specs.Runs.{RunResult}
use Rattle.nf_laws.specs.Samples.{column, map_of, valued, read, new_at, nothing, arrives, run_of, actions_of}

-- the entry of the sender is at a port
abbrev pub learned : ℕ → Block
learned port = Do (Write 0 0 (valued W8 (Number port))) nothing

-- to the port of the receiver, if it is known
abbrev pub to_receiver : ℕ → Block
to_receiver place =
    Ask (Get place 0 0 (read W48 DstMac ∷ []) 0)
    (End (Forward (Column 0 0))) nothing (End text.Flood)

-- what a port does, from a place of the text on
abbrev pub bridged : ℕ → ℕ → Block
bridged place port =
    Ask (Get place 0 0 (read W48 SrcMac ∷ []) 0) (Do (Touch 0) (learned port))
    (Make (new_at (place + 1) 0 (read W48 SrcMac ∷ [])) (learned port) nothing nothing nothing)
    (to_receiver (place + 2))

-- MAC addresses at 4 indices, for 10 nanoseconds
abbrev pub bridge : Function
bridge = record {
  name = [];
  chains = record {
    name = [];
    size = 4;
    lifetime = 10;
    labels = column W48 ∷ [];
    columns = column W8 ∷ [];
    maps = map_of 0 1 ∷ [];
    order = [];
  } ∷ [];
  arrays = [];
  objects = object.Chain 0 ∷ [];
  handlers = map only_four (bridged 0 0 ∷ bridged 3 1 ∷ []);
}

-- a frame from a MAC address to another
abbrev pub between : ℕ → ℕ → Option Fields
between a b = Some (record {
  length = 42;
  src_mac = a;
  dst_mac = b;
  addresses = addresses.Four 0 0;
  proto = 17;
  ttl = 64;
  src_port = 0;
  dst_port = 0;
})

-- To an unknown address, back, there again, to an unknown one from another port, back after the
-- address moved to that port, and after its lifetime.
abbrev pub learns : Option RunResult
learns = run_of bridge
    (arrives 0 0 0 (between 2 4) (0 ∷ [])
    ∷ arrives 1 0 1 (between 4 2) (1 ∷ [])
    ∷ arrives 0 1 2 (between 2 4) []
    ∷ arrives 1 1 3 (between 2 6) []
    ∷ arrives 1 2 4 (between 4 2) []
    ∷ arrives 0 2 15 (between 6 4) (1 ∷ [])
    ∷ [])

-- flooded until the address is known, then to its port, wherever it moves, until its lifetime ends
abbrev pub ABridgeLearns : Type 0
ABridgeLearns = actions_of learns ≡ Flood ∷ To 0 ∷ To 1 ∷ Flood ∷ To 1 ∷ Flood ∷ []
