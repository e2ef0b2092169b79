-- The ends of the flows: a client each, and one server.
use Rattle.std.specs.Prelude.{ℕ, ◌+◌, ◌%◌, ◌<◌, ◌^◌, ◌==◌, if◌then◌else◌}
use Rattle.gen_traffic.specs.declared.end.End.{End}

-- the client of a flow: an address from 10.0.0.0 on, and one of 1,000 ports from 1024 on
abbrev pub client : ℕ → End
client flow = record { address = 0x0a000000 + flow; port = 1024 + flow % 1000 }

-- 192.168.0.0, port 80
abbrev pub server : End
server = record { address = 0xc0a80000; port = 80 }

-- A packet that comes in at an even port goes from the client to the server, one that comes in at an
-- odd port is a reply.
abbrev pub source : ℕ → ℕ → End
source port flow = if port % 2 == 0 then client flow else server

abbrev pub destination : ℕ → ℕ → End
destination port flow = if port % 2 == 0 then server else client flow

-- an address has 32 bits, a port 16
pub record Fits (end : End) : Type 0 where
  pub address : end.address < 2 ^ 32
  pub port : end.port < 2 ^ 16
