-- A function with an array and one that computes, and what they do with a few packets.
--
-- nf counters {
--   ports 1;
--   array hits 2: 8 = { 254, 7 };
--   on 0 { hits[src_port] = hits[src_port] + 1; forward hits[dst_port]; }
-- }
--
-- nf sums {
--   ports 3;
--   on 0 { forward length / ttl; }
--   on 1 { forward length % ttl; }
--   on 2 { forward length - 40 - ttl; }
-- }
use Rattle.std.specs.Prelude.{◌≡◌, ℕ, true, List, [], ◌∷◌, Some, Option, map}
use Rattle.nf_base.specs.Doors.{only_four}
use Rattle.nf_base.specs.declared.packet.Addresses.TheVariants as addresses
use Rattle.nf_base.specs.declared.width.Width.TheVariants.{W8}
use Rattle.nf_base.specs.declared.expr.Operator.TheVariants.{Plus, Minus, Over, Modulo}
use Rattle.nf_base.specs.declared.decl.ObjectId.TheVariants as object
use Rattle.nf_base.specs.declared.packet.Field.TheVariants.{Length, Ttl, SrcPort, DstPort}
use Rattle.nf_base.specs.declared.packet.Fields.{Fields}
use Rattle.nf_base.specs.declared.state.State.{State}
use Rattle.nf_base.specs.declared.done.Action.{Action}
use Rattle.nf_base.specs.declared.done.Action.TheVariants.{To, Drop}
use Rattle.nf_base.specs.Text.{Expression, Number, Read, Cell, Both, Forward, Store, Block, End, Do, Function}
use Rattle.nf_base.specs.Step.{quiet}
use Rattle.nf_base.specs.Locations.{CellAt}
use Rattle.nf_base.specs.Runs.{Handling}
use Rattle.nf_laws.specs.Samples.{valued, frame, packet_at, arrives, run_of, state_of, actions_of, touched_in}

-- adds one to a cell, and sends to the port that a cell says
abbrev pub counted : Block
counted =
    Do (Store 0 0 (Read SrcPort) (valued W8 (Both Plus (Cell 1 0 (Read SrcPort)) (Number 1))))
    (End (Forward (Cell 2 0 (Read DstPort))))

-- two cells of 8 bits
abbrev pub counters : Function
counters = record {
  name = [];
  chains = [];
  arrays = record { name = []; width = W8; cells = 254 ∷ 7 ∷ [] } ∷ [];
  objects = object.Array 0 ∷ [];
  handlers = map only_four (counted ∷ []);
}

-- packets from a port to another: cell 0 twice, and a cell past the end
abbrev pub three_counts : List Handling
three_counts =
    arrives 0 0 1 (frame 1 0 2 5) []
    ∷ arrives 0 1 2 (frame 1 0 2 1) []
    ∷ arrives 0 2 3 (frame 1 2 2 0) []
    ∷ []

-- the cells then
abbrev pub counted_up : State
counted_up = record { chains = []; arrays = (0 ∷ 7 ∷ []) ∷ [] }

-- Past the end a read gives 0 and a write does nothing; 255 and 1 are 0 in 8 bits; at port 7 there
-- is none.
pub record AnArrayCounts : Type 0 where
  pub actions : actions_of (run_of counters three_counts) ≡ To 0 ∷ Drop ∷ To 0 ∷ []
  pub state : state_of (run_of counters three_counts) ≡ Some counted_up
  pub touched : touched_in counters three_counts
      ≡ (CellAt 0 0 ∷ CellAt 0 0 ∷ [])
      ∷ (CellAt 0 0 ∷ CellAt 0 0 ∷ CellAt 0 1 ∷ [])
      ∷ (CellAt 0 0 ∷ [])
      ∷ []
  pub past_end : quiet counters counted_up (packet_at 0 2 3 (frame 1 2 2 0)) []
      ≡ Some true

-- sends to the port that an expression comes to
abbrev pub sends : Expression → Block
sends port = End (Forward port)

-- a quotient, a remainder and a difference
abbrev pub sums : Function
sums = record {
  name = [];
  chains = [];
  arrays = [];
  objects = [];
  handlers = map only_four (sends (Both Over (Read Length) (Read Ttl))
      ∷ sends (Both Modulo (Read Length) (Read Ttl))
      ∷ sends (Both Minus (Both Minus (Read Length) (Number 40)) (Read Ttl))
      ∷ []);
}

-- a frame of 42 bytes with a time to live
abbrev pub living : ℕ → Option Fields
living ttl = Some (record {
  length = 42;
  src_mac = 0;
  dst_mac = 0;
  addresses = addresses.Four 0 0;
  proto = 17;
  ttl = ttl;
  src_port = 0;
  dst_port = 0;
})

-- where it goes
abbrev pub goes : ℕ → ℕ → List Action
goes port ttl = actions_of (run_of sums (arrives port 0 1 (living ttl) [] ∷ []))

-- a division by 0 gives 0, as a remainder does, and a difference stops at 0
pub record ADivisionByNothingIsNothing : Type 0 where
  pub quotient : goes 0 21 ≡ To 2 ∷ []
  pub by_nothing : goes 0 0 ≡ To 0 ∷ []
  pub remainder : goes 1 41 ≡ To 1 ∷ []
  pub of_nothing : goes 1 0 ≡ To 0 ∷ []
  pub difference : goes 2 1 ≡ To 1 ∷ []
  pub below : goes 2 3 ≡ To 0 ∷ []
