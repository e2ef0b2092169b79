-- A NAT, and what it does with a few packets.
--
-- nf nat {
--   ports 2;
--   chain conns 1 lifetime 60000000000 {
--     map by_in(sip: 32, sp: 16, dip: 32, dp: 16);
--     fixed rip: 32; fixed rp: 16;
--   }
--   on 0 {
--     get e = conns.by_in(src_ip, src_port, dst_ip, dst_port) {
--       touch e; set src_ip = 203.0.113.1; set src_port = e.index + 1024; forward 1;
--     } else {
--       new f = conns(sip = src_ip, sp = src_port, dip = dst_ip, dp = dst_port,
--                     rip = dst_ip, rp = dst_port) {
--         set src_ip = 203.0.113.1; set src_port = f.index + 1024; forward 1;
--       }
--     }
--     drop;
--   }
--   on 1 {
--     if dst_port < 1024 { drop; }
--     find e = conns[dst_port - 1024] where (rip = src_ip, rp = src_port) {
--       touch e; set dst_ip = e.sip; set dst_port = e.sp; forward 0;
--     }
--     drop;
--   }
-- }
use Rattle.std.specs.Prelude.{◌≡◌, List, [], ◌∷◌, Option, Some, map}
use Rattle.nf_base.specs.Doors.{only_four}
use Rattle.nf_base.specs.declared.width.Width.TheVariants.{W16, W32}
use Rattle.nf_base.specs.declared.expr.Operator.TheVariants.{Plus, Minus}
use Rattle.nf_base.specs.declared.expr.Comparison.TheVariants.{Less}
use Rattle.nf_base.specs.declared.decl.ObjectId.TheVariants as object
use Rattle.nf_base.specs.declared.packet.Field.TheVariants.{SrcIp, DstIp, SrcPort, DstPort}
use Rattle.nf_base.specs.declared.done.Action.TheVariants.{To, Drop}
use Rattle.nf_base.specs.Text.{Number, Read, Index, Label, Both, Given, Guard, Touch, Set, Get, Find, Test, Block, Do, Ask, Make, Function}
use Rattle.nf_base.specs.Step.{no_edits}
use Rattle.nf_base.specs.Runs.{RunResult}
use Rattle.nf_laws.specs.Samples.{column, map_of, valued, read, new_at, nothing, drops, forwards, frame, arrives, run_of, state_of, dones_of}

-- to port 1, with the address outside, and a port by the index of the variable's entry
abbrev pub translated : Block
translated =
    Do (Set SrcIp (valued W32 (Number 3405803777)))
    (Do (Set SrcPort (valued W16 (Both Plus (Index 0) (Number 1024))))
    (forwards 1))

-- to port 0, with the address and the port inside
abbrev pub translated_back : Block
translated_back =
    Do (Set DstIp (valued W32 (Label 0 0))) (Do (Set DstPort (valued W16 (Label 0 1))) (forwards 0))

-- the addresses and ports of a packet from inside
abbrev pub inside : List Given
inside = read W32 SrcIp ∷ read W16 SrcPort ∷ read W32 DstIp ∷ read W16 DstPort ∷ []

-- the labels of a new entry: these, and the far end again
abbrev pub conn : List Given
conn =
    read W32 SrcIp ∷ read W16 SrcPort ∷ read W32 DstIp ∷ read W16 DstPort
    ∷ read W32 DstIp ∷ read W16 DstPort ∷ []

-- port 0
abbrev pub outward : Block
outward =
    Ask (Get 0 0 0 inside 0) (Do (Touch 0) translated)
    (Make (new_at 1 0 conn) translated nothing nothing nothing)
    drops

-- the far end that the entry was made for
abbrev pub far_end : List Guard
far_end = record { label = 4; given = read W32 SrcIp }
    ∷ record { label = 5; given = read W16 SrcPort } ∷ []

-- port 1
abbrev pub inward : Block
inward =
    Ask (Test 2 Less (Read DstPort) (Number 1024)) drops nothing
    (Ask (Find 3 0 (Both Minus (Read DstPort) (Number 1024)) far_end 0)
    (Do (Touch 0) translated_back)
    nothing
    drops)

-- flows for 60 seconds, at one index
abbrev pub nat : Function
nat = record {
  name = [];
  chains = record {
    name = [];
    size = 1;
    lifetime = 60000000000;
    labels = column W32 ∷ column W16 ∷ column W32 ∷ column W16 ∷ column W32 ∷ column W16 ∷ [];
    columns = [];
    maps = map_of 0 4 ∷ [];
    order = [];
  } ∷ [];
  arrays = [];
  objects = object.Chain 0 ∷ [];
  handlers = map only_four (outward ∷ inward ∷ []);
}

-- out, an answer back, a packet from somebody else, and one to a port that no entry has
abbrev pub four : Option RunResult
four = run_of nat
    (arrives 0 0 1 (frame 167772161 1000 134744072 53) (0 ∷ [])
    ∷ arrives 1 0 2 (frame 134744072 53 3405803777 1024) []
    ∷ arrives 1 1 3 (frame 134743044 53 3405803777 1024) []
    ∷ arrives 1 2 4 (frame 134744072 53 3405803777 1023) []
    ∷ [])

-- the first goes out translated, and only the answer is let in, translated back
pub record OnlyTheAnswerIsLetBack : Type 0 where
  pub dones : dones_of four
      ≡ record {
        action = To 1;
        edits = record no_edits { src_ip = Some 3405803777; src_port = Some 1024 };
        picks = 0 ∷ [];
      }
      ∷ record {
        action = To 0;
        edits = record no_edits { dst_ip = Some 167772161; dst_port = Some 1000 };
        picks = [];
      }
      ∷ record { action = Drop; edits = no_edits; picks = [] }
      ∷ record { action = Drop; edits = no_edits; picks = [] }
      ∷ []
  pub state : state_of four ≡ Some (record {
    chains = record {
      slots = Some (record {
        stamp = 2;
        labels = 167772161 ∷ 1000 ∷ 134744072 ∷ 53 ∷ 134744072 ∷ 53 ∷ [];
        columns = [];
      }) ∷ [];
      greatest = 2;
    } ∷ [];
    arrays = [];
  })
