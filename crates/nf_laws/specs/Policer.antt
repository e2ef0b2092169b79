-- A policer, and what it does with a few packets.
--
-- nf policer {
--   ports 2;
--   chain hosts 5 lifetime 10 { map by_dst(d: 32); free used: 64; }
--   on 0 { forward 1; }
--   on 1 {
--     get e = hosts.by_dst(dst_ip) {
--       e.used = e.used + length;
--       if e.used > 1000 { drop; }
--       forward 0;
--     } else {
--       new f = hosts(d = dst_ip) { f.used = length; forward 0; }
--     }
--     drop;
--   }
-- }
use Rattle.std.specs.Prelude.{◌≡◌, ℕ, List, [], ◌∷◌, Option, Some, None, map}
use Rattle.nf_base.specs.Doors.{only_four}
use Rattle.nf_base.specs.declared.width.Width.TheVariants.{W32, W64}
use Rattle.nf_base.specs.declared.expr.Operator.TheVariants.{Plus}
use Rattle.nf_base.specs.declared.expr.Comparison.TheVariants.{Greater}
use Rattle.nf_base.specs.declared.decl.ObjectId.TheVariants as object
use Rattle.nf_base.specs.declared.packet.Field.TheVariants.{Length, DstIp}
use Rattle.nf_base.specs.declared.done.Action.TheVariants.{To, Drop}
use Rattle.nf_base.specs.declared.state.Entry.{Entry}
use Rattle.nf_base.specs.declared.state.State.{State}
use Rattle.nf_base.specs.Text.{Number, Read, Column, Both, Write, Get, Test, Block, Do, Ask, Make, Function}
use Rattle.nf_base.specs.Runs.{Handling, RunResult}
use Rattle.nf_laws.specs.Samples.{column, map_of, valued, read, new_at, nothing, drops, forwards, frame, arrives, run_of, state_of, actions_of}

-- port 1
abbrev pub policed : Block
policed =
    Ask (Get 0 0 0 (read W32 DstIp ∷ []) 0)
    (Do (Write 0 0 (valued W64 (Both Plus (Column 0 0) (Read Length))))
    (Ask (Test 1 Greater (Column 0 0) (Number 1000)) drops nothing (forwards 0)))
    (Make (new_at 2 0 (read W32 DstIp ∷ []))
    (Do (Write 0 0 (read W64 Length)) (forwards 0)) nothing nothing nothing)
    drops

-- hosts at 5 indices, for 10 nanoseconds after their first packet, 1000 bytes each
abbrev pub policer : Function
policer = record {
  name = [];
  chains = record {
    name = [];
    size = 5;
    lifetime = 10;
    labels = column W32 ∷ [];
    columns = column W64 ∷ [];
    maps = map_of 0 1 ∷ [];
    order = [];
  } ∷ [];
  arrays = [];
  objects = object.Chain 0 ∷ [];
  handlers = map only_four (forwards 1 ∷ policed ∷ []);
}

-- a packet to a host
abbrev pub to_host : ℕ → ℕ → ℕ → List ℕ → Handling
to_host seq time host choices = arrives 1 seq time (frame 151587081 1 host 2) choices

-- what the policer does with some packets
abbrev pub polices : List Handling → Option RunResult
polices hs = run_of policer hs

-- an entry of a host that got so many bytes
abbrev pub used : ℕ → ℕ → ℕ → Option Entry
used stamp host bytes = Some (record { stamp = stamp; labels = host ∷ []; columns = bytes ∷ [] })

-- an entry of a host that got one packet
abbrev pub seen : ℕ → ℕ → Option Entry
seen stamp host = used stamp host 42

-- a state with these entries
abbrev pub hosts : List (Option Entry) → ℕ → Option State
hosts slots greatest =
    Some (record { chains = record { slots = slots; greatest = greatest } ∷ []; arrays = [] })

-- two packets to two hosts, the second at a time and at a choice
abbrev pub two_hosts : ℕ → ℕ → Option State
two_hosts time i =
    state_of (polices (to_host 0 0 2147483649 (0 ∷ []) ∷ to_host 1 time 167772161 (i ∷ []) ∷ []))

-- At its lifetime's end an entry still stands; a nanosecond later it is gone, and its index is
-- vacant.
pub record AnEntryOutlivesItsLastTick : Type 0 where
  pub stands : two_hosts 10 2
      ≡ hosts (seen 0 2147483649 ∷ None ∷ seen 10 167772161 ∷ None ∷ None ∷ []) 10
  pub gone : two_hosts 11 2 ≡ hosts (None ∷ None ∷ seen 11 167772161 ∷ None ∷ None ∷ []) 11
  pub again : two_hosts 11 0 ≡ hosts (seen 11 167772161 ∷ None ∷ None ∷ None ∷ None ∷ []) 11

-- There is no step where a choice is live or past the end, where one is missing, and where one is
-- left over.
pub record OnlyVacantIndicesAreChoices : Type 0 where
  pub live : two_hosts 10 0 ≡ None
  pub past_end : two_hosts 10 5 ≡ None
  pub missing : polices (to_host 0 0 2147483649 [] ∷ []) ≡ None
  pub left_over : polices (to_host 0 0 2147483649 (0 ∷ 1 ∷ []) ∷ []) ≡ None
  pub for_a_hit : polices (to_host 0 0 2147483649 (0 ∷ []) ∷ to_host 1 1 2147483649 (1 ∷ []) ∷ [])
      ≡ None

-- a packet to each of six hosts
abbrev pub five_and_one : Option RunResult
five_and_one = polices
    (to_host 0 0 1 (3 ∷ [])
    ∷ to_host 1 1 2 (0 ∷ [])
    ∷ to_host 2 2 3 (1 ∷ [])
    ∷ to_host 3 3 4 (4 ∷ [])
    ∷ to_host 4 4 5 (2 ∷ [])
    ∷ to_host 5 5 6 []
    ∷ [])

-- five hosts have an entry, at the indices that were chosen, and the sixth one's packet is dropped
pub record TheSixthHostIsDropped : Type 0 where
  pub actions : actions_of five_and_one ≡ To 0 ∷ To 0 ∷ To 0 ∷ To 0 ∷ To 0 ∷ Drop ∷ []
  pub state : state_of five_and_one
      ≡ hosts (seen 1 2 ∷ seen 2 3 ∷ seen 4 5 ∷ seen 0 1 ∷ seen 3 4 ∷ []) 4

-- a packet that comes with an earlier time gets the greatest stamp so far
abbrev pub StampsDontFall : Type 0
StampsDontFall =
    state_of (polices (to_host 0 7 1 (0 ∷ []) ∷ to_host 1 3 2 (1 ∷ []) ∷ []))
    ≡ hosts (seen 7 1 ∷ seen 7 2 ∷ None ∷ None ∷ None ∷ []) 7

-- a second packet to a host adds its bytes to the column, and leaves the stamp
abbrev pub AColumnAddsUp : Type 0
AColumnAddsUp =
    state_of (polices (to_host 0 0 1 (0 ∷ []) ∷ to_host 1 3 1 [] ∷ []))
    ≡ hosts (used 0 1 84 ∷ None ∷ None ∷ None ∷ None ∷ []) 0
