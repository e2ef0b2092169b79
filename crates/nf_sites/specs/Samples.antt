-- Functions that worked rows tell the sites of.
--
-- nf hidden {
--   ports 1;
--   chain c 4 lifetime 10 { map s(x: 32); map d(y: 32); }
--   on 0 {
--     get e = c.d(dst_ip) { touch e; } else { new f = c(x = src_ip, y = dst_ip) { } }
--     forward 0;
--   }
-- }
use Rattle.std.specs.Prelude.{ℕ, List, [], ◌∷◌, map}
use Rattle.nf_base.specs.Doors.{only_four}
use Rattle.nf_base.specs.declared.packet.Family.TheVariants as family
use Rattle.nf_base.specs.declared.packet.Door.{Door}
use Rattle.nf_base.specs.declared.decl.ObjectId.TheVariants as object
use Rattle.nf_base.specs.declared.decl.ColumnDecl.{ColumnDecl}
use Rattle.nf_base.specs.declared.decl.MapDecl.{MapDecl}
use Rattle.nf_base.specs.declared.decl.ChainDecl.{ChainDecl}
use Rattle.nf_base.specs.declared.packet.Field.TheVariants.{SrcIp, DstIp, SrcPort, DstPort}
use Rattle.nf_base.specs.declared.width.Width.TheVariants.{W8, W16, W32, W64}
use Rattle.nf_base.specs.declared.expr.Operator.TheVariants.{Plus}
use Rattle.nf_base.specs.declared.expr.Comparison.TheVariants.{Equal, Less}
use Rattle.nf_base.specs.Text.{Number, Read, Label, Cell, Both, Given, Guard, Forward, Touch, Set, Write, Store, Get, Find, Test, Block, End, Do, Ask, Make, Function}
use Rattle.nf_laws.specs.Samples.{column, map_of, valued, read, new_at, nothing, forwards}

-- a chain with these labels and maps
abbrev pub chain_of : List ColumnDecl → List MapDecl → ChainDecl
chain_of labels maps = record {
  name = [];
  size = 4;
  lifetime = 10;
  labels = labels;
  columns = column W64 ∷ [];
  maps = maps;
  order = [];
}

-- a function over one chain
abbrev pub over : List ColumnDecl → List MapDecl → List Block → Function
over labels maps handlers = record {
  name = [];
  chains = chain_of labels maps ∷ [];
  arrays = [];
  objects = object.Chain 0 ∷ [];
  handlers = map only_four handlers;
}

-- two maps of one label each
abbrev pub two_maps : List MapDecl
two_maps = map_of 0 1 ∷ map_of 1 1 ∷ []

-- a `new` of both labels, of which only the second is looked up
abbrev pub hidden_block : Block
hidden_block =
    Ask (Get 0 0 1 (read W32 DstIp ∷ []) 0) (Do (Touch 0) nothing)
    (Make (new_at 1 0 (read W32 SrcIp ∷ read W32 DstIp ∷ [])) nothing nothing nothing nothing)
    (forwards 0)

-- the function that is written out above
abbrev pub hidden : Function
hidden = over (column W32 ∷ column W32 ∷ []) two_maps (hidden_block ∷ [])

-- a `new` with these values, and nothing in its blocks
abbrev pub makes : ℕ → List Given → Block → Block
makes place labels next = Make (new_at place 0 labels) nothing nothing nothing next

-- a `find` with these guards
abbrev pub looks : ℕ → List Guard → Block → Block
looks place guards next = Ask (Find place 0 (Number 0) guards 0) nothing nothing next

-- a guard of a label
abbrev pub guard_on : ℕ → Given → Guard
guard_on l g = record { label = l; given = g }

-- a `get` by one label, whose place stands on no feasible path: no port is both 1 and 2
abbrev pub unreached : Block
unreached =
    Ask (Test 0 Equal (Read SrcPort) (Number 1))
    (Ask (Test 1 Equal (Read SrcPort) (Number 2))
    (Ask (Get 2 0 0 (read W32 SrcIp ∷ []) 0) nothing nothing nothing) nothing nothing)
    nothing
    (Ask (Get 3 0 0 (read W32 DstIp ∷ []) 0) nothing nothing nothing)

-- Each kind of statement and of site, with reads of cells inside each. The chain has a map over
-- label 0, one over labels 1 and 2, and a fixed column.
abbrev pub every_kind : Block
every_kind =
    Ask (Get 0 0 1 (valued W32 (Cell 1 0 (Read DstPort)) ∷ read W16 SrcPort ∷ []) 0)
    (Do (Write 0 0 (valued W64 (Cell 2 1 (Number 3))))
    (Do (Set SrcIp (valued W32 (Cell 3 0 (Number 0)))) nothing))
    (makes 4
    (read W32 SrcIp ∷ read W32 DstIp ∷ read W16 SrcPort ∷ valued W32 (Cell 5 0 (Number 4)) ∷ [])
    nothing)
    (Ask
    (Find 6 0 (Cell 7 0 (Number 1))
    (guard_on 3 (valued W32 (Cell 8 1 (Number 2))) ∷ guard_on 0 (read W32 DstIp) ∷ []) 0)
    nothing
    nothing
    (Ask (Test 9 Less (Cell 10 0 (Cell 11 1 (Number 0))) (Cell 12 0 (Label 0 0))) nothing nothing
    (Do
    (Store 13 1 (Cell 14 0 (Number 1))
    (valued W8 (Both Plus (Cell 15 0 (Number 6)) (Cell 16 1 (Number 7)))))
    (End (Forward (Cell 17 1 (Read SrcPort)))))))

-- its chain
abbrev pub every_chain : ChainDecl
every_chain =
    chain_of (column W32 ∷ column W32 ∷ column W16 ∷ column W32 ∷ []) (map_of 0 1 ∷ map_of 1 2 ∷ [])

-- a chain that no `new` makes entries of, looked up by the source
abbrev pub read_only : Function
read_only =
    over (column W32 ∷ []) (map_of 0 1 ∷ [])
    (Ask (Get 0 0 0 (read W32 SrcIp ∷ []) 0) nothing nothing nothing ∷ [])

-- a `new` of a chain of one label, at a place
abbrev pub makes_in : ℕ → ℕ → Given → Block
makes_in place chain label =
    Make (new_at place chain (label ∷ [])) nothing nothing nothing nothing

-- two chains: one by the source at port 0, one by the destination at port 1
abbrev pub two_chains : Function
two_chains = record {
  name = [];
  chains = chain_of (column W32 ∷ []) (map_of 0 1 ∷ [])
      ∷ chain_of (column W32 ∷ []) (map_of 0 1 ∷ [])
      ∷ [];
  arrays = [];
  objects = object.Chain 0 ∷ object.Chain 1 ∷ [];
  handlers = map only_four (makes_in 0 0 (read W32 SrcIp) ∷ makes_in 1 1 (read W32 DstIp) ∷ []);
}

-- the door of a port for IPv4
abbrev pub four_at : ℕ → Door
four_at port = record { port = port; family = family.Four }
