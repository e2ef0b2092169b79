-- Worked rows: functions with free columns, guards, arrays and several chains.
use Rattle.std.specs.Prelude.{◌≡◌, ℕ, List, [], ◌∷◌, codes}
use Rattle.nf_base.specs.Text as code
use Rattle.nf_base.specs.Doors.{only_four}
use Rattle.nf_base.specs.declared.width.Width.TheVariants.{W8, W16, W32, W48, W64}
use Rattle.nf_base.specs.declared.expr.Operator.TheVariants as operators
use Rattle.nf_base.specs.declared.expr.Comparison.TheVariants.{Less, Greater}
use Rattle.nf_base.specs.declared.packet.Field.TheVariants.{Time, Length, SrcIp, DstIp, Proto, Ttl, SrcPort, DstPort}
use Rattle.nf_base.specs.declared.decl.ColumnId.TheVariants as ids
use Rattle.nf_base.specs.declared.decl.ObjectId.TheVariants as object
use Rattle.nf_tree.specs.declared.tree.SumOperator.TheVariants.{Plus, Minus}
use Rattle.nf_tree.specs.declared.tree.ColumnKind.TheVariants.{Fixed, Free}
use Rattle.nf_tree.specs.declared.tree.Declaration.{Declaration}
use Rattle.nf_tree.specs.declared.tree.Declaration.TheVariants.{Array}
use Rattle.nf_tree.specs.Tree as tree
use Rattle.nf_types.specs.declared.fault.TypingKind.TheVariants.{Unknown, ReadOnly, NotInScope}
use Rattle.nf_types.specs.Function.{function}
use Rattle.nf_types.specs.TextFaults.{faults}
use Rattle.nf_types.specs.Rows.{at, name, number, fault, plain, text, handler, empty, left_out, nothing, constant, field, label, map_part, column_part, chain, column, map_of, given, read}

-- a value that a label is given, in the text, and one that a label has to have, in the function
abbrev pub gives : List ℕ → tree.Expression → tree.Given
gives x v = record { name = plain x; value = v }

abbrev pub guard : ℕ → code.Given → code.Guard
guard label g = record { label = label; given = g }

-- a column of the variable e
abbrev pub entry : List ℕ → tree.Expression
entry x = tree.Column (plain (codes "e")) (plain x)

-- chain hosts 5 lifetime 10 { map by_dst(d: 32); free used: 64; }
abbrev pub hosts : Declaration
hosts = chain (codes "hosts") 5 10 (map_part (codes "by_dst") (label (codes "d") 32 ∷ [])
    ∷ column_part Free (codes "used") 64 ∷ [])

-- get e = hosts.by_dst(dst_ip) { e.used = e.used + length; if e.used > 1000 { drop; } forward 0; }
-- else { new f = hosts(d = dst_ip) { f.used = length; forward 0; } } drop;
abbrev pub policed_text : tree.Block
policed_text =
    tree.Ask
    (tree.Get (at 6 1) (plain (codes "e")) (plain (codes "hosts")) (plain (codes "by_dst"))
    (field DstIp ∷ []) (at 6 9))
    (tree.Do (tree.Write (plain (codes "e")) (plain (codes "used"))
    (tree.Sum Plus (entry (codes "used")) (field Length)))
    (tree.Ask (tree.Test (entry (codes "used")) Greater (constant 1000))
    (tree.End tree.Discard) left_out (tree.End (tree.Forward (constant 0)))))
    (tree.Make (record {
      place = at 7 1;
      variable = plain (codes "f");
      chain = plain (codes "hosts");
      given = gives (codes "d") (field DstIp) ∷ [];
      close = at 7 9;
    })
    (tree.Do (tree.Write (plain (codes "f")) (plain (codes "used")) (field Length))
    (tree.End (tree.Forward (constant 0))))
    left_out left_out empty)
    (tree.End tree.Discard)

abbrev pub policer_text : tree.Tree
policer_text = text 2 (hosts ∷ []) (handler 0 (at 4 4) (tree.End (tree.Forward (constant 1)))
    ∷ handler 1 (at 5 4) policed_text ∷ []) (at 9 1)

abbrev pub policed : code.Block
policed =
    code.Ask (code.Get 0 0 0 (read W32 DstIp ∷ []) 0)
    (code.Do (code.Write 0 0
    (given W64 (code.Both operators.Plus (code.Column 0 0) (code.Read Length))))
    (code.Ask (code.Test 1 Greater (code.Column 0 0) (code.Number 1000))
    (code.End code.Discard) nothing (code.End (code.Forward (code.Number 0)))))
    (code.Make (record { place = 2; chain = 0; labels = read W32 DstIp ∷ []; var = 0 })
    (code.Do (code.Write 0 0 (read W64 Length)) (code.End (code.Forward (code.Number 0))))
    nothing nothing nothing)
    (code.End code.Discard)

abbrev pub ThePolicerIsAFunction : Type 0
ThePolicerIsAFunction =
    (faults policer_text ≡ [])
    × (function policer_text ≡ record {
      name = codes "x";
      chains = record {
        name = codes "hosts";
        size = 5;
        lifetime = 10;
        labels = column (codes "d") W32 ∷ [];
        columns = column (codes "used") W64 ∷ [];
        maps = map_of (codes "by_dst") 0 1 ∷ [];
        order = ids.Label 0 ∷ ids.Column 0 ∷ [];
      } ∷ [];
      arrays = [];
      objects = object.Chain 0 ∷ [];
      handlers = only_four (code.End (code.Forward (code.Number 1))) ∷ only_four policed ∷ [];
    })

-- array v 3: 16; chain d 1 lifetime 0 { } chain c 8 lifetime 0 { fixed r: 16; map m(a: 32); free t: 8; map n(s: 48, p: 16); free u: 64; }
abbrev pub mixed : List Declaration
mixed =
    Array (record {
      place = at 2 1;
      name = plain (codes "v");
      size = number 3 (at 2 9);
      width = number 16 (at 2 12);
      contents = [];
    })
    ∷ chain (codes "d") 1 0 []
    ∷ chain (codes "c") 8 0
    (column_part Fixed (codes "r") 16
    ∷ map_part (codes "m") (label (codes "a") 32 ∷ [])
    ∷ column_part Free (codes "t") 8
    ∷ map_part (codes "n") (label (codes "s") 48 ∷ label (codes "p") 16 ∷ [])
    ∷ column_part Free (codes "u") 64 ∷ [])
    ∷ []

-- find e = c[v[dst_port - 7]] where (p = src_port, r = v[0]) { e.u = e.s; v[v[1]] = e.index + v[2]; free e; } else { flood; }
-- new e = c(s = v[3], r = 1, p = 2, a = v[4]) { } get e = c.n(v[5], v[6]) { set ttl = v[7]; forward e.t; }
abbrev pub cell : ℕ → tree.Expression
cell n = tree.Cell (plain (codes "v")) (constant n)

abbrev pub mixed_text : tree.Block
mixed_text =
    tree.Ask
    (tree.Find (at 6 1) (plain (codes "e")) (plain (codes "c"))
    (tree.Cell (plain (codes "v")) (tree.Sum Minus (field DstPort) (constant 7)))
    (tree.Where (gives (codes "p") (field SrcPort) ∷ gives (codes "r") (cell 0) ∷ []) (at 6 9)))
    (tree.Do (tree.Write (plain (codes "e")) (plain (codes "u")) (entry (codes "s")))
    (tree.Do (tree.Store (plain (codes "v")) (cell 1)
    (tree.Sum Plus (tree.Index (plain (codes "e"))) (cell 2)))
    (tree.Do (tree.Free (at 6 20) (plain (codes "e"))) empty)))
    (tree.End tree.Flood)
    (tree.Make (record {
      place = at 7 1;
      variable = plain (codes "e");
      chain = plain (codes "c");
      given = gives (codes "s") (cell 3) ∷ gives (codes "r") (constant 1)
          ∷ gives (codes "p") (constant 2) ∷ gives (codes "a") (cell 4) ∷ [];
      close = at 7 9;
    })
    empty left_out left_out
    (tree.Ask (tree.Get (at 8 1) (plain (codes "e")) (plain (codes "c")) (plain (codes "n"))
    (cell 5 ∷ cell 6 ∷ []) (at 8 9))
    (tree.Do (tree.Set Ttl (at 8 20) (cell 7)) (tree.End (tree.Forward (entry (codes "t")))))
    left_out empty))

abbrev pub mixed_tree : tree.Tree
mixed_tree = text 1 mixed (handler 0 (at 5 4) mixed_text ∷ []) (at 9 1)

abbrev pub cell_at : ℕ → ℕ → code.Expression
cell_at place n = code.Cell place 0 (code.Number n)

-- the labels stand in text order, r, a, s and p; places count along the text, at an array that is written its name
abbrev pub mixed_code : code.Block
mixed_code =
    code.Ask
    (code.Find 0 1 (code.Cell 1 0 (code.Both operators.Minus (code.Read DstPort) (code.Number 7)))
    (guard 3 (read W16 SrcPort) ∷ guard 0 (given W16 (cell_at 2 0)) ∷ []) 0)
    (code.Do (code.Write 0 1 (given W64 (code.Label 0 2)))
    (code.Do (code.Store 3 0 (cell_at 4 1)
    (given W16 (code.Both operators.Plus (code.Index 0) (cell_at 5 2))))
    (code.Do (code.Free 0) nothing)))
    (code.End code.Flood)
    (code.Make (record {
      place = 6;
      chain = 1;
      labels = given W16 (code.Number 1) ∷ given W32 (cell_at 8 4) ∷ given W48 (cell_at 7 3)
          ∷ given W16 (code.Number 2) ∷ [];
      var = 0;
    })
    nothing nothing nothing
    (code.Ask (code.Get 9 1 1 (given W48 (cell_at 10 5) ∷ given W16 (cell_at 11 6) ∷ []) 0)
    (code.Do (code.Set Ttl (given W8 (cell_at 12 7))) (code.End (code.Forward (code.Column 0 0))))
    nothing nothing))

abbrev pub PlacesCountAlongTheText : Type 0
PlacesCountAlongTheText =
    (faults mixed_tree ≡ [])
    × ((function mixed_tree).chains ≡
    record {
      name = codes "d";
      size = 1;
      lifetime = 0;
      labels = [];
      columns = [];
      maps = [];
      order = [];
    }
    ∷ record {
      name = codes "c";
      size = 8;
      lifetime = 0;
      labels = column (codes "r") W16 ∷ column (codes "a") W32 ∷ column (codes "s") W48
          ∷ column (codes "p") W16 ∷ [];
      columns = column (codes "t") W8 ∷ column (codes "u") W64 ∷ [];
      maps = map_of (codes "m") 1 1 ∷ map_of (codes "n") 2 2 ∷ [];
      order = ids.Label 0 ∷ ids.Label 1 ∷ ids.Column 0 ∷ ids.Label 2 ∷ ids.Label 3 ∷ ids.Column 1
          ∷ [];
    } ∷ [])
    × ((function mixed_tree).arrays ≡ record {
      name = codes "v";
      width = W16;
      cells = 0 ∷ 0 ∷ 0 ∷ [];
    } ∷ [])
    × ((function mixed_tree).objects ≡ object.Array 0 ∷ object.Chain 0 ∷ object.Chain 1 ∷ [])
    × ((function mixed_tree).handlers ≡ only_four mixed_code ∷ [])

-- set time = e.a; set length = x[0]; set proto = 1; set ttl = 0;
abbrev pub AFieldIsSet : Type 0
AFieldIsSet =
    faults (text 1 (hosts ∷ []) (handler 0 (at 4 4)
    (tree.Do (tree.Set Time (at 5 5) (tree.Column (name (codes "e") (at 5 12)) (plain (codes "a"))))
    (tree.Do (tree.Set Length (at 5 21) (tree.Cell (name (codes "x") (at 5 30)) (constant 0)))
    (tree.Do (tree.Set Proto (at 5 40) (constant 1))
    (tree.Do (tree.Set Ttl (at 5 51) (constant 0)) empty)))) ∷ []) (at 6 1))
    ≡ fault ReadOnly (at 5 5) ∷ fault NotInScope (at 5 12) ∷ fault ReadOnly (at 5 21)
    ∷ fault Unknown (at 5 30) ∷ fault ReadOnly (at 5 40) ∷ []

-- if dst_port < 1024 { drop; } find e = conns[dst_port - 1024] where (rip = src_ip, rp = src_port)
-- { touch e; set dst_ip = e.sip; set dst_port = e.sp; forward 0; } drop;
abbrev pub answered_text : tree.Block
answered_text =
    tree.Ask (tree.Test (field DstPort) Less (constant 1024)) (tree.End tree.Discard) left_out
    (tree.Ask
    (tree.Find (at 5 1) (plain (codes "e")) (plain (codes "conns"))
    (tree.Sum Minus (field DstPort) (constant 1024))
    (tree.Where (gives (codes "rip") (field SrcIp) ∷ gives (codes "rp") (field SrcPort) ∷ [])
    (at 5 9)))
    (tree.Do (tree.Touch (plain (codes "e")))
    (tree.Do (tree.Set DstIp (at 6 1) (entry (codes "sip")))
    (tree.Do (tree.Set DstPort (at 6 9) (entry (codes "sp")))
    (tree.End (tree.Forward (constant 0))))))
    left_out
    (tree.End tree.Discard))

-- chain conns 8 lifetime 9 { map by_in(sip: 32, sp: 16, dip: 32, dp: 16); fixed rip: 32; fixed rp: 16; }
abbrev pub translator_text : tree.Tree
translator_text =
    text 1
    (chain (codes "conns") 8 9
    (map_part (codes "by_in") (label (codes "sip") 32 ∷ label (codes "sp") 16
    ∷ label (codes "dip") 32 ∷ label (codes "dp") 16 ∷ [])
    ∷ column_part Fixed (codes "rip") 32
    ∷ column_part Fixed (codes "rp") 16 ∷ []) ∷ [])
    (handler 0 (at 4 4) answered_text ∷ []) (at 9 1)

abbrev pub answered : code.Block
answered =
    code.Ask (code.Test 0 Less (code.Read DstPort) (code.Number 1024)) (code.End code.Discard)
    nothing
    (code.Ask
    (code.Find 1 0 (code.Both operators.Minus (code.Read DstPort) (code.Number 1024))
    (guard 4 (read W32 SrcIp) ∷ guard 5 (read W16 SrcPort) ∷ []) 0)
    (code.Do (code.Touch 0)
    (code.Do (code.Set DstIp (given W32 (code.Label 0 0)))
    (code.Do (code.Set DstPort (given W16 (code.Label 0 1)))
    (code.End (code.Forward (code.Number 0))))))
    nothing
    (code.End code.Discard))

abbrev pub TheTranslatorIsAFunction : Type 0
TheTranslatorIsAFunction =
    (faults translator_text ≡ [])
    × ((function translator_text).handlers ≡ only_four answered ∷ [])
