-- Worked rows: trees of texts, what is wrong with them, and what they stand for.
use Rattle.std.specs.Prelude.{◌≡◌, ℕ, List, [], ◌∷◌, codes}
use Rattle.nf_base.specs.Text as code
use Rattle.nf_base.specs.Doors.{only_four}
use Rattle.nf_base.specs.declared.packet.Family.TheVariants.{Four, Six}
use Rattle.nf_base.specs.declared.width.Width.{Width}
use Rattle.nf_base.specs.declared.width.Width.TheVariants.{W8, W16, W32}
use Rattle.nf_base.specs.declared.packet.Field.{Field}
use Rattle.nf_base.specs.declared.packet.Field.TheVariants.{SrcIp, DstIp, SrcPort, DstPort}
use Rattle.nf_base.specs.declared.decl.ColumnDecl.{ColumnDecl}
use Rattle.nf_base.specs.declared.decl.ColumnId.TheVariants as ids
use Rattle.nf_base.specs.declared.decl.ObjectId.TheVariants as object
use Rattle.nf_base.specs.declared.decl.MapDecl.{MapDecl}
use Rattle.nf_tokens.specs.declared.token.Place.{Place}
use Rattle.nf_tree.specs.declared.place.Name.{Name}
use Rattle.nf_tree.specs.declared.place.Literal.{Literal}
use Rattle.nf_tree.specs.declared.tree.Label as declared_label
use Rattle.nf_tree.specs.declared.tree.ColumnKind.{ColumnKind}
use Rattle.nf_tree.specs.declared.tree.ColumnKind.TheVariants.{Free}
use Rattle.nf_tree.specs.declared.tree.Part.{Part}
use Rattle.nf_tree.specs.declared.tree.Part.TheVariants.{Map, Column}
use Rattle.nf_tree.specs.declared.tree.Declaration.{Declaration}
use Rattle.nf_tree.specs.declared.tree.Declaration.TheVariants.{Chain, Array}
use Rattle.nf_tree.specs.Tree as tree
use Rattle.nf_types.specs.declared.fault.TypingKind.TheVariants.{Unknown, Twice, Amount, FreeColumn, ReadOnly, NotInScope, Limit, NoHandler}
use Rattle.nf_types.specs.declared.fault.TypingKind.{TypingKind}
use Rattle.nf_types.specs.declared.fault.Fault.{Fault}
use Rattle.nf_types.specs.Function.{function}
use Rattle.nf_types.specs.TextFaults.{faults}

-- a place, and what stands there
abbrev pub at : ℕ → ℕ → Place
at line column = record { line = line; column = column }

abbrev pub name : List ℕ → Place → Name
name x place = record { bytes = x; place = place }

abbrev pub number : ℕ → Place → Literal
number n place = record { value = n; place = place }

abbrev pub fault : TypingKind → Place → Fault
fault kind place = record { kind = kind; place = place }

-- `nf x { ports N;` and what follows
abbrev pub text : ℕ → List Declaration → List tree.Handler → Place → tree.Tree
text ports ds hs end =
    record {
      name = name (codes "x") (at 1 4);
      ports = number ports (at 1 14);
      declarations = ds;
      handlers = hs;
      end = end;
    }

-- a handler of which no fault is at its word
abbrev pub handler : ℕ → Place → tree.Block → tree.Handler
handler port place b = record {
  place = at 1 1;
  port = number port place;
  family = Four;
  block = b;
}

-- the same for IPv6
abbrev pub six_handler : ℕ → Place → tree.Block → tree.Handler
six_handler port place b = record {
  place = at 1 1;
  port = number port place;
  family = Six;
  block = b;
}

-- a block that is empty, and one that is left out
abbrev pub empty : tree.Block
empty = tree.End tree.FallsOff

abbrev pub left_out : tree.Block
left_out = tree.End tree.Missing

-- one use of an entry
abbrev pub touched : List ℕ → Place → tree.Block
touched x place = tree.Do (tree.Touch (name x place)) empty

-- a number, a field or what is read of a variable's entry, where no fault is
abbrev pub constant : ℕ → tree.Expression
constant n = tree.Number (number n (at 9 9))

abbrev pub field : Field → tree.Expression
field f = tree.Read f (at 9 9)

abbrev pub plain : List ℕ → Name
plain x = name x (at 9 9)

-- nf x { ports 0; }
abbrev pub NoPortIsTooFew : Type 0
NoPortIsTooFew = faults (text 0 [] [] (at 1 17)) ≡ fault Limit (at 1 14) ∷ []

-- nf x { ports 1; }
abbrev pub APortHasNoHandler : Type 0
APortHasNoHandler = faults (text 1 [] [] (at 1 17)) ≡ fault NoHandler (at 1 17) ∷ []

-- nf x { ports 1; on 0 { touch e; } }
abbrev pub AVariableIsNotInScope : Type 0
AVariableIsNotInScope =
    faults (text 1 [] (handler 0 (at 1 20) (touched (codes "e") (at 1 30)) ∷ []) (at 1 35))
    ≡ fault NotInScope (at 1 30) ∷ []

-- nf x { ports 2; on 0 { touch e; } on 0 { } on 7 { touch f; } }: the faults stand in text order
abbrev pub FaultsStandInTextOrder : Type 0
FaultsStandInTextOrder =
    faults (text 2 []
    (handler 0 (at 1 20) (touched (codes "e") (at 1 30))
    ∷ handler 0 (at 1 38) empty
    ∷ handler 7 (at 1 47) (touched (codes "f") (at 1 57)) ∷ [])
    (at 1 62))
    ≡ fault NotInScope (at 1 30) ∷ fault Twice (at 1 38) ∷ fault Limit (at 1 47)
    ∷ fault NotInScope (at 1 57) ∷ fault NoHandler (at 1 62) ∷ []

-- nf x { ports 1; on 0 { forward 7; } }: a port that is none is no fault
abbrev pub any_forward : tree.Tree
any_forward = text 1 []
    (handler 0 (at 1 20) (tree.End (tree.Forward (tree.Number (number 7 (at 1 32))))) ∷ [])
    (at 1 37)

abbrev pub AnyPortMayBeForwardedTo : Type 0
AnyPortMayBeForwardedTo =
    (faults any_forward ≡ [])
    × (function any_forward ≡ record {
      name = codes "x";
      chains = [];
      arrays = [];
      objects = [];
      handlers = only_four (code.End (code.Forward (code.Number 7))) ∷ [];
    })

-- a label of the text, a map with its labels and a column
abbrev pub label : List ℕ → ℕ → declared_label.Label
label x n = record { name = plain x; width = number n (at 9 9) }

abbrev pub map_part : List ℕ → List declared_label.Label → Part
map_part x ls = Map (record { place = at 9 9; name = plain x; labels = ls; close = at 9 9 })

abbrev pub column_part : ColumnKind → List ℕ → ℕ → Part
column_part kind x n =
    Column (record { kind = kind; place = at 9 9; name = plain x; width = number n (at 9 9) })

abbrev pub chain : List ℕ → (size lifetime : ℕ) → List Part → Declaration
chain x size lifetime ps =
    Chain (record {
      place = at 9 9;
      name = plain x;
      size = number size (at 9 9);
      lifetime = number lifetime (at 9 9);
      parts = ps;
    })

-- a label or a column, and a map, of the function
abbrev pub column : List ℕ → Width → ColumnDecl
column x w = record { name = x; width = w }

abbrev pub map_of : List ℕ → (first parts : ℕ) → MapDecl
map_of x first parts = record { name = x; first = first; parts = parts }

abbrev pub assigned : List ℕ → Place → Field → tree.Given
assigned x place f = record { name = name x place; value = field f }

abbrev pub given : Width → code.Expression → code.Given
given w v = record { width = w; value = v }

abbrev pub read : Width → Field → code.Given
read w f = given w (code.Read f)

-- chain c 4 lifetime 7 { map m(a: 16, b: 32); free u: 8; }
abbrev pub one_chain : Declaration
one_chain = chain (codes "c") 4 7
    (map_part (codes "m") (label (codes "a") 16 ∷ label (codes "b") 32 ∷ [])
    ∷ column_part Free (codes "u") 8 ∷ [])

-- a handler of port 0 with one statement, under this chain
abbrev pub one_statement : tree.Block → tree.Tree
one_statement b = text 1 (one_chain ∷ []) (handler 0 (at 4 1) b ∷ []) (at 9 1)

-- get e = CHAIN.MAP(1): a chain that is not declared, a map that is not, a value too few
abbrev pub got : (chain map : List ℕ) → tree.Tree
got c m =
    one_statement (tree.Ask
    (tree.Get (at 5 1) (name (codes "e") (at 5 5)) (name c (at 5 9)) (name m (at 5 11))
    (constant 1 ∷ []) (at 5 14))
    empty left_out empty)

abbrev pub AGetLooksWhereItCan : Type 0
AGetLooksWhereItCan =
    (faults (got (codes "d") (codes "m")) ≡ fault Unknown (at 5 9) ∷ [])
    × (faults (got (codes "c") (codes "n")) ≡ fault Unknown (at 5 11) ∷ [])
    × (faults (got (codes "c") (codes "m")) ≡ fault Amount (at 5 14) ∷ [])

-- new c = c(b = src_ip, x = src_ip, u = src_ip, b = dst_ip): a chain's name bound, a label that is none, a free
-- column, a label given twice and one missing
abbrev pub ANewGivesEachLabelOnce : Type 0
ANewGivesEachLabelOnce =
    faults (one_statement (tree.Make (record {
      place = at 5 1;
      variable = name (codes "c") (at 5 5);
      chain = name (codes "c") (at 5 9);
      given = assigned (codes "b") (at 5 11) SrcIp ∷ assigned (codes "x") (at 5 23) SrcIp
          ∷ assigned (codes "u") (at 5 35) SrcIp ∷ assigned (codes "b") (at 5 47) DstIp ∷ [];
      close = at 5 57;
    }) empty left_out left_out empty))
    ≡ fault Twice (at 5 5) ∷ fault Unknown (at 5 23) ∷ fault FreeColumn (at 5 35)
    ∷ fault Twice (at 5 47) ∷ fault Amount (at 5 57) ∷ []

-- find e = c[x[1]] where (u = 1, a = e.b) { e.a = e.z; e.u = e.b; } e.u = 1;
abbrev pub AFindAsksLabels : Type 0
AFindAsksLabels =
    faults (one_statement (tree.Ask
    (tree.Find (at 5 1) (plain (codes "e")) (plain (codes "c"))
    (tree.Cell (name (codes "x") (at 5 12)) (constant 1))
    (tree.Where (record { name = name (codes "u") (at 5 25); value = constant 1 }
    ∷ record {
      name = plain (codes "a");
      value = tree.Column (name (codes "e") (at 5 36)) (plain (codes "b"));
    } ∷ []) (at 5 39)))
    (tree.Do (tree.Write (plain (codes "e")) (name (codes "a") (at 5 45))
    (tree.Column (plain (codes "e")) (name (codes "z") (at 5 51))))
    (tree.Do (tree.Write (plain (codes "e")) (plain (codes "u"))
    (tree.Column (plain (codes "e")) (plain (codes "b")))) empty))
    left_out
    (tree.Do (tree.Write (name (codes "e") (at 5 67)) (plain (codes "u")) (constant 1)) empty)))
    ≡ fault Unknown (at 5 12) ∷ fault FreeColumn (at 5 25) ∷ fault NotInScope (at 5 36)
    ∷ fault ReadOnly (at 5 45) ∷ fault Unknown (at 5 51) ∷ fault NotInScope (at 5 67) ∷ []

-- array v 2: 8 = { 300, 0, 7, 8 }: the first number past the size is too many
abbrev pub array : ℕ → List Literal → Declaration
array size contents =
    Array (record {
      place = at 2 1;
      name = name (codes "v") (at 2 7);
      size = number size (at 2 9);
      width = number 8 (at 2 12);
      contents = contents;
    })

abbrev pub NumbersPastTheSizeAreTooMany : Type 0
NumbersPastTheSizeAreTooMany =
    faults (text 1 (array 2 (number 300 (at 2 18) ∷ number 0 (at 2 23) ∷ number 7 (at 2 26)
    ∷ number 8 (at 2 29) ∷ []) ∷ []) (handler 0 (at 3 4) empty ∷ []) (at 4 1))
    ≡ fault Limit (at 2 26) ∷ []

-- array v 4: 8 = { 300, 255 }: contents are taken to the width, and what is left is 0
abbrev pub filled : tree.Tree
filled = text 1 (array 4 (number 300 (at 2 18) ∷ number 255 (at 2 23) ∷ []) ∷ [])
    (handler 0 (at 3 4) empty ∷ []) (at 4 1)

abbrev pub ContentsAreTakenToTheWidth : Type 0
ContentsAreTakenToTheWidth =
    (faults filled ≡ [])
    × ((function filled).arrays ≡ record {
      name = codes "v";
      width = W8;
      cells = 44 ∷ 255 ∷ 0 ∷ 0 ∷ [];
    } ∷ [])

-- get e = flows.by_flow(src_ip, dst_ip, src_port, dst_port) { touch e; }
-- else { new f = flows(b = dst_ip, a = src_ip, c = src_port, d = dst_port) { } full { drop; } } forward 1;
abbrev pub outward_text : tree.Block
outward_text =
    tree.Ask
    (tree.Get (at 4 5) (name (codes "e") (at 4 9)) (name (codes "flows") (at 4 13))
    (name (codes "by_flow") (at 4 19))
    (field SrcIp ∷ field DstIp ∷ field SrcPort ∷ field DstPort ∷ []) (at 4 61))
    (touched (codes "e") (at 4 71))
    (tree.Make (record {
      place = at 6 7;
      variable = name (codes "f") (at 6 11);
      chain = name (codes "flows") (at 6 15);
      given = assigned (codes "b") (at 6 21) DstIp ∷ assigned (codes "a") (at 6 33) SrcIp
          ∷ assigned (codes "c") (at 6 45) SrcPort ∷ assigned (codes "d") (at 6 59) DstPort ∷ [];
      close = at 6 71;
    }) empty left_out (tree.End tree.Discard) empty)
    (tree.End (tree.Forward (constant 1)))

-- get e = flows.by_flow(dst_ip, src_ip, dst_port, src_port) { touch e; forward 0; } drop;
abbrev pub inward_text : tree.Block
inward_text =
    tree.Ask
    (tree.Get (at 11 5) (name (codes "e") (at 11 9)) (name (codes "flows") (at 11 13))
    (name (codes "by_flow") (at 11 19))
    (field DstIp ∷ field SrcIp ∷ field DstPort ∷ field SrcPort ∷ []) (at 11 61))
    (tree.Do (tree.Touch (name (codes "e") (at 11 71))) (tree.End (tree.Forward (constant 0))))
    left_out
    (tree.End tree.Discard)

-- the firewall of one flow, its labels given in another order than they are declared
abbrev pub firewall_text : tree.Tree
firewall_text = record {
  name = name (codes "fw") (at 1 4);
  ports = number 2 (at 2 9);
  declarations = chain (codes "flows") 1 60000000000
      (map_part (codes "by_flow") (label (codes "a") 32 ∷ label (codes "b") 32
      ∷ label (codes "c") 16 ∷ label (codes "d") 16 ∷ []) ∷ []) ∷ [];
  handlers = handler 0 (at 3 6) outward_text ∷ handler 1 (at 10 6) inward_text ∷ [];
  end = at 14 1;
}

-- an empty block of the function
abbrev pub nothing : code.Block
nothing = code.End code.FallsOff

abbrev pub outward : code.Block
outward =
    code.Ask
    (code.Get 0 0 0 (read W32 SrcIp ∷ read W32 DstIp ∷ read W16 SrcPort ∷ read W16 DstPort ∷ []) 0)
    (code.Do (code.Touch 0) nothing)
    (code.Make (record {
      place = 1;
      chain = 0;
      labels = read W32 SrcIp ∷ read W32 DstIp ∷ read W16 SrcPort ∷ read W16 DstPort ∷ [];
      var = 0;
    }) nothing nothing (code.End code.Discard) nothing)
    (code.End (code.Forward (code.Number 1)))

abbrev pub inward : code.Block
inward =
    code.Ask
    (code.Get 2 0 0 (read W32 DstIp ∷ read W32 SrcIp ∷ read W16 DstPort ∷ read W16 SrcPort ∷ []) 0)
    (code.Do (code.Touch 0) (code.End (code.Forward (code.Number 0))))
    nothing
    (code.End code.Discard)

abbrev pub firewall : code.Function
firewall = record {
  name = codes "fw";
  chains = record {
    name = codes "flows";
    size = 1;
    lifetime = 60000000000;
    labels = column (codes "a") W32 ∷ column (codes "b") W32 ∷ column (codes "c") W16
        ∷ column (codes "d") W16 ∷ [];
    columns = [];
    maps = map_of (codes "by_flow") 0 4 ∷ [];
    order = ids.Label 0 ∷ ids.Label 1 ∷ ids.Label 2 ∷ ids.Label 3 ∷ [];
  } ∷ [];
  arrays = [];
  objects = object.Chain 0 ∷ [];
  handlers = only_four outward ∷ only_four inward ∷ [];
}

abbrev pub TheFirewallIsAFunction : Type 0
TheFirewallIsAFunction = (faults firewall_text ≡ []) × (function firewall_text ≡ firewall)

-- the handlers in another order: they stand by port, and the places count along the text
abbrev pub looked_up : ℕ → tree.Block
looked_up n =
    tree.Ask
    (tree.Get (at 5 1) (name (codes "e") (at 5 5)) (name (codes "c") (at 5 9))
    (name (codes "m") (at 5 11))
    (constant n ∷ constant n ∷ []) (at 5 17))
    empty left_out empty

abbrev pub exchanged : tree.Tree
exchanged = text 2 (one_chain ∷ []) (handler 1 (at 4 1) (looked_up 7)
    ∷ handler 0 (at 5 1) (looked_up 8) ∷ []) (at 9 1)

abbrev pub found : ℕ → ℕ → code.Block
found place n =
    code.Ask (code.Get place 0 0 (given W16 (code.Number n) ∷ given W32 (code.Number n) ∷ []) 0)
    nothing nothing nothing

abbrev pub HandlersStandByPort : Type 0
HandlersStandByPort =
    (faults exchanged ≡ [])
    × ((function exchanged).handlers ≡ only_four (found 1 8) ∷ only_four (found 0 7) ∷ [])
