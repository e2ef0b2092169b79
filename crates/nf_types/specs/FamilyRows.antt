-- Worked rows: handlers of both versions of IP.
use Rattle.std.specs.Prelude.{◌≡◌, ℕ, [], ◌∷◌, codes, Some}
use Rattle.nf_base.specs.Text as code
use Rattle.nf_base.specs.Doors.{only_four}
use Rattle.nf_base.specs.declared.width.Width.TheVariants.{W128}
use Rattle.nf_base.specs.declared.packet.Field.{Field}
use Rattle.nf_base.specs.declared.packet.Field.TheVariants.{SrcIp, DstIp, SrcIp6, DstIp6}
use Rattle.nf_tokens.specs.declared.token.Place.{Place}
use Rattle.nf_tree.specs.Tree as tree
use Rattle.nf_types.specs.declared.fault.TypingKind.TheVariants.{Twice, Limit, NoHandler, OtherFamily}
use Rattle.nf_types.specs.Function.{function}
use Rattle.nf_types.specs.TextFaults.{faults}
use Rattle.nf_types.specs.Rows.{at, fault, text, handler, six_handler, empty, left_out, nothing, constant, field, label, map_part, chain, plain, given, read}

-- a block that sends to a port, and the same in a function
abbrev pub sends : ℕ → tree.Block
sends n = tree.End (tree.Forward (constant n))

abbrev pub sent : ℕ → code.Block
sent n = code.End (code.Forward (code.Number n))

-- nf x { ports 2; chain c 1 lifetime 0 { map m(a: 128); }
-- on 1 six { get e = c.m(src_ip6) { set dst_ip6 = e.a; } } on 1 { forward 8; } on 0 { forward 7; } }:
-- places count along the text, and a port may lack a handler for IPv6
abbrev pub six_text : tree.Block
six_text =
    tree.Ask
    (tree.Get (at 5 1) (plain (codes "e")) (plain (codes "c")) (plain (codes "m"))
    (field SrcIp6 ∷ []) (at 5 17))
    (tree.Do (tree.Set DstIp6 (at 5 20) (tree.Column (plain (codes "e")) (plain (codes "a")))) empty)
    left_out empty

abbrev pub both_texts : tree.Tree
both_texts =
    text 2
    (chain (codes "c") 1 0 (map_part (codes "m") (label (codes "a") 128 ∷ []) ∷ []) ∷ [])
    (six_handler 1 (at 5 4) six_text ∷ handler 1 (at 6 4) (sends 8)
    ∷ handler 0 (at 7 4) (sends 7) ∷ [])
    (at 9 1)

abbrev pub six_code : code.Block
six_code =
    code.Ask (code.Get 0 0 0 (read W128 SrcIp6 ∷ []) 0)
    (code.Do (code.Set DstIp6 (given W128 (code.Label 0 0))) nothing) nothing nothing

abbrev pub HandlersStandByFamily : Type 0
HandlersStandByFamily =
    (faults both_texts ≡ [])
    × ((function both_texts).handlers
    ≡ only_four (sent 7) ∷ record { four = sent 8; six = Some six_code } ∷ [])

-- a field at a place, and a block that sets one to another
abbrev pub read_at : Field → Place → tree.Expression
read_at f place = tree.Read f place

abbrev pub setting : Field → Place → Field → Place → tree.Block → tree.Block
setting f place g other next = tree.Do (tree.Set f place (read_at g other)) next

-- nf x { ports 2;
-- on 0 six { set src_ip = dst_ip6; forward dst_ip; }
-- on 0 six { } on 7 six { }
-- on 1 { set dst_ip6 = src_ip; set src_ip6 = src_ip6; } }
abbrev pub AFieldIsOfTheHandlersFamily : Type 0
AFieldIsOfTheHandlersFamily =
    faults (text 2 []
    (six_handler 0 (at 2 4) (setting SrcIp (at 2 16) DstIp6 (at 2 25)
    (tree.End (tree.Forward (read_at DstIp (at 2 42)))))
    ∷ six_handler 0 (at 3 4) empty ∷ six_handler 7 (at 3 17) empty
    ∷ handler 1 (at 4 4) (setting DstIp6 (at 4 12) SrcIp (at 4 22)
    (setting SrcIp6 (at 4 34) SrcIp6 (at 4 44) empty)) ∷ [])
    (at 4 51))
    ≡ fault OtherFamily (at 2 16) ∷ fault OtherFamily (at 2 42) ∷ fault Twice (at 3 4)
    ∷ fault Limit (at 3 17) ∷ fault OtherFamily (at 4 12) ∷ fault OtherFamily (at 4 34)
    ∷ fault OtherFamily (at 4 44) ∷ fault NoHandler (at 4 51) ∷ []
