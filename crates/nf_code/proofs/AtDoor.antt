-- The handler of a door, and where it begins.
use Rattle.std.proofs.Common.{arith, ◌≡◌, ℕ, zero, suc, ◌<◌, ◌≤◌, List, [], ◌∷◌, Option, None, Some, length, map, get_or, slice_get, refl, ap, sym, subst, ◌∙◌}
use Rattle.std.specs.Option.{option_map, option_and_then}
use Rattle.std.proofs.lemmas.Slice.Zip.{AllZip-long}
use Rattle.nf_base.specs.declared.func.Func.{Func}
use Rattle.nf_base.specs.declared.handler.Handler.{Handler}
use Rattle.nf_base.specs.declared.packet.Door.{Door}
use Rattle.nf_base.specs.declared.packet.Family.{Family}
use Rattle.nf_base.specs.declared.packet.Family.TheVariants.{Four, Six}
use Rattle.nf_base.specs.declared.port_handlers.PortHandlers.{PortHandlers}
use Rattle.nf_base.specs.Doors.{handler_at, handler_in}
use Rattle.nf_base.specs.Functions.{function_of}
use Rattle.nf_base.specs.Handlers.{blocks_of}
use Rattle.nf_base.specs.Text.{Block, PortBlocks}
use Rattle.nf_base.specs.View.{block_of}
use Rattle.nf_code.specs.declared.code.Op.{Op}
use Rattle.nf_code.specs.declared.ready.Starts.{Starts}
use Rattle.nf_code.specs.Alike.{Alike}
use Rattle.nf_code.specs.Ready.{Stands, StandsIfAny, Begin, AllBegin, Begins}
use Rattle.nf_code.proofs.GoesOn.{alone}

-- a port, and where its handlers begin
record Found (code : List Op) (hs : List PortHandlers) (k : ℕ) (s : Starts) : Type 0 where
  port : PortHandlers
  is : slice_get (map blocks_of hs) k ≡ Some (blocks_of port)
  begin : Begin code (blocks_of port) s

found : (code : List Op) (hs : List PortHandlers) (ss : List Starts) (k : ℕ) (s : Starts) → AllBegin code (map blocks_of hs) ss → k < length ss → s ≡ get_or ss k s → Found code hs k s
found code [] [] k s all less is = absurd (omega (arith, less))
found code [] (t ∷ ts) k s all less is = absurd all
found code (h ∷ hs) [] k s all less is = absurd all
found code (h ∷ hs) (t ∷ ts) zero s all less is = record { port = h; is = refl; begin = subst (λ x. Begin code (blocks_of h) x) (sym is) all.0 }
found code (h ∷ hs) (t ∷ ts) (suc k) s all less is =
    let w : Found code hs k s = found code hs ts k s all.1 (omega (arith, less)) is in
    record { port = w.port; is = w.is; begin = w.begin }

handler_found : (f : Func) (door : Door) (family : Family) (code : List Op) (s : Starts) (w : Found code f.handlers door.port s) → door.family ≡ family →
    handler_at (function_of f) door ≡ handler_in family (blocks_of w.port)
handler_found f door family code s w is =
    ap (λ (o : Option PortBlocks). option_and_then (handler_in door.family) o) w.is ∙ ap (λ (x : Family). handler_in x (blocks_of w.port)) is

begins : (f : Func) (door : Door) (code : List Op) (at : ℕ) (h : Handler) → handler_at (function_of f) door ≡ Some (block_of h.block) → Stands code (block_of h.block) at → Begins f door code at
begins f door code at h is s = record {
  handler = h;
  is = is;
  within = s.within;
  stands = s.stands;
  alike = subst (λ (b : Block). Alike b (block_of h.block)) (sym s.stands) (alone (block_of h.block));
}

pub begins_four : (f : Func) (door : Door) (code : List Op) (ss : List Starts) (s : Starts) → AllBegin code (map blocks_of f.handlers) ss → door.port < length ss → s ≡ get_or ss door.port s → door.family ≡ Four → Begins f door code s.four
begins_four f door code ss s all less is family =
    let w : Found code f.handlers door.port s = found code f.handlers ss door.port s all less is in
    begins f door code s.four w.port.four (handler_found f door Four code s w family) w.begin.four

six_of : (o : Option Handler) → Option Block
six_of o = option_map (λ (h : Handler). block_of h.block) o

begins_any : (f : Func) (door : Door) (code : List Op) (at : ℕ) (o : Option Handler) → handler_at (function_of f) door ≡ option_map (λ (h : Handler). block_of h.block) o → StandsIfAny code (option_map (λ (h : Handler). block_of h.block) o) (Some at) → Begins f door code at
begins_any f door code at None is s = absurd s
begins_any f door code at (Some h) is s = begins f door code at h is s

pub begins_six : (f : Func) (door : Door) (code : List Op) (ss : List Starts) (s : Starts) (at : ℕ) → AllBegin code (map blocks_of f.handlers) ss → door.port < length ss → s ≡ get_or ss door.port s → door.family ≡ Six → s.six ≡ Some at → Begins f door code at
begins_six f door code ss s at all less is family six =
    let w : Found code f.handlers door.port s = found code f.handlers ss door.port s all less is in
    begins_any f door code at w.port.six (handler_found f door Six code s w family) (subst (λ (o : Option ℕ). StandsIfAny code (blocks_of w.port).six o) six w.begin.six)

none_any : (code : List Op) (o : Option Block) → StandsIfAny code o None → o ≡ None
none_any code None s = refl
none_any code (Some b) s = absurd s

pub none_six : (f : Func) (door : Door) (code : List Op) (ss : List Starts) (s : Starts) → AllBegin code (map blocks_of f.handlers) ss → door.port < length ss → s ≡ get_or ss door.port s → door.family ≡ Six → s.six ≡ None → handler_at (function_of f) door ≡ None
none_six f door code ss s all less is family six =
    let w : Found code f.handlers door.port s = found code f.handlers ss door.port s all less is in
    handler_found f door Six code s w family ∙ none_any code (blocks_of w.port).six (subst (λ (o : Option ℕ). StandsIfAny code (blocks_of w.port).six o) six w.begin.six)

past : {A : Type 0} (xs : List A) (i : ℕ) → length xs ≤ i → slice_get xs i ≡ None
past [] i le = refl
past (x ∷ xs) zero le = absurd (omega (arith, le))
past (x ∷ xs) (suc i) le = past xs i (omega (arith, le))

pub none_past : (f : Func) (door : Door) (code : List Op) (ss : List Starts) → AllBegin code (map blocks_of f.handlers) ss → length ss ≤ door.port → handler_at (function_of f) door ≡ None
none_past f door code ss all le =
    ap (λ (o : Option PortBlocks). option_and_then (handler_in door.family) o) (past (map blocks_of f.handlers) door.port (omega (arith, le, AllZip-long (Begin code) (map blocks_of f.handlers) ss all)))
