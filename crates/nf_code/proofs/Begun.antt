-- Where handlers begin, in code that only grows.
use Rattle.std.proofs.Common.{arith, ◌≡◌, ℕ, ◌+◌, ◌<◌, List, [], ◌∷◌, ◌++◌, Option, None, Some, length, take, map, get_or, ap, sym, ◌∙◌}
use Rattle.std.proofs.lemmas.List.{map_more}
use Rattle.nf_base.specs.declared.port_handlers.PortHandlers.{PortHandlers}
use Rattle.nf_base.specs.Handlers.{blocks_of}
use Rattle.nf_base.specs.Text.{Block, PortBlocks}
use Rattle.nf_code.specs.declared.code.Op.{Op}
use Rattle.nf_code.specs.declared.ready.Starts.{Starts}
use Rattle.nf_code.specs.Code.{Keeps}
use Rattle.nf_code.specs.Ready.{Falls, Stands, StandsIfAny, Begin, AllBegin}

stands_on : (old new : List Op) → Keeps old new → (block : Block) (at : ℕ) → Stands old block at → Stands new block at
stands_on old new keeps block at s = record {
  within = omega (arith, keeps.longer, s.within);
  stands = keeps.same at s.within ∙ s.stands;
}

if_any_on : (old new : List Op) → Keeps old new → (block : Option Block) (at : Option ℕ) → StandsIfAny old block at → StandsIfAny new block at
if_any_on old new keeps None None s = tt
if_any_on old new keeps None (Some at) s = s
if_any_on old new keeps (Some block) None s = s
if_any_on old new keeps (Some block) (Some at) s = stands_on old new keeps block at s

begin_on : (old new : List Op) → Keeps old new → (blocks : PortBlocks) (starts : Starts) → Begin old blocks starts → Begin new blocks starts
begin_on old new keeps blocks starts b = record {
  four = stands_on old new keeps blocks.four starts.four b.four;
  six = if_any_on old new keeps blocks.six starts.six b.six;
}

-- code that only grows still falls off there
pub falls_on : (old new : List Op) → Keeps old new → (at : ℕ) → Falls old at → Falls new at
falls_on old new keeps at f = record {
  within = omega (arith, keeps.longer, f.within);
  falls = keeps.same at f.within ∙ f.falls;
}

-- what began still begins there, and one handler more
pub one_begins : (old new : List Op) → Keeps old new → (handlers : List PortBlocks) (all : List Starts) (h : PortBlocks) (s : Starts) →
    AllBegin old handlers all → Begin new h s → AllBegin new (handlers ++ h ∷ []) (all ++ s ∷ [])
one_begins old new keeps [] [] h s a b = (b, tt)
one_begins old new keeps [] (t ∷ ts) h s a b = absurd a
one_begins old new keeps (g ∷ gs) [] h s a b = absurd a
one_begins old new keeps (g ∷ gs) (t ∷ ts) h s a b = (begin_on old new keeps g t a.0, one_begins old new keeps gs ts h s a.1 b)

-- the blocks of a front that is one port longer
pub front : (handlers : List PortHandlers) (i : ℕ) (h : PortHandlers) → i < length handlers → h ≡ get_or handlers i h →
    map blocks_of (take (i + 1) handlers) ≡ map blocks_of (take i handlers) ++ blocks_of h ∷ []
front handlers i h less is = map_more blocks_of handlers i h less ∙ ap (λ (x : PortHandlers). map blocks_of (take i handlers) ++ blocks_of x ∷ []) (sym is)
