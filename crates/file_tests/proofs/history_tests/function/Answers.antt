-- One chain without maps, and one handler.
use Rattle.std.proofs.Common.{◌≡◌, List, [], ◌∷◌, ◌++◌, map, Option, sym, subst, arith}
use Rattle.std.specs.List.{All, flat_map}
use Rattle.std.specs.Option.{option_map}
use Rattle.std.proofs.lemmas.Grind.{common_steps}
use Rattle.std.proofs.lemmas.List.Elements.{All-nil, All-cons}
use Rattle.nf_base.specs.declared.decl.ChainDecl.{ChainDecl}
use Rattle.nf_base.specs.Limits.{HaveShortKeys, HaveAllShortKeys}
use Rattle.nf_base.specs.declared.handler.Handler.{Handler}
use Rattle.nf_base.specs.declared.port_handlers.PortHandlers.{PortHandlers}
use Rattle.nf_base.specs.Handlers.{blocks_of}
use Rattle.nf_base.specs.Doors.{listed, port_blocks}
use Rattle.nf_base.specs.FitsOnce.{AllFit}
use Rattle.nf_base.specs.Limits.{Fits}
use Rattle.nf_base.specs.Statements.{statements}
use Rattle.nf_base.specs.Text.{Block}
use Rattle.nf_base.specs.View.{block_of}
use Rattle.file_tests.proofs.history_tests.function.Goals as goal

pub invariant_of-result-clause-keys : goal.invariant_of-result-clause-keys
invariant_of-result-clause-keys c =
    let IsShort : ChainDecl → Type 0 = λ decl. HaveShortKeys decl.maps in
    let flows = c.in_ok-flows.field-0 in
    let chains : c.from_vec-chains.result ≡ flows ∷ [] = grind (arith, common_steps) in
    subst HaveAllShortKeys (sym chains) (All-cons IsShort flows [] c.in_ok-flows.ensures.keys (All-nil IsShort))

pub invariant_of-result-clause-fits : goal.invariant_of-result-clause-fits
invariant_of-result-clause-fits c =
    let decls = c.from_vec-chains.result in
    let handlers : c.from_vec-handlers.result ≡ c.idle.result ∷ [] = grind (arith, common_steps) in
    let four = block_of c.idle.result.four.block in
    let IsFitting : Block → Type 0 = λ b. All (Fits decls) (statements b) in
    let fits : AllFit decls (four ∷ []) = All-cons IsFitting four [] (c.idle.ensures.four decls) (All-nil IsFitting) in
    let both : AllFit decls ((four ∷ listed (option_map (λ (h : Handler). block_of h.block) c.idle.result.six)) ++ []) = subst (λ (six : Option Handler). AllFit decls ((four ∷ listed (option_map (λ (h : Handler). block_of h.block) six)) ++ [])) (sym c.idle.ensures.six) fits in
    subst (λ (hs : List PortHandlers). AllFit decls (flat_map port_blocks (map blocks_of hs))) (sym handlers) both
