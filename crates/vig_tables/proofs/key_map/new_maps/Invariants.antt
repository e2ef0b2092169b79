-- those so far are made
use Rattle.std.proofs.Common.{◌≡◌, take, map}
use Rattle.nf_base.specs.declared.decl.MapDecl.{MapDecl}
use Rattle.vig_tables.specs.Tagged.{opened_map}
use Rattle.vig_tables.proofs.key_map.new_maps.Given as goal

abbrev pub invariant-loop-decl : goal.invariant-loop-decl
invariant-loop-decl l = l.maps.items ≡ map (λ (decl : MapDecl). opened_map decl l.size) (take l.decl-index l.decls)
