-- What the check's own values stand for.
use Rattle.std.specs.Prelude.{List, [], ◌∷◌, Option, Some, None}
use denote.Ref.{Bor}
use Rattle.nf_base.specs.declared.decl.ChainDecl.{ChainDecl}
use Rattle.nf_types.specs.declared.variables.Variables.{Variables}
use Rattle.nf_types.specs.declared.variables.Variables.TheVariants.{Empty, Bound'}
use Rattle.nf_types.specs.Variables.{Variable}

-- a chain behind a reference, where there is one
abbrev pub chain_seen : Option (Bor ChainDecl) → Option ChainDecl
chain_seen None = None
chain_seen (Some d) = Some d.now

-- the same, where a variable was found
abbrev pub chain_found_of : Option (Option (Bor ChainDecl)) → Option (Option ChainDecl)
chain_found_of None = None
chain_found_of (Some chain) = Some (chain_seen chain)

-- the variables in scope, the innermost first
abbrev pub variables_of : Variables → List Variable
variables_of Empty = []
variables_of (Bound' name chain p outer) =
    record { name = name.now; chain = chain_seen chain } ∷ variables_of outer
