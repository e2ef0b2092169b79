-- The function that a checked `Func` stands for.
use Rattle.std.specs.Prelude.{map}
use Rattle.nf_base.specs.declared.func.Func.{Func}
use Rattle.nf_base.specs.Text.{Function}
use Rattle.nf_base.specs.Handlers.{blocks_of}

-- its declarations as they stand, and the blocks of each port's handlers
abbrev pub function_of : Func → Function
function_of f = record {
  name = f.name;
  chains = f.chains;
  arrays = f.arrays;
  objects = f.objects;
  handlers = map blocks_of f.handlers;
}
