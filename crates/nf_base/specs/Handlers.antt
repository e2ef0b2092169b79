-- The blocks that a port's declared handlers stand for.
use Rattle.std.specs.Option.{option_map}
use Rattle.nf_base.specs.declared.handler.Handler.{Handler}
use Rattle.nf_base.specs.declared.port_handlers.PortHandlers.{PortHandlers}
use Rattle.nf_base.specs.Text.{PortBlocks}
use Rattle.nf_base.specs.View.{block_of}

-- the blocks of a port's handlers
abbrev pub blocks_of : PortHandlers → PortBlocks
blocks_of h = record {
  four = block_of h.four.block;
  six = option_map (λ (six : Handler). block_of six.block) h.six;
}
