use Rattle.std.proofs.Common.{◌∙◌, map, sym}
use Rattle.std.specs.List.{list_any}
use Rattle.nf_base.specs.Doors.{port_blocks}
use Rattle.nf_base.specs.Handlers.{blocks_of}
use Rattle.nf_base.specs.Text.{PortBlocks}
use Rattle.shard_rules.proofs.Writing.{block_writes, any_map, any_flat}
use Rattle.shard_rules.proofs.written.is_written.Goals as goal

pub returns : goal.returns
returns c =
    let writes_one = block_writes c.args.object in
    let handlers = c.args.func.now.handlers in
    record {
      value = rw (c.is_written_by.ensures, c.as_slice.ensures.value)
          (sym (any_flat writes_one port_blocks (map blocks_of handlers) ∙ any_map (λ (h : PortBlocks). list_any writes_one (port_blocks h)) blocks_of handlers));
    }
