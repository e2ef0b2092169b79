use Rattle.nf_base.specs.Functions.{function_of}
use Rattle.access_keys.proofs.OnPath.{told_twice}
use Rattle.access_keys.proofs.function.put_port.Goals as goal

pub returns : goal.returns
returns c =
    told_twice c.put_handler-2.result (function_of c.args.func.now) c.args.port c.args.sites.now.items c.put_handler.new.sites.items c.put_handler-2.new.sites.items
    c.in_ok-put_handler.ensures c.put_handler-2.ensures
