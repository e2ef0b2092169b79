use Rattle.std.proofs.Common.{◌∙◌, ◌++◌, Option, ap, sym}
use Rattle.std.proofs.lemmas.List.{append-nil}
use Rattle.nf_base.specs.Functions.{function_of}
use Rattle.nf_base.specs.Text.{Block}
use Rattle.nf_sites.specs.OnPaths.{handler_sites}
use Rattle.access_keys.specs.Told.{sites_told}
use Rattle.access_keys.proofs.function.put_handler.Goals as goal

pub returns-in-None : goal.returns-in-None
returns-in-None c =
    let f = function_of c.args.func.now in
    let old = c.args.sites.now.items in
    sym (ap (λ (o : Option Block). old ++ sites_told f (handler_sites f c.args.door o)) c.in-None.ensures.none ∙ append-nil old)
