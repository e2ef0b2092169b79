use Rattle.std.proofs.Common.{◌∙◌, ap, take, map}
use Rattle.std.proofs.lemmas.List.{take-map}
use Rattle.nf_base.specs.Operations.{unless_at}
use Rattle.nf_engine.proofs.vars.Vars.forget.Goals as goal

pub returns : goal.returns
returns c =
    let inside = c.self.inside in
    ap (take inside.len) c.forget_in.ensures ∙ take-map (unless_at c.args.gone) inside.len inside.entries ∙ ap (map (unless_at c.args.gone)) c.self.view_is
