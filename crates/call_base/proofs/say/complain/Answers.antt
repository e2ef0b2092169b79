use Rattle.std.proofs.Common.{◌∙◌, List, ℕ, inl, refl, sym, subst}
use Rattle.nf_files.specs.Writes.{Writes}
use Rattle.call_base.proofs.Printing.{said_is}
use Rattle.call_base.proofs.say.complain.Goals as goal

pub returns-in-Ok : goal.returns-in-Ok
returns-in-Ok g c =
    let told = g.F.Files.told in
    inl (record {
      status_is = refl;
      wrote = subst (λ (p : List ℕ). Writes (told c.args.files.now) (told c.say.new.files) 1 p) (c.as_slice.ensures.value ∙ c.error_line.ensures ∙ sym (said_is c.args.due c.requires)) c.in-Ok.ensures.wrote;
      counted = c.in-Ok.ensures.cause;
    })
