use Rattle.nf_base.specs.View.{creation_of}
use Rattle.nf_meaning.specs.View.{input_of}
use Rattle.nf_meaning.proofs.Makings.{is_made}
use Rattle.nf_meaning.proofs.creation.make.Goals as goal

pub returns-in_ok-enter-in-Made : goal.returns-in_ok-enter-in-Made
returns-in_ok-enter-in-Made c =
    is_made (input_of c.args.p.now) c.args.p.now.choices (creation_of c.args.creation.now) c.args.context.now c.enter.new.context _ c.in-Made.i (rw c.as_slice.ensures at c.in_ok-labels.ensures) (rw c.deref.ensures.value at c.in-Made.ensures.comes) c.in_ok-enter-in-Made.ensures.picks c.in_ok-enter-in-Made.ensures.full c.in_ok-enter-in-Made.ensures.made
