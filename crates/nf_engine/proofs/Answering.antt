-- Whether a question hits, by what it is in the context that it is asked in.
use Rattle.std.proofs.Common.{◌≡◌, ◌∙◌, sym, ℕ, List, Bool, true, false, Option}
use Rattle.nf_base.specs.Context as context
use Rattle.vig_tables.specs.TablesState.{TablesState}
use Rattle.nf_engine.specs.declared.context.Context.{Context}
use Rattle.nf_engine.specs.Course.{Answers}
use Rattle.nf_engine.specs.View.{context_of}

pub answers_as : (b : Bool) (t : TablesState) (old new : Context) (f g : context.Context → Option context.Context) → ((left : List ℕ) → f (context_of t left old) ≡ g (context_of t left old)) → Answers b t old new f → Answers b t old new g
answers_as true t old new f g same h = λ left. sym (same left) ∙ h left
answers_as false t old new f g same h = (h.0, λ left. sym (same left) ∙ h.1 left)
