-- What expressions read.
use Rattle.std.proofs.Common.{◌≡◌, ℕ, Some, refl, ap, ◌∙◌}
use Rattle.nf_base.specs.declared.state.Entry.{Entry}
use Rattle.nf_base.specs.Chains.{joined}
use Rattle.nf_base.specs.Context.{Context, Var, EntryRef, var_at, entry_in, or_zero, index_of, label_of, column_of}
use Rattle.nf_laws.specs.Telling.{Names}
use Rattle.nf_laws.specs.Effects.{StandsAt}
use Rattle.nf_laws.specs.Values.{VariablesRead, FreedVariablesReadNothing, CellsRead, ExpressionsRead}

entry_is : (c : Context) (var : ℕ) (at : EntryRef) (entry : Entry) → Names c var at → StandsAt c.state at entry → entry_in c.state.chains (var_at c.vars var) ≡ Some entry
entry_is c var at entry q live = ap (entry_in c.state.chains) q ∙ ap joined live

pub variables_read : VariablesRead
variables_read p c var at entry q live = record {
  index = ap index_of q;
  label = λ label v e. ap (label_of label) (entry_is c var at entry q live) ∙ ap or_zero e;
  column = λ column v e. ap (column_of column) (entry_is c var at entry q live) ∙ ap or_zero e;
}

pub freed_read_nothing : FreedVariablesReadNothing
freed_read_nothing p c var q = record {
  index = ap index_of q;
  label = λ label. ap (λ (v : Var). label_of label (entry_in c.state.chains v)) q;
  column = λ column. ap (λ (v : Var). column_of column (entry_in c.state.chains v)) q;
}

pub cells_read : CellsRead
cells_read p c place array at = record { within = λ v e. ap or_zero e; past = λ e. ap or_zero e }

pub expressions_read : ExpressionsRead
expressions_read p c = record { number = λ n. refl; field = λ field. refl; both = λ operator a b. refl; given_ = λ g. refl }
