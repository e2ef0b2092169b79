-- What an operation changes, if it changes something.
use Rattle.std.proofs.Common.{◌≡◌, ◌∙◌, ap, sym, refl, ℕ, Bool, true, false, List, [], Option, Some, None, slice_get}
use Rattle.std.specs.Bool.{OnTrue, OnFalse}
use Rattle.std.specs.Prelude.{not, if◌then◌else◌}
use Rattle.nf_base.specs.declared.width.Width.TheVariants.{W16}
use Rattle.nf_base.specs.Chains.{array_at}
use Rattle.nf_base.specs.Context.{Var, var_at, entry_in, value, given}
use Rattle.nf_base.specs.Events.{Event, used, stores, did, restamps_at, rewrites, differs}
use Rattle.nf_base.specs.Record.{is_quiet}
use Rattle.nf_base.specs.Text.{Operation, Touch, Write, Store, Given, Expression}
use Rattle.nf_base.specs.Values.{narrowed}
use Rattle.vig_tables.specs.TablesState.{TablesState}
use Rattle.nf_engine.specs.declared.context.Context.{Context}
use Rattle.nf_engine.specs.Input.{Input}
use Rattle.nf_engine.specs.Quiet.{DoesQuietly, Writes}
use Rattle.nf_engine.specs.View.{context_of, input_of}
use Rattle.nf_engine.proofs.QuietReads.{reads_quiet}
use Rattle.nf_engine.proofs.Unchanged.{touch_leaves, write_leaves, store_leaves}

-- whether an operation changes a table, by whether it does
abbrev pub Decided : Bool → Input → Operation → TablesState → Context → Type 0
Decided true p op t c = Writes p op t c
Decided false p op t c = DoesQuietly p op t c c

pub on_true : (b : Bool) (p : Input) (op : Operation) (t : TablesState) (c : Context) → Decided b p op t c → OnTrue (not b) (DoesQuietly p op t c c)
on_true true p op t c h = tt
on_true false p op t c h = h

pub on_false : (b : Bool) (p : Input) (op : Operation) (t : TablesState) (c : Context) → Decided b p op t c → OnFalse (not b) (Writes p op t c)
on_false true p op t c h = h
on_false false p op t c h = tt

used_changed : (v : Var) (b : Bool) (es : List Event) → (v ≡ None → b ≡ false) → is_quiet (used b v es) ≡ (if b then false else is_quiet es)
used_changed None b es h = rw (h refl) refl
used_changed (Some at) b es h = refl

restamps_some : (time : ℕ) (t : TablesState) (v : Var) → v ≡ None → restamps_at time t.state.chains v ≡ false
restamps_some time t v none = rw none refl

rewrites_some : (column v : ℕ) (t : TablesState) (var : Var) → var ≡ None → rewrites column v (entry_in t.state.chains var) ≡ false
rewrites_some column v t var none = rw none refl

pub touch_decided : (b : Bool) (p : Input) (var : ℕ) (t : TablesState) (c : Context) → restamps_at p.time t.state.chains (var_at c.vars var) ≡ b → Decided b p (Touch var) t c
touch_decided true p var t c is = λ left es.
    used_changed (var_at c.vars var) (restamps_at p.time t.state.chains (var_at c.vars var)) es (restamps_some p.time t (var_at c.vars var))
    ∙ ap (λ b. if b then false else is_quiet es) is
touch_decided false p var t c is = record {
  done = λ left. touch_leaves (input_of p) (context_of t left c) var is;
  told = λ left es.
      used_changed (var_at c.vars var) (restamps_at p.time t.state.chains (var_at c.vars var)) es (restamps_some p.time t (var_at c.vars var))
      ∙ ap (λ b. if b then false else is_quiet es) is;
}

pub write_decided : (b : Bool) (p : Input) (var column v : ℕ) (g : Given) (t : TablesState) (c : Context) → v ≡ given (input_of p) (context_of t [] c) g → rewrites column v (entry_in t.state.chains (var_at c.vars var)) ≡ b → Decided b p (Write var column g) t c
write_decided b p var column v g t c same is = by b is refl
  where
    told : (left : List ℕ) (es : List Event) → is_quiet (did (input_of p) (context_of t left c) (Write var column g) es) ≡ (if b then false else is_quiet es)
    told left es =
        reads_quiet (input_of p) (context_of t left c) g.value _
        ∙ used_changed (var_at c.vars var) (rewrites column (given (input_of p) (context_of t left c) g) (entry_in t.state.chains (var_at c.vars var))) es (rewrites_some column (given (input_of p) (context_of t left c) g) t (var_at c.vars var))
        ∙ ap (λ n. if rewrites column n (entry_in t.state.chains (var_at c.vars var)) then false else is_quiet es) (sym same)
        ∙ ap (λ b. if b then false else is_quiet es) is

    by : (a : Bool) → rewrites column v (entry_in t.state.chains (var_at c.vars var)) ≡ a → b ≡ a → Decided a p (Write var column g) t c
    by true q e = λ left es. told left es ∙ ap (λ b. if b then false else is_quiet es) e
    by false q e = record {
      done = λ left. write_leaves (input_of p) (context_of t left c) var column v g same q;
      told = λ left es. told left es ∙ ap (λ b. if b then false else is_quiet es) e;
    }

stored_quiet : (place array i v : ℕ) (cell : Option ℕ) (es : List Event) → is_quiet (stores place array i v cell es) ≡ (if differs v cell then false else is_quiet es)
stored_quiet place array i v None es = refl
stored_quiet place array i v (Some before) es = refl

pub store_decided : (b : Bool) (p : Input) (place array i v : ℕ) (at : Expression) (g : Given) (t : TablesState) (c : Context) → i ≡ narrowed W16 (value (input_of p) (context_of t [] c) at) → v ≡ given (input_of p) (context_of t [] c) g → differs v (slice_get (array_at t.state.arrays array) i) ≡ b → Decided b p (Store place array at g) t c
store_decided b p place array i v at g t c index same is = by b is refl
  where
    told : (left : List ℕ) (es : List Event) → is_quiet (did (input_of p) (context_of t left c) (Store place array at g) es) ≡ (if b then false else is_quiet es)
    told left es =
        reads_quiet (input_of p) (context_of t left c) at _
        ∙ reads_quiet (input_of p) (context_of t left c) g.value _
        ∙ stored_quiet place array (narrowed W16 (value (input_of p) (context_of t left c) at)) (given (input_of p) (context_of t left c) g) (slice_get (array_at t.state.arrays array) (narrowed W16 (value (input_of p) (context_of t left c) at))) es
        ∙ ap (λ n. if differs (given (input_of p) (context_of t left c) g) (slice_get (array_at t.state.arrays array) n) then false else is_quiet es) (sym index)
        ∙ ap (λ n. if differs n (slice_get (array_at t.state.arrays array) i) then false else is_quiet es) (sym same)
        ∙ ap (λ b. if b then false else is_quiet es) is

    by : (a : Bool) → differs v (slice_get (array_at t.state.arrays array) i) ≡ a → b ≡ a → Decided a p (Store place array at g) t c
    by true q e = λ left es. told left es ∙ ap (λ b. if b then false else is_quiet es) e
    by false q e = record {
      done = λ left. store_leaves (input_of p) (context_of t left c) place array i v at g index same q;
      told = λ left es. told left es ∙ ap (λ b. if b then false else is_quiet es) e;
    }
