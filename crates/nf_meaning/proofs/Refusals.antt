-- Whether some `new` of a record answered full: what else a statement reads and does is nothing to it.
use Rattle.std.proofs.Common.{◌≡◌, ◌∙◌, ℕ, Bool, List, [], ◌∷◌, ◌||◌, Option, Some, None, refl}
use Rattle.nf_base.specs.Text.{Expression, Number, Read, Index, Label, Column, Cell, Both, Given, Guard, Operation, Touch, Free, Set, Write, Store, Question, Get, Find, Test, Creation}
use Rattle.nf_base.specs.Context.{Context, Var, Input, var_at}
use Rattle.nf_base.specs.Operations.{never, new_result}
use Rattle.nf_base.specs.Events.{Event, used, frees, loads, stores, reads, reads_all, reads_guards, did, asked, asked_new}
use Rattle.nf_base.specs.Record.{answers_full, is_full_answer}

used_is : (changed : Bool) (v : Var) (es : List Event) → answers_full (used changed v es) ≡ answers_full es
used_is changed None es = refl
used_is changed (Some at) es = refl

frees_is : (v : Var) (es : List Event) → answers_full (frees v es) ≡ answers_full es
frees_is None es = refl
frees_is (Some at) es = refl

loads_is : (place array i : ℕ) (cell : Option ℕ) (es : List Event) → answers_full (loads place array i cell es) ≡ answers_full es
loads_is place array i None es = refl
loads_is place array i (Some v) es = refl

stores_is : (place array i v : ℕ) (cell : Option ℕ) (es : List Event) → answers_full (stores place array i v cell es) ≡ answers_full es
stores_is place array i v None es = refl
stores_is place array i v (Some before) es = refl

pub reads_is : (p : Input) (c : Context) (e : Expression) (es : List Event) → answers_full (reads p c e es) ≡ answers_full es
reads_is p c (Number n) es = refl
reads_is p c (Read field) es = refl
reads_is p c (Index var) es = used_is _ (var_at c.vars var) es
reads_is p c (Label var label) es = used_is _ (var_at c.vars var) es
reads_is p c (Column var column) es = used_is _ (var_at c.vars var) es
reads_is p c (Cell place array at) es = reads_is p c at _ ∙ loads_is place array _ _ es
reads_is p c (Both operator left right) es = reads_is p c left _ ∙ reads_is p c right es

all_is : (p : Input) (c : Context) (gs : List Given) (es : List Event) → answers_full (reads_all p c gs es) ≡ answers_full es
all_is p c [] es = refl
all_is p c (g ∷ gs) es = reads_is p c g.value _ ∙ all_is p c gs es

guards_is : (p : Input) (c : Context) (gs : List Guard) (es : List Event) → answers_full (reads_guards p c gs es) ≡ answers_full es
guards_is p c [] es = refl
guards_is p c (g ∷ gs) es = reads_is p c g.given.value _ ∙ guards_is p c gs es

pub did_is : (p : Input) (c : Context) (op : Operation) (es : List Event) → answers_full (did p c op es) ≡ answers_full es
did_is p c (Touch var) es = used_is _ (var_at c.vars var) es
did_is p c (Free var) es = frees_is (var_at c.vars var) es
did_is p c (Set field g) es = reads_is p c g.value es
did_is p c (Write var column g) es = reads_is p c g.value _ ∙ used_is _ (var_at c.vars var) es
did_is p c (Store place array at g) es = reads_is p c at _ ∙ reads_is p c g.value _ ∙ stores_is place array _ _ _ es

pub asked_is : (p : Input) (c : Context) (q : Question) (es : List Event) → answers_full (asked p c q es) ≡ answers_full es
asked_is p c (Get place chain m key var) es = all_is p c key _
asked_is p c (Find place chain at guards var) es = reads_is p c at _ ∙ guards_is p c guards _
asked_is p c (Test place comparison left right) es = reads_is p c left _ ∙ reads_is p c right _

pub new_is : (p : Input) (c : Context) (n : Creation) (es : List Event) → answers_full (asked_new never p c n es) ≡ (is_full_answer (new_result never p c n) || answers_full es)
new_is p c n es = all_is p c n.labels _
