-- What a statement reads and asks changes nothing.
use Rattle.std.proofs.Common.{◌≡◌, ◌∙◌, ℕ, false, List, [], ◌∷◌, Option, Some, None, refl, if◌then◌else◌}
use Rattle.nf_base.specs.Text.{Expression, Number, Read, Index, Label, Column, Cell, Both, Given, Guard, Question, Get, Find, Test, Creation}
use Rattle.nf_base.specs.Context.{Context, Var, Input, var_at}
use Rattle.nf_base.specs.Operations.{never, new_result}
use Rattle.nf_base.specs.Events.{Event, used, loads, reads, reads_all, reads_guards, asked, asked_new}
use Rattle.nf_base.specs.Record.{is_quiet, is_made}

used_quiet : (v : Var) (es : List Event) → is_quiet (used false v es) ≡ is_quiet es
used_quiet None es = refl
used_quiet (Some at) es = refl

loads_quiet : (place array i : ℕ) (cell : Option ℕ) (es : List Event) → is_quiet (loads place array i cell es) ≡ is_quiet es
loads_quiet place array i None es = refl
loads_quiet place array i (Some v) es = refl

pub reads_quiet : (p : Input) (c : Context) (e : Expression) (es : List Event) → is_quiet (reads p c e es) ≡ is_quiet es
reads_quiet p c (Number n) es = refl
reads_quiet p c (Read field) es = refl
reads_quiet p c (Index var) es = used_quiet (var_at c.vars var) es
reads_quiet p c (Label var label) es = used_quiet (var_at c.vars var) es
reads_quiet p c (Column var column) es = used_quiet (var_at c.vars var) es
reads_quiet p c (Cell place array at) es = reads_quiet p c at _ ∙ loads_quiet place array _ _ es
reads_quiet p c (Both operator left right) es = reads_quiet p c left _ ∙ reads_quiet p c right es

all_quiet : (p : Input) (c : Context) (gs : List Given) (es : List Event) → is_quiet (reads_all p c gs es) ≡ is_quiet es
all_quiet p c [] es = refl
all_quiet p c (g ∷ gs) es = reads_quiet p c g.value _ ∙ all_quiet p c gs es

guards_quiet : (p : Input) (c : Context) (gs : List Guard) (es : List Event) → is_quiet (reads_guards p c gs es) ≡ is_quiet es
guards_quiet p c [] es = refl
guards_quiet p c (g ∷ gs) es = reads_quiet p c g.given.value _ ∙ guards_quiet p c gs es

pub asked_quiet : (p : Input) (c : Context) (q : Question) (es : List Event) → is_quiet (asked p c q es) ≡ is_quiet es
asked_quiet p c (Get place chain m key var) es = all_quiet p c key _
asked_quiet p c (Find place chain at guards var) es = reads_quiet p c at _ ∙ guards_quiet p c guards _
asked_quiet p c (Test place comparison left right) es = reads_quiet p c left _ ∙ reads_quiet p c right _

pub new_quiet : (p : Input) (c : Context) (n : Creation) (es : List Event) → is_quiet (asked_new never p c n es) ≡ (if is_made (new_result never p c n) then false else is_quiet es)
new_quiet p c n es = all_quiet p c n.labels _
