-- Where a `new` makes no entry for the whole share.
use Rattle.std.proofs.Common.{◌≡◌, ◌∙◌, ap, sym, refl, ℕ, Bool, true, false, List, [], ◌∷◌, Option, slice_get, if◌then◌else◌}
use Rattle.nf_base.specs.declared.state.Entry.{Entry}
use Rattle.nf_base.specs.Chains.{maps_of, is_taken, is_vacant}
use Rattle.nf_base.specs.Context.{given}
use Rattle.nf_base.specs.Events.{Event}
use Rattle.nf_base.specs.Operations as step
use Rattle.nf_base.specs.Operations.{never, new_result, chosen}
use Rattle.nf_base.specs.Record.{is_quiet, is_made}
use Rattle.nf_base.specs.Shares.{owns, none_vacant}
use Rattle.nf_base.specs.Text.{Creation}
use Rattle.vig_tables.specs.TablesState.{TablesState, slots_at}
use Rattle.nf_engine.specs.declared.context.Context.{Context}
use Rattle.nf_engine.specs.Input.{Input}
use Rattle.nf_engine.specs.declared.quiet_block.Refusal.{Refusal}
use Rattle.nf_engine.specs.declared.quiet_block.Refusal.TheVariants.{Taken, Full}
use Rattle.nf_engine.specs.Quiet.{IsRefused, IsToldRefused, MakesSome}
use Rattle.nf_engine.specs.View.{Fixed, context_of, input_of, fixed_of, fixed_in, all_given}
use Rattle.nf_engine.proofs.QuietReads.{new_quiet}
use Rattle.nf_engine.proofs.Vacant.{all_full, some_not_full, owns_all}

-- what the tables say of a `new` with its labels
pub record Says (p : Input) (n : Creation) (t : TablesState) (c : Context) (labels : List ℕ) (is_bound none_left : Bool) : Type 0 where
  pub over : fixed_of t ≡ fixed_in p
  pub whole : t.share.of ≡ 1
  pub given : labels ≡ all_given p t c n.labels
  pub taken : is_taken (maps_of t.decls n.chain) labels (slots_at t n.chain) ≡ is_bound
  pub full : none_vacant (owns t.share) (slots_at t n.chain) ≡ none_left

taken_is : (p : Input) (n : Creation) (t : TablesState) (c : Context) (labels : List ℕ) (taken full : Bool) → Says p n t c labels taken full → is_taken (maps_of p.decls n.chain) (all_given p t c n.labels) (slots_at t n.chain) ≡ taken
taken_is p n t c labels taken full h =
    let decls : t.decls ≡ p.decls = ap (λ (x : Fixed). x.decls) h.over in
    rw (decls, h.given) at h.taken

pub refused_taken : (p : Input) (n : Creation) (t : TablesState) (c : Context) (labels : List ℕ) → fixed_of t ≡ fixed_in p → labels ≡ all_given p t c n.labels → is_taken (maps_of t.decls n.chain) labels (slots_at t n.chain) ≡ true → IsRefused Taken p n t c
refused_taken p n t c labels over given taken = λ left.
    let decls : t.decls ≡ p.decls = ap (λ (x : Fixed). x.decls) over in
    let is : is_taken (maps_of p.decls n.chain) (all_given p t c n.labels) (slots_at t n.chain) ≡ true = rw (decls, given) at taken in
    rw is refl

pub refused_full : (p : Input) (n : Creation) (t : TablesState) (c : Context) (labels : List ℕ) → Says p n t c labels false true → IsRefused Full p n t c
refused_full p n t c labels h = λ left.
    let slots = slots_at t n.chain in
    rw (taken_is p n t c labels false true h, all_full (owns t.share) slots (owns_all t.share h.whole) h.full) refl

-- a `new` that is refused changes nothing
pub told_refused : (r : Refusal) (p : Input) (n : Creation) (t : TablesState) (c : Context) → IsRefused r p n t c → IsToldRefused p n t c
told_refused Taken p n t c h = λ left es. new_quiet (input_of p) (context_of t left c) n es ∙ ap (λ r. if is_made r then false else is_quiet es) (h left)
told_refused Full p n t c h = λ left es. new_quiet (input_of p) (context_of t left c) n es ∙ ap (λ r. if is_made r then false else is_quiet es) (h left)

open_is : (p : Input) (n : Creation) (t : TablesState) (c : Context) (labels : List ℕ) → Says p n t c labels false false → (left : List ℕ) → new_result never (input_of p) (context_of t left c) n ≡ chosen (slots_at t n.chain) left
open_is p n t c labels h left =
    let slots = slots_at t n.chain in
    rw (taken_is p n t c labels false false h, some_not_full (owns t.share) slots h.full) refl

-- the next choice is made, or not legal
made_or_illegal : (slots : List (Option Entry)) (left : List ℕ) (es : List Event) → (if is_made (chosen slots left) then false else is_quiet es) ≡ true → chosen slots left ≡ step.Illegal
made_or_illegal slots [] es q = refl
made_or_illegal slots (i ∷ left) es q = of (is_vacant (slice_get slots i)) q
  where
    of : (b : Bool) → (if is_made (if b then step.Made i else step.Illegal) then false else is_quiet es) ≡ true → (if b then step.Made i else step.Illegal) ≡ step.Illegal
    of true q = cc
    of false q = refl

pub makes_some : (p : Input) (n : Creation) (t : TablesState) (c : Context) (labels : List ℕ) → Says p n t c labels false false → MakesSome p n t c
makes_some p n t c labels h = λ left es q.
    let is = open_is p n t c labels h left in
    is ∙ made_or_illegal (slots_at t n.chain) left es (sym (new_quiet (input_of p) (context_of t left c) n es ∙ ap (λ r. if is_made r then false else is_quiet es) is) ∙ q)
