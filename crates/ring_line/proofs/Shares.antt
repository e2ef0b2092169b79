-- Tables of shares that were opened, one after another.
use Rattle.std.proofs.Common.{◌≡◌, ◌+◌, ℕ, suc, List, ◌∷◌, length, Some, Ok, Result, slice_get, ap, sym, ◌∙◌, subst, arith}
use Rattle.std.specs.declared.alloc.AllocError.{AllocError}
use Rattle.nf_base.specs.declared.share.Share.{Share}
use Rattle.nf_base.specs.Text.{Function}
use Rattle.vig_tables.specs.TablesState.{TablesState, opened_tables}
use Rattle.ring_line.specs.Openings.{IsOpenedAt, AreOpenedFrom}

-- the tables of one queue, with their own share
pub record Own (f : Function) (workers queue : ℕ) (tables : TablesState) : Type 0 where
  pub queue_is : tables.share.queue ≡ queue
  pub of : tables.share.of ≡ workers
  pub opened : tables ≡ opened_tables f tables.share

own_of : (f : Function) (workers queue : ℕ) (tables : TablesState) → IsOpenedAt f workers queue tables → Own f workers queue tables
own_of f workers queue tables h =
    let share : tables.share ≡ h.0 = ap (λ (t : TablesState). t.share) h.3 in
    record {
      queue_is = ap (λ (s : Share). s.queue) share ∙ h.1;
      of = ap (λ (s : Share). s.of) share ∙ h.2;
      opened = h.3 ∙ ap (opened_tables f) (sym share);
    }

-- those of the first queue
pub opened_first : (f : Function) (workers queue : ℕ) (opened rest : List (Result TablesState AllocError)) (first : Result TablesState AllocError) (tables : TablesState) → opened ≡ first ∷ rest → first ≡ Ok tables → AreOpenedFrom f workers queue opened → Own f workers queue tables
opened_first f workers queue opened rest first tables is ok h =
    own_of f workers queue tables (subst (λ (q : ℕ). IsOpenedAt f workers q tables) (omega (arith))
    (h.each 0 tables (ap (λ (all : List (Result TablesState AllocError)). slice_get all 0) is ∙ ap (λ (r : Result TablesState AllocError). Some r) ok)))

-- and those behind it
pub opened_rest : (f : Function) (workers queue : ℕ) (opened rest : List (Result TablesState AllocError)) (first : Result TablesState AllocError) → opened ≡ first ∷ rest → AreOpenedFrom f workers queue opened → AreOpenedFrom f workers (queue + 1) rest
opened_rest f workers queue opened rest first is h = record {
  all = let e = ap length is in omega (arith, e, h.all);
  each = λ k tables at. subst (λ (q : ℕ). IsOpenedAt f workers q tables) (omega (arith))
      (h.each (suc k) tables (ap (λ (all : List (Result TablesState AllocError)). slice_get all (suc k)) is ∙ at));
}
