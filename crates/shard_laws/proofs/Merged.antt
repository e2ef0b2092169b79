-- The undivided state is the union of the queues' last states.
use Rattle.std.proofs.Common.{◌≡◌, ◌≢◌, ℕ, zero, suc, ◌<◌, ◌≤◌, Bool, true, false, ◌==◌, eq-eqb, ne_eqb, eqb-true, List, length, slice_get, Some, if◌then◌else◌, refl, ap, sym, ◌∙◌, subst, arith, inl, inr}
use Rattle.std.specs.Option.{option_map}
use Rattle.std.proofs.lemmas.Option.{same_Some}
use Rattle.std.proofs.lemmas.Bool.{cases_eq, cases_Bool}
use Rattle.nf_base.specs.declared.packet.Packet.{Packet}
use Rattle.nf_base.specs.declared.state.State.{State}
use Rattle.nf_base.specs.Text.{Function}
use Rattle.nf_base.specs.Chains.{chain_at, array_at}
use Rattle.nf_base.specs.Context.{or_zero}
use Rattle.nf_base.specs.Operations.{never}
use Rattle.nf_base.specs.Locations.{Location, Numbers, no_numbers, all_numbers}
use Rattle.nf_base.specs.Locations as location
use Rattle.nf_base.specs.Step.{opening}
use Rattle.nf_base.specs.Runs.{Handling, RunResult, numbers_of}
use Rattle.nf_base.proofs.Mixes.{get_own, get_other, mix_length}
use Rattle.shard_laws.specs.Homes.{Homes, owned, unseen, cell_owned, queue_home}
use Rattle.shard_laws.specs.Queues.{last_time, queue_by}
use Rattle.shard_laws.specs.Parts.{Whole, Part, opened_of}
use Rattle.shard_laws.specs.Unions.{cell_at, merged_cell, greatest_of, OneDiffers, IsUnion}
use Rattle.shard_laws.specs.Laws.{HasTop, Undivided, QueueRuns, QueuesCompose}
use Rattle.shard_laws.proofs.Living.{slots_at}
use Rattle.shard_laws.proofs.Opening.{queues_run}
use Rattle.shard_laws.proofs.Recomposed.{undivided_runs}

-- the greatest stamp
greatest_low : (k : ℕ) (parts : ℕ → State) (g n : ℕ) → ((w : ℕ) → (chain_at (parts w).chains k).greatest ≤ g) → greatest_of k parts n ≤ g
greatest_low k parts g zero low = omega arith
greatest_low k parts g (suc n) low =
    let l : (chain_at (parts n).chains k).greatest ≤ g = low n in
    let m : greatest_of k parts n ≤ g = greatest_low k parts g n low in
    omega arith

greatest_is : (k : ℕ) (parts : ℕ → State) (g n w : ℕ) → ((w : ℕ) → (chain_at (parts w).chains k).greatest ≤ g) → w < n → (chain_at (parts w).chains k).greatest ≡ g → greatest_of k parts n ≡ g
greatest_is k parts g zero w low lt e = absurd (omega arith)
greatest_is k parts g (suc n) w low lt e = elim (cases_eq w n) [
  | inl same ↦
      let top : (chain_at (parts n).chains k).greatest ≡ g = ap (λ (j : ℕ). (chain_at (parts j).chains k).greatest) (sym same) ∙ e in
      let m : greatest_of k parts n ≤ g = greatest_low k parts g n low in
      omega arith
  | inr other ↦
      let l : (chain_at (parts n).chains k).greatest ≤ g = low n in
      let m : greatest_of k parts n ≡ g = greatest_is k parts g n w low (omega arith) e in
      omega arith
]

-- a cell: `at` is its home, and v what it holds
if_true : {A : Type 0} (b : Bool) (x y : A) → b ≡ true → (if b then x else y) ≡ x
if_true true x y e = refl
if_true false x y e = cc

if_false : {A : Type 0} (b : Bool) (x y : A) → b ≡ false → (if b then x else y) ≡ y
if_false true x y e = cc
if_false false x y e = refl

merged_opened : (a i o at : ℕ) (parts : ℕ → State) (n : ℕ) → ((w : ℕ) → at ≢ w → cell_at (parts w) a i ≡ o) → n ≤ at → merged_cell a i o parts n ≡ o
merged_opened a i o at parts zero other le = refl
merged_opened a i o at parts (suc n) other le =
    let e : cell_at (parts n) a i ≡ o = other n (omega arith) in
    if_true (cell_at (parts n) a i == o) _ _ (eq-eqb _ _ e) ∙ merged_opened a i o at parts n other (omega arith)

merged_is : (a i o v at : ℕ) (parts : ℕ → State) (n : ℕ) → ((w : ℕ) → at ≡ w → cell_at (parts w) a i ≡ v) → ((w : ℕ) → at ≢ w → cell_at (parts w) a i ≡ o) → at < n → merged_cell a i o parts n ≡ v
merged_is a i o v at parts zero own other lt = absurd (omega arith)
merged_is a i o v at parts (suc n) own other lt = elim (cases_eq at n) [
  | inl same ↦
      let e : cell_at (parts n) a i ≡ v = own n same in
      elim (cases_Bool (cell_at (parts n) a i == o)) [
        | inl b ↦ if_true (cell_at (parts n) a i == o) _ _ b ∙ merged_opened a i o at parts n other (omega (arith, same)) ∙ sym (eqb-true _ _ b) ∙ e
        | inr b ↦ if_false (cell_at (parts n) a i == o) _ _ b ∙ e
      ]
  | inr ne ↦
      let e : cell_at (parts n) a i ≡ o = other n ne in
      if_true (cell_at (parts n) a i == o) _ _ (eq-eqb _ _ e) ∙ merged_is a i o v at parts n own other (omega arith)
]

-- two copies that differ are at home at one queue
one_differs : (a i o at n : ℕ) (parts : ℕ → State) → ((w : ℕ) → at ≢ w → cell_at (parts w) a i ≡ o) → OneDiffers a i o parts n
one_differs a i o at n parts other v w lv lw dv dw = elim (cases_eq at v) [
  | inl same ↦ elim (cases_eq at w) [
    | inl too ↦ sym same ∙ too
    | inr ne ↦ absurd (dw (other w ne))
  ]
  | inr ne ↦ absurd (dv (other v ne))
]

-- a copy away from home holds the opening value
away : (h : Homes) (f : Function) (time w : ℕ) (s part : State) (a i v : ℕ) → Part h (opened_of f) f.chains time w s part → slice_get (array_at s.arrays a) i ≡ Some v → queue_home h (location.CellAt a i) ≢ w → cell_at part a i ≡ opened_of f a i
away h f time w s part a i v p at ne =
    ap or_zero (ap (λ zs. slice_get zs i) (p.cells a) ∙ get_other (cell_owned (queue_home h) w a) (opened_of f a) (array_at s.arrays a) i (ne_eqb _ _ ne) ∙ ap (option_map (λ (x : ℕ). opened_of f a i)) at)

pub is_union : (h : Homes) (f : Function) (time n : ℕ) (ns : Numbers) (parts : ℕ → State) (s : State) → ((x : Location) → queue_home h x < n) → Whole h (opened_of f) f.chains time ns s
    → ((w : ℕ) → Part h (opened_of f) f.chains time w s (parts w)) → HasTop n parts s → IsUnion h.owner f time n parts s
is_union h f time n ns parts s below whole part top = record {
  chains = λ w. sym (part w).chains;
  arrays = λ w. sym (part w).arrays;
  slots = λ k i.
      let w = h.owner k i in
      sym (ap (λ zs. slice_get zs i) (slots_at time f.chains (parts w).chains k) ∙ ap (λ zs. slice_get zs i) ((part w).slots k) ∙ get_own (owned h.owner w k) unseen (chain_at s.chains k).slots i (eq-eqb _ _ refl));
  sizes = λ w a. sym (ap length ((part w).cells a) ∙ mix_length (cell_owned (queue_home h) w a) (opened_of f a) (array_at s.arrays a));
  cells = λ a i v at. sym (merged_is a i (opened_of f a i) v (queue_home h (location.CellAt a i)) parts n
      (λ w same. ap or_zero (ap (λ zs. slice_get zs i) ((part w).cells a) ∙ get_own (cell_owned (queue_home h) w a) (opened_of f a) (array_at s.arrays a) i (eq-eqb _ _ same) ∙ at))
      (λ w ne. away h f time w s (parts w) a i v (part w) at ne)
      (below (location.CellAt a i)));
  alone = λ a i v at. one_differs a i (opened_of f a i) (queue_home h (location.CellAt a i)) n parts (λ w ne. away h f time w s (parts w) a i v (part w) at ne);
  greatest = λ k. let w = top k in sym (greatest_is k parts (chain_at s.chains k).greatest n w.0 (λ v. (part v).low k) w.1 w.2);
}

-- the union of the queues' last states
pub whole_union : (h : Homes) (queue : Packet → ℕ) (f : Function) (n : ℕ) (hs : List Handling) (runs : ℕ → RunResult) → ((x : Location) → queue_home h x < n) → (u : Undivided h (opened_of f) queue f 0 (opening f) (λ v. opening f) no_numbers hs runs) → HasTop n (λ v. (runs v).state) u.ran.state
    → IsUnion h.owner f (last_time 0 hs) n (λ v. (runs v).state) u.ran.state
whole_union h queue f n hs runs homes u top = is_union h f (last_time 0 hs) n (numbers_of f (opening f) no_numbers hs) (λ v. (runs v).state) u.ran.state homes u.whole u.each top

pub queues_compose : QueuesCompose
queues_compose h bucket f n hs r knows lt homes queues rising stay own full e =
    let each : (w : ℕ) → QueueRuns h never (queue_by h bucket) f hs r w = λ w. queues_run h bucket f hs r knows rising stay own full e w never (λ k c q. cc) in
    let runs : ℕ → RunResult = λ w. (each w).ran in
    let u : Undivided h (opened_of f) (queue_by h bucket) f 0 (opening f) (λ v. opening f) no_numbers hs runs = undivided_runs h (λ w. never) bucket f hs runs knows (λ w k c q. cc) rising stay own (λ w. (each w).is) in
    let same : u.ran ≡ r = same_Some _ _ (sym u.is ∙ e) in
    record {
      runs = runs;
      are_runs = λ w. (each w).is;
      answers = λ w. (each w).answers;
      union = subst (λ (x : RunResult). IsUnion h.owner f (last_time 0 hs) n (λ w. (runs w).state) x.state) same
          (whole_union h (queue_by h bucket) f n hs runs homes u (u.tops n queues (λ k. (0, lt, refl))));
    }
