-- The run over one queue's packets, from the opening state.
use Rattle.nf_base.specs.Operations.{never}
use Rattle.shard_laws.specs.Queues.{queue_by}
use Rattle.std.proofs.Common.{◌≡◌, ℕ, zero, suc, ◌≤◌, Bool, true, false, List, [], ◌∷◌, map, replicate, Option, Some, None, slice_get, if◌then◌else◌, refl, ap, ap₂, sym, ◌∙◌, subst, arith}
use Rattle.nf_base.specs.declared.decl.ChainDecl.{ChainDecl}
use Rattle.nf_base.specs.declared.state.Entry.{Entry}
use Rattle.nf_base.specs.Text.{Function}
use Rattle.nf_base.specs.Context.{or_zero}
use Rattle.nf_base.specs.Chains.{chain_at, array_at, alive, lifetime_of}
use Rattle.nf_base.specs.Locations.{no_numbers}
use Rattle.nf_base.specs.Step.{opening_chain, opening}
use Rattle.nf_base.specs.Shares.{mix}
use Rattle.nf_base.proofs.Mixes.{mix_map}
use Rattle.shard_laws.specs.Homes.{Homes, owned, unseen, cell_owned, seen, queue_home}
use Rattle.shard_laws.specs.Parts.{Whole, Part, opened_of}
use Rattle.shard_laws.specs.Laws.{SeenIsPart, PartsAge, OperationsAgree, QuestionsAgree, CreationsAgree, PacketsStepAlike, QueuesRun}
use Rattle.nf_laws.proofs.Shaped.{expired_length}
use Rattle.shard_laws.proofs.Asking.{asked_alike}
use Rattle.shard_laws.proofs.Doing.{did_alike}
use Rattle.shard_laws.proofs.Handled.{one_on}
use Rattle.shard_laws.proofs.Living.{all_fresh, greatest_at}
use Rattle.shard_laws.proofs.Making.{new_alike}
use Rattle.shard_laws.proofs.Queued.{runs_on}
use Rattle.shard_laws.proofs.Taken.{takes_make}
use Rattle.shard_laws.proofs.Starting.{StartsOn, aged, seen_begins}

no_entry : (n i : ℕ) (e : Entry) → slice_get (replicate n None) i ≡ Some (Some e) → ⊥
no_entry zero i e h = cc
no_entry (suc n) zero e h = cc
no_entry (suc n) (suc i) e h = no_entry n i e h

pub no_entries : (decls : List ChainDecl) (k i : ℕ) (e : Entry) → slice_get (chain_at (map opening_chain decls) k).slots i ≡ Some (Some e) → ⊥
no_entries [] k i e h = cc
no_entries (d ∷ ds) zero i e h = no_entry d.size i e h
no_entries (d ∷ ds) (suc k) i e h = no_entries ds k i e h

greatest_open : (decls : List ChainDecl) (k : ℕ) → (chain_at (map opening_chain decls) k).greatest ≡ 0
greatest_open [] k = refl
greatest_open (d ∷ ds) zero = refl
greatest_open (d ∷ ds) (suc k) = greatest_open ds k

if_same : {A : Type 0} (b : Bool) (x : A) → (if b then x else x) ≡ x
if_same true x = refl
if_same false x = refl

open_slots : (t l n : ℕ) (own : ℕ → Bool) → map (alive t l) (replicate n None) ≡ mix own unseen (replicate n None)
open_slots t l zero own = refl
open_slots t l (suc n) own = ap₂ (λ (x : Option Entry) (xs : List (Option Entry)). x ∷ xs) (sym (if_same (own 0) None)) (open_slots t l n (λ k. own (suc k)))

open_chains : (t l : ℕ) (own : ℕ → Bool) (decls : List ChainDecl) (k : ℕ) → map (alive t l) (chain_at (map opening_chain decls) k).slots ≡ mix own unseen (chain_at (map opening_chain decls) k).slots
open_chains t l own [] k = refl
open_chains t l own (d ∷ ds) zero = open_slots t l d.size own
open_chains t l own (d ∷ ds) (suc k) = open_chains t l own ds k

if_is : (b : Bool) (x d : ℕ) → d ≡ x → x ≡ (if b then x else d)
if_is true x d e = refl
if_is false x d e = sym e

-- cells that are the opening ones, to every owner
pub mix_same : (own : ℕ → Bool) (d : ℕ → ℕ) (xs : List ℕ) → ((i v : ℕ) → slice_get xs i ≡ Some v → d i ≡ v) → xs ≡ mix own d xs
mix_same own d [] f = refl
mix_same own d (x ∷ xs) f = ap₂ (λ (y : ℕ) (ys : List ℕ). y ∷ ys) (if_is (own 0) x (d 0) (f 0 x refl)) (mix_same (λ k. own (suc k)) (λ k. d (suc k)) xs (λ i v e. f (suc i) v e))

pub whole_opening : (h : Homes) (f : Function) → Whole h (opened_of f) f.chains 0 no_numbers (opening f)
whole_opening h f = record {
  each = λ k i e at. absurd (no_entries f.chains k i e at);
  low = λ k. let g : (chain_at (opening f).chains k).greatest ≡ 0 = greatest_open f.chains k in omega arith;
  idle = λ a no_write i v e. ap or_zero e;
  stays = λ a i v none e. ap or_zero e;
}

pub part_opening : (h : Homes) (f : Function) (w : ℕ) → Part h (opened_of f) f.chains 0 w (opening f) (opening f)
part_opening h f w = record {
  chains = refl;
  slots = λ k. open_chains 0 (lifetime_of f.chains k) (owned h.owner w k) f.chains k;
  arrays = refl;
  cells = λ a. mix_same (cell_owned (queue_home h) w a) (opened_of f a) (array_at (opening f).arrays a) (λ i v e. ap or_zero e);
  low = λ k. omega arith;
}

pub queues_run : QueuesRun
queues_run h bucket f hs r knows rising stay own full e w stops halts =
    let q = runs_on h stops (opened_of f) bucket f w hs 0 no_numbers (opening f) (opening f) r knows halts (whole_opening h f) (part_opening h f w) rising stay (takes_make h.owner (queue_by h bucket) never f hs (opening f) own) full e in
    record { ran = q.ran; is = q.is; answers = q.answers; part = q.part_of }

-- what is said of single steps
pub seen_is_part : SeenIsPart
seen_is_part h opened decls time w ns s whole =
    let b : StartsOn h opened w s (seen h opened w s) = seen_begins h opened w s in
    record {
      chains = b.long;
      slots = λ k. ap (map (alive time (lifetime_of decls k))) (b.slots k) ∙ mix_map (alive time (lifetime_of decls k)) (owned h.owner w k) unseen (chain_at s.chains k).slots (λ i. refl)
          ∙ ap (mix (owned h.owner w k) unseen) (all_fresh time (lifetime_of decls k) (chain_at s.chains k).slots (λ i e at. (whole.each k i e at).within));
      arrays = b.rows;
      cells = b.cells;
      low = b.low;
    }

pub parts_age : PartsAge
parts_age h opened decls time after w ns s part whole a le = record {
  chains = a.chains ∙ sym (expired_length after (lifetime_of decls) s.chains);
  slots = λ k. aged h opened decls time after w s part k a le;
  arrays = a.arrays;
  cells = a.cells;
  low = λ k. subst (λ (g : ℕ). (chain_at part.chains k).greatest ≤ g) (sym (greatest_at after decls s.chains k)) (a.low k);
}

pub operations_agree : OperationsAgree
operations_agree s z n c d op rest wr a g = (did_alike s z n c d op rest wr a g).0

pub questions_agree : QuestionsAgree
questions_agree s z n c d q rest a g = (asked_alike s z n c d q rest a g).0

pub creations_agree : CreationsAgree
creations_agree s z n c d new rest wr a g own = (new_alike s z n c d new rest wr a g own).0

pub packets_step_alike : PacketsStepAlike
packets_step_alike h opened stops f time b w ns s part packet choices r knows halts whole a le home told_all own full e = one_on h opened stops f time b w ns s part packet choices packet.fields r knows halts whole a le home told_all own full e
