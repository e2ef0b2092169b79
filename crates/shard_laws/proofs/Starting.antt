-- A packet begins on a part that is its queue's of the whole state.
use Rattle.std.proofs.Common.{◌≡◌, ℕ, zero, suc, ◌≤◌, Bool, List, [], ◌∷◌, length, map, refl, ap, sym, ◌∙◌, arith, inl}
use Rattle.nf_base.specs.declared.decl.ChainDecl.{ChainDecl}
use Rattle.nf_base.specs.declared.state.Chain.{Chain}
use Rattle.nf_base.specs.declared.state.State.{State}
use Rattle.nf_base.specs.Chains.{chain_at, array_at, alive, expired, lifetime_of}
use Rattle.nf_base.specs.Context.{Context}
use Rattle.nf_base.specs.Locations.{Numbers}
use Rattle.nf_base.specs.Step.{no_edits}
use Rattle.nf_base.specs.Shares.{mix}
use Rattle.nf_base.proofs.Mixes.{mix_map}
use Rattle.nf_laws.proofs.Shaped.{expired_length}
use Rattle.shard_laws.specs.Homes.{Homes, queue_home, owned, unseen, cell_owned, seen_chains, seen_arrays, seen}
use Rattle.shard_laws.specs.Agreement.{Scene, Agree}
use Rattle.shard_laws.specs.Parts.{Whole, Part, at_time}
use Rattle.shard_laws.proofs.Living.{alive_all_twice, greatest_at, slots_at}

-- how a packet begins on a part that is its queue's of the undivided state
pub record StartsOn (h : Homes) (opened : ℕ → ℕ → ℕ) (w : ℕ) (whole part : State) : Type 0 where
  pub long : length part.chains ≡ length whole.chains
  pub slots : (k : ℕ) → (chain_at part.chains k).slots ≡ mix (owned h.owner w k) unseen (chain_at whole.chains k).slots
  pub rows : length part.arrays ≡ length whole.arrays
  pub cells : (a : ℕ) → array_at part.arrays a ≡ mix (cell_owned (queue_home h) w a) (opened a) (array_at whole.arrays a)
  pub low : (k : ℕ) → (chain_at part.chains k).greatest ≤ (chain_at whole.chains k).greatest

-- a part's slots at a time_after time
pub aged : (h : Homes) (opened : ℕ → ℕ → ℕ) (decls : List ChainDecl) (time after w : ℕ) (m part : State) (k : ℕ) → Part h opened decls time w m part → time ≤ after → map (alive after (lifetime_of decls k)) (chain_at part.chains k).slots ≡ mix (owned h.owner w k) unseen (chain_at (expired after (lifetime_of decls) m.chains) k).slots
aged h opened decls time after w m part k a le =
    sym (alive_all_twice time after (lifetime_of decls k) (chain_at part.chains k).slots le) ∙ ap (map (alive after (lifetime_of decls k))) (a.slots k)
    ∙ mix_map (alive after (lifetime_of decls k)) (owned h.owner w k) unseen (chain_at m.chains k).slots (λ i. refl) ∙ ap (mix (owned h.owner w k) unseen) (sym (slots_at after decls m.chains k))

pub part_begins : (h : Homes) (opened : ℕ → ℕ → ℕ) (decls : List ChainDecl) (time after w : ℕ) (m part : State) → Part h opened decls time w m part → time ≤ after → StartsOn h opened w (at_time after decls m) (at_time after decls part)
part_begins h opened decls time after w m part a le = record {
  long = expired_length after (lifetime_of decls) part.chains ∙ a.chains ∙ sym (expired_length after (lifetime_of decls) m.chains);
  slots = λ k. slots_at after decls part.chains k ∙ aged h opened decls time after w m part k a le;
  rows = a.arrays;
  cells = a.cells;
  low = λ k.
      let g : (chain_at (expired after (lifetime_of decls) m.chains) k).greatest ≡ (chain_at m.chains k).greatest = greatest_at after decls m.chains k in
      let p : (chain_at (expired after (lifetime_of decls) part.chains) k).greatest ≡ (chain_at part.chains k).greatest = greatest_at after decls part.chains k in
      let l : (chain_at part.chains k).greatest ≤ (chain_at m.chains k).greatest = a.low k in
      omega arith;
}

-- what a queue owns of a state
pub seen_chain : (own : ℕ → ℕ → Bool) (cs : List Chain) (k : ℕ) → chain_at (seen_chains own cs) k ≡ record (chain_at cs k) { slots = mix (own k) unseen (chain_at cs k).slots }
seen_chain own [] k = refl
seen_chain own (c ∷ cs) zero = refl
seen_chain own (c ∷ cs) (suc k) = seen_chain (λ j. own (suc j)) cs k

pub seen_chains_long : (own : ℕ → ℕ → Bool) (cs : List Chain) → length (seen_chains own cs) ≡ length cs
seen_chains_long own [] = refl
seen_chains_long own (c ∷ cs) = ap suc (seen_chains_long (λ j. own (suc j)) cs)

pub seen_array : (own : ℕ → ℕ → Bool) (opened : ℕ → ℕ → ℕ) (xs : List (List ℕ)) (a : ℕ) → array_at (seen_arrays own opened xs) a ≡ mix (own a) (opened a) (array_at xs a)
seen_array own opened [] a = refl
seen_array own opened (x ∷ xs) zero = refl
seen_array own opened (x ∷ xs) (suc a) = seen_array (λ j. own (suc j)) (λ j. opened (suc j)) xs a

pub seen_arrays_long : (own : ℕ → ℕ → Bool) (opened : ℕ → ℕ → ℕ) (xs : List (List ℕ)) → length (seen_arrays own opened xs) ≡ length xs
seen_arrays_long own opened [] = refl
seen_arrays_long own opened (x ∷ xs) = ap suc (seen_arrays_long (λ j. own (suc j)) (λ j. opened (suc j)) xs)

pub seen_begins : (h : Homes) (opened : ℕ → ℕ → ℕ) (w : ℕ) (s : State) → StartsOn h opened w s (seen h opened w s)
seen_begins h opened w s = record {
  long = seen_chains_long (owned h.owner w) s.chains;
  slots = λ k. ap (λ (c : Chain). c.slots) (seen_chain (owned h.owner w) s.chains k);
  rows = seen_arrays_long (cell_owned (queue_home h) w) opened s.arrays;
  cells = λ a. seen_array (cell_owned (queue_home h) w) opened s.arrays a;
  low = λ k. let g : (chain_at (seen_chains (owned h.owner w) s.chains) k).greatest ≡ (chain_at s.chains k).greatest = ap (λ (c : Chain). c.greatest) (seen_chain (owned h.owner w) s.chains k) in omega arith;
}

abbrev pub course_of : State → List ℕ → Context
course_of s choices = record { state = s; vars = []; edits = no_edits; left = choices }

pub start_agree : (s : Scene) (n : Numbers) (choices : List ℕ) → Whole s.homes s.opened s.packet.decls s.packet.time n s.whole → StartsOn s.homes s.opened s.queue s.whole s.part → Agree s n (course_of s.whole choices) (course_of s.part choices)
start_agree s n choices w b = record {
  chains = record {
    long = refl;
    long_part = b.long;
    each = λ k. record {
      slots = record { here = b.slots k; beside = λ v ne. refl; each = w.each k };
      stamps = let l : (chain_at s.whole.chains k).greatest ≤ s.packet.time = w.low k in let m : (chain_at s.part.chains k).greatest ≤ (chain_at s.whole.chains k).greatest = b.low k in
          record { low = w.low k; low_part = omega arith; top = inl (refl, refl) };
    };
  };
  arrays = record { long = refl; long_part = b.rows; each = λ a. record { here = b.cells a; beside = λ v ne. refl; idle = w.idle a; stays = w.stays a } };
  vars = record { same = refl; bound = λ k at q. cc };
  edits = refl;
  left = record { same = refl };
}
