-- Operations that leave a context as it was.
use Rattle.std.proofs.Common.{◌≡◌, ◌∙◌, ap, sym, refl, subst, arith, ℕ, zero, suc, List, [], ◌∷◌, false, Option, Some, None, get_or}
use Rattle.std.specs.Prelude.{slice_get, slice_set, not, ◌&&◌, ◌==◌}
use Rattle.std.proofs.lemmas.Bool.Decides.{nat_tests}
use Rattle.nf_base.specs.declared.width.Width.TheVariants.{W16}
use Rattle.nf_base.specs.declared.state.Entry.{Entry}
use Rattle.nf_base.specs.declared.state.Chain.{Chain}
use Rattle.nf_base.specs.Chains.{touched, written, entry_at, next_stamp, chain_at, array_at, no_chain}
use Rattle.nf_base.specs.Context.{Context, EntryRef, Var, Input, var_at, entry_in, value, given}
use Rattle.nf_base.specs.Events.{restamps, restamps_at, rewrites, differs}
use Rattle.nf_base.specs.Operations.{on_var, with_chains, after}
use Rattle.nf_base.specs.Text.{Touch, Free, Write, Store, Given, Expression}
use Rattle.nf_base.specs.Values.{narrowed}

-- a write of what stands there
same_write : {A : Type 0} (xs : List A) (i : ℕ) (x : A) → slice_get xs i ≡ Some x → slice_set xs i x ≡ xs
same_write [] i x at = refl
same_write (y ∷ ys) zero x at = cc
same_write (y ∷ ys) (suc i) x at = ap (λ (zs : List _). y ∷ zs) (same_write ys i x at)

past_write : {A : Type 0} (xs : List A) (i : ℕ) (x : A) → slice_get xs i ≡ None → slice_set xs i x ≡ xs
past_write [] i x at = refl
past_write (y ∷ ys) zero x at = cc
past_write (y ∷ ys) (suc i) x at = ap (λ (zs : List _). y ∷ zs) (past_write ys i x at)

-- a write of what is read, whatever is read past the end
read_write : {A : Type 0} (xs : List A) (i : ℕ) (d : A) → slice_set xs i (get_or xs i d) ≡ xs
read_write [] i d = refl
read_write (x ∷ xs) zero d = refl
read_write (x ∷ xs) (suc i) d = ap (λ (zs : List _). x ∷ zs) (read_write xs i d)

-- what stands at an index, by what is read there
entry_slot : (slots : List (Option Entry)) (i : ℕ) (entry : Entry) → entry_at slots i ≡ Some entry → slice_get slots i ≡ Some (Some entry)
entry_slot [] i entry at = cc
entry_slot (slot ∷ slots) zero entry at = ap Some at
entry_slot (slot ∷ slots) (suc i) entry at = entry_slot slots i entry at

both : (a b : ℕ) (c d : ℕ) → not (a == b && c == d) ≡ false → (a ≡ b) × (c ≡ d)
both a b c d h = grind (arith, nat_tests)

equal : (a b : ℕ) → not (a == b) ≡ false → a ≡ b
equal a b h = grind (arith, nat_tests)

-- a touch that gives the stamp that stands
same_touched : (time i : ℕ) (chain : Chain) (entry : Entry) → entry_at chain.slots i ≡ Some entry → entry.stamp ≡ next_stamp time chain → chain.greatest ≡ next_stamp time chain → touched time i chain ≡ chain
same_touched time i chain entry at stamp greatest =
    let e : slice_set chain.slots i (Some entry) ≡ chain.slots = same_write chain.slots i (Some entry) (entry_slot chain.slots i entry at) in
    rw at (subst (λ (s : ℕ). record { slots = slice_set chain.slots i (Some (record { stamp = s; labels = entry.labels; columns = entry.columns })); greatest = s } ≡ chain) stamp (rw e (rw (stamp ∙ sym greatest) refl)))

-- a write of the value that stands
same_written : (column v i : ℕ) (chain : Chain) (entry : Entry) → entry_at chain.slots i ≡ Some entry → slice_set entry.columns column v ≡ entry.columns → written column v i chain ≡ chain
same_written column v i chain entry at same =
    let e : slice_set chain.slots i (Some entry) ≡ chain.slots = same_write chain.slots i (Some entry) (entry_slot chain.slots i entry at) in
    rw at (rw same (rw e refl))

-- an operation that leaves its chain leaves the chains
same_on_chain : (op : ℕ → Chain → Chain) (at : EntryRef) (chains : List Chain) → op at.index (chain_at chains at.chain) ≡ chain_at chains at.chain → on_var op (Some at) chains ≡ chains
same_on_chain op at chains same = ap (slice_set chains at.chain) same ∙ read_write chains at.chain no_chain

touch_case : (time i : ℕ) (chain : Chain) (o : Option Entry) → entry_at chain.slots i ≡ o → restamps time chain o ≡ false → touched time i chain ≡ chain
touch_case time i chain None e q = rw e refl
touch_case time i chain (Some entry) e q =
    let same = both entry.stamp (next_stamp time chain) chain.greatest (next_stamp time chain) q in
    same_touched time i chain entry e same.0 same.1

touch_same : (time : ℕ) (chains : List Chain) (var : Var) → restamps_at time chains var ≡ false → on_var (touched time) var chains ≡ chains
touch_same time chains None q = refl
touch_same time chains (Some at) q =
    let chain = chain_at chains at.chain in
    same_on_chain (touched time) at chains (touch_case time at.index chain (entry_at chain.slots at.index) refl q)

pub touch_leaves : (p : Input) (c : Context) (var : ℕ) → restamps_at p.time c.state.chains (var_at c.vars var) ≡ false → c ≡ after p c (Touch var)
touch_leaves p c var q = ap (λ (cs : List Chain). with_chains cs c) (sym (touch_same p.time c.state.chains (var_at c.vars var) q))

cell_same : (v i : ℕ) (cells : List ℕ) (o : Option ℕ) → slice_get cells i ≡ o → differs v o ≡ false → slice_set cells i v ≡ cells
cell_same v i cells None e q = past_write cells i v e
cell_same v i cells (Some before) e q = same_write cells i v (e ∙ ap Some (equal before v q))

write_case : (column v i : ℕ) (chain : Chain) (o : Option Entry) → entry_at chain.slots i ≡ o → rewrites column v o ≡ false → written column v i chain ≡ chain
write_case column v i chain None e q = rw e refl
write_case column v i chain (Some entry) e q = same_written column v i chain entry e (cell_same v column entry.columns (slice_get entry.columns column) refl q)

write_same : (column v : ℕ) (chains : List Chain) (var : Var) → rewrites column v (entry_in chains var) ≡ false → on_var (written column v) var chains ≡ chains
write_same column v chains None q = refl
write_same column v chains (Some at) q =
    let chain = chain_at chains at.chain in
    same_on_chain (written column v) at chains (write_case column v at.index chain (entry_at chain.slots at.index) refl q)

pub write_leaves : (p : Input) (c : Context) (var column v : ℕ) (g : Given) → v ≡ given p c g → rewrites column v (entry_in c.state.chains (var_at c.vars var)) ≡ false → c ≡ after p c (Write var column g)
write_leaves p c var column v g is q = rw (← is) (ap (λ (cs : List Chain). with_chains cs c) (sym (write_same column v c.state.chains (var_at c.vars var) q)))

pub free_leaves : (p : Input) (c : Context) (var : ℕ) → var_at c.vars var ≡ None → c ≡ after p c (Free var)
free_leaves p c var none = rw none refl

pub store_leaves : (p : Input) (c : Context) (place array i v : ℕ) (at : Expression) (g : Given) → i ≡ narrowed W16 (value p c at) → v ≡ given p c g → differs v (slice_get (array_at c.state.arrays array) i) ≡ false → c ≡ after p c (Store place array at g)
store_leaves p c place array i v at g index is q =
    let cells = array_at c.state.arrays array in
    let same : slice_set c.state.arrays array (slice_set cells i v) ≡ c.state.arrays = ap (slice_set c.state.arrays array) (cell_same v i cells (slice_get cells i) refl q) ∙ read_write c.state.arrays array [] in
    rw (← index, ← is, same) refl
