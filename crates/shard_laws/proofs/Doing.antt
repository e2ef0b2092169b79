-- An operation on a part does what it does on the whole state.
use Rattle.std.proofs.Common.{◌≡◌, ℕ, true, List, slice_get, slice_set, refl, ap₂, sym, subst}
use Rattle.nf_base.specs.declared.width.Width.TheVariants.{W16}
use Rattle.nf_base.specs.declared.decl.ObjectId.TheVariants as object
use Rattle.nf_base.specs.declared.done.Edits.{Edits}
use Rattle.nf_base.specs.Text.{Expression, Given, Operation, Touch, Free, Set, Write, Store}
use Rattle.nf_base.specs.Values.{narrowed}
use Rattle.nf_base.specs.Chains.{array_at, touched, freed, written}
use Rattle.nf_base.specs.Context.{Context, Var, var_at, value, given}
use Rattle.nf_base.specs.Operations.{on_var, without, edited, after}
use Rattle.nf_base.specs.Events.{Event, did}
use Rattle.nf_base.specs.Locations.{Numbers}
use Rattle.shard_laws.specs.Agreement.{Scene, ChainsAgree, ArraysAgree, Agree, Goes}
use Rattle.shard_laws.proofs.Agreeing.{arrays_write, chain_free, chain_touch, chain_write, given_same, on_var_same, value_same, var_owned, var_same, vars_free}
use Rattle.shard_laws.proofs.Going.{goes_frees, goes_reads, goes_stores, goes_used}

-- an operation
pub did_alike : (s : Scene) (z n : Numbers) (c d : Context) (op : Operation) (rest : List Event) → ((at array : ℕ) (i : Expression) (g : Given) → op ≡ Store at array i g → s.homes.written (object.Array array) ≡ true) → Agree s n c d → Goes s z n (did s.packet c op rest) → Agree s n (after s.packet c op) (after s.packet d op) × Goes s z n rest
did_alike s z n c d (Touch var) rest wr a g = (
  record {
    chains = subst (λ (v : Var). ChainsAgree s n (after s.packet c (Touch var)).state.chains (on_var (touched s.packet.time) v d.state.chains)) (sym (var_same s c.vars d.vars var a.vars))
        (on_var_same s n c.state.chains d.state.chains (touched s.packet.time) (var_at c.vars var) a.chains (λ at h. var_owned s c.vars d.vars var at a.vars h) (λ k x y i g o. chain_touch s n k x y i g o));
    arrays = a.arrays;
    vars = a.vars;
    edits = a.edits;
    left = a.left;
  },
  goes_used s z n _ (var_at c.vars var) rest g,
)
did_alike s z n c d (Free var) rest wr a g = (
  subst (λ (v : Var). Agree s n (after s.packet c (Free var)) (record d { state = record { chains = on_var freed v d.state.chains; arrays = d.state.arrays }; vars = without v d.vars })) (sym (var_same s c.vars d.vars var a.vars))
      (record {
        chains = on_var_same s n c.state.chains d.state.chains freed (var_at c.vars var) a.chains (λ at h. var_owned s c.vars d.vars var at a.vars h) (λ k x y i g o. chain_free s n k x y i g o);
        arrays = a.arrays;
        vars = vars_free s c.vars d.vars (var_at c.vars var) a.vars;
        edits = a.edits;
        left = a.left;
      }),
  goes_frees s z n (var_at c.vars var) rest g,
)
did_alike s z n c d (Set field x) rest wr a g =
    let r = goes_reads s z n c x.value rest g in (
      record {
        chains = a.chains;
        arrays = a.arrays;
        vars = a.vars;
        left = a.left;
        edits = ap₂ (λ (v : ℕ) (e : Edits). edited field v e) (given_same s n c d a x r.0) a.edits;
      },
      r.1,
    )
did_alike s z n c d (Write var column x) rest wr a g =
    let r = goes_reads s z n c x.value _ g in
    let v = given s.packet c x in (
      record {
        chains = subst (λ (w : ℕ). ChainsAgree s n (after s.packet c (Write var column x)).state.chains (on_var (written column w) (var_at d.vars var) d.state.chains)) (sym (given_same s n c d a x r.0))
            (subst (λ (w : Var). ChainsAgree s n (after s.packet c (Write var column x)).state.chains (on_var (written column v) w d.state.chains)) (sym (var_same s c.vars d.vars var a.vars))
            (on_var_same s n c.state.chains d.state.chains (written column v) (var_at c.vars var) a.chains (λ at h. var_owned s c.vars d.vars var at a.vars h) (λ k y z i g o. chain_write s n column v k y z i g o)));
        arrays = a.arrays;
        vars = a.vars;
        edits = a.edits;
        left = a.left;
      },
      goes_used s z n _ (var_at c.vars var) rest r.1,
    )
did_alike s z n c d (Store at array e x) rest wr a g =
    let i = narrowed W16 (value s.packet c e) in
    let v = given s.packet c x in
    let r = goes_reads s z n c e _ g in
    let q = goes_reads s z n c x.value _ r.1 in
    let t = goes_stores s z n at array i v (slice_get (array_at c.state.arrays array) i) rest q.1 in (
      record {
        chains = a.chains;
        vars = a.vars;
        edits = a.edits;
        left = a.left;
        arrays = subst (λ (j : ℕ). ArraysAgree s (after s.packet c (Store at array e x)).state.arrays (slice_set d.state.arrays array (slice_set (array_at d.state.arrays array) (narrowed W16 j) (given s.packet d x)))) (sym (value_same s n c d a e r.0))
            (subst (λ (w : ℕ). ArraysAgree s (after s.packet c (Store at array e x)).state.arrays (slice_set d.state.arrays array (slice_set (array_at d.state.arrays array) i w))) (sym (given_same s n c d a x q.0))
            (arrays_write s c.state.arrays d.state.arrays array i v a.arrays (wr at array e x refl) t.0 t.1));
      },
      t.2,
    )
