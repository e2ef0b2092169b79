use Rattle.std.proofs.Common.{rules, ◌≡◌, ◌<◌, ℕ, List, length, Some, Ok, Result, IfOk, slice_get, slice_index_or, ap, sym, ◌∙◌, subst, arith}
use Rattle.std.proofs.lemmas.Option.{slice_get_within, get_or_from_slice_get}
use Rattle.std.specs.declared.alloc.AllocError.{AllocError}
use denote.Param.Send.{param_sync, sendable}
use Rattle.std.proofs.Crossing.{crosses}
use Rattle.nf_base.proofs.Shared.{func_sync}
use Rattle.nf_base.specs.Functions.{function_of}
use Rattle.vig_tables.specs.TablesState.{TablesState}
use Rattle.ring_line.specs.Openings.{IsOpenedAt}
use Rattle.ring_line.proofs.opening.open_each.Lts.{arg-1-3}
use Rattle.ring_line.proofs.opening.open_each.Goals as goal

pub map_indices-requires-sync-F : goal.map_indices-requires-sync-F
map_indices-requires-sync-F g c κs within =
    param_sync 3 (arg-1-3 g.row.R g.R.laws g.R.Threads-dict κs)
    (search (sendable, crosses, func_sync) depth 40)

pub returns : goal.returns
returns g c =
    let f = function_of c.args.func.now in
    let n = c.args.workers in
    let items = c.in_ok-opened.opened.items in
    let long : length items ≡ n = sym c.in_ok-opened.opened.ok.0 ∙ c.in_ok-opened.ensures.len ∙ c.get.ensures.value in
    record {
      all = let e = ap length c.from_vec.ensures in omega (arith, e, long);
      each = λ k tables at.
          let here : slice_get items k ≡ Some (Ok tables) = ap (λ (all : List (Result TablesState AllocError)). slice_get all k) (sym c.from_vec.ensures) ∙ at in
          let lt : k < length items = slice_get_within items k (Ok tables) here in
          let called = (c.in_ok-opened.ensures.each k (Ok tables) (omega (arith, lt, long, c.get.ensures.value))).1 in
          let met : IfOk (slice_index_or items k (Ok tables)) (λ (t : TablesState). IsOpenedAt f n k t) = search (rules, called) in
          subst (λ (q : ℕ). IsOpenedAt f n q tables) (omega (arith))
          (subst (λ (r : Result TablesState AllocError). IfOk r (λ (t : TablesState). IsOpenedAt f n k t)) (get_or_from_slice_get items k (Ok tables) (Ok tables) here) met);
    }
