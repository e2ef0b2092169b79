-- A handler as code: it fits, there is room for it, and it goes as the handler does.
use Rattle.std.proofs.Common.{◌≡◌, ◌∙◌, ℕ, ◌+◌, ◌≤◌, List, [], ap, sym, arith}
use Rattle.nf_base.specs.declared.decl.ChainDecl.{ChainDecl}
use Rattle.nf_base.specs.declared.func.Func.{Func}
use Rattle.nf_base.specs.declared.handler.Handler.{Handler}
use Rattle.nf_base.specs.declared.packet.Door.{Door}
use Rattle.nf_base.specs.Context as context
use Rattle.nf_base.specs.Operations.{never}
use Rattle.nf_base.specs.Record.{is_quiet}
use Rattle.nf_base.specs.declared.done.Action.TheVariants as action
use Rattle.nf_base.specs.Course.{Completion, Normal, Ended, StoppedAt}
use Rattle.nf_base.specs.Text.{Ending, FallsOff, Forward, Flood, Discard, Block, End, Do, Ask, Make}
use Rattle.nf_base.specs.View.{block_of}
use Rattle.nf_code.specs.declared.code.Op.{Op}
use Rattle.nf_code.specs.Alike.{Alike}
use Rattle.nf_code.specs.Code.{block_at}
use Rattle.nf_code.specs.Ready.{Begins}
use Rattle.nf_code.specs.Followed.{end_followed, followed}
use Rattle.vig_tables.specs.TablesState.{TablesState}
use Rattle.nf_engine.specs.declared.context.Context.{Context}
use Rattle.nf_engine.specs.declared.context.Flow.{Flow}
use Rattle.nf_engine.specs.declared.context.BlockResult.{BlockResult}
use Rattle.nf_engine.specs.declared.context.BlockResult.TheVariants as went
use Rattle.nf_engine.specs.Input.{Input}
use Rattle.nf_engine.specs.Course.{BlockFits, Comes, Goes, lookups, news}
use Rattle.nf_engine.specs.Choices.{context_by}
use Rattle.nf_engine.specs.Stops.{stops_of}
use Rattle.nf_engine.specs.Quiet.{GoesQuietly, IsToldQuiet, WritesSome}
use Rattle.nf_engine.specs.View.{context_of, input_of}
use Rattle.nf_engine.specs.Ways.{HasWay, most_bound, most_made}
use Rattle.nf_engine.proofs.Rooms.{news_are, lookups_are, fits_at}

end_bound : (e : Ending) (next : Block) → most_bound (end_followed e next) ≤ most_bound next
end_bound FallsOff next = omega arith
end_bound Flood next = omega arith
end_bound Discard next = omega arith
end_bound (Forward port) next = omega arith

bound_followed : (b next : Block) → most_bound (followed b next) ≤ lookups b + most_bound next
bound_followed (End e) next = let h = end_bound e next in omega (arith, h)
bound_followed (Do op rest) next = bound_followed rest next
bound_followed (Ask q hit miss rest) next =
    let h = bound_followed hit (followed rest next) in
    let m = bound_followed miss (followed rest next) in
    let r = bound_followed rest next in
    omega (arith, h, m, r)
bound_followed (Make n made taken full rest) next =
    let a = bound_followed made (followed rest next) in
    let b = bound_followed taken (followed rest next) in
    let c = bound_followed full (followed rest next) in
    let r = bound_followed rest next in
    omega (arith, a, b, c, r)

end_made : (e : Ending) (next : Block) → most_made (end_followed e next) ≤ most_made next
end_made FallsOff next = omega arith
end_made Flood next = omega arith
end_made Discard next = omega arith
end_made (Forward port) next = omega arith

made_followed : (b next : Block) → most_made (followed b next) ≤ news b + most_made next
made_followed (End e) next = let h = end_made e next in omega (arith, h)
made_followed (Do op rest) next = made_followed rest next
made_followed (Ask q hit miss rest) next =
    let h = made_followed hit (followed rest next) in
    let m = made_followed miss (followed rest next) in
    let r = made_followed rest next in
    omega (arith, h, m, r)
made_followed (Make n made taken full rest) next =
    let a = made_followed made (followed rest next) in
    let b = made_followed taken (followed rest next) in
    let c = made_followed full (followed rest next) in
    let r = made_followed rest next in
    omega (arith, a, b, c, r)

-- there is room for a handler's code
pub way_at : (h : Handler) (c : Context) (a : Block) → c.vars ≡ [] → c.picks ≡ [] → a ≡ followed (block_of h.block) (End FallsOff) → HasWay c a
way_at h c a no_vars no_picks is =
    let few_news = h.within.0 in
    let few_lookups = h.within.1 in
    let news_is = news_are (block_of h.block) in
    let lookups_is = lookups_are (block_of h.block) in
    let bound = bound_followed (block_of h.block) (End FallsOff) in
    let made = made_followed (block_of h.block) (End FallsOff) in
    record {
      vars = rw (no_vars, is) (omega (arith, few_lookups, lookups_is, bound));
      picks = rw (no_picks, is) (omega (arith, few_news, news_is, made));
    }

end_fits : (decls : List ChainDecl) (e : Ending) (next : Block) → BlockFits decls next → BlockFits decls (end_followed e next)
end_fits decls FallsOff next h = h
end_fits decls Flood next h = tt
end_fits decls Discard next h = tt
end_fits decls (Forward port) next h = tt

-- a block with one behind it fits where both do
pub fits_followed : (decls : List ChainDecl) (b next : Block) → BlockFits decls b → BlockFits decls next → BlockFits decls (followed b next)
fits_followed decls (End e) next f g = end_fits decls e next g
fits_followed decls (Do op rest) next f g = fits_followed decls rest next f g
fits_followed decls (Ask q hit miss rest) next f g =
    let k = fits_followed decls rest next f.3 g in
    (f.0, fits_followed decls hit (followed rest next) f.1 k, fits_followed decls miss (followed rest next) f.2 k, tt)
fits_followed decls (Make n made taken full rest) next f g =
    let k = fits_followed decls rest next f.4 g in
    (f.0, fits_followed decls made (followed rest next) f.1 k, fits_followed decls taken (followed rest next) f.2 k, fits_followed decls full (followed rest next) f.3 k, tt)

comes_alike : (p : Input) (a b : Block) (t u : TablesState) (old new : Context) (meant : context.Context → Completion) → Alike a b → Comes p a t old u new meant → Comes p b t old u new meant
comes_alike p a b t u old new meant same comes = λ all may. (let c = comes all may in (c.0, sym (same.goes (stops_of p) (input_of p) (context_by all t old)) ∙ c.1))

-- what goes alike goes so too
pub goes_alike : (to : BlockResult) (p : Input) (a b : Block) (t u : TablesState) (old new : Context) → Alike a b → Goes to p a t old u new → Goes to p b t old u new
goes_alike went.Falls p a b t u old new same h = comes_alike p a b t u old new Normal same h
goes_alike went.Drop p a b t u old new same h = comes_alike p a b t u old new (Ended action.Drop) same h
goes_alike went.Flood p a b t u old new same h = comes_alike p a b t u old new (Ended action.Flood) same h
goes_alike (went.To port) p a b t u old new same h = comes_alike p a b t u old new (Ended (action.To port)) same h
goes_alike (went.ShareFull chain) p a b t u old new same h = (h.0, comes_alike p a b t u old new (λ c. StoppedAt chain c.left) same h.1)
goes_alike went.BadChoice p a b t u old new same h = (h.0, λ all may own. sym (same.goes (stops_of p) (input_of p) (context_by all t old)) ∙ h.1 all may own)

-- a handler's code fits
pub fits_begun : (f : Func) (door : Door) (code : List Op) (at : ℕ) → Begins f door code at → BlockFits f.chains (block_at code at)
fits_begun f door code at b = rw b.stands (fits_followed f.chains (block_of b.handler.block) (End FallsOff) (fits_at f door b.handler b.is) tt)

-- the same where nothing may be written
pub goes_quietly_alike : (flow : Flow) (p : Input) (a b : Block) (t : TablesState) (old new : Context) → Alike a b → GoesQuietly flow p a t old new → GoesQuietly flow p b t old new
goes_quietly_alike flow p a b t old new same h = λ left. sym (same.goes never (input_of p) (context_of t left old)) ∙ h left

pub told_quiet_alike : (flow : Flow) (p : Input) (a b : Block) (t : TablesState) (old new : Context) → Alike a b → IsToldQuiet flow p a t old new → IsToldQuiet flow p b t old new
told_quiet_alike flow p a b t old new same h = λ left k. ap is_quiet (sym (same.tells never (input_of p) (context_of t left old) k)) ∙ h left k

pub writes_alike : (p : Input) (a b : Block) (t : TablesState) (c : Context) → Alike a b → WritesSome p a t c → WritesSome p b t c
writes_alike p a b t c same h = λ left k q. sym (same.goes never (input_of p) (context_of t left c)) ∙ h left k (ap is_quiet (same.tells never (input_of p) (context_of t left c) k) ∙ q)
