-- A handler on a part goes as on the whole state.
use Rattle.std.proofs.Common.{◌≡◌, ℕ, Bool, true, false, List, [], map, Option, Some, None, refl, ap, sym, subst}
use Rattle.nf_base.specs.declared.decl.ObjectId.{ObjectId}
use Rattle.nf_base.specs.declared.decl.ObjectId.TheVariants as object
use Rattle.nf_base.specs.Text.{FallsOff, Flood, Forward, Discard, Store, Creation, Block, End, Do, Ask, Make}
use Rattle.nf_base.specs.Chains.{written}
use Rattle.nf_base.specs.Context.{Context, given}
use Rattle.nf_base.specs.Operations.{answer, NewResult, Made, Taken, Full, Illegal, Stopped, new_result, with_new, after}
use Rattle.nf_base.specs.Events.{Event, AskedNew}
use Rattle.nf_base.specs.Record.{made_by, is_full_answer}
use Rattle.nf_base.specs.Course.{Completion, Normal, Ended, NoStep, StoppedAt, and_then, sent, if_hit, if_new, exec, events}
use Rattle.nf_base.specs.Locations.{Numbers, one_more, entry_made, numbers_after}
use Rattle.nf_base.specs.Statements.{Statement, Does, Makes}
use Rattle.nf_laws.specs.Objects.{Stands, in_do, in_make, behind_do, where_hit, where_missed, behind_ask, where_made, where_taken, where_full, behind_make}
use Rattle.shard_laws.specs.Homes.{TellsMade, AllAt, IsTold}
use Rattle.shard_laws.specs.Agreement.{Scene, Agree, Goes, OwnPart, AnswersAlike, NewsAlike, Alike}
use Rattle.shard_laws.proofs.Agreeing.{value_same}
use Rattle.shard_laws.proofs.Asking.{asked_alike}
use Rattle.shard_laws.proofs.Doing.{did_alike}
use Rattle.shard_laws.proofs.Going.{goes_reads}
use Rattle.shard_laws.proofs.Making.{new_alike, own_did, own_asked, own_new, own_behind}

-- completions
lax_none : (s : Scene) (z : Numbers) (k l : Context → List Event) (g : Completion) → s.strict ≡ false → s.tight ≡ false → Alike s z k l g NoStep
lax_none s z k l (Normal c) h t = (h, t)
lax_none s z k l (Ended a c) h t = (h, t)
lax_none s z k l NoStep h t = tt
lax_none s z k l (StoppedAt chain left) h t = t

lax_stop : (s : Scene) (z : Numbers) (k l : Context → List Event) (g : Completion) (at : ℕ) (rest : List ℕ) → s.strict ≡ false → s.tight ≡ false → Alike s z k l g (StoppedAt at rest)
lax_stop s z k l (Normal c) at rest h t = (h, t)
lax_stop s z k l (Ended a c) at rest h t = (h, t)
lax_stop s z k l NoStep at rest h t = λ u. cc
lax_stop s z k l (StoppedAt chain left) at rest h t = λ u. cc

-- where the whole state has no step, the part's entries aren't known to be its own
none_any : (s : Scene) (z : Numbers) (k l : Context → List Event) (g : Completion) → s.by_part ≡ false → Alike s z k l NoStep g
none_any s z k l (Normal d) h = h
none_any s z k l (Ended b d) h = h
none_any s z k l NoStep h = tt
none_any s z k l (StoppedAt chain left) h = λ t. h

pub then_alike : (s : Scene) (z : Numbers) (j k jl kl : Context → List Event) (f g : Completion) (go go_part : Context → Completion) → Alike s z j jl f g → ((n : Numbers) (c d : Context) → Agree s n c d → Goes s z n (j c) → OwnPart s (jl d) → Alike s z k kl (go c) (go_part d)) → Alike s z k kl (and_then f go) (and_then g go_part)
then_alike s z j k jl kl (Normal c) (Normal d) go go_part h next = next h.0 c d h.1 h.2 h.3
then_alike s z j k jl kl (Normal c) (Ended b d) go go_part h next = absurd h
then_alike s z j k jl kl (Normal c) NoStep go go_part h next = lax_none s z k kl (go c) h.0 h.1
then_alike s z j k jl kl (Normal c) (StoppedAt r rest) go go_part h next = lax_stop s z k kl (go c) r rest h.0 h.1
then_alike s z j k jl kl (Ended a c) (Normal d) go go_part h next = absurd h
then_alike s z j k jl kl (Ended a c) (Ended b d) go go_part h next = h
then_alike s z j k jl kl (Ended a c) NoStep go go_part h next = h
then_alike s z j k jl kl (Ended a c) (StoppedAt r rest) go go_part h next = h
then_alike s z j k jl kl NoStep (Normal d) go go_part h next = none_any s z k kl (go_part d) h
then_alike s z j k jl kl NoStep (Ended b d) go go_part h next = h
then_alike s z j k jl kl NoStep NoStep go go_part h next = tt
then_alike s z j k jl kl NoStep (StoppedAt r rest) go go_part h next = h
then_alike s z j k jl kl (StoppedAt q left) (Normal d) go go_part h next = absurd h
then_alike s z j k jl kl (StoppedAt q left) (Ended b d) go go_part h next = absurd h
then_alike s z j k jl kl (StoppedAt q left) NoStep go go_part h next = h
then_alike s z j k jl kl (StoppedAt q left) (StoppedAt r rest) go go_part h next = h

hit_alike : (s : Scene) (z n : Numbers) (k l : Context → List Event) (o q : Option Context) (hits hits_part : Context → List Event) (misses misses_part : List Event) (hit hit_part : Context → Completion) (miss miss_part : Completion) → AnswersAlike s n o q → Goes s z n (if_hit o hits misses) → OwnPart s (if_hit q hits_part misses_part)
    → ((c d : Context) → Agree s n c d → Goes s z n (hits c) → OwnPart s (hits_part d) → Alike s z k l (hit c) (hit_part d)) → (Goes s z n misses → OwnPart s misses_part → Alike s z k l miss miss_part) → Alike s z k l (if_hit o hit miss) (if_hit q hit_part miss_part)
hit_alike s z n k l (Some c) (Some d) hits hits_part misses misses_part hit hit_part miss miss_part h g own f m = f c d h g own
hit_alike s z n k l (Some c) None hits hits_part misses misses_part hit hit_part miss miss_part h g own f m = absurd h
hit_alike s z n k l None (Some d) hits hits_part misses misses_part hit hit_part miss miss_part h g own f m = absurd h
hit_alike s z n k l None None hits hits_part misses misses_part hit hit_part miss miss_part h g own f m = m g own

not_strict : (b : Bool) → (b ≡ true → true ≡ false) → b ≡ false
not_strict true f = f refl
not_strict false f = refl

-- what is known of the two results of a `new`, and of what follows
pub record NewGoes (s : Scene) (z n : Numbers) (new : Creation) (labels : List ℕ) (to from : NewResult) (mades mades_part : ℕ → List Event) (takens takens_part fulls fulls_part : List Event) : Type 0 where
  pub life : AllAt s.homes s.bucket (entry_made n new.chain to)
  pub granted : s.strict ≡ true → is_full_answer to ≡ false
  pub told : TellsMade s.homes n (made_by new.chain labels to)
  pub goes : Goes s z (numbers_after n (AskedNew new.place new.chain labels to)) (if_new to mades takens fulls [] [])
  pub own : OwnPart s (if_new from mades_part takens_part fulls_part [] [])

-- a `new` that found no index vacant, beside a part that made an entry at an index of another queue
pub no_full : (s : Scene) (n : Numbers) → s.by_part ≡ false → s.tight ≡ false → (s.strict ≡ true → true ≡ false) → ⊥
no_full s n whole loose granted = let q : true ≡ false = granted (s.firm whole loose) in cc

new_cases : (s : Scene) (z n : Numbers) (k l : Context → List Event) (new : Creation) (labels : List ℕ) (c d : Context) (to from : NewResult) (mades mades_part : ℕ → List Event) (takens takens_part fulls fulls_part : List Event) (made made_part : ℕ → Completion) (taken taken_part full full_part : Completion) → d.left ≡ c.left → s.homes.written (object.Chain new.chain) ≡ true → NewsAlike s n new c d to from
    → NewGoes s z n new labels to from mades mades_part takens takens_part fulls fulls_part
    → ((i : ℕ) → Agree s (one_more new.chain i n) (with_new s.packet c new i) (with_new s.packet d new i) → Goes s z (one_more new.chain i n) (mades i) → OwnPart s (mades_part i) → Alike s z k l (made i) (made_part i)) → (Goes s z n takens → OwnPart s takens_part → Alike s z k l taken taken_part) → (Goes s z n fulls → OwnPart s fulls_part → Alike s z k l full full_part)
    → Alike s z k l (if_new to made taken full NoStep (StoppedAt new.chain c.left)) (if_new from made_part taken_part full_part NoStep (StoppedAt new.chain d.left))
new_cases s z n k l new labels c d (Made i) (Made j) mades mades_part takens takens_part fulls fulls_part made made_part taken taken_part full full_part lefts wr h g m t u = subst (λ (x : ℕ). Alike s z k l (made i) (made_part x)) (sym h.0) (m i (h.1 (g.life.0 wr) g.told) g.goes (subst (λ (x : ℕ). OwnPart s (mades_part x)) h.0 g.own))
new_cases s z n k l new labels c d (Made i) Taken mades mades_part takens takens_part fulls fulls_part made made_part taken taken_part full full_part lefts wr h g m t u = absurd h
new_cases s z n k l new labels c d (Made i) Full mades mades_part takens takens_part fulls fulls_part made made_part taken taken_part full full_part lefts wr h g m t u = absurd h
new_cases s z n k l new labels c d (Made i) Illegal mades mades_part takens takens_part fulls fulls_part made made_part taken taken_part full full_part lefts wr h g m t u = absurd h
new_cases s z n k l new labels c d (Made i) Stopped mades mades_part takens takens_part fulls fulls_part made made_part taken taken_part full full_part lefts wr h g m t u = lax_stop s z k l (made i) new.chain d.left h.0 h.1
new_cases s z n k l new labels c d Taken (Made j) mades mades_part takens takens_part fulls fulls_part made made_part taken taken_part full full_part lefts wr h g m t u = absurd h
new_cases s z n k l new labels c d Taken Taken mades mades_part takens takens_part fulls fulls_part made made_part taken taken_part full full_part lefts wr h g m t u = t g.goes g.own
new_cases s z n k l new labels c d Taken Full mades mades_part takens takens_part fulls fulls_part made made_part taken taken_part full full_part lefts wr h g m t u = absurd h
new_cases s z n k l new labels c d Taken Illegal mades mades_part takens takens_part fulls fulls_part made made_part taken taken_part full full_part lefts wr h g m t u = absurd h
new_cases s z n k l new labels c d Taken Stopped mades mades_part takens takens_part fulls fulls_part made made_part taken taken_part full full_part lefts wr h g m t u = absurd h
new_cases s z n k l new labels c d Full (Made j) mades mades_part takens takens_part fulls fulls_part made made_part taken taken_part full full_part lefts wr h g m t u = absurd (no_full s n h.0 h.1 g.granted)
new_cases s z n k l new labels c d Full Taken mades mades_part takens takens_part fulls fulls_part made made_part taken taken_part full full_part lefts wr h g m t u = absurd h
new_cases s z n k l new labels c d Full Full mades mades_part takens takens_part fulls fulls_part made made_part taken taken_part full full_part lefts wr h g m t u = u g.goes g.own
new_cases s z n k l new labels c d Full Illegal mades mades_part takens takens_part fulls fulls_part made made_part taken taken_part full full_part lefts wr h g m t u = lax_none s z k l full (not_strict s.strict g.granted) h
new_cases s z n k l new labels c d Full Stopped mades mades_part takens takens_part fulls fulls_part made made_part taken taken_part full full_part lefts wr h g m t u = lax_stop s z k l full new.chain d.left (not_strict s.strict g.granted) h
new_cases s z n k l new labels c d Illegal (Made j) mades mades_part takens takens_part fulls fulls_part made made_part taken taken_part full full_part lefts wr h g m t u = none_any s z k l (made_part j) h
new_cases s z n k l new labels c d Illegal Taken mades mades_part takens takens_part fulls fulls_part made made_part taken taken_part full full_part lefts wr h g m t u = absurd h
new_cases s z n k l new labels c d Illegal Full mades mades_part takens takens_part fulls fulls_part made made_part taken taken_part full full_part lefts wr h g m t u = absurd h
new_cases s z n k l new labels c d Illegal Illegal mades mades_part takens takens_part fulls fulls_part made made_part taken taken_part full full_part lefts wr h g m t u = tt
new_cases s z n k l new labels c d Illegal Stopped mades mades_part takens takens_part fulls fulls_part made made_part taken taken_part full full_part lefts wr h g m t u = λ q. cc
new_cases s z n k l new labels c d Stopped (Made j) mades mades_part takens takens_part fulls fulls_part made made_part taken taken_part full full_part lefts wr h g m t u = absurd h
new_cases s z n k l new labels c d Stopped Taken mades mades_part takens takens_part fulls fulls_part made made_part taken taken_part full full_part lefts wr h g m t u = absurd h
new_cases s z n k l new labels c d Stopped Full mades mades_part takens takens_part fulls fulls_part made made_part taken taken_part full full_part lefts wr h g m t u = absurd h
new_cases s z n k l new labels c d Stopped Illegal mades mades_part takens takens_part fulls fulls_part made made_part taken taken_part full full_part lefts wr h g m t u = absurd h
new_cases s z n k l new labels c d Stopped Stopped mades mades_part takens takens_part fulls fulls_part made made_part taken taken_part full full_part lefts wr h g m t u = λ e. (refl, lefts)

pub told_in : (written : ObjectId → Bool) (b c : Block) → IsTold written b → ((x : Statement) → Stands x c → Stands x b) → IsTold written c
told_in written b c w f = record { news = λ n t. w.news n (f (Makes n) t); stores = λ at a i g t. w.stores at a i g (f (Does (Store at a i g)) t) }

-- a handler on a part and on the undivided state
pub exec_alike : (s : Scene) (z : Numbers) (b : Block) (n : Numbers) (c d : Context) (k l : Context → List Event) → IsTold s.homes.written b → Agree s n c d → Goes s z n (events s.over s.packet b c k) → OwnPart s (events s.stops s.packet b d l) → Alike s z k l (exec s.over s.packet b c) (exec s.stops s.packet b d)
exec_alike s z (End FallsOff) n c d k l w a g o = (n, a, g, o)
exec_alike s z (End Flood) n c d k l w a g o = (refl, subst (λ (m : Numbers). Agree s m c d) g a)
exec_alike s z (End Discard) n c d k l w a g o = (refl, subst (λ (m : Numbers). Agree s m c d) g a)
exec_alike s z (End (Forward port)) n c d k l w a g o =
    let r = goes_reads s z n c port [] g in
    (ap (sent s.packet.ports) (value_same s n c d a port r.0), subst (λ (m : Numbers). Agree s m c d) r.1 a)
exec_alike s z (Do op next) n c d k l w a g o =
    let r = did_alike s z n c d op _ (λ at array i x q. w.stores at array i x (in_do op next (sym (ap Does q)))) a g in
    exec_alike s z next n (after s.packet c op) (after s.packet d op) k l (told_in s.homes.written (Do op next) next w (λ x t. behind_do op next t)) r.0 r.1 (own_did s d op _ o)
exec_alike s z (Ask q hit miss next) n c d k l w a g o =
    let p = s.packet in
    let go = λ (e : Context). events s.over p next e k in
    let go_part = λ (e : Context). events s.stops p next e l in
    let r = asked_alike s z n c d q _ a g in
    then_alike s z go k go_part l (if_hit (answer p c q) (exec s.over p hit) (exec s.over p miss c)) (if_hit (answer p d q) (exec s.stops p hit) (exec s.stops p miss d)) (exec s.over p next) (exec s.stops p next)
    (hit_alike s z n go go_part (answer p c q) (answer p d q) (λ e. events s.over p hit e go) (λ e. events s.stops p hit e go_part) (events s.over p miss c go) (events s.stops p miss d go_part) (exec s.over p hit) (exec s.stops p hit) (exec s.over p miss c) (exec s.stops p miss d) r.0 r.1 (own_asked s d q _ o)
    (λ e f b h x. exec_alike s z hit n e f go go_part (told_in s.homes.written (Ask q hit miss next) hit w (λ x t. where_hit q hit miss next t)) b h x)
    (λ h x. exec_alike s z miss n c d go go_part (told_in s.homes.written (Ask q hit miss next) miss w (λ x t. where_missed q hit miss next t)) a h x))
    (λ m e f b h x. exec_alike s z next m e f k l (told_in s.homes.written (Ask q hit miss next) next w (λ x t. behind_ask q hit miss next t)) b h x)
exec_alike s z (Make new made taken full next) n c d k l w a g o =
    let p = s.packet in
    let go = λ (e : Context). events s.over p next e k in
    let go_part = λ (e : Context). events s.stops p next e l in
    let wr = w.news new (in_make new made taken full next refl) in
    let r = new_alike s z n c d new _ wr a g (own_new s d new _ o) in
    then_alike s z go k go_part l (if_new (new_result s.over p c new) (λ i. exec s.over p made (with_new p c new i)) (exec s.over p taken c) (exec s.over p full c) NoStep (StoppedAt new.chain c.left))
    (if_new (new_result s.stops p d new) (λ i. exec s.stops p made (with_new p d new i)) (exec s.stops p taken d) (exec s.stops p full d) NoStep (StoppedAt new.chain d.left)) (exec s.over p next) (exec s.stops p next)
    (new_cases s z n go go_part new (map (given p c) new.labels) c d (new_result s.over p c new) (new_result s.stops p d new) (λ i. events s.over p made (with_new p c new i) go) (λ i. events s.stops p made (with_new p d new i) go_part) (events s.over p taken c go) (events s.stops p taken d go_part) (events s.over p full c go) (events s.stops p full d go_part)
    (λ i. exec s.over p made (with_new p c new i)) (λ i. exec s.stops p made (with_new p d new i)) (exec s.over p taken c) (exec s.stops p taken d) (exec s.over p full c) (exec s.stops p full d) a.left.same wr r.0
    (record { life = r.1; granted = r.2; told = r.4; goes = r.3; own = own_behind s d new _ o })
    (λ i b h x. exec_alike s z made (one_more new.chain i n) (with_new p c new i) (with_new p d new i) go go_part (told_in s.homes.written (Make new made taken full next) made w (λ x t. where_made new made taken full next t)) b h x)
    (λ h x. exec_alike s z taken n c d go go_part (told_in s.homes.written (Make new made taken full next) taken w (λ x t. where_taken new made taken full next t)) a h x)
    (λ h x. exec_alike s z full n c d go go_part (told_in s.homes.written (Make new made taken full next) full w (λ x t. where_full new made taken full next t)) a h x))
    (λ m e f b h x. exec_alike s z next m e f k l (told_in s.homes.written (Make new made taken full next) next w (λ x t. behind_make new made taken full next t)) b h x)
