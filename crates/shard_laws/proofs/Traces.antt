-- What a handler makes and stores to on a part is what it makes and stores to on the whole state.
use Rattle.std.proofs.Common.{◌≡◌, ℕ, Bool, true, false, List, [], ◌∷◌, map, Option, Some, None, slice_get, refl, ap, ap₂, sym, ◌∙◌, subst}
use Rattle.nf_base.specs.declared.decl.ObjectId.TheVariants as object
use Rattle.nf_base.specs.declared.width.Width.TheVariants.{W16}
use Rattle.nf_base.specs.Text.{FallsOff, Flood, Forward, Discard, Operation, Touch, Free, Set, Write, Store, Question, Creation, Block, End, Do, Ask, Make}
use Rattle.nf_base.specs.Values.{narrowed}
use Rattle.nf_base.specs.Chains.{array_at}
use Rattle.nf_base.specs.Context.{Context, Input, Var, var_at, entry_in, value, given}
use Rattle.nf_base.specs.Operations.{answer, NewResult, Made, Taken, Full, Illegal, Stopped, new_result, with_new, after}
use Rattle.nf_base.specs.Events.{Event, AskedNew, EntryUsed, EntryFreed, CellRead, CellWritten, used, frees, stores, restamps_at, rewrites, did}
use Rattle.nf_base.specs.Course.{Completion, Normal, Ended, NoStep, StoppedAt, and_then, if_hit, if_new, exec, events}
use Rattle.nf_base.specs.Locations.{Numbers, one_more}
use Rattle.nf_base.specs.Statements.{Does}
use Rattle.nf_laws.specs.Objects.{in_do, in_make, behind_do, where_hit, where_missed, behind_ask, where_made, where_taken, where_full, behind_make}
use Rattle.nf_laws.proofs.Consumed.{then_then}
use Rattle.nf_laws.proofs.Plain.{SkipsReads, plain_reads, plain_all, plain_asked, question_event}
use Rattle.shard_laws.specs.Homes.{IsTold}
use Rattle.shard_laws.specs.Agreement.{Scene, Agree, Goes, OwnPart, AnswersAlike, NewsAlike}
use Rattle.shard_laws.proofs.Agreeing.{cells_read, given_same, givens_same, value_same}
use Rattle.shard_laws.proofs.Asking.{asked_alike}
use Rattle.shard_laws.proofs.Courses.{NewGoes, no_full, told_in}
use Rattle.shard_laws.proofs.Doing.{did_alike}
use Rattle.shard_laws.proofs.Going.{goes_all, goes_reads, goes_stores}
use Rattle.shard_laws.proofs.Making.{new_alike, own_did, own_asked, own_new, own_behind}

-- a function of a record to which only what is made and what is stored to matters
pub record IsTrace {A : Type 0} (tr : List Event → A) : Type 0 where
  pub use_ : (chain i : ℕ) (changed : Bool) (es : List Event) → tr (EntryUsed chain i changed ∷ es) ≡ tr es
  pub free_ : (chain i : ℕ) (es : List Event) → tr (EntryFreed chain i ∷ es) ≡ tr es
  pub load_ : (place array i : ℕ) (es : List Event) → tr (CellRead place array i ∷ es) ≡ tr es
  pub ask_ : (p : Input) (c : Context) (q : Question) (es : List Event) → tr (question_event p c q ∷ es) ≡ tr es
  pub on_ : (e : Event) (es fs : List Event) → tr es ≡ tr fs → tr (e ∷ es) ≡ tr (e ∷ fs)

skips : {A : Type 0} (tr : List Event → A) → IsTrace tr → SkipsReads tr
skips tr t = record { use_ = λ chain i es. t.use_ chain i false es; load_ = t.load_ }

trace_used : {A : Type 0} (tr : List Event → A) → IsTrace tr → (changed : Bool) (v : Var) (es : List Event) → tr (used changed v es) ≡ tr es
trace_used tr t changed None es = refl
trace_used tr t changed (Some at) es = t.use_ at.chain at.index changed es

trace_frees : {A : Type 0} (tr : List Event → A) → IsTrace tr → (v : Var) (es : List Event) → tr (frees v es) ≡ tr es
trace_frees tr t None es = refl
trace_frees tr t (Some at) es = t.free_ at.chain at.index es

trace_stores : {A : Type 0} (tr : List Event → A) → IsTrace tr → (place a i v : ℕ) (o : Option ℕ) (es fs : List Event) → tr es ≡ tr fs → tr (stores place a i v o es) ≡ tr (stores place a i v o fs)
trace_stores tr t place a i v None es fs e = e
trace_stores tr t place a i v (Some before) es fs e = t.on_ (CellWritten place a i _) es fs e

did_traces : {A : Type 0} (tr : List Event → A) → IsTrace tr → (s : Scene) (z n : Numbers) (c d : Context) (op : Operation) (es fs : List Event) → Agree s n c d → Goes s z n (did s.packet c op es) → tr es ≡ tr fs → tr (did s.packet c op es) ≡ tr (did s.packet d op fs)
did_traces tr t s z n c d (Touch var) es fs a g e = trace_used tr t (restamps_at s.packet.time c.state.chains (var_at c.vars var)) (var_at c.vars var) es ∙ e ∙ sym (trace_used tr t (restamps_at s.packet.time d.state.chains (var_at d.vars var)) (var_at d.vars var) fs)
did_traces tr t s z n c d (Free var) es fs a g e = trace_frees tr t (var_at c.vars var) es ∙ e ∙ sym (trace_frees tr t (var_at d.vars var) fs)
did_traces tr t s z n c d (Set field x) es fs a g e = plain_reads tr (skips tr t) s.packet c x.value es ∙ e ∙ sym (plain_reads tr (skips tr t) s.packet d x.value fs)
did_traces tr t s z n c d (Write var column x) es fs a g e =
    plain_reads tr (skips tr t) s.packet c x.value _ ∙ trace_used tr t (rewrites column (given s.packet c x) (entry_in c.state.chains (var_at c.vars var))) (var_at c.vars var) es ∙ e
    ∙ sym (plain_reads tr (skips tr t) s.packet d x.value _ ∙ trace_used tr t (rewrites column (given s.packet d x) (entry_in d.state.chains (var_at d.vars var))) (var_at d.vars var) fs)
did_traces tr t s z n c d (Store place array at x) es fs a g e =
    let p = s.packet in
    let i = narrowed W16 (value p c at) in
    let j = narrowed W16 (value p d at) in
    let r = goes_reads s z n c at _ g in
    let q = goes_reads s z n c x.value _ r.1 in
    let u = goes_stores s z n place array i (given p c x) (slice_get (array_at c.state.arrays array) i) es q.1 in
    let same_i : j ≡ i = ap (narrowed W16) (value_same s n c d a at r.0) in
    let same_v : given p d x ≡ given p c x = given_same s n c d a x q.0 in
    let same_cell : slice_get (array_at d.state.arrays array) j ≡ slice_get (array_at c.state.arrays array) i = ap (slice_get (array_at d.state.arrays array)) same_i ∙ cells_read s array _ _ i (a.arrays.each array) u.0 in
    plain_reads tr (skips tr t) p c at _ ∙ plain_reads tr (skips tr t) p c x.value _
    ∙ trace_stores tr t place array i (given p c x) (slice_get (array_at c.state.arrays array) i) es fs e
    ∙ sym (ap₂ (λ (v : ℕ) (o : Option ℕ). tr (stores place array i v o fs)) same_v same_cell)
    ∙ sym (ap (λ (l : ℕ). tr (stores place array l (given p d x) (slice_get (array_at d.state.arrays array) j) fs)) same_i)
    ∙ sym (plain_reads tr (skips tr t) p d at _ ∙ plain_reads tr (skips tr t) p d x.value _)

-- neither side is cut off by itself
abbrev pub fine : Scene → Completion → Bool
fine s (Normal c) = true
fine s (Ended a c) = true
fine s NoStep = false
fine s (StoppedAt chain left) = s.tight

-- what follows leaves the same trace, where it isn't cut off
abbrev pub Follow : {A : Type 0} (tr : List Event → A) → Scene → Numbers → (k l : Context → List Event) → (go go_part : Context → Completion) → Type 0
Follow tr s z k l go go_part = (n : Numbers) (c d : Context) → Agree s n c d → Goes s z n (k c) → OwnPart s (l d) → fine s (go c) ≡ true → fine s (go_part d) ≡ true → tr (k c) ≡ tr (l d)

hit_traces : {A : Type 0} (tr : List Event → A) (s : Scene) (z n : Numbers) (o q : Option Context) (hits hits_part : Context → List Event) (misses misses_part : List Event) (hit hit_part : Context → Completion) (miss miss_part : Completion) (go go_part : Context → Completion) → AnswersAlike s n o q → Goes s z n (if_hit o hits misses) → OwnPart s (if_hit q hits_part misses_part)
    → fine s (and_then (if_hit o hit miss) go) ≡ true → fine s (and_then (if_hit q hit_part miss_part) go_part) ≡ true
    → ((c d : Context) → Agree s n c d → Goes s z n (hits c) → OwnPart s (hits_part d) → fine s (and_then (hit c) go) ≡ true → fine s (and_then (hit_part d) go_part) ≡ true → tr (hits c) ≡ tr (hits_part d))
    → (Goes s z n misses → OwnPart s misses_part → fine s (and_then miss go) ≡ true → fine s (and_then miss_part go_part) ≡ true → tr misses ≡ tr misses_part) → tr (if_hit o hits misses) ≡ tr (if_hit q hits_part misses_part)
hit_traces tr s z n (Some c) (Some d) hits hits_part misses misses_part hit hit_part miss miss_part go go_part h g own x y f m = f c d h g own x y
hit_traces tr s z n (Some c) None hits hits_part misses misses_part hit hit_part miss miss_part go go_part h g own x y f m = absurd h
hit_traces tr s z n None (Some d) hits hits_part misses misses_part hit hit_part miss miss_part go go_part h g own x y f m = absurd h
hit_traces tr s z n None None hits hits_part misses misses_part hit hit_part miss miss_part go go_part h g own x y f m = m g own x y

new_traces : {A : Type 0} (tr : List Event → A) → IsTrace tr → (s : Scene) (z n : Numbers) (new : Creation) (labels : List ℕ) (c d : Context) (to from : NewResult) (mades mades_part : ℕ → List Event) (takens takens_part fulls fulls_part : List Event) (made made_part : ℕ → Completion) (taken taken_part full full_part : Completion) (go go_part : Context → Completion) → s.homes.written (object.Chain new.chain) ≡ true → NewsAlike s n new c d to from
    → NewGoes s z n new labels to from mades mades_part takens takens_part fulls fulls_part
    → fine s (and_then (if_new to made taken full NoStep (StoppedAt new.chain c.left)) go) ≡ true → fine s (and_then (if_new from made_part taken_part full_part NoStep (StoppedAt new.chain d.left)) go_part) ≡ true
    → ((i : ℕ) → Agree s (one_more new.chain i n) (with_new s.packet c new i) (with_new s.packet d new i) → Goes s z (one_more new.chain i n) (mades i) → OwnPart s (mades_part i) → fine s (and_then (made i) go) ≡ true → fine s (and_then (made_part i) go_part) ≡ true → tr (mades i) ≡ tr (mades_part i))
    → (Goes s z n takens → OwnPart s takens_part → fine s (and_then taken go) ≡ true → fine s (and_then taken_part go_part) ≡ true → tr takens ≡ tr takens_part) → (Goes s z n fulls → OwnPart s fulls_part → fine s (and_then full go) ≡ true → fine s (and_then full_part go_part) ≡ true → tr fulls ≡ tr fulls_part)
    → tr (AskedNew new.place new.chain labels to ∷ if_new to mades takens fulls [] []) ≡ tr (AskedNew new.place new.chain labels from ∷ if_new from mades_part takens_part fulls_part [] [])
new_traces tr t s z n new labels c d (Made i) (Made j) mades mades_part takens takens_part fulls fulls_part made made_part taken taken_part full full_part go go_part wr h g x y m u v =
    subst (λ (l : ℕ). tr (AskedNew new.place new.chain labels (Made i) ∷ mades i) ≡ tr (AskedNew new.place new.chain labels (Made l) ∷ mades_part l)) (sym h.0)
    (t.on_ (AskedNew new.place new.chain labels (Made i)) (mades i) (mades_part i)
    (m i (h.1 (g.life.0 wr) g.told) g.goes (subst (λ (l : ℕ). OwnPart s (mades_part l)) h.0 g.own) x (subst (λ (l : ℕ). fine s (and_then (made_part l) go_part) ≡ true) h.0 y)))
new_traces tr t s z n new labels c d (Made i) Taken mades mades_part takens takens_part fulls fulls_part made made_part taken taken_part full full_part go go_part wr h g x y m u v = absurd h
new_traces tr t s z n new labels c d (Made i) Full mades mades_part takens takens_part fulls fulls_part made made_part taken taken_part full full_part go go_part wr h g x y m u v = absurd h
new_traces tr t s z n new labels c d (Made i) Illegal mades mades_part takens takens_part fulls fulls_part made made_part taken taken_part full full_part go go_part wr h g x y m u v = absurd h
new_traces tr t s z n new labels c d (Made i) Stopped mades mades_part takens takens_part fulls fulls_part made made_part taken taken_part full full_part go go_part wr h g x y m u v = let cut : s.tight ≡ true = y in let loose : s.tight ≡ false = h.1 in cc
new_traces tr t s z n new labels c d Taken (Made j) mades mades_part takens takens_part fulls fulls_part made made_part taken taken_part full full_part go go_part wr h g x y m u v = absurd h
new_traces tr t s z n new labels c d Taken Taken mades mades_part takens takens_part fulls fulls_part made made_part taken taken_part full full_part go go_part wr h g x y m u v = t.on_ (AskedNew new.place new.chain labels Taken) takens takens_part (u g.goes g.own x y)
new_traces tr t s z n new labels c d Taken Full mades mades_part takens takens_part fulls fulls_part made made_part taken taken_part full full_part go go_part wr h g x y m u v = absurd h
new_traces tr t s z n new labels c d Taken Illegal mades mades_part takens takens_part fulls fulls_part made made_part taken taken_part full full_part go go_part wr h g x y m u v = absurd h
new_traces tr t s z n new labels c d Taken Stopped mades mades_part takens takens_part fulls fulls_part made made_part taken taken_part full full_part go go_part wr h g x y m u v = absurd h
new_traces tr t s z n new labels c d Full (Made j) mades mades_part takens takens_part fulls fulls_part made made_part taken taken_part full full_part go go_part wr h g x y m u v = absurd (no_full s n h.0 h.1 g.granted)
new_traces tr t s z n new labels c d Full Taken mades mades_part takens takens_part fulls fulls_part made made_part taken taken_part full full_part go go_part wr h g x y m u v = absurd h
new_traces tr t s z n new labels c d Full Full mades mades_part takens takens_part fulls fulls_part made made_part taken taken_part full full_part go go_part wr h g x y m u v = t.on_ (AskedNew new.place new.chain labels Full) fulls fulls_part (v g.goes g.own x y)
new_traces tr t s z n new labels c d Full Illegal mades mades_part takens takens_part fulls fulls_part made made_part taken taken_part full full_part go go_part wr h g x y m u v = let cut : false ≡ true = y in cc
new_traces tr t s z n new labels c d Full Stopped mades mades_part takens takens_part fulls fulls_part made made_part taken taken_part full full_part go go_part wr h g x y m u v = let cut : s.tight ≡ true = y in let loose : s.tight ≡ false = h in cc
new_traces tr t s z n new labels c d Illegal (Made j) mades mades_part takens takens_part fulls fulls_part made made_part taken taken_part full full_part go go_part wr h g x y m u v = let cut : false ≡ true = x in cc
new_traces tr t s z n new labels c d Illegal Taken mades mades_part takens takens_part fulls fulls_part made made_part taken taken_part full full_part go go_part wr h g x y m u v = absurd h
new_traces tr t s z n new labels c d Illegal Full mades mades_part takens takens_part fulls fulls_part made made_part taken taken_part full full_part go go_part wr h g x y m u v = absurd h
new_traces tr t s z n new labels c d Illegal Illegal mades mades_part takens takens_part fulls fulls_part made made_part taken taken_part full full_part go go_part wr h g x y m u v = let cut : false ≡ true = x in cc
new_traces tr t s z n new labels c d Illegal Stopped mades mades_part takens takens_part fulls fulls_part made made_part taken taken_part full full_part go go_part wr h g x y m u v = let cut : false ≡ true = x in cc
new_traces tr t s z n new labels c d Stopped (Made j) mades mades_part takens takens_part fulls fulls_part made made_part taken taken_part full full_part go go_part wr h g x y m u v = absurd h
new_traces tr t s z n new labels c d Stopped Taken mades mades_part takens takens_part fulls fulls_part made made_part taken taken_part full full_part go go_part wr h g x y m u v = absurd h
new_traces tr t s z n new labels c d Stopped Full mades mades_part takens takens_part fulls fulls_part made made_part taken taken_part full full_part go go_part wr h g x y m u v = absurd h
new_traces tr t s z n new labels c d Stopped Illegal mades mades_part takens takens_part fulls fulls_part made made_part taken taken_part full full_part go go_part wr h g x y m u v = absurd h
new_traces tr t s z n new labels c d Stopped Stopped mades mades_part takens takens_part fulls fulls_part made made_part taken taken_part full full_part go go_part wr h g x y m u v = refl

-- a handler's record on a part and on the whole state
pub exec_traces : {A : Type 0} (tr : List Event → A) → IsTrace tr → (s : Scene) (z : Numbers) (b : Block) (n : Numbers) (c d : Context) (k l : Context → List Event) (go go_part : Context → Completion) → IsTold s.homes.written b → Agree s n c d → Goes s z n (events s.over s.packet b c k) → OwnPart s (events s.stops s.packet b d l)
    → fine s (and_then (exec s.over s.packet b c) go) ≡ true → fine s (and_then (exec s.stops s.packet b d) go_part) ≡ true → Follow tr s z k l go go_part → tr (events s.over s.packet b c k) ≡ tr (events s.stops s.packet b d l)
exec_traces tr t s z (End FallsOff) n c d k l go go_part w a g o x y f = f n c d a g o x y
exec_traces tr t s z (End Flood) n c d k l go go_part w a g o x y f = refl
exec_traces tr t s z (End Discard) n c d k l go go_part w a g o x y f = refl
exec_traces tr t s z (End (Forward port)) n c d k l go go_part w a g o x y f = plain_reads tr (skips tr t) s.packet c port [] ∙ sym (plain_reads tr (skips tr t) s.packet d port [])
exec_traces tr t s z (Do op next) n c d k l go go_part w a g o x y f =
    let r = did_alike s z n c d op _ (λ at array i e q. w.stores at array i e (in_do op next (sym (ap Does q)))) a g in
    did_traces tr t s z n c d op (events s.over s.packet next (after s.packet c op) k) (events s.stops s.packet next (after s.packet d op) l) a g
    (exec_traces tr t s z next n (after s.packet c op) (after s.packet d op) k l go go_part (told_in s.homes.written (Do op next) next w (λ e q. behind_do op next q)) r.0 r.1 (own_did s d op _ o) x y f)
exec_traces tr t s z (Ask q hit miss next) n c d k l go go_part w a g o x y f =
    let p = s.packet in
    let more = λ (e : Context). events s.over p next e k in
    let more_part = λ (e : Context). events s.stops p next e l in
    let on = λ (e : Context). and_then (exec s.over p next e) go in
    let on_part = λ (e : Context). and_then (exec s.stops p next e) go_part in
    let r = asked_alike s z n c d q _ a g in
    let follows : Follow tr s z more more_part on on_part = λ m e e_part b h own x y. exec_traces tr t s z next m e e_part k l go go_part (told_in s.homes.written (Ask q hit miss next) next w (λ e q2. behind_ask q hit miss next q2)) b h own x y f in
    let es = if_hit (answer p c q) (λ e. events s.over p hit e more) (events s.over p miss c more) in
    let fs = if_hit (answer p d q) (λ e. events s.stops p hit e more_part) (events s.stops p miss d more_part) in
    plain_asked tr (skips tr t) p c q es ∙ t.ask_ p c q es
    ∙ hit_traces tr s z n (answer p c q) (answer p d q) (λ e. events s.over p hit e more) (λ e. events s.stops p hit e more_part) (events s.over p miss c more) (events s.stops p miss d more_part) (exec s.over p hit) (exec s.stops p hit) (exec s.over p miss c) (exec s.stops p miss d) on on_part r.0 r.1 (own_asked s d q _ o)
    (ap (fine s) (sym (then_then (if_hit (answer p c q) (exec s.over p hit) (exec s.over p miss c)) (exec s.over p next) go)) ∙ x) (ap (fine s) (sym (then_then (if_hit (answer p d q) (exec s.stops p hit) (exec s.stops p miss d)) (exec s.stops p next) go_part)) ∙ y)
    (λ e e_part b h own x y. exec_traces tr t s z hit n e e_part more more_part on on_part (told_in s.homes.written (Ask q hit miss next) hit w (λ e q2. where_hit q hit miss next q2)) b h own x y follows)
    (λ h own x y. exec_traces tr t s z miss n c d more more_part on on_part (told_in s.homes.written (Ask q hit miss next) miss w (λ e q2. where_missed q hit miss next q2)) a h own x y follows)
    ∙ sym (plain_asked tr (skips tr t) p d q fs ∙ t.ask_ p d q fs)
exec_traces tr t s z (Make new made taken full next) n c d k l go go_part w a g o x y f =
    let p = s.packet in
    let more = λ (e : Context). events s.over p next e k in
    let more_part = λ (e : Context). events s.stops p next e l in
    let on = λ (e : Context). and_then (exec s.over p next e) go in
    let on_part = λ (e : Context). and_then (exec s.stops p next e) go_part in
    let wr = w.news new (in_make new made taken full next refl) in
    let r = new_alike s z n c d new _ wr a g (own_new s d new _ o) in
    let reads = goes_all s z n c new.labels _ g in
    let labels : map (given p d) new.labels ≡ map (given p c) new.labels = givens_same s n c d a new.labels reads.0 in
    let follows : Follow tr s z more more_part on on_part = λ m e e_part b h own x y. exec_traces tr t s z next m e e_part k l go go_part (told_in s.homes.written (Make new made taken full next) next w (λ e q2. behind_make new made taken full next q2)) b h own x y f in
    let to = new_result s.over p c new in
    let from = new_result s.stops p d new in
    let mades = λ (i : ℕ). events s.over p made (with_new p c new i) more in
    let mades_part = λ (i : ℕ). events s.stops p made (with_new p d new i) more_part in
    let fs = if_new from mades_part (events s.stops p taken d more_part) (events s.stops p full d more_part) [] [] in
    plain_all tr (skips tr t) p c new.labels (AskedNew new.place new.chain (map (given p c) new.labels) to ∷ if_new to mades (events s.over p taken c more) (events s.over p full c more) [] [])
    ∙ new_traces tr t s z n new (map (given p c) new.labels) c d to from mades mades_part (events s.over p taken c more) (events s.stops p taken d more_part) (events s.over p full c more) (events s.stops p full d more_part)
    (λ i. exec s.over p made (with_new p c new i)) (λ i. exec s.stops p made (with_new p d new i)) (exec s.over p taken c) (exec s.stops p taken d) (exec s.over p full c) (exec s.stops p full d) on on_part wr r.0
    (record { life = r.1; granted = r.2; told = r.4; goes = r.3; own = own_behind s d new _ o })
    (ap (fine s) (sym (then_then (if_new to (λ i. exec s.over p made (with_new p c new i)) (exec s.over p taken c) (exec s.over p full c) NoStep (StoppedAt new.chain c.left)) (exec s.over p next) go)) ∙ x)
    (ap (fine s) (sym (then_then (if_new from (λ i. exec s.stops p made (with_new p d new i)) (exec s.stops p taken d) (exec s.stops p full d) NoStep (StoppedAt new.chain d.left)) (exec s.stops p next) go_part)) ∙ y)
    (λ i b h own x y. exec_traces tr t s z made (one_more new.chain i n) (with_new p c new i) (with_new p d new i) more more_part on on_part (told_in s.homes.written (Make new made taken full next) made w (λ e q2. where_made new made taken full next q2)) b h own x y follows)
    (λ h own x y. exec_traces tr t s z taken n c d more more_part on on_part (told_in s.homes.written (Make new made taken full next) taken w (λ e q2. where_taken new made taken full next q2)) a h own x y follows)
    (λ h own x y. exec_traces tr t s z full n c d more more_part on on_part (told_in s.homes.written (Make new made taken full next) full w (λ e q2. where_full new made taken full next q2)) a h own x y follows)
    ∙ sym (plain_all tr (skips tr t) p d new.labels (AskedNew new.place new.chain (map (given p d) new.labels) from ∷ fs) ∙ ap (λ (ls : List ℕ). tr (AskedNew new.place new.chain ls from ∷ fs)) labels)
