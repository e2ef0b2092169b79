-- What a log holds, event by event.
use Rattle.std.proofs.Common.{◌≡◌, ℕ, zero, suc, ◌+◌, ◌<◌, ◌≤◌, Bool, true, false, if◌then◌else◌, insert, Result, Ok, Err, OnErr, take-append-drop, take_all, List, [], ◌∷◌, ◌++◌, length, map, take, drop, get_or, Some, refl, sym, ap, ◌∙◌, subst, length-append}
use Rattle.std.proofs.lemmas.List.{map-append, take_more, drop_more}
use Rattle.std.proofs.lemmas.List.Sums.{fold-append}
use Rattle.nf_base.specs.declared.packet.Packet.{Packet}
use Rattle.nf_base.specs.declared.state.State.{State}
use Rattle.nf_base.specs.declared.done.Done.{Done}
use Rattle.nf_base.specs.Text.{Function}
use Rattle.nf_base.specs.Step.{step}
use Rattle.vig_tables.specs.TablesState.{TablesState}
use Rattle.nf_engine.specs.View.{Fixed, fixed_of}
use Rattle.lock_core.specs.declared.call.Way.{Way}
use Rattle.lock_core.specs.declared.call.Way.TheVariants as way
use Rattle.lock_core.specs.declared.call.Entry.{Entry}
use Rattle.lock_core.specs.declared.call.Ordered.{Ordered}
use Rattle.lock_core.specs.declared.call.Event.{Event}
use Rattle.lock_core.specs.declared.call.Placed.{Placed}
use Rattle.lock_core.specs.Calls.{by_way, entry_behind, with_packet, history, at_next, put_behind}
use Rattle.lock_core.specs.Events.{ComesTo, IsValid, Answers, with_event, Turn, Plays, AreValid, PlaysAll, PlaysFirst}
use Rattle.lock_core.specs.Logs.{LogState, with_order, GoesOn}
use Rattle.lock_core.specs.Steps.{IsIn, AreIn, place_behind}
use Rattle.lock_core.proofs.Going.{comes_more}
use Rattle.lock_core.proofs.Orders.{history_put}
use Rattle.lock_core.proofs.Places.{insert_is}
use Rattle.lock_core.proofs.Playing.{one_history}

-- turns, and one more behind them
pub plays_more : (ts : List Turn) (f : Function) (seats : ℕ) (order mid : List Ordered) (e : Event) (placed : Placed) → Plays f seats order ts mid → IsValid f seats mid e → Answers f mid e placed → Plays f seats order (ts ++ record { event = e; placed = placed } ∷ []) (with_event e placed.done mid)
plays_more [] f seats order mid e placed p valid answer = subst (λ (os : List Ordered). Plays f seats os (record { event = e; placed = placed } ∷ []) (with_event e placed.done mid)) p (valid, answer, refl)
plays_more (t ∷ ts) f seats order mid e placed p valid answer = (p.0, p.1, plays_more ts f seats (with_event t.event t.placed.done order) mid e placed p.2 valid answer)

-- turns behind others
pub plays_append : (ts us : List Turn) (f : Function) (seats : ℕ) (order mid new : List Ordered) → Plays f seats order ts mid → Plays f seats mid us new → Plays f seats order (ts ++ us) new
plays_append [] us f seats order mid new p q = subst (λ (os : List Ordered). Plays f seats os us new) p q
plays_append (t ∷ ts) us f seats order mid new p q = (p.0, p.1, plays_append ts us f seats (with_event t.event t.placed.done order) mid new p.2 q)

-- so what was played is one history with all before it
pub goes_on : (f : Function) (seats : ℕ) (old new : List Ordered) (events : List Event) (placed : List Placed) → PlaysAll f seats old events placed new → GoesOn (record { function = f; seats = seats; order = old }) events placed (record { function = f; seats = seats; order = new })
goes_on f seats old new events placed p before played =
    let event = λ (t : Turn). t.event in
    let answer = λ (t : Turn). t.placed in
    let all = plays_append before p.turns f seats [] old new played p.plays in (
      before ++ p.turns,
      (
        map-append event before p.turns ∙ ap (λ (es : List Event). map event before ++ es) p.events_are,
        map-append answer before p.turns ∙ ap (λ (ps : List Placed). map answer before ++ ps) p.placed_are,
        all,
        one_history f seats (before ++ p.turns) new all,
      ),
    )

-- ---- what is kept

history_alone : (order : List Ordered) (x : Ordered) → x.way ≡ way.Alone → history (order ++ x ∷ []) ≡ history order ++ entry_behind (history order) x ∷ []
history_alone order x e = fold-append with_packet [] order (x ∷ []) ∙ ap (λ (w : Way). by_way w (history order) (history order ++ entry_behind (history order) x ∷ [])) e

pub comes_alone : (f : Function) (order : List Ordered) (x : Ordered) (s u : State) → x.way ≡ way.Alone → ComesTo f (history order) s → step f s x.packet x.done.picks ≡ Some (record { state = u; done = x.done }) → ComesTo f (history (order ++ x ∷ [])) u
comes_alone f order x s u e comes stepped = subst (λ (es : List Entry). ComesTo f es u) (sym (history_alone order x e)) (comes_more f (history order) (entry_behind (history order) x) s u comes stepped)

pub long_alone : (order : List Ordered) (x : Ordered) (n : ℕ) → x.way ≡ way.Alone → n ≡ length (history order) → n + 1 ≡ length (history (order ++ x ∷ []))
long_alone order x n e long = ap (λ (i : ℕ). i + 1) long ∙ sym (length-append (history order) (entry_behind (history order) x ∷ [])) ∙ ap length (sym (history_alone order x e))

pub in_more : (f : Function) (xs : List Ordered) (x : Ordered) → AreIn f xs → IsIn f x.packet → AreIn f (xs ++ x ∷ [])
in_more f [] x all is = (is, tt)
in_more f (y ∷ xs) x all is = (all.0, in_more f xs x all.1 is)

in_case : (w : Way) (f : Function) (n : ℕ) (look x : Ordered) (xs : List Ordered) → IsIn f look.packet → IsIn f x.packet → AreIn f xs → ((m : ℕ) → AreIn f (put_behind m look xs))
    → AreIn f (by_way w (x ∷ put_behind n look xs) (at_next n (look ∷ x ∷ xs) (λ left. x ∷ put_behind left look xs)))
in_case way.Look f n look x xs is one all ih = (one, ih n)
in_case way.Alone f zero look x xs is one all ih = (is, (one, all))
in_case way.Alone f (suc n) look x xs is one all ih = (one, ih n)

pub in_put : (xs : List Ordered) (f : Function) (n : ℕ) (look : Ordered) → AreIn f xs → IsIn f look.packet → AreIn f (put_behind n look xs)
in_put [] f n look all is = (is, tt)
in_put (x ∷ xs) f n look all is = in_case x.way f n look x xs is all.0 all.1 (λ m. in_put xs f m look all.1 is)

-- what a log keeps, at this order and these tables
pub record IsKept (f : Function) (order : List Ordered) (entries : ℕ) (t : TablesState) : Type 0 where
  pub decls : t.decls ≡ f.chains
  pub whole : t.share.of ≡ 1
  pub comes : ComesTo f (history order) t.state
  pub long : entries ≡ length (history order)
  pub packets : AreIn f order

-- it is kept where a packet was handled alone
pub alone_kept : (f : Function) (order : List Ordered) (x : Ordered) (n : ℕ) (t u : TablesState) (done : Done) (new room : List Ordered) → t.decls ≡ f.chains → t.share.of ≡ 1 → ComesTo f (history order) t.state → n ≡ length (history order) → AreIn f order → IsIn f x.packet
    → step f t.state x.packet done.picks ≡ Some (record { state = u.state; done = done }) → fixed_of u ≡ fixed_of t → x.done ≡ done → x.way ≡ way.Alone → new ≡ room ++ x ∷ [] → room ≡ order → IsKept f new (n + 1) u
alone_kept f order x n t u done new room decls whole comes long packets is_in stepped same is way_is put reserved =
    let now : new ≡ order ++ x ∷ [] = put ∙ ap (λ (xs : List Ordered). xs ++ x ∷ []) reserved in
    let its : step f t.state x.packet x.done.picks ≡ Some (record { state = u.state; done = x.done }) = subst (λ (d : Done). step f t.state x.packet d.picks ≡ Some (record { state = u.state; done = d })) (sym is) stepped in
    record {
      decls = ap (λ (z : Fixed). z.decls) same ∙ decls;
      whole = ap (λ (z : Fixed). z.share.of) same ∙ whole;
      comes = subst (λ (xs : List Ordered). ComesTo f (history xs) u.state) (sym now) (comes_alone f order x t.state u.state way_is comes its);
      long = long_alone order x n way_is long ∙ ap (λ (xs : List Ordered). length (history xs)) (sym now);
      packets = subst (AreIn f) (sym now) (in_more f order x packets is_in);
    }

-- and where one looked
pub look_kept : (f : Function) (order : List Ordered) (look : Ordered) (n prefix : ℕ) (t : TablesState) (new : List Ordered) → ComesTo f (history order) t.state → n ≡ length (history order) → AreIn f order → IsIn f look.packet → look.way ≡ way.Look → new ≡ put_behind prefix look order
    → ComesTo f (history new) t.state × (n ≡ length (history new)) × AreIn f new
look_kept f order look n prefix t new comes long packets is_in way_is now =
    let same : history new ≡ history order = ap history now ∙ history_put order prefix look [] way_is in (
      subst (λ (es : List Entry). ComesTo f es t.state) (sym same) comes,
      long ∙ ap length (sym same),
      subst (AreIn f) (sym now) (in_put order f prefix look packets is_in),
    )

-- a look that was put in, or for which there was no room
pub look_kept_if : (b : Bool) (f : Function) (order : List Ordered) (look : Ordered) (n prefix place : ℕ) (t : TablesState) (new : List Ordered) → ComesTo f (history order) t.state → n ≡ length (history order) → AreIn f order → IsIn f look.packet → look.way ≡ way.Look
    → place ≡ place_behind prefix order → new ≡ (if b then insert order place look else order) → ComesTo f (history new) t.state × (n ≡ length (history new)) × AreIn f new
look_kept_if true f order look n prefix place t new comes long packets is_in way_is at now =
    look_kept f order look n prefix t new comes long packets is_in way_is (now ∙ ap (λ (k : ℕ). insert order k look) at ∙ insert_is order prefix look)
look_kept_if false f order look n prefix place t new comes long packets is_in way_is at now = (
  subst (λ (xs : List Ordered). ComesTo f (history xs) t.state) (sym now) comes,
  long ∙ ap (λ (xs : List Ordered). length (history xs)) (sym now),
  subst (AreIn f) (sym now) packets,
)

-- the order with a look put in, whose answer was copied
pub put_in : (order now new : List Ordered) (seat prefix place : ℕ) (packet : Packet) (done again : Done) → now ≡ order → place ≡ place_behind prefix now → again ≡ done → new ≡ insert order place (record { seat = seat; way = way.Look; packet = packet; done = again })
    → new ≡ put_behind prefix (record { seat = seat; way = way.Look; packet = packet; done = done }) order
put_in order now new seat prefix place packet done again same at copied is =
    is
    ∙ ap (λ (k : ℕ). insert order k (record { seat = seat; way = way.Look; packet = packet; done = again })) (at ∙ ap (place_behind prefix) same)
    ∙ insert_is order prefix (record { seat = seat; way = way.Look; packet = packet; done = again })
    ∙ ap (λ (d : Done). put_behind prefix (record { seat = seat; way = way.Look; packet = packet; done = d }) order) copied

-- ---- events, one after another

-- so many events were played, with these answers
abbrev pub ArePlayed : LogState → LogState → List Event → ℕ → List Placed → Type 0
ArePlayed old now events i all =
    (turns : List Turn)
    × ((now ≡ with_order now.order old)
    × (map (λ (t : Turn). t.event) turns ≡ take i events)
    × (map (λ (t : Turn). t.placed) turns ≡ all)
    × Plays old.function old.seats old.order turns now.order
    × AreValid old.function old.seats now.order (drop i events))

pub played_on : (old now new : LogState) (events : List Event) (i : ℕ) (e : Event) (placed : Placed) (all reserved put : List Placed) → i < length events → e ≡ get_or events i e → ArePlayed old now events i all → Answers now.function now.order e placed
    → new ≡ with_order (with_event e placed.done now.order) now → reserved ≡ all → put ≡ reserved ++ placed ∷ [] → ArePlayed old new events (i + 1) put
played_on old now new events i e placed all reserved put lt is p answer goes room last =
    let event = λ (t : Turn). t.event in
    let answers = λ (t : Turn). t.placed in
    let f = old.function in
    let t : Turn = record { event = e; placed = placed } in
    let before : take (i + 1) events ≡ take i events ++ e ∷ [] = take_more events i e lt ∙ ap (λ (y : Event). take i events ++ y ∷ []) (sym is) in
    let left : drop i events ≡ e ∷ drop (i + 1) events = drop_more events i e lt ∙ ap (λ (y : Event). y ∷ drop (i + 1) events) (sym is) in
    let valid : AreValid f old.seats now.order (e ∷ drop (i + 1) events) = subst (AreValid f old.seats now.order) left p.1.4 in
    let same : now.function ≡ f = ap (λ (l : LogState). l.function) p.1.0 in
    let answer_f : Answers f now.order e placed = subst (λ (g : Function). Answers g now.order e placed) same answer in
    let orders : with_event e placed.done now.order ≡ new.order = ap (λ (l : LogState). l.order) (sym goes) in (
      p.0 ++ t ∷ [],
      (
        goes ∙ ap (λ (l : LogState). with_order (with_event e placed.done now.order) l) p.1.0 ∙ ap (λ (os : List Ordered). with_order os old) orders,
        map-append event p.0 (t ∷ []) ∙ ap (λ (es : List Event). es ++ e ∷ []) p.1.1 ∙ sym before,
        map-append answers p.0 (t ∷ []) ∙ ap (λ (ps : List Placed). ps ++ placed ∷ []) (p.1.2 ∙ sym room) ∙ sym last,
        subst (Plays f old.seats old.order (p.0 ++ t ∷ [])) orders (plays_more p.0 f old.seats old.order now.order e placed p.1.3 valid.0 answer_f),
        subst (λ (os : List Ordered). AreValid f old.seats os (drop (i + 1) events)) orders (valid.1 placed answer_f),
      ),
    )

-- an event that is refused ends them
pub refused_at : (old now new : LogState) (events : List Event) (i : ℕ) (e : Event) (all : List Placed) → i < length events → e ≡ get_or events i e → ArePlayed old now events i all → new ≡ now → PlaysFirst old.function old.seats old.order events new.order
refused_at old now new events i e all lt is p same =
    let left : drop i events ≡ e ∷ drop (i + 1) events = drop_more events i e lt ∙ ap (λ (y : Event). y ∷ drop (i + 1) events) (sym is) in
    record {
      turns = p.0;
      refused = e;
      rest = drop (i + 1) events;
      events_are = ap (λ (es : List Event). es ++ e ∷ drop (i + 1) events) p.1.1 ∙ ap (λ (es : List Event). take i events ++ es) (sym left) ∙ take-append-drop i events;
      plays = subst (Plays old.function old.seats old.order p.0) (ap (λ (l : LogState). l.order) (sym same)) p.1.3;
    }

-- behind the last event all were played
pub all_played : (old now : LogState) (events : List Event) (i : ℕ) (all : List Placed) → length events ≤ i → ArePlayed old now events i all → GoesOn old events all now
all_played old now events i all end p =
    let whole : take i events ≡ events = take_all i events end in
    subst (GoesOn old events all) (sym p.1.0)
    (goes_on old.function old.seats old.order now.order events all (record { turns = p.0; events_are = p.1.1 ∙ whole; placed_are = p.1.2; plays = p.1.3 }))

pub on_err : {A E : Type 0} (r : Result A E) (P : Type 0) → P → OnErr r P
on_err (Ok x) P p = tt
on_err (Err e) P p = p
