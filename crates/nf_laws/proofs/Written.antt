-- What a text writes, and what a packet writes of it.
use Rattle.std.proofs.Common.{◌≡◌, ℕ, Bool, true, false, ◌||◌, List, [], ◌∷◌, Contains, Option, Some, None, slice_get, refl, ap, ◌∙◌, subst, ◌⊎◌, inl, inr, eq-eqb, eqb-true}
use Rattle.std.specs.List.{list_any}
use Rattle.std.proofs.lemmas.Option.{same_Some}
use Rattle.nf_base.specs.declared.packet.Door.{Door}
use Rattle.nf_base.specs.Doors.{blocks, handler_at}
use Rattle.nf_base.specs.Families.{door_of}
use Rattle.nf_base.specs.declared.decl.ObjectId.{ObjectId}
use Rattle.nf_base.specs.declared.decl.ObjectId.TheVariants as object
use Rattle.nf_base.specs.declared.packet.Packet.{Packet}
use Rattle.nf_base.specs.declared.packet.Fields.{Fields}
use Rattle.nf_base.specs.declared.state.State.{State}
use Rattle.nf_base.specs.Text.{Expression, Forward, Question, Operation, Touch, Free, Set, Write, Store, Block, Function}
use Rattle.nf_base.specs.Statements.{Statement, Ends, Does, Asks, Makes, statements}
use Rattle.nf_base.specs.Objects.{is_store_in, writes, is_written}
use Rattle.nf_base.specs.Context.{Context, Input}
use Rattle.nf_base.specs.Operations.{Stops, never}
use Rattle.nf_base.specs.Events.{Event, Tested, LookedUp, Found, AskedNew, EntryUsed, EntryFreed, CellRead, CellWritten}
use Rattle.nf_base.specs.Step.{input, start_context, records, record_of}
use Rattle.nf_laws.specs.Telling.{Reads, by_index, by_label, by_column, by_cell, in_index, in_left, in_right, DoesThen, touches, frees_it, set_reads, write_reads, writes_it, store_index, store_reads, stores_it, AsksThen, key_reads, looks_up, index_reads, guard_reads, finds, left_reads, right_reads, tests, Tells, ends, does, asks, label_reads, makes, ToldBy}
use Rattle.nf_laws.specs.Objects.{Writes, by_new, by_store, Writer, WrittenIsByTheText, PacketsWriteWhatIsWritten}
use Rattle.nf_laws.proofs.Listed.{here, there, has, has_none}
use Rattle.nf_laws.proofs.Doors.{at_door}
use Rattle.nf_laws.proofs.Within.{stands_in, in_stands}
use Rattle.nf_laws.proofs.Numbered.{only_news}
use Rattle.nf_laws.proofs.Coming.{nothing_else, courses_of_text}

or_left : (a b : Bool) → a ≡ true → (a || b) ≡ true
or_left true b e = refl
or_left false b e = cc

or_right : (a b : Bool) → b ≡ true → (a || b) ≡ true
or_right true b e = refl
or_right false b e = e

or_cases : (a b : Bool) → (a || b) ≡ true → (a ≡ true) ⊎ (b ≡ true)
or_cases true b e = inl refl
or_cases false b e = inr e

pub any_of : {A : Type 0} (test : A → Bool) (xs : List A) (x : A) → Contains xs x → test x ≡ true → list_any test xs ≡ true
any_of test [] x h t = absurd (has_none x h)
any_of test (y ∷ xs) x h t = elim (has y xs x h) [
  | inl e ↦ or_left (test y) (list_any test xs) (ap test e ∙ t)
  | inr i ↦ or_right (test y) (list_any test xs) (any_of test xs x i t)
]

pub some_of : {A : Type 0} (test : A → Bool) (xs : List A) → list_any test xs ≡ true → (x : A) × Contains xs x × (test x ≡ true)
some_of test [] e = cc
some_of test (y ∷ xs) e = elim (or_cases (test y) (list_any test xs) e) [
  | inl t ↦ (y, here y xs, t)
  | inr i ↦ let w = some_of test xs i in (w.0, there y xs w.0 w.1, w.2)
]

store_writes : (array : ℕ) (op : Operation) → is_store_in array op ≡ true → Writes (object.Array array) (Does op)
store_writes array (Touch var) e = cc
store_writes array (Free var) e = cc
store_writes array (Set field g) e = cc
store_writes array (Write var column g) e = cc
store_writes array (Store place a at g) e = subst (λ (k : ℕ). Writes (object.Array k) (Does (Store place a at g))) (eqb-true a array e) (by_store place a at g)

test_writes : (o : ObjectId) (s : Statement) → writes o s ≡ true → Writes o s
test_writes (object.Chain chain) (Ends e) q = cc
test_writes (object.Chain chain) (Does op) q = cc
test_writes (object.Chain chain) (Asks a) q = cc
test_writes (object.Chain chain) (Makes n) q = subst (λ (k : ℕ). Writes (object.Chain k) (Makes n)) (eqb-true n.chain chain q) (by_new n)
test_writes (object.Array array) (Ends e) q = cc
test_writes (object.Array array) (Does op) q = store_writes array op q
test_writes (object.Array array) (Asks a) q = cc
test_writes (object.Array array) (Makes n) q = cc

writes_test : (o : ObjectId) (s : Statement) → Writes o s → writes o s ≡ true
writes_test o s (by_new n) = eq-eqb n.chain n.chain refl
writes_test o s (by_store place array at g) = eq-eqb array array refl

written_by : (f : Function) (block : Block) (s : Statement) (o : ObjectId) → Contains (blocks f) block → Contains (statements block) s → Writes o s → is_written f o ≡ true
written_by f block s o h i w = any_of (λ b. list_any (writes o) (statements b)) (blocks f) block h (any_of (writes o) (statements block) s i (writes_test o s w))

writer : (f : Function) (o : ObjectId) → is_written f o ≡ true → Writer f o
writer f o e =
    let b = some_of (λ block. list_any (writes o) (statements block)) (blocks f) e in
    let s = some_of (writes o) (statements b.0) b.2 in
    record { block = b.0; statement = s.0; handler = b.1; stands = in_stands s.0 b.0 s.1; writes = test_writes o s.0 s.2 }

pub written_is : WrittenIsByTheText
written_is f o = (writer f o, λ w. written_by f w.block w.statement o w.handler (stands_in w.statement w.block w.stands) w.writes)

-- the object of an event that gives it an entry, or a cell of it a value
abbrev given_object : Event → Option ObjectId
given_object (AskedNew place chain labels result) = Some (object.Chain chain)
given_object (CellWritten place array i changed) = Some (object.Array array)
given_object (Tested place holds) = None
given_object (LookedUp place chain m key hit) = None
given_object (Found place chain hit) = None
given_object (EntryUsed chain i changed) = None
given_object (EntryFreed chain i) = None
given_object (CellRead place array i) = None

read_gives : (p : Input) (c : Context) (x : Expression) (e : Event) → Reads p c x e → given_object e ≡ None
read_gives p c x e (by_index var at q) = refl
read_gives p c x e (by_label var label at q) = refl
read_gives p c x e (by_column var column at q) = refl
read_gives p c x e (by_cell place array i v q) = refl
read_gives p c x e (in_index place array i d r) = read_gives p c i d r
read_gives p c x e (in_left operator a b d r) = read_gives p c a d r
read_gives p c x e (in_right operator a b d r) = read_gives p c b d r

not_read : (p : Input) (c : Context) (x : Expression) (e : Event) (o : ObjectId) (A : Type 0) → Reads p c x e → given_object e ≡ Some o → A
not_read p c x e o A r q = let none = read_gives p c x e r in cc

does_gives : (p : Input) (c : Context) (op : Operation) (e : Event) (o : ObjectId) → DoesThen p c op e → given_object e ≡ Some o → Writes o (Does op)
does_gives p c op e o (touches var at q) g = cc
does_gives p c op e o (frees_it var at q) g = cc
does_gives p c op e o (set_reads field v d r) g = not_read p c v.value d o (Writes o (Does (Set field v))) r g
does_gives p c op e o (write_reads var column v d r) g = not_read p c v.value d o (Writes o (Does (Write var column v))) r g
does_gives p c op e o (writes_it var column v at q) g = cc
does_gives p c op e o (store_index place array i v d r) g = not_read p c i d o (Writes o (Does (Store place array i v))) r g
does_gives p c op e o (store_reads place array i v d r) g = not_read p c v.value d o (Writes o (Does (Store place array i v))) r g
does_gives p c op e o (stores_it place array i v before q) g = subst (λ (x : ObjectId). Writes x (Does (Store place array i v))) (same_Some _ _ g) (by_store place array i v)

asks_gives : (p : Input) (c : Context) (a : Question) (e : Event) → AsksThen p c a e → given_object e ≡ None
asks_gives p c a e (key_reads place chain m key var g d h r) = read_gives p c g.value d r
asks_gives p c a e (looks_up place chain m key var) = refl
asks_gives p c a e (index_reads place chain i guards var d r) = read_gives p c i d r
asks_gives p c a e (guard_reads place chain i guards var g d h r) = read_gives p c g.given.value d r
asks_gives p c a e (finds place chain i guards var) = refl
asks_gives p c a e (left_reads place comparison x y d r) = read_gives p c x d r
asks_gives p c a e (right_reads place comparison x y d r) = read_gives p c y d r
asks_gives p c a e (tests place comparison x y) = refl

not_asked : (p : Input) (c : Context) (a : Question) (e : Event) (o : ObjectId) (A : Type 0) → AsksThen p c a e → given_object e ≡ Some o → A
not_asked p c a e o A r q = let none = asks_gives p c a e r in cc

tells_gives : (stops : Stops) (p : Input) (c : Context) (s : Statement) (e : Event) (o : ObjectId) → Tells stops p c s e → given_object e ≡ Some o → Writes o s
tells_gives stops p c s e o (ends port d r) g = not_read p c port d o (Writes o (Ends (Forward port))) r g
tells_gives stops p c s e o (does op d t) g = does_gives p c op d o t g
tells_gives stops p c s e o (asks a d t) g = not_asked p c a d o (Writes o (Asks a)) t g
tells_gives stops p c s e o (label_reads n v d h r) g = not_read p c v.value d o (Writes o (Makes n)) r g
tells_gives stops p c s e o (makes n) g = subst (λ (x : ObjectId). Writes x (Makes n)) (same_Some _ _ g) (by_new n)

-- what a packet gives something is written by the text
in_block : (f : Function) (p : Input) (block : Block) (c : Context) (e : Event) (o : ObjectId) → Contains (blocks f) block → ToldBy never p block c e → given_object e ≡ Some o → is_written f o ≡ true
in_block f p block c e o h t g = written_by f block t.statement o h (courses_of_text never p block c t.statement t.context t.comes) (tells_gives never p t.context t.statement e o t.tells g)

at_handler : (f : Function) (s : State) (time : ℕ) (fields : Fields) (choices : List ℕ) (door : Door) (handler : Option Block) (e : Event) (o : ObjectId) → handler_at f door ≡ handler →
    Contains (records never f s time fields choices handler) e → given_object e ≡ Some o → is_written f o ≡ true
at_handler f s time fields choices door None e o at h g = absurd (has_none e h)
at_handler f s time fields choices door (Some block) e o at h g = in_block f (input f time fields) block (start_context f s time choices) e o (at_door f door block at) (nothing_else never (input f time fields) block _ e h) g

of_fields : (f : Function) (s : State) (packet : Packet) (choices : List ℕ) (fields : Option Fields) (e : Event) (o : ObjectId) → Contains (record_of never f s packet choices fields) e → given_object e ≡ Some o → is_written f o ≡ true
of_fields f s packet choices None e o h g = absurd (has_none e h)
of_fields f s packet choices (Some fields) e o h g = at_handler f s packet.time fields choices (door_of packet.id.port fields) (handler_at f (door_of packet.id.port fields)) e o refl h g

pub packets_write : PacketsWriteWhatIsWritten
packets_write f s packet choices = record {
  chains = λ e made h q. of_fields f s packet choices packet.fields e (object.Chain made.chain) h (ap given_object (only_news e made q).event);
  arrays = λ place array i changed h. of_fields f s packet choices packet.fields _ (object.Array array) h refl;
}
