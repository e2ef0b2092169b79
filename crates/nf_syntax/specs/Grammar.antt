-- The grammar: what each tree is spelled like, and which trees are well formed.
use Rattle.std.specs.Prelude.{ℕ, ◌-◌, Option, Some, None, List, [], ◌∷◌, ◌++◌}
use Rattle.nf_base.specs.declared.expr.Comparison.{Comparison}
use Rattle.nf_base.specs.declared.expr.Comparison.TheVariants as comparisons
use Rattle.nf_base.specs.declared.packet.Family.{Family}
use Rattle.nf_base.specs.declared.packet.Family.TheVariants as families
use Rattle.nf_tokens.specs.declared.token.Sign.{Sign}
use Rattle.nf_tokens.specs.declared.token.Sign.TheVariants as signs
use Rattle.nf_tree.specs.declared.place.Name.{Name}
use Rattle.nf_tree.specs.declared.place.Literal.{Literal}
use Rattle.nf_tree.specs.declared.tree.Label.{Label}
use Rattle.nf_tree.specs.declared.tree.MapTree.{MapTree}
use Rattle.nf_tree.specs.declared.tree.ColumnKind.{ColumnKind}
use Rattle.nf_tree.specs.declared.tree.ColumnKind.TheVariants as columns
use Rattle.nf_tree.specs.declared.tree.ColumnTree.{ColumnTree}
use Rattle.nf_tree.specs.declared.tree.Part.{Part}
use Rattle.nf_tree.specs.declared.tree.Part.TheVariants as part_of
use Rattle.nf_tree.specs.declared.tree.ChainTree.{ChainTree}
use Rattle.nf_tree.specs.declared.tree.ArrayTree.{ArrayTree}
use Rattle.nf_tree.specs.declared.tree.Declaration.{Declaration}
use Rattle.nf_tree.specs.declared.tree.Declaration.TheVariants as declared
use Rattle.nf_tree.specs.Tree.{Expression, Given, Guards, Unguarded, Where, Ending, FallsOff, Missing, Flood, Discard, Forward, Operation, Touch, Free, Set, Write, Store, Question, Get, Find, Test, Creation, Block, End, Do, Ask, Make, Handler, Tree}
use Rattle.nf_syntax.specs.Items.{Marked, sign, word, join, name, number, field, opening}
use Rattle.nf_syntax.specs.Expressions.{IsValue, value}

-- whether a block has to be written
pub data Presence : Type 0 where
  Required : Presence
  Optional : Presence

abbrev pub IsNotEmpty : {A : Type 0} → List A → Type 0
IsNotEmpty [] = ⊥
IsNotEmpty (x ∷ xs) = Unit {0}

abbrev pub AreValues : List Expression → Type 0
AreValues [] = Unit {0}
AreValues (v ∷ vs) = IsValue v × AreValues vs

abbrev pub AreGiven : List Given → Type 0
AreGiven [] = Unit {0}
AreGiven (g ∷ gs) = IsValue g.value × AreGiven gs

abbrev pub AreGuards : Guards → Type 0
AreGuards Unguarded = Unit {0}
AreGuards (Where gs close) = IsNotEmpty gs × AreGiven gs

-- only a block that may be left out is not written
abbrev pub IsEnding : Presence → Ending → Type 0
IsEnding presence FallsOff = Unit {0}
IsEnding Required Missing = ⊥
IsEnding Optional Missing = Unit {0}
IsEnding presence (Forward v) = IsValue v
IsEnding presence Flood = Unit {0}
IsEnding presence Discard = Unit {0}

abbrev pub IsOperation : Operation → Type 0
IsOperation (Touch x) = Unit {0}
IsOperation (Free at x) = Unit {0}
IsOperation (Set f at v) = IsValue v
IsOperation (Write x c v) = IsValue v
IsOperation (Store x i v) = IsValue i × IsValue v

-- a key is not empty
abbrev pub IsQuestion : Question → Type 0
IsQuestion (Get at x c m key close) = IsNotEmpty key × AreValues key
IsQuestion (Find at x c i gs) = IsValue i × AreGuards gs
IsQuestion (Test l comparison r) = IsValue l × IsValue r

abbrev pub IsCreation : Creation → Type 0
IsCreation n = AreGiven n.given

-- the blocks for a miss, a taken key and a full chain may be left out
abbrev pub IsBlock : Presence → Block → Type 0
IsBlock presence (End e) = IsEnding presence e
IsBlock presence (Do o next) = IsOperation o × IsBlock Required next
IsBlock presence (Ask q hit miss next) =
    IsQuestion q × IsBlock Required hit × IsBlock Optional miss × IsBlock Required next
IsBlock presence (Make n made taken full next) =
    IsCreation n × IsBlock Required made × IsBlock Optional taken × IsBlock Optional full
    × IsBlock Required next

-- a map has a label
abbrev pub IsPart : Part → Type 0
IsPart (part_of.Map m) = IsNotEmpty m.labels
IsPart (part_of.Column c) = Unit {0}

abbrev pub AreParts : List Part → Type 0
AreParts [] = Unit {0}
AreParts (p ∷ ps) = IsPart p × AreParts ps

abbrev pub IsDeclaration : Declaration → Type 0
IsDeclaration (declared.Chain c) = AreParts c.parts
IsDeclaration (declared.Array a) = Unit {0}

abbrev pub AreDeclarations : List Declaration → Type 0
AreDeclarations [] = Unit {0}
AreDeclarations (d ∷ ds) = IsDeclaration d × AreDeclarations ds

abbrev pub AreHandlers : List Handler → Type 0
AreHandlers [] = Unit {0}
AreHandlers (h ∷ hs) = IsBlock Required h.block × AreHandlers hs

abbrev pub IsText : Tree → Type 0
IsText t = AreDeclarations t.declarations × AreHandlers t.handlers

-- what follows the first of several, each behind a comma
abbrev pub values_more : List Expression → List Marked
values_more [] = []
values_more (v ∷ vs) = join signs.Comma ∷ (value v ++ values_more vs)

abbrev pub values : List Expression → List Marked
values [] = []
values (v ∷ vs) = value v ++ values_more vs

abbrev pub one_given : Given → List Marked
one_given g = name g.name ∷ sign signs.Assign ∷ value g.value

abbrev pub given_more : List Given → List Marked
given_more [] = []
given_more (g ∷ gs) = join signs.Comma ∷ (one_given g ++ given_more gs)

abbrev pub given : List Given → List Marked
given [] = []
given (g ∷ gs) = one_given g ++ given_more gs

abbrev pub labels_more : List Label → List Marked
labels_more [] = []
labels_more (l ∷ ls) = join signs.Comma ∷ name l.name ∷ sign signs.Colon ∷ number l.width ∷ labels_more ls

abbrev pub labels : List Label → List Marked
labels [] = []
labels (l ∷ ls) = name l.name ∷ sign signs.Colon ∷ number l.width ∷ labels_more ls

abbrev pub numbers_more : List Literal → List Marked
numbers_more [] = []
numbers_more (n ∷ ns) = join signs.Comma ∷ number n ∷ numbers_more ns

-- a `{` and what stands behind it up to its `}`, where so many more blocks may be open
abbrev pub braced : ℕ → List Marked → List Marked
braced room inside = opening signs.OpenBrace room ∷ inside

-- a block behind its word, or nothing
abbrev pub optional : Sign → ℕ → Block → List Marked → List Marked
optional s room (End Missing) inside = []
optional s room written inside = join s ∷ braced room inside

abbrev pub get_head : Name → Name → Name → List Marked
get_head x c m = name x ∷ sign signs.Assign ∷ name c ∷ sign signs.Dot ∷ name m ∷ sign signs.OpenParenthesis ∷ []

abbrev pub entry_head : Sign → Name → Name → List Marked
entry_head s x c = name x ∷ sign signs.Assign ∷ name c ∷ sign s ∷ []

abbrev pub guards : Guards → List Marked
guards Unguarded = []
guards (Where gs close) = join signs.Where ∷ sign signs.OpenParenthesis ∷ (given gs ++ word signs.CloseParenthesis close ∷ [])

abbrev pub comparing : Comparison → Sign
comparing comparisons.Equal = signs.Equal
comparing comparisons.NotEqual = signs.NotEqual
comparing comparisons.Less = signs.Less
comparing comparisons.LessOrEqual = signs.LessOrEqual
comparing comparisons.Greater = signs.Greater
comparing comparisons.GreaterOrEqual = signs.GreaterOrEqual

-- which comparison a sign is
abbrev pub comparison_of : Sign → Option Comparison
comparison_of signs.Equal = Some comparisons.Equal
comparison_of signs.NotEqual = Some comparisons.NotEqual
comparison_of signs.Less = Some comparisons.Less
comparison_of signs.LessOrEqual = Some comparisons.LessOrEqual
comparison_of signs.Greater = Some comparisons.Greater
comparison_of signs.GreaterOrEqual = Some comparisons.GreaterOrEqual
comparison_of s = None

-- the tokens of an operation
abbrev pub operation : Operation → List Marked
operation (Touch x) = sign signs.Touch ∷ name x ∷ sign signs.Semicolon ∷ []
operation (Free at x) = word signs.Free at ∷ name x ∷ sign signs.Semicolon ∷ []
operation (Set f at v) = sign signs.Set ∷ field f at ∷ sign signs.Assign
    ∷ (value v ++ sign signs.Semicolon ∷ [])
operation (Write x c v) = name x ∷ sign signs.Dot ∷ name c ∷ sign signs.Assign
    ∷ (value v ++ sign signs.Semicolon ∷ [])
operation (Store x i v) = name x ∷ sign signs.OpenBracket ∷ (value i
    ++ sign signs.CloseBracket ∷ sign signs.Assign ∷ (value v ++ sign signs.Semicolon ∷ []))

-- the tokens of a question, up to its blocks
abbrev pub question : Question → List Marked
question (Get at x c m key close) = word signs.Get at ∷ get_head x c m
    ++ (values key ++ word signs.CloseParenthesis close ∷ [])
question (Find at x c i gs) = word signs.Find at ∷ entry_head signs.OpenBracket x c
    ++ (value i ++ sign signs.CloseBracket ∷ guards gs)
question (Test l comparison r) = sign signs.If ∷ (value l ++ sign (comparing comparison) ∷ value r)

-- the tokens of a `new`, up to its blocks
abbrev pub creation : Creation → List Marked
creation n = word signs.New n.place ∷ entry_head signs.OpenParenthesis n.variable n.chain
    ++ (given n.given ++ word signs.CloseParenthesis n.close ∷ [])

-- the tokens of an end, with the `}` of its block
abbrev pub ending : Ending → List Marked
ending FallsOff = sign signs.CloseBrace ∷ []
ending Missing = []
ending (Forward v) = sign signs.Forward
    ∷ (value v ++ sign signs.Semicolon ∷ sign signs.CloseBrace ∷ [])
ending Flood = sign signs.Flood ∷ sign signs.Semicolon ∷ sign signs.CloseBrace ∷ []
ending Discard = sign signs.Discard ∷ sign signs.Semicolon ∷ sign signs.CloseBrace ∷ []

-- the tokens of a block behind its `{`, where so many more blocks may be open in it
abbrev pub body : ℕ → Block → List Marked
body room (End e) = ending e
body room (Do o next) = operation o ++ body room next
body room (Ask q hit miss next) = question q ++ (braced room (body (room - 1) hit)
    ++ (optional signs.Else room miss (body (room - 1) miss) ++ body room next))
body room (Make n made taken full next) = creation n ++ (braced room (body (room - 1) made)
    ++ (optional signs.Taken room taken (body (room - 1) taken)
    ++ (optional signs.Full room full (body (room - 1) full) ++ body room next)))

abbrev pub map : MapTree → List Marked
map m = word signs.Map m.place ∷ name m.name ∷ sign signs.OpenParenthesis ∷ (labels m.labels
    ++ word signs.CloseParenthesis m.close ∷ sign signs.Semicolon ∷ [])

abbrev pub column_word : ColumnKind → Sign
column_word columns.Fixed = signs.Fixed
column_word columns.Free = signs.Free

abbrev pub column : ColumnTree → List Marked
column c = word (column_word c.kind) c.place ∷ name c.name ∷ sign signs.Colon ∷ number c.width ∷ sign signs.Semicolon ∷ []

abbrev pub part : Part → List Marked
part (part_of.Map m) = map m
part (part_of.Column c) = column c

abbrev pub parts : List Part → List Marked
parts [] = []
parts (p ∷ ps) = part p ++ parts ps

abbrev pub chain : ChainTree → List Marked
chain c = word signs.Chain c.place ∷ name c.name ∷ number c.size ∷ sign signs.Lifetime ∷ number c.lifetime ∷ sign signs.OpenBrace
    ∷ (parts c.parts ++ sign signs.CloseBrace ∷ [])

abbrev pub contents : List Literal → List Marked
contents [] = []
contents (n ∷ ns) = sign signs.Assign ∷ sign signs.OpenBrace ∷ number n ∷ (numbers_more ns ++ sign signs.CloseBrace ∷ [])

abbrev pub array : ArrayTree → List Marked
array a = word signs.Array a.place ∷ name a.name ∷ number a.size ∷ sign signs.Colon ∷ number a.width ∷ (contents a.contents ++ sign signs.Semicolon ∷ [])

abbrev pub declaration : Declaration → List Marked
declaration (declared.Chain c) = chain c
declaration (declared.Array a) = array a

abbrev pub declarations : List Declaration → List Marked
declarations [] = []
declarations (d ∷ ds) = declaration d ++ declarations ds

-- a handler is for IPv4, unless it is said that it is for IPv6
abbrev pub family : Family → List Marked
family families.Four = []
family families.Six = join signs.Six ∷ []

-- at most 64 blocks are open
abbrev pub handlers : List Handler → List Marked
handlers [] = []
handlers (h ∷ hs) = word signs.On h.place ∷ number h.port
    ∷ (family h.family ++ braced 64 (body 63 h.block)) ++ handlers hs

abbrev pub text_head : Name → Literal → List Marked
text_head x ports = sign signs.Nf ∷ name x ∷ sign signs.OpenBrace ∷ sign signs.Ports ∷ number ports ∷ sign signs.Semicolon ∷ []

-- the tokens of a whole text
abbrev pub spelling : Tree → List Marked
spelling t = text_head t.name t.ports ++ (declarations t.declarations ++ (handlers t.handlers ++ sign signs.CloseBrace ∷ []))
