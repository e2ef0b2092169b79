-- What may still come, read token by token.
use Rattle.std.specs.Prelude.{ℕ, suc, ◌-◌, ◌==◌, nat_eq, nat_le, Bool, true, false, Option, Some, None, List, [], ◌∷◌, ◌++◌}
use Rattle.nf_base.specs.declared.expr.Comparison.{Comparison}
use Rattle.nf_base.specs.declared.packet.Family.{Family}
use Rattle.nf_base.specs.declared.packet.Family.TheVariants as families
use Rattle.nf_tokens.specs.Signs.{number_of}
use Rattle.nf_tokens.specs.Tokens.{start}
use Rattle.nf_tokens.specs.declared.token.Sign.{Sign}
use Rattle.nf_tokens.specs.declared.token.Sign.TheVariants as signs
use Rattle.nf_tokens.specs.declared.token.Placed.{Placed}
use Rattle.nf_tokens.specs.declared.token.Place as places
use Rattle.nf_tree.specs.declared.place.Name.{Name}
use Rattle.nf_tree.specs.declared.place.Literal.{Literal}
use Rattle.nf_tree.specs.declared.tree.SumOperator.{SumOperator}
use Rattle.nf_tree.specs.declared.tree.ProductOperator.{ProductOperator}
use Rattle.nf_tree.specs.declared.tree.Label.{Label}
use Rattle.nf_tree.specs.declared.tree.MapTree.{MapTree}
use Rattle.nf_tree.specs.declared.tree.ColumnKind.{ColumnKind}
use Rattle.nf_tree.specs.declared.tree.ColumnKind.TheVariants as columns
use Rattle.nf_tree.specs.declared.tree.ColumnTree.{ColumnTree}
use Rattle.nf_tree.specs.declared.tree.Part.{Part}
use Rattle.nf_tree.specs.declared.tree.Part.TheVariants as part_of
use Rattle.nf_tree.specs.declared.tree.ChainTree.{ChainTree}
use Rattle.nf_tree.specs.declared.tree.ArrayTree.{ArrayTree}
use Rattle.nf_tree.specs.declared.tree.Declaration.{Declaration}
use Rattle.nf_tree.specs.declared.tree.Declaration.TheVariants as declared
use Rattle.nf_tree.specs.Tree.{Expression, Number, Read, Column, Index, Cell, Group, Sum, Product, Given, Guards, Unguarded, Where, FallsOff, Missing, Flood, Discard, Forward, Touch, Free, Set, Write, Store, Get, Find, Test, Creation, Block, End, Do, Ask, Make, Handler, Tree}
use Rattle.nf_syntax.specs.declared.fault.SyntaxKind.{SyntaxKind}
use Rattle.nf_syntax.specs.declared.head.GetHead.{GetHead}
use Rattle.nf_syntax.specs.declared.head.SetHead.{SetHead}
use Rattle.nf_syntax.specs.declared.head.EntryHead.{EntryHead}
use Rattle.nf_syntax.specs.declared.head.ChainHead.{ChainHead}
use Rattle.nf_syntax.specs.declared.head.ArrayHead.{ArrayHead}
use Rattle.nf_syntax.specs.declared.head.TextHead.{TextHead}
use Rattle.nf_syntax.specs.Items.{Item, AName, ANumber, AField, ASign, AWord, AJoin, item, kind_of}
use Rattle.nf_syntax.specs.Expressions.{sum_operator, product_operator, operands}
use Rattle.nf_syntax.specs.Grammar.{comparison_of}
use Rattle.nf_syntax.specs.Statements.{Statement, Does, Asks, Makes, Ends}

-- a place in a text: what has to come next, and the place behind it
pub data Place : Type 0 where
  TextEnd : Tree → Place
  NameAt : (Name → Place) → Place
  NumberAt : (Literal → Place) → Place
  FieldAt : (SetHead → Place) → Place
  SignAt : Sign → Place → Place
  CloseAt : (places.Place → Place) → Place
  AtomAt : ℕ → ℕ → (Expression → Place) → Place
  NamedAt : ℕ → ℕ → Name → (Expression → Place) → Place
  ColumnAt : Name → (Expression → Place) → Place
  FactorsAt : ℕ → ℕ → Expression → (Expression → Place) → Place
  TermsAt : ℕ → ℕ → Expression → (Expression → Place) → Place
  ComparisonAt : (Comparison → Place) → Place
  MoreAt : List Expression → (List Expression → Place) → Place
  GivenAt : (List Given → Place) → Place
  MoreGivenAt : List Given → (List Given → Place) → Place
  MoreLabelsAt : List Label → (List Label → Place) → Place
  MoreNumbersAt : List Literal → (List Literal → Place) → Place
  ContentsAt : (List Literal → Place) → Place
  WhereAt : (Guards → Place) → Place
  BlockAt : ℕ → (Block → Place) → Place
  BodyAt : ℕ → (Block → Place) → Place
  WrittenAt : Name → (Statement → Place) → Place
  OptionalAt : Sign → ℕ → (Block → Place) → Place
  PartsAt : List Part → (List Part → Place) → Place
  DeclarationsAt : List Declaration → (List Declaration → Place) → Place
  FamilyAt : (Family → Place) → Place
  HandlersAt : List Handler → (List Handler → Place) → Place

-- where nothing is read yet
abbrev pub no_parts_yet : (List Part → Place) → Place
no_parts_yet k = PartsAt [] k

abbrev pub no_declarations_yet : (List Declaration → Place) → Place
no_declarations_yet k = DeclarationsAt [] k

abbrev pub no_handlers_yet : (List Handler → Place) → Place
no_handlers_yet k = HandlersAt [] k

-- one token: the place behind it and whether it passes a limit, or no such token may come
pub data Row : Type 0 where
  Go : Bool → Place → Row
  No : Row

abbrev pub go_if : Bool → Place → Row
go_if true k = Go false k
go_if false k = No

abbrev pub go_or : Bool → Place → Row → Row
go_or true k row = Go false k
go_or false k row = row

abbrev pub go_some : {A : Type 0} → Option A → (A → Place) → Row → Row
go_some None k row = row
go_some (Some a) k row = Go false (k a)

-- an expression, where so many more signs `(` and `[` may be open, and so many operands stand before it
abbrev pub product_at : ℕ → ℕ → (Expression → Place) → Place
product_at room n k = AtomAt room n (λ a. FactorsAt room n a k)

abbrev pub sum_at : ℕ → ℕ → (Expression → Place) → Place
sum_at room n k = product_at room n (λ p. TermsAt room n p k)

abbrev pub factor_at : ℕ → ℕ → Expression → (Expression → Place) → ProductOperator → Place
factor_at room n e k op = AtomAt room (operands n e) (λ a. FactorsAt room n (Product op e a) k)

abbrev pub term_at : ℕ → ℕ → Expression → (Expression → Place) → SumOperator → Place
term_at room n e k op = product_at room (operands n e) (λ p. TermsAt room n (Sum op e p) k)

abbrev pub value_at : (Expression → Place) → Place
value_at k = sum_at 32 0 k

-- an index of its own, up to its `]`
abbrev pub index_at : (Expression → Place) → Place
index_at k = value_at (λ i. SignAt signs.CloseBracket (k i))

-- behind `(`, and behind the `[` of an array
abbrev pub group_at : ℕ → ℕ → (Expression → Place) → Place
group_at room n k = sum_at (room - 1) n (λ e. CloseAt (λ p. k (Group e p)))

abbrev pub cell_at : ℕ → ℕ → Name → (Expression → Place) → Place
cell_at room n x k = sum_at (room - 1) (suc n) (λ i. SignAt signs.CloseBracket (k (Cell x i)))

-- a name, or a number, and the sign behind it
abbrev pub name_before_at : Sign → (Name → Place) → Place
name_before_at s k = NameAt (λ x. SignAt s (k x))

abbrev pub number_before_at : Sign → (Literal → Place) → Place
number_before_at s k = NumberAt (λ n. SignAt s (k n))

-- the end of a map's labels
abbrev pub closed_at : (places.Place → Place) → Place
closed_at k = CloseAt (λ p. SignAt signs.Semicolon (k p))

abbrev pub get_head_at : (GetHead → Place) → Place
get_head_at k = name_before_at signs.Assign (λ x. name_before_at signs.Dot (λ c. name_before_at signs.OpenParenthesis (λ m. k (record { variable = x; chain = c; map = m }))))

-- what a `find` and a `new` bind, and in which chain, up to this sign
abbrev pub entry_head_at : Sign → (EntryHead → Place) → Place
entry_head_at s k = name_before_at signs.Assign (λ x. name_before_at s (λ c. k (record { variable = x; chain = c })))

abbrev pub values_at : (List Expression → Place) → Place
values_at k = value_at (λ v. MoreAt (v ∷ []) k)

abbrev pub giving : Name → Expression → Given
giving x v = record { name = x; value = v }

-- a value behind its name
abbrev pub one_given_at : (Given → Place) → Place
one_given_at k = name_before_at signs.Assign (λ x. value_at (λ v. k (giving x v)))

-- one value at least
abbrev pub some_given_at : (List Given → Place) → Place
some_given_at k = one_given_at (λ g. MoreGivenAt (g ∷ []) k)

abbrev pub label_one : Name → Literal → Label
label_one x n = record { name = x; width = n }

abbrev pub one_label_at : (Label → Place) → Place
one_label_at k = name_before_at signs.Colon (λ x. NumberAt (λ n. k (label_one x n)))

abbrev pub labels_at : (List Label → Place) → Place
labels_at k = one_label_at (λ l. MoreLabelsAt (l ∷ []) k)

abbrev pub numbers_at : (List Literal → Place) → Place
numbers_at k = NumberAt (λ n. MoreNumbersAt (n ∷ []) k)

-- behind the `=` of contents
abbrev pub contents_at : (List Literal → Place) → Place
contents_at k = SignAt signs.OpenBrace (numbers_at (λ ns. SignAt signs.CloseBrace (SignAt signs.Semicolon (k ns))))

-- behind `where`
abbrev pub guards_at : (Guards → Place) → Place
guards_at k = SignAt signs.OpenParenthesis (some_given_at (λ gs. CloseAt (λ p. k (Where gs p))))

-- behind `get`, `find`, `new`, `if`: up to the blocks
unfoldable pub get_at : places.Place → (Statement → Place) → Place
get_at at k = get_head_at (λ h. values_at (λ key. CloseAt (λ close.
    k (Asks (Get at h.variable h.chain h.map key close)))))

unfoldable pub find_at : places.Place → (Statement → Place) → Place
find_at at k = entry_head_at signs.OpenBracket (λ h. index_at (λ i. WhereAt (λ gs.
    k (Asks (Find at h.variable h.chain i gs)))))

abbrev pub creation_one : places.Place → EntryHead → List Given → places.Place → Creation
creation_one at h gs close =
    record { place = at; variable = h.variable; chain = h.chain; given = gs; close = close }

unfoldable pub new_at : places.Place → (Statement → Place) → Place
new_at at k = entry_head_at signs.OpenParenthesis (λ h. GivenAt (λ gs. CloseAt (λ close.
    k (Makes (creation_one at h gs close)))))

unfoldable pub if_at : (Statement → Place) → Place
if_at k = value_at (λ l. ComparisonAt (λ c. value_at (λ r. k (Asks (Test l c r)))))

-- a value between `=` and `;`
abbrev pub assigned_at : (Expression → Place) → Place
assigned_at k = SignAt signs.Assign (value_at (λ v. SignAt signs.Semicolon (k v)))

-- what ends an action, and its block
abbrev pub end_at : Place → Place
end_at k = SignAt signs.Semicolon (SignAt signs.CloseBrace k)

-- behind `touch`, `free`, `set`, a name, `forward`, `flood`, `drop`
abbrev pub touch_at : (Statement → Place) → Place
touch_at k = name_before_at signs.Semicolon (λ x. k (Does (Touch x)))

abbrev pub free_at : places.Place → (Statement → Place) → Place
free_at at k = name_before_at signs.Semicolon (λ x. k (Does (Free at x)))

abbrev pub set_at : (Statement → Place) → Place
set_at k = FieldAt (λ h. assigned_at (λ v. k (Does (Set h.field h.place v))))

abbrev pub write_at : Name → (Statement → Place) → Place
write_at x k = NameAt (λ c. assigned_at (λ v. k (Does (Write x c v))))

abbrev pub store_at : Name → (Statement → Place) → Place
store_at x k = index_at (λ i. assigned_at (λ v. k (Does (Store x i v))))

unfoldable pub forward_at : (Statement → Place) → Place
forward_at k = value_at (λ v. end_at (k (Ends (Forward v))))

abbrev pub flood_at : (Statement → Place) → Place
flood_at k = end_at (k (Ends Flood))

abbrev pub discard_at : (Statement → Place) → Place
discard_at k = end_at (k (Ends Discard))

-- behind a statement of a body: its blocks, and the statements that follow
abbrev pub behind : ℕ → (Block → Place) → Statement → Place
behind room k (Does o) = BodyAt room (λ next. k (Do o next))
behind room k (Asks q) = BlockAt room (λ hit. OptionalAt signs.Else room (λ miss.
    BodyAt room (λ next. k (Ask q hit miss next))))
behind room k (Makes n) = BlockAt room (λ made. OptionalAt signs.Taken room (λ taken.
    OptionalAt signs.Full room (λ full. BodyAt room (λ next. k (Make n made taken full next)))))
behind room k (Ends e) = k (End e)

-- behind `map`, `fixed`, `free`: up to the `;`
abbrev pub map_one : places.Place → Name → List Label → places.Place → MapTree
map_one at x ls close = record { place = at; name = x; labels = ls; close = close }

abbrev pub map_at : places.Place → (MapTree → Place) → Place
map_at at k = name_before_at signs.OpenParenthesis (λ x. labels_at (λ ls. closed_at (λ close. k (map_one at x ls close))))

abbrev pub column_one : ColumnKind → places.Place → Name → Literal → ColumnTree
column_one kind at x n = record { kind = kind; place = at; name = x; width = n }

abbrev pub column_at : ColumnKind → places.Place → (ColumnTree → Place) → Place
column_at kind at k = name_before_at signs.Colon (λ x. number_before_at signs.Semicolon (λ n. k (column_one kind at x n)))

-- behind `chain`
abbrev pub chain_head_at : (ChainHead → Place) → Place
chain_head_at k = NameAt (λ x. number_before_at signs.Lifetime (λ n. number_before_at signs.OpenBrace (λ life. k (record { name = x; size = n; lifetime = life }))))

abbrev pub chain_one : places.Place → ChainHead → List Part → ChainTree
chain_one at h ps = record { place = at; name = h.name; size = h.size; lifetime = h.lifetime; parts = ps }

abbrev pub chain_at : places.Place → (ChainTree → Place) → Place
chain_at at k = chain_head_at (λ h. PartsAt [] (λ ps. k (chain_one at h ps)))

-- behind `array`: up to the `;`
abbrev pub array_head_at : (ArrayHead → Place) → Place
array_head_at k = NameAt (λ x. number_before_at signs.Colon (λ n. NumberAt (λ w. k (record { name = x; size = n; width = w }))))

abbrev pub array_one : places.Place → ArrayHead → List Literal → ArrayTree
array_one at h ns = record { place = at; name = h.name; size = h.size; width = h.width; contents = ns }

abbrev pub array_at : places.Place → (ArrayTree → Place) → Place
array_at at k = array_head_at (λ h. ContentsAt (λ ns. k (array_one at h ns)))

-- behind `on`
abbrev pub handler_one : places.Place → Literal → Family → Block → Handler
handler_one at n family b = record { place = at; port = n; family = family; block = b }

abbrev pub handler_at : places.Place → (Handler → Place) → Place
handler_at at k =
    NumberAt (λ n. FamilyAt (λ family. BlockAt 64 (λ b. k (handler_one at n family b))))

abbrev pub text_head_at : (TextHead → Place) → Place
text_head_at k = SignAt signs.Nf (name_before_at signs.OpenBrace (λ x. SignAt signs.Ports (number_before_at signs.Semicolon (λ n. k (record { name = x; ports = n })))))

-- a tree whose end is not said
abbrev pub tree_one : TextHead → List Declaration → List Handler → Tree
tree_one h ds hs = record { name = h.name; ports = h.ports; declarations = ds; handlers = hs; end = start }

-- a text, and nothing behind it
abbrev pub whole : Place
whole = text_head_at (λ h. DeclarationsAt [] (λ ds. HandlersAt [] (λ hs. TextEnd (tree_one h ds hs))))

abbrev pub step : Place → Item → Row
step (NameAt k) (AName x) = Go false (k x)
step (NumberAt k) (ANumber n) = Go false (k n)
step (FieldAt k) (AField field at) = Go false (k (record { field = field; place = at }))
step (SignAt s k) (ASign t) = go_if (nat_eq (number_of t) (number_of s)) k
step (CloseAt k) (AWord signs.CloseParenthesis at) = Go false (k at)
step (AtomAt room n k) (ANumber l) = Go (nat_le 64 n) (k (Number l))
step (AtomAt room n k) (AField field at) = Go (nat_le 64 n) (k (Read field at))
step (AtomAt room n k) (AName x) = Go (nat_le 64 n) (NamedAt room n x k)
step (AtomAt room n k) (ASign signs.OpenParenthesis) = Go (room == 0) (group_at room n k)
step (NamedAt room n x k) (ASign signs.Dot) = Go false (ColumnAt x k)
step (NamedAt room n x k) (ASign signs.OpenBracket) = Go (room == 0) (cell_at room n x k)
step (ColumnAt x k) (AName c) = Go false (k (Column x c))
step (ColumnAt x k) (ASign signs.Index) = Go false (k (Index x))
step (FactorsAt room n e k) (AJoin s) = go_some (product_operator s) (factor_at room n e k) (step (k e) (AJoin s))
step (FactorsAt room n e k) i = step (k e) i
step (TermsAt room n e k) (AJoin s) = go_some (sum_operator s) (term_at room n e k) (step (k e) (AJoin s))
step (TermsAt room n e k) i = step (k e) i
step (ComparisonAt k) (ASign s) = go_some (comparison_of s) k No
step (MoreAt vs k) (AJoin signs.Comma) = Go false (value_at (λ v. MoreAt (vs ++ v ∷ []) k))
step (MoreAt vs k) i = step (k vs) i
step (GivenAt k) (AName x) = Go false (SignAt signs.Assign (value_at (λ v. MoreGivenAt (giving x v ∷ []) k)))
step (GivenAt k) i = step (k []) i
step (MoreGivenAt gs k) (AJoin signs.Comma) = Go false (one_given_at (λ g. MoreGivenAt (gs ++ g ∷ []) k))
step (MoreGivenAt gs k) i = step (k gs) i
step (MoreLabelsAt ls k) (AJoin signs.Comma) = Go false (one_label_at (λ l. MoreLabelsAt (ls ++ l ∷ []) k))
step (MoreLabelsAt ls k) i = step (k ls) i
step (MoreNumbersAt ns k) (AJoin signs.Comma) = Go false (NumberAt (λ n. MoreNumbersAt (ns ++ n ∷ []) k))
step (MoreNumbersAt ns k) i = step (k ns) i
step (ContentsAt k) (ASign signs.Assign) = Go false (contents_at k)
step (ContentsAt k) (ASign signs.Semicolon) = Go false (k [])
step (WhereAt k) (AJoin signs.Where) = Go false (guards_at k)
step (WhereAt k) i = step (k Unguarded) i
step (BlockAt room k) (ASign signs.OpenBrace) = Go (room == 0) (BodyAt (room - 1) k)
step (BodyAt room k) (AWord signs.Get at) = Go false (get_at at (behind room k))
step (BodyAt room k) (AWord signs.Find at) = Go false (find_at at (behind room k))
step (BodyAt room k) (AWord signs.New at) = Go false (new_at at (behind room k))
step (BodyAt room k) (AWord signs.Free at) = Go false (free_at at (behind room k))
step (BodyAt room k) (ASign signs.If) = Go false (if_at (behind room k))
step (BodyAt room k) (ASign signs.Touch) = Go false (touch_at (behind room k))
step (BodyAt room k) (ASign signs.Set) = Go false (set_at (behind room k))
step (BodyAt room k) (AName x) = Go false (WrittenAt x (behind room k))
step (BodyAt room k) (ASign signs.Forward) = Go false (forward_at (behind room k))
step (BodyAt room k) (ASign signs.Flood) = Go false (flood_at (behind room k))
step (BodyAt room k) (ASign signs.Discard) = Go false (discard_at (behind room k))
step (BodyAt room k) (ASign signs.CloseBrace) = Go false (k (End FallsOff))
step (WrittenAt x k) (ASign signs.Dot) = Go false (write_at x k)
step (WrittenAt x k) (ASign signs.OpenBracket) = Go false (store_at x k)
step (OptionalAt s room k) (AJoin t) = go_or (nat_eq (number_of t) (number_of s)) (BlockAt room k) (step (k (End Missing)) (AJoin t))
step (OptionalAt s room k) i = step (k (End Missing)) i
step (PartsAt ps k) (AWord signs.Map at) = Go false (map_at at (λ m. PartsAt (ps ++ part_of.Map m ∷ []) k))
step (PartsAt ps k) (AWord signs.Fixed at) = Go false (column_at columns.Fixed at (λ c. PartsAt (ps ++ part_of.Column c ∷ []) k))
step (PartsAt ps k) (AWord signs.Free at) = Go false (column_at columns.Free at (λ c. PartsAt (ps ++ part_of.Column c ∷ []) k))
step (PartsAt ps k) (ASign signs.CloseBrace) = Go false (k ps)
step (DeclarationsAt ds k) (AWord signs.Chain at) = Go false (chain_at at (λ c. DeclarationsAt (ds ++ declared.Chain c ∷ []) k))
step (DeclarationsAt ds k) (AWord signs.Array at) = Go false (array_at at (λ a. DeclarationsAt (ds ++ declared.Array a ∷ []) k))
step (DeclarationsAt ds k) i = step (k ds) i
step (FamilyAt k) (AJoin signs.Six) = Go false (k families.Six)
step (FamilyAt k) i = step (k families.Four) i
step (HandlersAt hs k) (AWord signs.On at) = Go false (handler_at at (λ h. HandlersAt (hs ++ h ∷ []) k))
step (HandlersAt hs k) (ASign signs.CloseBrace) = Go false (k hs)
step place i = No

pub data Verdict : Type 0 where
  Accepted : Tree → Verdict
  Stuck : SyntaxKind → places.Place → Verdict
  Past : places.Place → Verdict
  Short : Verdict

-- the tree, where no more is needed
abbrev pub finished : Place → Option Tree
finished (TextEnd t) = Some t
finished (FactorsAt room n e k) = finished (k e)
finished (TermsAt room n e k) = finished (k e)
finished (MoreAt vs k) = finished (k vs)
finished (GivenAt k) = finished (k [])
finished (MoreGivenAt gs k) = finished (k gs)
finished (MoreLabelsAt ls k) = finished (k ls)
finished (MoreNumbersAt ns k) = finished (k ns)
finished (WhereAt k) = finished (k Unguarded)
finished (OptionalAt s room k) = finished (k (End Missing))
finished (DeclarationsAt ds k) = finished (k ds)
finished (FamilyAt k) = finished (k families.Four)
finished place = None

abbrev pub ended : Option Tree → Verdict
ended (Some t) = Accepted t
ended None = Short

abbrev pub judged : Row → Placed → (Place → Verdict) → Verdict
judged (Go true place) p next = Past p.place
judged (Go false place) p next = next place
judged No p next = Stuck (kind_of p.token) p.place

abbrev pub run : Place → List Placed → Verdict
run place [] = ended (finished place)
run place (p ∷ ps) = judged (step place (item p.token p.place)) p (λ next. run next ps)
