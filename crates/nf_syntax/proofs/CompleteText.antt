-- What declarations and a whole text are spelled like goes through.
use Rattle.std.proofs.Common.{◌≡◌, ◌∙◌, ◌∷◌, ◌++◌, Some, List, [], refl, ap, sym, append_assoc, append-nil}
use Rattle.nf_base.specs.declared.packet.Family.{Family}
use Rattle.nf_base.specs.declared.packet.Family.TheVariants as families
use Rattle.nf_tokens.specs.declared.token.Place as places
use Rattle.nf_tokens.specs.declared.token.Sign.TheVariants as signs
use Rattle.nf_tree.specs.declared.place.Name.{Name}
use Rattle.nf_tree.specs.declared.place.Literal.{Literal}
use Rattle.nf_tree.specs.declared.tree.ColumnKind.{ColumnKind}
use Rattle.nf_tree.specs.declared.tree.ColumnKind.TheVariants as columns
use Rattle.nf_tree.specs.declared.tree.Label.{Label}
use Rattle.nf_tree.specs.declared.tree.Part.{Part}
use Rattle.nf_tree.specs.declared.tree.Part.TheVariants as part_of
use Rattle.nf_tree.specs.declared.tree.Declaration.{Declaration}
use Rattle.nf_tree.specs.declared.tree.Declaration.TheVariants as declared
use Rattle.nf_tree.specs.Tree.{Block, Handler, Tree}
use Rattle.nf_syntax.specs.declared.head.ChainHead.{ChainHead}
use Rattle.nf_syntax.specs.declared.head.ArrayHead.{ArrayHead}
use Rattle.nf_syntax.specs.declared.head.TextHead.{TextHead}
use Rattle.nf_syntax.specs.Items.{Marked, name, number, sign, word}
use Rattle.nf_syntax.specs.Grammar.{Required, IsPart, AreParts, IsDeclaration, AreDeclarations, AreHandlers, IsText, labels, braced, body, column_word, part, parts, declaration, declarations, family, handlers, spelling}
use Rattle.nf_syntax.specs.Machine.{Place, TextEnd, CloseAt, SignAt, BlockAt, PartsAt, DeclarationsAt, FamilyAt, HandlersAt, labels_at, map_one, column_one, chain_one, array_one, handler_one, tree_one, whole}
use Rattle.nf_syntax.specs.Reads.{without_end}
use Rattle.nf_syntax.proofs.Going.{goes, IsFirm, skip_family, skip_declarations}
use Rattle.nf_syntax.proofs.CompleteLists.{all_labels, all_contents}
use Rattle.nf_syntax.proofs.Complete.{block, complete}

one_column : (kind : ColumnKind) (at : places.Place) (x : Name) (n : Literal) (done : List Part) (k : List Part → Place) (w : List Marked) →
    goes (PartsAt done k) (word (column_word kind) at ∷ name x ∷ sign signs.Colon ∷ number n ∷ sign signs.Semicolon ∷ w) ≡ goes (PartsAt (done ++ part_of.Column (column_one kind at x n) ∷ []) k) w
one_column columns.Fixed at x n done k w = refl
one_column columns.Free at x n done k w = refl

one_part : (p : Part) → IsPart p → (done : List Part) (k : List Part → Place) (w : List Marked) → goes (PartsAt done k) (part p ++ w) ≡ goes (PartsAt (done ++ p ∷ []) k) w
one_part (part_of.Map m) g done k w =
    let tail = word signs.CloseParenthesis m.close ∷ sign signs.Semicolon ∷ [] in
    let k1 = λ (ls : List Label). CloseAt (λ p. SignAt signs.Semicolon (PartsAt (done ++ part_of.Map (map_one m.place m.name ls p) ∷ []) k)) in
    ap (goes (labels_at k1)) (append_assoc (labels m.labels) tail w)
    ∙ all_labels m.labels k1 (tail ++ w) tt g
one_part (part_of.Column c) g done k w = one_column c.kind c.place c.name c.width done k w

all_parts : (ps : List Part) → AreParts ps → (done : List Part) (k : List Part → Place) (w : List Marked) → goes (PartsAt done k) (parts ps ++ sign signs.CloseBrace ∷ w) ≡ goes (k (done ++ ps)) w
all_parts [] g done k w = ap (λ x. goes (k x) w) (sym (append-nil done))
all_parts (p ∷ ps) g done k w =
    ap (goes (PartsAt done k)) (append_assoc (part p) (parts ps) (sign signs.CloseBrace ∷ w))
    ∙ one_part p g.0 done k (parts ps ++ sign signs.CloseBrace ∷ w)
    ∙ all_parts ps g.1 (done ++ p ∷ []) k w
    ∙ ap (λ x. goes (k x) w) (append_assoc done (p ∷ []) ps)

one_declaration : (d : Declaration) → IsDeclaration d → (done : List Declaration) (k : List Declaration → Place) (w : List Marked) → goes (DeclarationsAt done k) (declaration d ++ w) ≡ goes (DeclarationsAt (done ++ d ∷ []) k) w
one_declaration (declared.Chain c) g done k w =
    let h : ChainHead = record { name = c.name; size = c.size; lifetime = c.lifetime } in
    let k1 = λ (ps : List Part). DeclarationsAt (done ++ declared.Chain (chain_one c.place h ps) ∷ []) k in
    ap (goes (PartsAt [] k1)) (append_assoc (parts c.parts) (sign signs.CloseBrace ∷ []) w)
    ∙ all_parts c.parts g [] k1 w
one_declaration (declared.Array a) g done k w =
    let h : ArrayHead = record { name = a.name; size = a.size; width = a.width } in
    all_contents a.contents (λ ns. DeclarationsAt (done ++ declared.Array (array_one a.place h ns) ∷ []) k) w

all_declarations : (ds : List Declaration) → AreDeclarations ds → (done : List Declaration) (k : List Declaration → Place) (w : List Marked) → IsFirm w → goes (DeclarationsAt done k) (declarations ds ++ w) ≡ goes (k (done ++ ds)) w
all_declarations [] g done k w f = skip_declarations done k w f ∙ ap (λ x. goes (k x) w) (sym (append-nil done))
all_declarations (d ∷ ds) g done k w f =
    ap (goes (DeclarationsAt done k)) (append_assoc (declaration d) (declarations ds) w)
    ∙ one_declaration d g.0 done k (declarations ds ++ w)
    ∙ all_declarations ds g.1 (done ++ d ∷ []) k w f
    ∙ ap (λ x. goes (k x) w) (append_assoc done (d ∷ []) ds)

one_family : (x : Family) (k : Family → Place) (w : List Marked) → IsFirm w → goes (FamilyAt k) (family x ++ w) ≡ goes (k x) w
one_family families.Four k w f = skip_family k w f
one_family families.Six k w f = refl

all_handlers : (hs : List Handler) → AreHandlers hs → (done : List Handler) (k : List Handler → Place) (w : List Marked) → goes (HandlersAt done k) (handlers hs ++ sign signs.CloseBrace ∷ w) ≡ goes (k (done ++ hs)) w
all_handlers [] g done k w = ap (λ x. goes (k x) w) (sym (append-nil done))
all_handlers (h ∷ hs) g done k w =
    let k1 = λ (b : Block). HandlersAt (done ++ handler_one h.place h.port h.family b ∷ []) k in
    let k2 = λ (x : Family). BlockAt 64 (λ b. HandlersAt (done ++ handler_one h.place h.port x b ∷ []) k) in
    let inner = braced 64 (body 63 h.block) in
    ap (goes (FamilyAt k2)) (append_assoc (family h.family ++ inner) (handlers hs) (sign signs.CloseBrace ∷ w)
    ∙ append_assoc (family h.family) inner (handlers hs ++ sign signs.CloseBrace ∷ w))
    ∙ one_family h.family k2 (inner ++ (handlers hs ++ sign signs.CloseBrace ∷ w)) tt
    ∙ block h.block (complete Required h.block g.0) 64 k1 (handlers hs ++ sign signs.CloseBrace ∷ w)
    ∙ all_handlers hs g.1 (done ++ h ∷ []) k w
    ∙ ap (λ x. goes (k x) w) (append_assoc done (h ∷ []) hs)

firm_handlers : (hs : List Handler) → IsFirm (handlers hs ++ sign signs.CloseBrace ∷ [])
firm_handlers [] = tt
firm_handlers (h ∷ hs) = tt

pub spelled_goes : (t : Tree) → IsText t → goes whole (spelling t) ≡ Some (without_end t)
spelled_goes t g =
    let head : TextHead = record { name = t.name; ports = t.ports } in
    all_declarations t.declarations g.0 [] (λ ds. HandlersAt [] (λ hs. TextEnd (tree_one head ds hs))) (handlers t.handlers ++ sign signs.CloseBrace ∷ []) (firm_handlers t.handlers)
    ∙ all_handlers t.handlers g.1 [] (λ hs. TextEnd (tree_one head t.declarations hs)) []
