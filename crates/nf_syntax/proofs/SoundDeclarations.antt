-- What goes through is spelled so: chains and arrays.
use Rattle.std.proofs.Common.{◌≡◌, ◌∙◌, ◌∷◌, ◌++◌, ◌<◌, ℕ, zero, suc, Bool, true, false, Some, List, [], length, ap, sym, append_assoc, append-nil, arith}
use Rattle.nf_tokens.specs.declared.token.Place as places
use Rattle.nf_tokens.specs.declared.token.Sign.TheVariants as signs
use Rattle.nf_tree.specs.declared.place.Name.{Name}
use Rattle.nf_tree.specs.declared.place.Literal.{Literal}
use Rattle.nf_tree.specs.declared.tree.MapTree.{MapTree}
use Rattle.nf_tree.specs.declared.tree.ColumnKind.{ColumnKind}
use Rattle.nf_tree.specs.declared.tree.ColumnKind.TheVariants as columns
use Rattle.nf_tree.specs.declared.tree.ColumnTree.{ColumnTree}
use Rattle.nf_tree.specs.declared.tree.Part.{Part}
use Rattle.nf_tree.specs.declared.tree.Part.TheVariants as part_of
use Rattle.nf_tree.specs.declared.tree.ChainTree.{ChainTree}
use Rattle.nf_tree.specs.declared.tree.ArrayTree.{ArrayTree}
use Rattle.nf_tree.specs.declared.tree.Declaration.{Declaration}
use Rattle.nf_tree.specs.declared.tree.Declaration.TheVariants as declared
use Rattle.nf_tree.specs.Tree.{Tree}
use Rattle.nf_syntax.specs.declared.head.ChainHead.{ChainHead}
use Rattle.nf_syntax.specs.declared.head.ArrayHead.{ArrayHead}
use Rattle.nf_syntax.specs.Items.{Item, ASign, AWord, Marked, name, number, sign, word}
use Rattle.nf_syntax.specs.Grammar.{IsNotEmpty, IsPart, AreParts, IsDeclaration, AreDeclarations, labels, map, column_word, column, part, parts, chain, contents, array, declaration, declarations}
use Rattle.nf_syntax.specs.Machine.{Place, NumberAt, SignAt, CloseAt, ContentsAt, PartsAt, DeclarationsAt, labels_at, map_at, map_one, column_at, column_one, chain_head_at, chain_at, chain_one, array_head_at, array_at, array_one, no_declarations_yet}
use Rattle.nf_syntax.specs.Language.{Spells}
use Rattle.nf_syntax.proofs.Going.{goes}
use Rattle.nf_syntax.proofs.SoundTokens.{Good, mark, front, less, moved, good_name, good_number, good_sign, good_close}
use Rattle.nf_syntax.proofs.SoundLists.{good_labels, good_contents}

four : (s : List Marked) (a b c d : Marked) → s ++ a ∷ b ∷ c ∷ d ∷ [] ≡ (((s ++ a ∷ []) ++ b ∷ []) ++ c ∷ []) ++ d ∷ []
four s a b c d = simp append_assoc

five : (s : List Marked) (a b c d e : Marked) → s ++ a ∷ b ∷ c ∷ d ∷ e ∷ [] ≡ ((((s ++ a ∷ []) ++ b ∷ []) ++ c ∷ []) ++ d ∷ []) ++ e ∷ []
five s a b c d e = simp append_assoc

mapped : (s v : List Marked) (w a b c e : Marked) → s ++ (w ∷ a ∷ b ∷ (v ++ c ∷ e ∷ [])) ≡ (((((s ++ w ∷ []) ++ a ∷ []) ++ b ∷ []) ++ v) ++ c ∷ []) ++ e ∷ []
mapped s v w a b c e = simp append_assoc

good_map : (n : ℕ) (seen : List Marked) (at : places.Place) (k : MapTree → Place) → ((x : Name) (ls : List _) (p : places.Place) → IsNotEmpty ls → Good n (seen ++ map (map_one at x ls p)) (k (map_one at x ls p))) →
    Good n (seen ++ word signs.Map at ∷ []) (map_at at k)
good_map n seen at k f =
    let s0 = seen ++ word signs.Map at ∷ [] in
    good_name n s0 (λ x. SignAt signs.OpenParenthesis (labels_at (λ ls. CloseAt (λ p. SignAt signs.Semicolon (k (map_one at x ls p)))))) (λ x.
    let s1 = s0 ++ name x ∷ [] in
    good_sign n s1 signs.OpenParenthesis (labels_at (λ ls. CloseAt (λ p. SignAt signs.Semicolon (k (map_one at x ls p))))) (
    let s2 = s1 ++ sign signs.OpenParenthesis ∷ [] in
    good_labels n s2 (λ ls. CloseAt (λ p. SignAt signs.Semicolon (k (map_one at x ls p)))) (λ ls some.
    let s3 = s2 ++ labels ls in
    good_close n s3 (λ p. SignAt signs.Semicolon (k (map_one at x ls p))) (λ p.
    good_sign n (s3 ++ word signs.CloseParenthesis p ∷ []) signs.Semicolon (k (map_one at x ls p)) (
    moved n (seen ++ map (map_one at x ls p)) ((s3 ++ word signs.CloseParenthesis p ∷ []) ++ sign signs.Semicolon ∷ []) (k (map_one at x ls p))
    (mapped seen (labels ls) (word signs.Map at) (name x) (sign signs.OpenParenthesis) (word signs.CloseParenthesis p) (sign signs.Semicolon)) (f x ls p some))))))

good_column : (n : ℕ) (seen : List Marked) (kind : ColumnKind) (at : places.Place) (k : ColumnTree → Place) → ((x : Name) (w : Literal) → Good n (seen ++ column (column_one kind at x w)) (k (column_one kind at x w))) →
    Good n (seen ++ word (column_word kind) at ∷ []) (column_at kind at k)
good_column n seen kind at k f =
    let s0 = seen ++ word (column_word kind) at ∷ [] in
    good_name n s0 (λ x. SignAt signs.Colon (NumberAt (λ w. SignAt signs.Semicolon (k (column_one kind at x w))))) (λ x.
    let s1 = s0 ++ name x ∷ [] in
    good_sign n s1 signs.Colon (NumberAt (λ w. SignAt signs.Semicolon (k (column_one kind at x w)))) (
    let s2 = s1 ++ sign signs.Colon ∷ [] in
    good_number n s2 (λ w. SignAt signs.Semicolon (k (column_one kind at x w))) (λ w.
    good_sign n (s2 ++ number w ∷ []) signs.Semicolon (k (column_one kind at x w)) (
    moved n (seen ++ column (column_one kind at x w)) ((s2 ++ number w ∷ []) ++ sign signs.Semicolon ∷ []) (k (column_one kind at x w))
    (five seen (word (column_word kind) at) (name x) (sign signs.Colon) (number w) (sign signs.Semicolon)) (f x w)))))

snoc_parts : (ps : List Part) (p : Part) → parts (ps ++ p ∷ []) ≡ parts ps ++ part p
snoc_parts [] p = append-nil (part p)
snoc_parts (q ∷ ps) p = ap (λ m. part q ++ m) (snoc_parts ps p) ∙ sym (append_assoc (part q) (parts ps) (part p))

are_more_parts : (ps : List Part) (p : Part) → AreParts ps → IsPart p → AreParts (ps ++ p ∷ [])
are_more_parts [] p g h = (h, tt)
are_more_parts (q ∷ ps) p g h = (g.0, are_more_parts ps p g.1 h)

abbrev PartsGood : ℕ → List Marked → (List Part → Place) → Type 0
PartsGood n seen k = (ps : List Part) → AreParts ps → Good n (seen ++ (parts ps ++ sign signs.CloseBrace ∷ [])) (k ps)

-- the place behind one more part
again_part : (n : ℕ) (seen : List Marked) (done : List Part) (p : Part) (at : Place) → Good n (seen ++ parts (done ++ p ∷ [])) at → Good n ((seen ++ parts done) ++ part p) at
again_part n seen done p at g = moved n (seen ++ parts (done ++ p ∷ [])) ((seen ++ parts done) ++ part p) at
    (ap (λ m. seen ++ m) (snoc_parts done p) ∙ sym (append_assoc seen (parts done) (part p))) g

parts_token : (n : ℕ) (seen : List Marked) (done : List Part) (k : List Part → Place) → AreParts done → PartsGood n seen k →
    ((p : Part) → IsPart p → Good n (seen ++ parts (done ++ p ∷ [])) (PartsAt (done ++ p ∷ []) k)) →
    (t : Item) (past : Bool) (ms : List Marked) (tree : Tree) → length ms < n → goes (PartsAt done k) (mark t past ∷ ms) ≡ Some tree → Spells ((seen ++ parts done) ++ mark t past ∷ ms) tree
parts_token n seen done k are f again (AWord signs.Map at) false ms tree few h =
    let s = seen ++ parts done in
    front n s (word signs.Map at) (map_at at (λ m. PartsAt (done ++ part_of.Map m ∷ []) k)) (good_map n s at (λ m. PartsAt (done ++ part_of.Map m ∷ []) k) (λ x ls p some.
    let m = part_of.Map (map_one at x ls p) in
    again_part n seen done m (PartsAt (done ++ m ∷ []) k) (again m some))) ms tree few h
parts_token n seen done k are f again (AWord signs.Fixed at) false ms tree few h =
    let s = seen ++ parts done in
    front n s (word signs.Fixed at) (column_at columns.Fixed at (λ c. PartsAt (done ++ part_of.Column c ∷ []) k)) (good_column n s columns.Fixed at (λ c. PartsAt (done ++ part_of.Column c ∷ []) k) (λ x w.
    let c = part_of.Column (column_one columns.Fixed at x w) in
    again_part n seen done c (PartsAt (done ++ c ∷ []) k) (again c tt))) ms tree few h
parts_token n seen done k are f again (AWord signs.Free at) false ms tree few h =
    let s = seen ++ parts done in
    front n s (word signs.Free at) (column_at columns.Free at (λ c. PartsAt (done ++ part_of.Column c ∷ []) k)) (good_column n s columns.Free at (λ c. PartsAt (done ++ part_of.Column c ∷ []) k) (λ x w.
    let c = part_of.Column (column_one columns.Free at x w) in
    again_part n seen done c (PartsAt (done ++ c ∷ []) k) (again c tt))) ms tree few h
parts_token n seen done k are f again (ASign signs.CloseBrace) false ms tree few h =
    front n (seen ++ parts done) (sign signs.CloseBrace) (k done) (moved n (seen ++ (parts done ++ sign signs.CloseBrace ∷ [])) ((seen ++ parts done) ++ sign signs.CloseBrace ∷ []) (k done)
    (sym (append_assoc seen (parts done) (sign signs.CloseBrace ∷ []))) (f done are)) ms tree few h
parts_token n seen done k are f again t past ms tree few h = absurd cc

good_parts : (n : ℕ) (seen : List Marked) (done : List Part) (k : List Part → Place) → AreParts done → PartsGood n seen k →
    (ms : List Marked) (tree : Tree) → length ms < n → goes (PartsAt done k) ms ≡ Some tree → Spells ((seen ++ parts done) ++ ms) tree
good_parts zero seen done k are f ms tree few h = absurd (omega arith)
good_parts (suc n) seen done k are f [] tree few h = absurd cc
good_parts (suc n) seen done k are f (m ∷ ms) tree few h =
    parts_token n seen done k are (λ ps g. less n (seen ++ (parts ps ++ sign signs.CloseBrace ∷ [])) (k ps) (f ps g))
    (λ p g. good_parts n seen (done ++ p ∷ []) k (are_more_parts done p are g) (λ ps gs. less n (seen ++ (parts ps ++ sign signs.CloseBrace ∷ [])) (k ps) (f ps gs)))
    m.item m.past ms tree (omega arith) h

abbrev chain_front : ChainHead → List Marked
chain_front h = name h.name ∷ number h.size ∷ sign signs.Lifetime ∷ number h.lifetime ∷ sign signs.OpenBrace ∷ []

good_chain_head : (n : ℕ) (seen : List Marked) (k : ChainHead → Place) → ((h : ChainHead) → Good n (seen ++ chain_front h) (k h)) → Good n seen (chain_head_at k)
good_chain_head n seen k f =
    let k3 = λ (x : Name) (z l : Literal). k (record { name = x; size = z; lifetime = l }) in
    good_name n seen (λ x. NumberAt (λ z. SignAt signs.Lifetime (NumberAt (λ l. SignAt signs.OpenBrace (k3 x z l))))) (λ x.
    let s1 = seen ++ name x ∷ [] in
    good_number n s1 (λ z. SignAt signs.Lifetime (NumberAt (λ l. SignAt signs.OpenBrace (k3 x z l)))) (λ z.
    let s2 = s1 ++ number z ∷ [] in
    good_sign n s2 signs.Lifetime (NumberAt (λ l. SignAt signs.OpenBrace (k3 x z l))) (
    let s3 = s2 ++ sign signs.Lifetime ∷ [] in
    good_number n s3 (λ l. SignAt signs.OpenBrace (k3 x z l)) (λ l.
    good_sign n (s3 ++ number l ∷ []) signs.OpenBrace (k3 x z l) (
    moved n (seen ++ name x ∷ number z ∷ sign signs.Lifetime ∷ number l ∷ sign signs.OpenBrace ∷ []) ((s3 ++ number l ∷ []) ++ sign signs.OpenBrace ∷ []) (k3 x z l)
    (five seen (name x) (number z) (sign signs.Lifetime) (number l) (sign signs.OpenBrace)) (f (record { name = x; size = z; lifetime = l })))))))

chained : (s h v : List Marked) (w c : Marked) → s ++ (w ∷ h ++ (v ++ c ∷ [])) ≡ ((s ++ w ∷ []) ++ h) ++ (v ++ c ∷ [])
chained s h v w c = simp append_assoc

good_chain : (n : ℕ) (seen : List Marked) (at : places.Place) (k : ChainTree → Place) → ((h : ChainHead) (ps : List Part) → AreParts ps → Good n (seen ++ chain (chain_one at h ps)) (k (chain_one at h ps))) →
    Good n (seen ++ word signs.Chain at ∷ []) (chain_at at k)
good_chain n seen at k f =
    let s0 = seen ++ word signs.Chain at ∷ [] in
    good_chain_head n s0 (λ h. PartsAt [] (λ ps. k (chain_one at h ps))) (λ h.
    let s1 = s0 ++ chain_front h in
    moved n (s1 ++ []) s1 (PartsAt [] (λ ps. k (chain_one at h ps))) (append-nil s1)
    (good_parts n s1 [] (λ ps. k (chain_one at h ps)) tt (λ ps g.
    moved n (seen ++ chain (chain_one at h ps)) (s1 ++ (parts ps ++ sign signs.CloseBrace ∷ [])) (k (chain_one at h ps))
    (chained seen (chain_front h) (parts ps) (word signs.Chain at) (sign signs.CloseBrace)) (f h ps g))))

abbrev array_front : ArrayHead → List Marked
array_front h = name h.name ∷ number h.size ∷ sign signs.Colon ∷ number h.width ∷ []

good_array_head : (n : ℕ) (seen : List Marked) (k : ArrayHead → Place) → ((h : ArrayHead) → Good n (seen ++ array_front h) (k h)) → Good n seen (array_head_at k)
good_array_head n seen k f =
    let k3 = λ (x : Name) (z w : Literal). k (record { name = x; size = z; width = w }) in
    good_name n seen (λ x. NumberAt (λ z. SignAt signs.Colon (NumberAt (λ w. k3 x z w)))) (λ x.
    let s1 = seen ++ name x ∷ [] in
    good_number n s1 (λ z. SignAt signs.Colon (NumberAt (λ w. k3 x z w))) (λ z.
    let s2 = s1 ++ number z ∷ [] in
    good_sign n s2 signs.Colon (NumberAt (λ w. k3 x z w)) (
    good_number n (s2 ++ sign signs.Colon ∷ []) (λ w. k3 x z w) (λ w.
    moved n (seen ++ name x ∷ number z ∷ sign signs.Colon ∷ number w ∷ []) ((s2 ++ sign signs.Colon ∷ []) ++ number w ∷ []) (k3 x z w)
    (four seen (name x) (number z) (sign signs.Colon) (number w)) (f (record { name = x; size = z; width = w }))))))

arrayed : (s h v : List Marked) (w : Marked) → s ++ (w ∷ h ++ v) ≡ ((s ++ w ∷ []) ++ h) ++ v
arrayed s h v w = simp append_assoc

good_array : (n : ℕ) (seen : List Marked) (at : places.Place) (k : ArrayTree → Place) → ((h : ArrayHead) (ns : List Literal) → Good n (seen ++ array (array_one at h ns)) (k (array_one at h ns))) →
    Good n (seen ++ word signs.Array at ∷ []) (array_at at k)
good_array n seen at k f =
    let s0 = seen ++ word signs.Array at ∷ [] in
    good_array_head n s0 (λ h. ContentsAt (λ ns. k (array_one at h ns))) (λ h.
    let s1 = s0 ++ array_front h in
    good_contents n s1 (λ ns. k (array_one at h ns)) (λ ns.
    moved n (seen ++ array (array_one at h ns)) (s1 ++ (contents ns ++ sign signs.Semicolon ∷ [])) (k (array_one at h ns))
    (arrayed seen (array_front h) (contents ns ++ sign signs.Semicolon ∷ []) (word signs.Array at)) (f h ns)))

snoc_declarations : (ds : List Declaration) (d : Declaration) → declarations (ds ++ d ∷ []) ≡ declarations ds ++ declaration d
snoc_declarations [] d = append-nil (declaration d)
snoc_declarations (e ∷ ds) d = ap (λ m. declaration e ++ m) (snoc_declarations ds d) ∙ sym (append_assoc (declaration e) (declarations ds) (declaration d))

are_more : (ds : List Declaration) (d : Declaration) → AreDeclarations ds → IsDeclaration d → AreDeclarations (ds ++ d ∷ [])
are_more [] d g h = (h, tt)
are_more (e ∷ ds) d g h = (g.0, are_more ds d g.1 h)

abbrev DeclarationsGood : ℕ → List Marked → (List Declaration → Place) → Type 0
DeclarationsGood n seen k = (ds : List Declaration) → AreDeclarations ds → Good n (seen ++ declarations ds) (k ds)

again_declaration : (n : ℕ) (seen : List Marked) (done : List Declaration) (d : Declaration) (at : Place) → Good n (seen ++ declarations (done ++ d ∷ [])) at → Good n ((seen ++ declarations done) ++ declaration d) at
again_declaration n seen done d at g = moved n (seen ++ declarations (done ++ d ∷ [])) ((seen ++ declarations done) ++ declaration d) at
    (ap (λ m. seen ++ m) (snoc_declarations done d) ∙ sym (append_assoc seen (declarations done) (declaration d))) g

declarations_token : (n : ℕ) (seen : List Marked) (done : List Declaration) (k : List Declaration → Place) → Good (suc n) (seen ++ declarations done) (k done) →
    ((d : Declaration) → IsDeclaration d → Good n (seen ++ declarations (done ++ d ∷ [])) (DeclarationsAt (done ++ d ∷ []) k)) →
    (t : Item) (past : Bool) (ms : List Marked) (tree : Tree) → length ms < n → goes (DeclarationsAt done k) (mark t past ∷ ms) ≡ Some tree → Spells ((seen ++ declarations done) ++ mark t past ∷ ms) tree
declarations_token n seen done k end again (AWord signs.Chain at) false ms tree few h =
    let s = seen ++ declarations done in
    front n s (word signs.Chain at) (chain_at at (λ c. DeclarationsAt (done ++ declared.Chain c ∷ []) k)) (good_chain n s at (λ c. DeclarationsAt (done ++ declared.Chain c ∷ []) k) (λ x ps g.
    let d = declared.Chain (chain_one at x ps) in
    again_declaration n seen done d (DeclarationsAt (done ++ d ∷ []) k) (again d g))) ms tree few h
declarations_token n seen done k end again (AWord signs.Array at) false ms tree few h =
    let s = seen ++ declarations done in
    front n s (word signs.Array at) (array_at at (λ a. DeclarationsAt (done ++ declared.Array a ∷ []) k)) (good_array n s at (λ a. DeclarationsAt (done ++ declared.Array a ∷ []) k) (λ x ns.
    let d = declared.Array (array_one at x ns) in
    again_declaration n seen done d (DeclarationsAt (done ++ d ∷ []) k) (again d tt))) ms tree few h
declarations_token n seen done k end again (AWord signs.Chain at) true ms tree few h = absurd cc
declarations_token n seen done k end again (AWord signs.Array at) true ms tree few h = absurd cc
declarations_token n seen done k end again t past ms tree few h = end (mark t past ∷ ms) tree (omega arith) h

more_declarations : (n : ℕ) (seen : List Marked) (done : List Declaration) (k : List Declaration → Place) → AreDeclarations done → DeclarationsGood n seen k →
    (ms : List Marked) (tree : Tree) → length ms < n → goes (DeclarationsAt done k) ms ≡ Some tree → Spells ((seen ++ declarations done) ++ ms) tree
more_declarations zero seen done k are f ms tree few h = absurd (omega arith)
more_declarations (suc n) seen done k are f [] tree few h = f done are [] tree few h
more_declarations (suc n) seen done k are f (m ∷ ms) tree few h =
    declarations_token n seen done k (f done are)
    (λ d g. more_declarations n seen (done ++ d ∷ []) k (are_more done d are g) (λ ds gs. less n (seen ++ declarations ds) (k ds) (f ds gs)))
    m.item m.past ms tree (omega arith) h

pub good_declarations : (n : ℕ) (seen : List Marked) (k : List Declaration → Place) → DeclarationsGood n seen k → Good n seen (no_declarations_yet k)
good_declarations n seen k f = moved n (seen ++ []) seen (DeclarationsAt [] k) (append-nil seen) (more_declarations n seen [] k tt f)
